-- The tree is taken apart, and built anew of the same leaves.
use Rattle.std.proofs.Common.{◌≡◌, ℕ, ◌≤◌, ◌^◌, ◌++◌, List, Some, length, sym, subst, ap, ◌∙◌, arith}
use Rattle.std.specs.List.Sorted.{IsPermutation}
use Rattle.std.proofs.lemmas.List.{length-map}
use Rattle.tree_nodes.specs.declared.leaf_key.LeafKey.{LeafKey}
use Rattle.tree_nodes.specs.Rebuilt.{numbers, inner_numbers}
use Rattle.tree_nodes.specs.Stored.{SoundIn, tree_of}
use Rattle.tree_nodes.specs.Tree.{leaves, leaves_in, height_in}
use Rattle.tree_nodes.proofs.BuiltTrees.{many}
use Rattle.tree_nodes.proofs.Gathering.{leaf_numbers, ready_to_build, built_sound, same_leaves, lowest}
use Rattle.tree_nodes.proofs.Heights.{under_root}
use Rattle.tree_nodes.proofs.Inserting.{kept_sound, kept_tree}
use Rattle.tree_nodes.proofs.LeafViews.{ready_to_search}
use Rattle.tree_nodes.proofs.linked_nodes.LinkedNodes.rebuild_tree.Goals as goal

same_numbers : (own gathered ordered ns : List ℕ) → IsPermutation gathered ordered → ns ≡ ordered → gathered ≡ own → IsPermutation own ns
same_numbers own gathered ordered ns p e i = subst (IsPermutation own) (sym e) (subst (λ xs. IsPermutation xs ordered) i p)

pub gather-requires : goal.gather-requires
gather-requires c =
    let w = under_root c.args.self.now c.in-Some.at _ (subst (λ r. SoundIn c.args.self.now r (tree_of c.args.self.now r)) c.in-Some.is c.requires.sound) in
    let ready = ready_to_search c.args.self.now c.in-Some.at w.0 w.2 w.3 w.4 in
    let few = w.3.is_tree.few in
    let a = ap length c.clear.ensures.items in
    let b = ap length c.clear-2.ensures.items in
    let k = c.clear.ensures.capacity in
    let n = c.clear-2.ensures.capacity in
    let kr = c.requires.keys_room in
    let nr = c.requires.inner_room in
    (w.0, ready, omega (arith, few, a, k, kr), omega (arith, few, b, n, nr))

pub build-requires : goal.build-requires
build-requires c =
    let w = under_root c.args.self.now c.in-Some.at _ (subst (λ r. SoundIn c.args.self.now r (tree_of c.args.self.now r)) c.in-Some.is c.requires.sound) in
    let ready = ready_to_search c.args.self.now c.in-Some.at w.0 w.2 w.3 w.4 in
    let e : numbers c.deref_mut.result.now ≡ leaf_numbers w.0 = ap numbers c.deref_mut.ensures.value ∙ c.gather.ensures.leaves w.0 ready
    ∙ ap (λ ks. numbers ks ++ leaf_numbers w.0) c.clear.ensures.items in
    let i = same_numbers (inner_numbers w.0) c.gather.new.inner.items c.order.new.numbers.items c.deref.result.now c.order.ensures.same c.deref.ensures.value
    (c.gather.ensures.inner w.0 ready ∙ ap (λ ns. ns ++ inner_numbers w.0) c.clear-2.ensures.items) in
    ready_to_build c.args.self.now w.0 (numbers c.deref_mut.result.now) c.deref.result.now w.3 e i

pub returns-clause-sound : goal.returns-clause-sound
returns-clause-sound c =
    let w = under_root c.args.self.now c.in-Some.at _ (subst (λ r. SoundIn c.args.self.now r (tree_of c.args.self.now r)) c.in-Some.is c.requires.sound) in
    let ready = ready_to_search c.args.self.now c.in-Some.at w.0 w.2 w.3 w.4 in
    let e : numbers c.deref_mut.result.now ≡ leaf_numbers w.0 = ap numbers c.deref_mut.ensures.value ∙ c.gather.ensures.leaves w.0 ready
    ∙ ap (λ ks. numbers ks ++ leaf_numbers w.0) c.clear.ensures.items in
    let i = same_numbers (inner_numbers w.0) c.gather.new.inner.items c.order.new.numbers.items c.deref.result.now c.order.ensures.same c.deref.ensures.value
    (c.gather.ensures.inner w.0 ready ∙ ap (λ ns. ns ++ inner_numbers w.0) c.clear-2.ensures.items) in
    let b = c.build.ensures.there in
    let s = built_sound c.args.self.now c.build.new.self c.build.result (numbers c.deref_mut.result.now) c.deref.result.now w.0 b.0 w.3 e i b.1
    c.build.ensures.writes.kept.len in
    kept_sound c.build.new.self c.build.result b.0 (sym b.1.kept.is_at) s

pub returns-clause-leaves : goal.returns-clause-leaves
returns-clause-leaves c =
    let w = under_root c.args.self.now c.in-Some.at _ (subst (λ r. SoundIn c.args.self.now r (tree_of c.args.self.now r)) c.in-Some.is c.requires.sound) in
    let ready = ready_to_search c.args.self.now c.in-Some.at w.0 w.2 w.3 w.4 in
    let e : numbers c.deref_mut.result.now ≡ leaf_numbers w.0 = ap numbers c.deref_mut.ensures.value ∙ c.gather.ensures.leaves w.0 ready
    ∙ ap (λ ks. numbers ks ++ leaf_numbers w.0) c.clear.ensures.items in
    let i = same_numbers (inner_numbers w.0) c.gather.new.inner.items c.order.new.numbers.items c.deref.result.now c.order.ensures.same c.deref.ensures.value
    (c.gather.ensures.inner w.0 ready ∙ ap (λ ns. ns ++ inner_numbers w.0) c.clear-2.ensures.items) in
    let b = c.build.ensures.there in
    let s = built_sound c.args.self.now c.build.new.self c.build.result (numbers c.deref_mut.result.now) c.deref.result.now w.0 b.0 w.3 e i b.1
    c.build.ensures.writes.kept.len in
    let before = ap (tree_of c.args.self.now) c.in-Some.is ∙ w.1 in
    let after = kept_tree c.build.new.self c.build.result b.0 (sym b.1.kept.is_at) s in
    let p = same_leaves c.args.self.now c.build.new.self c.build.result (numbers c.deref_mut.result.now) c.deref.result.now w.0 b.0 w.3 e b.1 in
    subst (λ t. IsPermutation (leaves_in t) (leaves_in (tree_of c.build.new.self (Some c.build.result)))) (sym before)
    (subst (λ t. IsPermutation (leaves w.0) (leaves_in t)) (sym after) p)

pub returns-clause-least : goal.returns-clause-least
returns-clause-least c =
    let w = under_root c.args.self.now c.in-Some.at _ (subst (λ r. SoundIn c.args.self.now r (tree_of c.args.self.now r)) c.in-Some.is c.requires.sound) in
    let ready = ready_to_search c.args.self.now c.in-Some.at w.0 w.2 w.3 w.4 in
    let e : numbers c.deref_mut.result.now ≡ leaf_numbers w.0 = ap numbers c.deref_mut.ensures.value ∙ c.gather.ensures.leaves w.0 ready
    ∙ ap (λ ks. numbers ks ++ leaf_numbers w.0) c.clear.ensures.items in
    let i = same_numbers (inner_numbers w.0) c.gather.new.inner.items c.order.new.numbers.items c.deref.result.now c.order.ensures.same c.deref.ensures.value
    (c.gather.ensures.inner w.0 ready ∙ ap (λ ns. ns ++ inner_numbers w.0) c.clear-2.ensures.items) in
    let b = c.build.ensures.there in
    let s = built_sound c.args.self.now c.build.new.self c.build.result (numbers c.deref_mut.result.now) c.deref.result.now w.0 b.0 w.3 e i b.1
    c.build.ensures.writes.kept.len in
    let after = kept_tree c.build.new.self c.build.result b.0 (sym b.1.kept.is_at) s in
    subst (λ t. (h : ℕ) → length (leaves_in t) ≤ 2 ^ h → height_in t ≤ h) (sym after)
    (lowest c.args.self.now c.build.new.self c.build.result (numbers c.deref_mut.result.now) c.deref.result.now b.0 b.1)

pub returns-clause-count : goal.returns-clause-count
returns-clause-count c =
    let w = under_root c.args.self.now c.in-Some.at _ (subst (λ r. SoundIn c.args.self.now r (tree_of c.args.self.now r)) c.in-Some.is c.requires.sound) in
    let ready = ready_to_search c.args.self.now c.in-Some.at w.0 w.2 w.3 w.4 in
    let e : numbers c.deref_mut.result.now ≡ leaf_numbers w.0 = ap numbers c.deref_mut.ensures.value ∙ c.gather.ensures.leaves w.0 ready
    ∙ ap (λ ks. numbers ks ++ leaf_numbers w.0) c.clear.ensures.items in
    let i = same_numbers (inner_numbers w.0) c.gather.new.inner.items c.order.new.numbers.items c.deref.result.now c.order.ensures.same c.deref.ensures.value
    (c.gather.ensures.inner w.0 ready ∙ ap (λ ns. ns ++ inner_numbers w.0) c.clear-2.ensures.items) in
    let b = c.build.ensures.there in
    let s = built_sound c.args.self.now c.build.new.self c.build.result (numbers c.deref_mut.result.now) c.deref.result.now w.0 b.0 w.3 e i b.1
    c.build.ensures.writes.kept.len in
    let after = kept_tree c.build.new.self c.build.result b.0 (sym b.1.kept.is_at) s in
    let m = many c.args.self.now c.build.new.self c.build.result (numbers c.deref_mut.result.now) c.deref.result.now b.0 b.1 in
    let l = length-map c.deref_mut.result.now (λ (k : LeafKey). k.number) in
    let v = ap length c.deref_mut.ensures.value in
    let n = c.len-count.ensures in
    subst (λ t. c.len-count.result ≡ length (leaves_in t)) (sym after) (omega (arith, m, l, v, n))
