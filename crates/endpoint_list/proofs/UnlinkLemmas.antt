-- `unlink`: the links when a node is taken out.
use Rattle.std.proofs.Common.{◌≡◌, ◌≢◌, ℕ, ◌+◌, List, [], ◌∷◌, ◌++◌, length, get_or, set, append-nil, refl, sym, ◌∙◌, subst, arith, inl, inr}
use Rattle.std.proofs.lemmas.List.{get_or-set_same, get_or-set_other, length-set}
use Rattle.std.proofs.lemmas.Bool.{cases_eq}
use Rattle.endpoint_list.specs.declared.TheConstants.{NODES}
use Rattle.slot_lists.specs.Links.{Fresh, Distinct, Below, Links}
use Rattle.slot_lists.specs.LinkLaws.{Fresh-append, Fresh-left, Fresh-right, Distinct-left, Distinct-right, Distinct-apart, Distinct-without}
use Rattle.slot_lists.specs.LinkLaws.{Below-left, Below-right, Below-weaker, frame_next, frame_prev, before_end, retarget_last, Links-append}
use Rattle.slot_lists.specs.LinkLaws.{Links-left, Links-right}
use Rattle.endpoint_list.specs.Links.{AreLinked, unlinked_next, unlinked_prev}
use Rattle.endpoint_list.proofs.NodeLemmas.{Below-Fresh, Below-without}
use Rattle.endpoint_list.proofs.LinkLemmas.{before_end_fresh}

-- the links around the node join
bridge : (N P ys : List ℕ) (a : ℕ) (zs : List ℕ) (n : ℕ) → get_or N a 0 ≡ n → Links N P NODES ys a → Links N P a zs NODES → Distinct (ys ++ zs)
    → Below NODES ys → Below NODES zs
    → length N ≡ NODES + 1 → length P ≡ NODES + 1
    → Links (set N (get_or P a 0) n) (set P n (get_or P a 0)) NODES (ys ++ zs) NODES
bridge N P ys a [] n is l r d by bz nl pl =
    let q : n ≡ NODES = sym is ∙ r.0 in
    let F : ℕ → Type 0 = λ w. Links (set N (get_or P a 0) w) (set P w (get_or P a 0)) NODES (ys ++ []) NODES in
    let m : Links (set N (get_or P a 0) NODES) (set P NODES (get_or P a 0)) NODES ys NODES =
    retarget_last N P NODES ys a NODES l (Below-Fresh NODES ys by) (Distinct-left ys [] d) (Below-Fresh NODES ys by) (omega arith)
    (Below-weaker NODES (length N) ys (omega arith) by) (omega arith) in
    subst F (sym q) (rw append-nil m)
bridge N P ys a (z ∷ zs) n is l r d by bz nl pl =
    let q : n ≡ z = sym is ∙ r.0 in
    let p = get_or P a 0 in
    let dz = Distinct-right ys (z ∷ zs) d in
    let z_ys = Distinct-apart ys z zs d in
    let p_zs : Fresh p (z ∷ zs) = before_end_fresh N P NODES ys a (z ∷ zs) l bz d in
    let z_e : z ≢ NODES = λ w. absurd (omega arith) in
    let F : ℕ → Type 0 = λ w. Links (set N p w) (set P w p) NODES (ys ++ z ∷ zs) NODES in
    let m : Links (set N p z) (set P z p) NODES ys z =
    retarget_last N P NODES ys a z l (Below-Fresh NODES ys by) (Distinct-left ys (z ∷ zs) d) z_ys (omega arith)
    (Below-weaker NODES (length N) ys (omega arith) by) (omega arith) in
    let m' : Links (set N p z) (set P z p) z zs NODES = frame_prev (set N p z) P z zs NODES z p z_e dz.0 (frame_next N P z zs NODES p z p_zs.0 p_zs.1 r.2) in
    subst F (sym q) (Links-append (set N p z) (set P z p) NODES ys z zs NODES m m')

pub unlinked : (N P ys : List ℕ) (a : ℕ) (zs : List ℕ) → AreLinked N P (ys ++ a ∷ zs) → AreLinked (unlinked_next N P a) (unlinked_prev N P a) (ys ++ zs)
unlinked N P ys a zs k =
    let before = get_or P a 0 in
    let after = get_or N a 0 in
    let d = Distinct-without ys a zs k.distinct in
    let b = Below-without NODES ys a zs k.below in
    let br = Below-right NODES ys (a ∷ zs) k.below in
    let la = Links-left N P NODES ys a zs NODES k.linked in
    let lr = Links-right N P NODES ys a zs NODES k.linked in
    let a_e : a ≢ NODES = λ q. absurd (omega arith) in
    let a_all : Fresh a (ys ++ zs) = Fresh-append a ys zs (Distinct-apart ys a zs k.distinct) (Distinct-right ys (a ∷ zs) k.distinct).0 in
    let l = bridge N P ys a zs after refl la lr d (Below-left NODES ys zs b) br.1 k.next_len k.prev_len in
    let long : length (set N before after) ≡ NODES + 1 = length-set N before after ∙ k.next_len in
    record {
      next_len = length-set (set N before after) a (NODES + 1) ∙ long;
      prev_len = length-set P after before ∙ k.prev_len;
      linked = frame_next (set N before after) (set P after before) NODES (ys ++ zs) NODES a (NODES + 1) a_e a_all l;
      distinct = d;
      below = b;
      absent = λ node small fresh.
          elim (cases_eq node a) [
            | inl same ↦ rw same (get_or-set_same (set N before after) a (NODES + 1) 0 (omega (arith, long)))
            | inr other ↦
                let left : Fresh node ys = Fresh-left node ys zs fresh in
                let all : Fresh node (ys ++ a ∷ zs) = Fresh-append node ys (a ∷ zs) left (other, Fresh-right node ys zs fresh) in
                let to_before : before ≢ node = before_end N P NODES ys a node la (λ e. absurd (omega arith)) left in
                get_or-set_other (set N before after) a node (NODES + 1) 0 other ∙ get_or-set_other N before node after 0 (λ e. to_before (sym e))
                ∙ k.absent node small all
          ];
    }
