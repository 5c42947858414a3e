-- `put_before`: the links when a node comes to stand before another.
use Rattle.std.proofs.Common.{◌≡◌, ◌≢◌, ℕ, ◌+◌, ◌<◌, List, [], ◌∷◌, ◌++◌, length, get_or, set, sym, ◌∙◌, arith}
use Rattle.std.proofs.lemmas.List.{get_or-set_same, get_or-set_other, length-set}
use Rattle.endpoint_list.specs.declared.TheConstants.{NODES}
use Rattle.slot_lists.specs.Links.{Fresh, Distinct, Below, Links}
use Rattle.slot_lists.specs.LinkLaws.{Fresh-append, Fresh-left, Fresh-right, Fresh-here, Fresh-without, Distinct-left, Distinct-right, Distinct-apart}
use Rattle.slot_lists.specs.LinkLaws.{Distinct-without, Below-left, Below-right, Below-weaker, frame_next, frame_prev, before_end, retarget_last}
use Rattle.slot_lists.specs.LinkLaws.{Links-append, Links-left, Links-right}
use Rattle.endpoint_list.specs.Links.{AreLinked, put_next, put_prev}
use Rattle.endpoint_list.proofs.NodeLemmas.{Below-Fresh}
use Rattle.endpoint_list.proofs.LinkLemmas.{before_end_fresh}

Distinct-put : (xs : List ℕ) (v : ℕ) (ys : List ℕ) → Distinct (xs ++ ys) → Fresh v (xs ++ ys) → Distinct (xs ++ v ∷ ys)
Distinct-put [] v ys d f = (f, d)
Distinct-put (x ∷ xs) v ys d f =
    (Fresh-append x xs (v ∷ ys) (Fresh-left x xs ys d.0) ((λ e. f.0 (sym e)), Fresh-right x xs ys d.0), Distinct-put xs v ys d.1 f.1)

Below-put : (n : ℕ) (xs : List ℕ) (v : ℕ) (ys : List ℕ) → Below n (xs ++ ys) → v < n → Below n (xs ++ v ∷ ys)
Below-put n [] v ys b l = (l, b)
Below-put n (x ∷ xs) v ys b l = (b.0, Below-put n xs v ys b.1 l)

pub placed : (N P ys : List ℕ) (v a : ℕ) (zs : List ℕ) → AreLinked N P (ys ++ a ∷ zs) → v < NODES → Fresh v (ys ++ a ∷ zs)
    → AreLinked (put_next N P v a) (put_prev P v a) (ys ++ v ∷ a ∷ zs)
placed N P ys v a zs k lt f =
    let p = get_or P a 0 in
    let la = Links-left N P NODES ys a zs NODES k.linked in
    let lb = Links-right N P NODES ys a zs NODES k.linked in
    let by = Below-left NODES ys (a ∷ zs) k.below in
    let br = Below-right NODES ys (a ∷ zs) k.below in
    let a_lt : a < NODES = br.0 in
    let v_e : v ≢ NODES = λ q. absurd (omega arith) in
    let a_e : a ≢ NODES = λ q. absurd (omega arith) in
    let v_ys = Fresh-left v ys (a ∷ zs) f in
    let fr = Fresh-right v ys (a ∷ zs) f in
    let v_a : v ≢ a = fr.0 in
    let a_ys = Distinct-apart ys a zs k.distinct in
    let a_zs = (Distinct-right ys (a ∷ zs) k.distinct).0 in
    let p_a : p ≢ a = before_end N P NODES ys a a la a_e a_ys in
    let p_zs : Fresh p zs = before_end_fresh N P NODES ys a zs la br.1 (Distinct-without ys a zs k.distinct) in
    let N1 = set N p v in
    let P1 = set P v p in
    let N2 = set N1 v a in
    let P2 = set P1 a v in
    let n1 : length N1 ≡ NODES + 1 = length-set N p v ∙ k.next_len in
    let p1 : length P1 ≡ NODES + 1 = length-set P v p ∙ k.prev_len in
    let la1 : Links N1 P1 NODES ys v =
    retarget_last N P NODES ys a v la (Below-Fresh NODES ys by) (Distinct-left ys (a ∷ zs) k.distinct) v_ys (omega (arith, k.next_len))
    (Below-weaker NODES (length N) ys (omega (arith, k.next_len)) by) (omega (arith, k.prev_len)) in
    let la2 : Links N2 P2 NODES ys v =
    frame_prev N2 P1 NODES ys v a v (λ e. v_a (sym e)) a_ys (frame_next N1 P1 NODES ys v v a v_e v_ys la1) in
    let lb1 : Links N1 P1 a zs NODES = frame_prev N1 P a zs NODES v p v_e fr.1 (frame_next N P a zs NODES p v p_a p_zs lb) in
    let lb2 : Links N2 P2 a zs NODES = frame_prev N2 P1 a zs NODES a v a_e a_zs (frame_next N1 P1 a zs NODES v a v_a fr.1 lb1) in
    record {
      next_len = length-set N1 v a ∙ n1;
      prev_len = length-set P1 a v ∙ p1;
      linked = Links-append N2 P2 NODES ys v (a ∷ zs) NODES la2
          (get_or-set_same N1 v a 0 (omega (arith, n1)), get_or-set_same P1 a v 0 (omega (arith, p1)), lb2);
      distinct = Distinct-put ys v (a ∷ zs) k.distinct f;
      below = Below-put NODES ys v (a ∷ zs) k.below lt;
      absent = λ node small fresh.
          let all : Fresh node (ys ++ a ∷ zs) = Fresh-without node v ys (a ∷ zs) fresh in
          let to_p : p ≢ node = before_end N P NODES ys a node la (λ e. absurd (omega arith)) (Fresh-left node ys (a ∷ zs) all) in
          get_or-set_other N1 v node a 0 (Fresh-here node v ys (a ∷ zs) fresh) ∙ get_or-set_other N p node v 0 (λ e. to_p (sym e))
          ∙ k.absent node small all;
    }
