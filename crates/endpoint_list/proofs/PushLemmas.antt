-- `new` and `push_last`: the links of no node, and a node behind the last.
use Rattle.std.proofs.Common.{◌≡◌, ◌≢◌, ℕ, ◌+◌, ◌<◌, ◌≤◌, List, [], ◌∷◌, ◌++◌, length, get_or, set, replicate, sym, ap, ◌∙◌, arith}
use Rattle.std.proofs.lemmas.List.{get_or-set_same, get_or-set_other, length-set, length-replicate, get_or-replicate}
use Rattle.endpoint_list.specs.declared.TheConstants.{NODES}
use Rattle.slot_lists.specs.Links.{Fresh, Below, Links}
use Rattle.slot_lists.specs.LinkLaws.{Fresh-left, Fresh-right, Below-weaker, frame_next, frame_prev, before_end, retarget_last, Links-append}
use Rattle.endpoint_list.specs.Links.{AreLinked, put_next, put_prev}
use Rattle.endpoint_list.proofs.NodeLemmas.{Below-Fresh, Below-push, Distinct-push}
use Rattle.endpoint_list.proofs.LinkLemmas.{before_end_below}

pub started : (N P : List ℕ) → N ≡ set (replicate (NODES + 1) (NODES + 1)) NODES NODES → P ≡ replicate (NODES + 1) NODES → AreLinked N P []
started N P n p =
    let blank = replicate (NODES + 1) (NODES + 1) in
    let long : length blank ≡ NODES + 1 = length-replicate (NODES + 1) (NODES + 1) in
    record {
      next_len = ap length n ∙ length-set blank NODES NODES ∙ long;
      prev_len = ap length p ∙ length-replicate (NODES + 1) NODES;
      linked = (
        ap (λ l. get_or l NODES 0) n ∙ get_or-set_same blank NODES NODES 0 (omega (arith, long)),
        ap (λ l. get_or l NODES 0) p ∙ get_or-replicate (NODES + 1) NODES NODES 0 (omega arith),
      );
      distinct = tt;
      below = tt;
      absent = λ node lt _. ap (λ l. get_or l node 0) n ∙ get_or-set_other blank NODES node NODES 0 (λ e. absurd (omega arith))
          ∙ get_or-replicate (NODES + 1) node (NODES + 1) 0 (omega arith);
    }

-- the last node, or the end before the first
pub last_small : (N P xs : List ℕ) → AreLinked N P xs → get_or P NODES 0 ≤ NODES
last_small N P xs k =
    omega (arith, before_end_below N P NODES xs NODES (NODES + 1) k.linked (omega arith) (Below-weaker NODES (NODES + 1) xs (omega arith) k.below))

pub pushed : (N P xs : List ℕ) (v : ℕ) → AreLinked N P xs → v < NODES → Fresh v xs → AreLinked (put_next N P v NODES) (put_prev P v NODES) (xs ++ v ∷ [])
pushed N P xs v k lt f =
    let last = get_or P NODES 0 in
    let N1 = set N last v in
    let P1 = set P v last in
    let n1 : length N1 ≡ NODES + 1 = length-set N last v ∙ k.next_len in
    let p1 : length P1 ≡ NODES + 1 = length-set P v last ∙ k.prev_len in
    let wide : Below (length N) xs = Below-weaker NODES (length N) xs (omega (arith, k.next_len)) k.below in
    let fe : Fresh NODES xs = Below-Fresh NODES xs k.below in
    let apart : v ≢ NODES = λ e. absurd (omega arith) in
    let l1 : Links N1 P1 NODES xs v =
    retarget_last N P NODES xs NODES v k.linked fe k.distinct f (omega (arith, k.next_len)) wide (omega (arith, k.prev_len)) in
    let l2 : Links (set N1 v NODES) P1 NODES xs v = frame_next N1 P1 NODES xs v v NODES apart f l1 in
    let l3 : Links (set N1 v NODES) (set P1 NODES v) NODES xs v = frame_prev (set N1 v NODES) P1 NODES xs v NODES v (λ e. apart (sym e)) fe l2 in
    record {
      next_len = length-set N1 v NODES ∙ n1;
      prev_len = length-set P1 NODES v ∙ p1;
      linked = Links-append (set N1 v NODES) (set P1 NODES v) NODES xs v [] NODES l3
          (get_or-set_same N1 v NODES 0 (omega (arith, n1)), get_or-set_same P1 NODES v 0 (omega (arith, p1)));
      distinct = Distinct-push xs v k.distinct f;
      below = Below-push NODES xs v k.below lt;
      absent = λ node small fresh.
          let other : Fresh node xs = Fresh-left node xs (v ∷ []) fresh in
          let to_v : node ≢ v = (Fresh-right node xs (v ∷ []) fresh).0 in
          let to_last : last ≢ node = before_end N P NODES xs NODES node k.linked (λ e. absurd (omega arith)) other in
          get_or-set_other N1 v node NODES 0 to_v ∙ get_or-set_other N last node v 0 (λ e. to_last (sym e)) ∙ k.absent node small other;
    }
