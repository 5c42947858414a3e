-- `exchange_with_next`: the links when two neighbours change places.
use Rattle.std.proofs.Common.{◌≡◌, ◌≢◌, ℕ, ◌+◌, ◌<◌, ◌≤◌, List, [], ◌∷◌, ◌++◌, length, get_or, set, sym, ◌∙◌, arith, append_assoc}
use Rattle.std.proofs.lemmas.List.{get_or-set_same, get_or-set_other, get_or_read, length-set}
use Rattle.endpoint_list.specs.declared.TheConstants.{NODES}
use Rattle.slot_lists.specs.Links.{Fresh, Distinct, Below, Links}
use Rattle.slot_lists.specs.LinkLaws.{Fresh-left, Fresh-right, Distinct-left, Distinct-right, Distinct-apart, Distinct-without, Below-left}
use Rattle.slot_lists.specs.LinkLaws.{Below-right, Below-weaker, frame_next, frame_prev, before_end, retarget_last, retarget_first, Links-append}
use Rattle.slot_lists.specs.LinkLaws.{Links-left, Links-right, after_start}
use Rattle.endpoint_list.specs.Links.{AreLinked, exchanged_next, exchanged_prev}
use Rattle.endpoint_list.proofs.NodeLemmas.{Below-Fresh, Below-swap}
use Rattle.endpoint_list.proofs.NodeLemmas.{Distinct-swap, Fresh-swap}
use Rattle.endpoint_list.proofs.LinkLemmas.{before_end_fresh, after_start_fresh}
use Rattle.endpoint_list.proofs.LinkLemmas.{beside}

pub exchanged : (N P ys : List ℕ) (a b : ℕ) (zs : List ℕ) → AreLinked N P (ys ++ a ∷ b ∷ zs)
    → AreLinked (exchanged_next N P a b) (exchanged_prev N P a b) (ys ++ b ∷ a ∷ zs)
exchanged N P ys a b zs k =
    let d = k.distinct in
    let below = k.below in
    let p = get_or P a 0 in
    let n = get_or N b 0 in
    let la = Links-left N P NODES ys a (b ∷ zs) NODES k.linked in
    let lr = Links-right N P NODES ys a (b ∷ zs) NODES k.linked in
    let lb : Links N P b zs NODES = lr.2 in
    let by = Below-left NODES ys (a ∷ b ∷ zs) below in
    let br = Below-right NODES ys (a ∷ b ∷ zs) below in
    let a_lt : a < NODES = br.0 in
    let b_lt : b < NODES = br.1.0 in
    let bz : Below NODES zs = br.1.1 in
    let a_e : a ≢ NODES = λ q. absurd (omega arith) in
    let b_e : b ≢ NODES = λ q. absurd (omega arith) in
    let dr = Distinct-right ys (a ∷ b ∷ zs) d in
    let a_b : a ≢ b = dr.0.0 in
    let b_a : b ≢ a = λ q. a_b (sym q) in
    let a_zs : Fresh a zs = dr.0.1 in
    let b_zs : Fresh b zs = dr.1.0 in
    let dz : Distinct zs = dr.1.1 in
    let dy = Distinct-left ys (a ∷ b ∷ zs) d in
    let a_ys = Distinct-apart ys a (b ∷ zs) d in
    let d1 = Distinct-without ys a (b ∷ zs) d in
    let b_ys = Distinct-apart ys b zs d1 in
    let d2 = Distinct-without ys b zs d1 in
    let e_ys = Below-Fresh NODES ys by in
    let e_zs = Below-Fresh NODES zs bz in
    let p_b : p ≢ b = before_end N P NODES ys a b la b_e b_ys in
    let p_zs : Fresh p zs = before_end_fresh N P NODES ys a zs la bz d2 in
    let n_b : n ≢ b = after_start N P b zs NODES b lb b_e b_zs in
    let n_ys : Fresh n ys = after_start_fresh N P b zs NODES ys lb e_ys d2 in
    let N1 = set N p b in
    let P1 = set P b p in
    let N2 = set N1 a n in
    let P2 = set P1 n a in
    let N3 = set N2 b a in
    let P3 = set P2 a b in
    let n1 : length N1 ≡ NODES + 1 = length-set N p b ∙ k.next_len in
    let p1 : length P1 ≡ NODES + 1 = length-set P b p ∙ k.prev_len in
    let n2 : length N2 ≡ NODES + 1 = length-set N1 a n ∙ n1 in
    let p2 : length P2 ≡ NODES + 1 = length-set P1 n a ∙ p1 in
    let la1 : Links N1 P1 NODES ys b =
    retarget_last N P NODES ys a b la e_ys dy b_ys (omega (arith, k.next_len)) (Below-weaker NODES (length N) ys (omega (arith, k.next_len)) by)
    (omega (arith, k.prev_len)) in
    let lb1 : Links N1 P1 b zs NODES = frame_prev N1 P b zs NODES b p b_e b_zs (frame_next N P b zs NODES p b p_b p_zs lb) in
    let n_is : get_or N1 b 0 ≡ n = get_or-set_other N p b b 0 (λ q. p_b (sym q)) in
    let lb2 : Links N2 P2 a zs NODES =
    retarget_first N1 P1 b zs NODES a n n_is lb1 a_zs dz e_zs (omega arith) (omega arith) (Below-weaker NODES (length P1) zs (omega arith) bz) in
    let la2 : Links N2 P2 NODES ys b = frame_prev N2 P1 NODES ys b n a n_b n_ys (frame_next N1 P1 NODES ys b a n a_e a_ys la1) in
    let la3 : Links N3 P3 NODES ys b = frame_prev N3 P2 NODES ys b a b a_b a_ys (frame_next N2 P2 NODES ys b b a b_e b_ys la2) in
    let lb3 : Links N3 P3 a zs NODES = frame_prev N3 P2 a zs NODES a b a_e a_zs (frame_next N2 P2 a zs NODES b a b_a b_zs lb2) in
    record {
      next_len = length-set N2 b a ∙ n2;
      prev_len = length-set P2 a b ∙ p2;
      linked = Links-append N3 P3 NODES ys b (a ∷ zs) NODES la3 (get_or-set_same N2 b a 0 (omega arith), get_or-set_same P2 a b 0 (omega arith), lb3);
      distinct = Distinct-swap ys a b zs d;
      below = Below-swap NODES ys a b zs below;
      absent = λ node small fresh.
          let all : Fresh node (ys ++ a ∷ b ∷ zs) = Fresh-swap node b a ys zs fresh in
          let left : Fresh node ys = Fresh-left node ys (a ∷ b ∷ zs) all in
          let right : Fresh node (a ∷ b ∷ zs) = Fresh-right node ys (a ∷ b ∷ zs) all in
          let to_p : p ≢ node = before_end N P NODES ys a node la (λ e. absurd (omega arith)) left in
          get_or-set_other N2 b node a 0 right.1.0 ∙ get_or-set_other N1 a node n 0 right.0 ∙ get_or-set_other N p node b 0 (λ e. to_p (sym e))
          ∙ k.absent node small all;
    }

-- a node that isn't the last, and the next one
pub record IsFollowed (N P : List ℕ) (a b : ℕ) : Type 0 where
  pub next : get_or N a 0 ≡ b
  pub small : a < NODES
  pub next_small : b < NODES
  pub before : get_or P a 0 ≤ NODES
  pub after : get_or N b 0 ≤ NODES

pub followed : (N P ys : List ℕ) (a b : ℕ) (zs : List ℕ) → AreLinked N P (ys ++ a ∷ b ∷ zs) → IsFollowed N P a b
followed N P ys a b zs k =
    let first = beside N P ys a (b ∷ zs) k in
    let second = beside N P (ys ++ a ∷ []) b zs (rw append_assoc k) in
    record {
      next = (Links-right N P NODES ys a (b ∷ zs) NODES k.linked).0;
      small = first.small;
      next_small = second.small;
      before = first.before;
      after = second.after;
    }

-- what is read as the next node
pub next_read : (N P ys : List ℕ) (a b : ℕ) (zs : List ℕ) (x : ℕ) → AreLinked N P (ys ++ a ∷ b ∷ zs) → x ≡ get_or N a x → x ≡ b
next_read N P ys a b zs x k read =
    let w = followed N P ys a b zs k in
    get_or_read N a x (omega (arith, k.next_len, w.small)) read 0 ∙ w.next
