-- Rings of links in arrays, one for each bucket.
use Rattle.std.proofs.Common.{◌≡◌, ◌≢◌, ℕ, zero, suc, ◌+◌, ◌<◌, ◌≤◌, Bool, List, [], ◌∷◌, ◌++◌, length, get_or, set, Option}
use Rattle.std.proofs.Common.{None, Some, cond, ◌||◌, ◌==◌, refl, sym, ap, ◌∙◌, arith, subst, append-nil, append_assoc, false, true, inl, inr, nat_lt, take}
use Rattle.std.proofs.lemmas.List.{get_or-set_same, get_or-set_other, length-set, take_more_set, take-set}
use Rattle.std.specs.List.{filter}
use lib.Dec.{eqb}
use Rattle.std.proofs.lemmas.Bool.{cases_eq, cases_lt, false≢true, true≢false}
use Rattle.std.proofs.lemmas.Bool.Decides.{nat_tests}
use Rattle.fixed_box.specs.declared.TheConstants.{SLOTS}
use Rattle.cell_table.specs.declared.TheConstants.{BUCKETS}
use Rattle.cell_table.specs.declared.rings.TheConstants.{NODES}
use Rattle.cell_table.specs.declared.cell_key.CellKey.{CellKey}
use Rattle.cell_table.specs.Cells.{bucket_of, has}
use Rattle.slot_lists.specs.Links.{Fresh, Distinct, Below, Links}
use Rattle.slot_lists.specs.LinkLaws.{Fresh-append, Fresh-left, Fresh-right, Distinct-left, Distinct-right, Distinct-apart, Distinct-without}
use Rattle.slot_lists.specs.LinkLaws.{Below-left, Below-right, Below-weaker, length-le, frame_next, frame_prev, before_end, retarget_last}
use Rattle.slot_lists.specs.LinkLaws.{retarget_first, Links-append, Links-left, Links-right, after_start}
use Rattle.cell_table.specs.Kept.{Ring, StartsRing, in_bucket, meets_test, walk, put_next, put_prev, take_next, take_prev}

-- ---- members
same_tie : (x y : ℕ) → x ≡ y → eqb x y ≡ true
same_tie x y e = grind (arith, nat_tests)

other_tie : (x y : ℕ) → x ≢ y → eqb x y ≡ false
other_tie x y ne = grind (arith, nat_tests)

pub fresh_from : (k : ℕ) (xs : List ℕ) → has xs k ≡ false → Fresh k xs
fresh_from k [] h = tt
fresh_from k (x ∷ xs) h = elim (cases_eq x k) as (λ _. Fresh k (x ∷ xs)) [
  | inl e ↦ absurd (let t = same_tie x k e in cc)
  | inr ne ↦ ((λ e. ne (sym e)), fresh_from k xs (sym (ap (λ b. b || has xs k) (other_tie x k ne)) ∙ h))
]

pub fresh_not : (k : ℕ) (xs : List ℕ) → Fresh k xs → has xs k ≡ false
fresh_not k [] f = refl
fresh_not k (x ∷ xs) f = ap (λ b. b || has xs k) (other_tie x k (λ e. f.0 (sym e))) ∙ fresh_not k xs f.1

pub has_append : (xs ys : List ℕ) (k : ℕ) → has (xs ++ ys) k ≡ (has xs k || has ys k)
has_append [] ys k = refl
has_append (x ∷ xs) ys k = elim (eqb x k) as (λ b. (b || has (xs ++ ys) k) ≡ ((b || has xs k) || has ys k)) [ true ↦ refl | false ↦ has_append xs ys k ]

pub has_head : (x : ℕ) (xs : List ℕ) → has (x ∷ xs) x ≡ true
has_head x xs = let e = same_tie x x refl in rw e refl

has_later : (x k : ℕ) (xs : List ℕ) → has xs k ≡ true → has (x ∷ xs) k ≡ true
has_later x k xs h = elim (eqb x k) as (λ b. (b || has xs k) ≡ true) [ true ↦ refl | false ↦ h ]

pub below_from : (n : ℕ) (xs : List ℕ) → ((s : ℕ) → has xs s ≡ true → s < n) → Below n xs
below_from n [] h = tt
below_from n (x ∷ xs) h = (h x (has_head x xs), below_from n xs (λ s i. h s (has_later x s xs i)))

-- a node that no member can be
fresh_all : (k : ℕ) (ws : List ℕ) → ((w : ℕ) → has ws w ≡ true → k ≢ w) → Fresh k ws
fresh_all k [] h = tt
fresh_all k (w ∷ ws) h = (h w (has_head w ws), fresh_all k ws (λ v i. h v (has_later w v ws i)))

above_fresh : (n k : ℕ) (xs : List ℕ) → Below n xs → n ≤ k → Fresh k xs
above_fresh n k [] b le = tt
above_fresh n k (x ∷ xs) b le = ((λ e. absurd (let l : x < n = b.0 in omega arith)), above_fresh n k xs b.1 le)

pub record Split (x : ℕ) (xs : List ℕ) : Type 0 where
  pub front : List ℕ
  pub back : List ℕ
  pub is : xs ≡ front ++ x ∷ back

pub split : (k : ℕ) (xs : List ℕ) → has xs k ≡ true → Split k xs
split k [] h = absurd (false≢true h)
split k (x ∷ xs) h = elim (cases_eq x k) as (λ _. Split k (x ∷ xs)) [
  | inl e ↦ record { front = []; back = xs; is = ap (λ z. z ∷ xs) e }
  | inr ne ↦ let r =
      split k xs (sym (ap (λ b. b || has xs k) (other_tie x k ne)) ∙ h) in record { front = x ∷ r.front; back = r.back; is = ap (λ l. x ∷ l) r.is }
]

-- ---- a node is taken out of its ring
before_end_fresh : (N P : List ℕ) (u : ℕ) (xs : List ℕ) (e : ℕ) (ws : List ℕ) → Links N P u xs e → Fresh u ws → Distinct (xs ++ ws) → Fresh (get_or P e 0) ws
before_end_fresh N P u xs e [] l b d = tt
before_end_fresh N P u xs e (w ∷ ws) l b d =
    (before_end N P u xs e w l (λ q. b.0 (sym q)) (Distinct-apart xs w ws d), before_end_fresh N P u xs e ws l b.1 (Distinct-without xs w ws d))

pub bridge : (N P ys : List ℕ) (u a : ℕ) (zs : List ℕ) (n : ℕ) → get_or N a 0 ≡ n → Links N P u ys a → Links N P a zs u → Distinct (ys ++ zs) → Fresh u ys
    → Fresh u zs
    → u < length N → u < length P → Below (length N) ys → Below (length P) zs
    → Links (set N (get_or P a 0) n) (set P n (get_or P a 0)) u (ys ++ zs) u
bridge N P ys u a [] n is l r d fy fz un up by bz =
    let q : n ≡ u = sym is ∙ r.0 in
    let F : ℕ → Type 0 = λ w. Links (set N (get_or P a 0) w) (set P w (get_or P a 0)) u (ys ++ []) u in
    let m : Links (set N (get_or P a 0) u) (set P u (get_or P a 0)) u ys u = retarget_last N P u ys a u l fy (Distinct-left ys [] d) fy un by up in
    subst F (sym q) (rw append-nil m)
bridge N P ys u a (z ∷ zs) n is l r d fy fz un up by bz =
    let q : n ≡ z = sym is ∙ r.0 in
    let p = get_or P a 0 in
    let dz = Distinct-right ys (z ∷ zs) d in
    let p_zs : Fresh p (z ∷ zs) = before_end_fresh N P u ys a (z ∷ zs) l fz d in
    let F : ℕ → Type 0 = λ w. Links (set N p w) (set P w p) u (ys ++ z ∷ zs) u in
    let m : Links (set N p z) (set P z p) u ys z = retarget_last N P u ys a z l fy (Distinct-left ys (z ∷ zs) d) (Distinct-apart ys z zs d) un by bz.0 in
    let m' : Links (set N p z) (set P z p) z zs u =
    frame_prev (set N p z) P z zs u z p (λ e. fz.0 (sym e)) dz.0 (frame_next N P z zs u p z p_zs.0 p_zs.1 r.2) in
    subst F (sym q) (Links-append (set N p z) (set P z p) u ys z zs u m m')

-- ---- a walk meets the slots of a ring
pub walk_none : (N : List ℕ) (u : ℕ) → walk N 0 u ≡ []
unfolding walk
walk_none N u = refl

pub walk_end : (N : List ℕ) (n u : ℕ) → SLOTS ≤ u → walk N n u ≡ []
unfolding walk
walk_end N zero u le = refl
walk_end N (suc n) u le = let t : nat_lt u SLOTS ≡ false = grind (arith, nat_tests) in rw t refl

pub walk_more : (N : List ℕ) (n m u : ℕ) → u < SLOTS → n ≡ suc m → walk N n u ≡ u ∷ walk N m (get_or N u 0)
unfolding walk
walk_more N n m u lt e = let t : nat_lt u SLOTS ≡ true = grind (arith, nat_tests) in ap (λ z. walk N z u) e ∙ rw t refl

pub walks : (N P : List ℕ) (u : ℕ) (xs : List ℕ) (e n : ℕ) → Links N P u xs e → Below SLOTS xs → SLOTS ≤ e → length xs ≤ n → walk N n (get_or N u 0) ≡ xs
walks N P u [] e n l b le few = ap (walk N n) l.0 ∙ walk_end N n e le
walks N P u (x ∷ xs) e zero l b le few = absurd (omega arith)
walks N P u (x ∷ xs) e (suc n) l b le few =
    ap (walk N (suc n)) l.0 ∙ walk_more N (suc n) n x b.0 refl ∙ ap (λ r. x ∷ r) (walks N P x xs e n l.2 b.1 le (omega arith))

-- ---- a slot is put into a ring, or taken out, and the other rings stay
-- what stands first in a ring is the node or a member, so it is in no other ring
start_fresh : (N P : List ℕ) (u : ℕ) (xs : List ℕ) (e : ℕ) (ws : List ℕ) → Links N P u xs e → Fresh e ws → ((w : ℕ) → has ws w ≡ true → has xs w ≡ false)
    → Fresh (get_or N u 0) ws
start_fresh N P u xs e ws l fe apart =
    fresh_all (get_or N u 0) ws (λ w i. after_start N P u xs e w l (λ q. true≢false (sym i ∙ ap (has ws) q ∙ fresh_not e ws fe)) (fresh_from w xs (apart w i)))

end_fresh : (N P : List ℕ) (u : ℕ) (xs : List ℕ) (e : ℕ) (ws : List ℕ) → Links N P u xs e → Fresh u ws → ((w : ℕ) → has ws w ≡ true → has xs w ≡ false)
    → Fresh (get_or P e 0) ws
end_fresh N P u xs e ws l fu apart =
    fresh_all (get_or P e 0) ws (λ w i. before_end N P u xs e w l (λ q. true≢false (sym i ∙ ap (has ws) q ∙ fresh_not u ws fu)) (fresh_from w xs (apart w i)))

-- two buckets have no slot in common
pub apart_here : (o : Option CellKey) (b c : ℕ) → b ≢ c → meets_test (λ k. bucket_of k == c) o ≡ true → meets_test (λ k. bucket_of k == b) o ≡ false
apart_here None b c ne h = refl
apart_here (Some k) b c ne h = let e : bucket_of k ≡ c = grind (arith, nat_tests) in other_tie (bucket_of k) b (λ q. ne (sym q ∙ e))

pub within_keys : (keys : List (Option CellKey)) (b s : ℕ) → in_bucket keys b s ≡ true → s < length keys
within_keys [] b s h = absurd (false≢true h)
within_keys (o ∷ keys) b zero h = omega arith
within_keys (o ∷ keys) b (suc s) h = let l = within_keys keys b s h in omega arith

ring_below : (keys : List (Option CellKey)) (N P : List ℕ) (b : ℕ) (r : Ring keys N P b) → length keys ≡ SLOTS → Below SLOTS r.slots
ring_below keys N P b r len = below_from SLOTS r.slots (λ s h. let l = within_keys keys b s (sym (r.members s) ∙ h) in omega arith)

-- the bucket of a slot that changes
set_here : (keys : List (Option CellKey)) (s : ℕ) (o : Option CellKey) (b : ℕ) → s < length keys
    → in_bucket (set keys s o) b s ≡ meets_test (λ k. bucket_of k == b) o
set_here keys s o b l = ap (meets_test (λ k. bucket_of k == b)) (get_or-set_same keys s o None l)

set_there : (keys : List (Option CellKey)) (s : ℕ) (o : Option CellKey) (b q : ℕ) → q ≢ s → in_bucket (set keys s o) b q ≡ in_bucket keys b q
set_there keys s o b q ne = ap (meets_test (λ k. bucket_of k == b)) (get_or-set_other keys s q o None ne)

pub put_same : (keys : List (Option CellKey)) (N P : List ℕ) (b s : ℕ) (key : CellKey) → Ring keys N P b → length keys ≡ SLOTS → length N ≡ NODES
    → length P ≡ NODES → b < BUCKETS → s < SLOTS
    → get_or keys s None ≡ None → bucket_of key ≡ b → Ring (set keys s (Some key)) (put_next N s (SLOTS + b)) (put_prev N P s (SLOTS + b)) b
put_same keys N P b s key r kl nl pl bl sl absent is =
    let u = SLOTS + b in
    let first = get_or N u 0 in
    let below = ring_below keys N P b r kl in
    let s_new : Fresh s r.slots = fresh_from s r.slots (r.members s ∙ ap (meets_test (λ k. bucket_of k == b)) absent) in
    let u_new : Fresh u r.slots = above_fresh SLOTS u r.slots below (omega arith) in
    let u_s : u ≢ s = λ e. absurd (omega arith) in
    let l = retarget_first N P u r.slots u s first refl r.linked s_new r.distinct u_new (omega arith) (omega arith)
    (Below-weaker SLOTS (length P) r.slots (omega arith) below) in
    let l' = frame_prev (put_next N s u) (set P first s) s r.slots u s u (λ e. u_s (sym e)) s_new
    (frame_next (set N s first) (set P first s) s r.slots u u s u_s u_new l) in
    record {
      slots = s ∷ r.slots;
      linked = (
        get_or-set_same (set N s first) u s 0 (omega (arith, length-set N s first)),
        get_or-set_same (set P first s) s u 0
            (omega (arith, length-set P first s)),
        l',
      );
      distinct = (s_new, r.distinct);
      members = λ q. elim (cases_eq q s) as (λ _. has (s ∷ r.slots) q ≡ in_bucket (set keys s (Some key)) b q) [
        | inl e ↦ subst (λ z. has (s ∷ r.slots) z ≡ in_bucket (set keys s (Some key)) b z) (sym e)
            (has_head s r.slots ∙ sym (set_here keys s (Some key) b (omega arith) ∙ same_tie (bucket_of key) b is))
        | inr ne ↦ ap (λ t. t || has r.slots q) (other_tie s q (λ e. ne (sym e))) ∙ r.members q ∙ sym (set_there keys s (Some key) b q ne)
      ];
    }

pub put_other : (keys : List (Option CellKey)) (N P : List ℕ) (b c s : ℕ) (key : CellKey) → Ring keys N P b → Ring keys N P c → b ≢ c → length keys ≡ SLOTS
    → b < BUCKETS → s < SLOTS
    → get_or keys s None ≡ None → bucket_of key ≡ b → Ring (set keys s (Some key)) (put_next N s (SLOTS + b)) (put_prev N P s (SLOTS + b)) c
put_other keys N P b c s key r o ne kl bl sl absent is =
    let u = SLOTS + b in
    let v = SLOTS + c in
    let first = get_or N u 0 in
    let rb = ring_below keys N P b r kl in
    let ob = ring_below keys N P c o kl in
    let none : in_bucket keys c s ≡ false = ap (meets_test (λ k. bucket_of k == c)) absent in
    let s_new : Fresh s o.slots = fresh_from s o.slots (o.members s ∙ none) in
    let u_new : Fresh u o.slots = above_fresh SLOTS u o.slots ob (omega arith) in
    let f_new : Fresh first o.slots =
    start_fresh N P u r.slots u o.slots r.linked u_new (λ w i. r.members w ∙ apart_here (get_or keys w None) b c ne (sym (o.members w) ∙ i)) in
    let s_v : s ≢ v = λ e. absurd (omega arith) in
    let u_v : u ≢ v = λ e. ne (omega arith) in
    let f_v : first ≢ v = after_start N P u r.slots u v r.linked (λ e. u_v (sym e)) (above_fresh SLOTS v r.slots rb (omega arith)) in
    let l = frame_next (set N s first) P v o.slots v u s u_v u_new (frame_next N P v o.slots v s first s_v s_new o.linked) in
    let l' = frame_prev (put_next N s u) (set P first s) v o.slots v s u s_v s_new (frame_prev (put_next N s u) P v o.slots v first s f_v f_new l) in
    record {
      slots = o.slots;
      linked = l';
      distinct = o.distinct;
      members = λ q. elim (cases_eq q s) as (λ _. has o.slots q ≡ in_bucket (set keys s (Some key)) c q) [
        | inl e ↦ subst (λ z. has o.slots z ≡ in_bucket (set keys s (Some key)) c z) (sym e)
            (o.members s ∙ none ∙ sym (set_here keys s (Some key) c (omega arith) ∙ other_tie (bucket_of key) c (λ z. ne (sym is ∙ z))))
        | inr n ↦ o.members q ∙ sym (set_there keys s (Some key) c q n)
      ];
    }

has_around : (s q : ℕ) (ys zs : List ℕ) → q ≢ s → has (ys ++ s ∷ zs) q ≡ has (ys ++ zs) q
has_around s q [] zs ne = ap (λ t. t || has zs q) (other_tie s q (λ e. ne (sym e)))
has_around s q (y ∷ ys) zs ne = ap (λ t. (y == q) || t) (has_around s q ys zs ne)

pub take_same : (keys : List (Option CellKey)) (N P : List ℕ) (b s : ℕ) → Ring keys N P b → length keys ≡ SLOTS → length N ≡ NODES → length P ≡ NODES
    → b < BUCKETS → in_bucket keys b s ≡ true
    → Ring (set keys s None) (take_next N P s) (take_prev N P s) b
take_same keys N P b s r kl nl pl bl here =
    let u = SLOTS + b in
    let c = split s r.slots (r.members s ∙ here) in
    let ys = c.front in
    let zs = c.back in
    let all = ring_below keys N P b r kl in
    let below : Below SLOTS (ys ++ s ∷ zs) = subst (Below SLOTS) c.is all in
    let d : Distinct (ys ++ s ∷ zs) = subst Distinct c.is r.distinct in
    let l : Links N P u (ys ++ s ∷ zs) u = subst (λ xs. Links N P u xs u) c.is r.linked in
    let dy = Distinct-without ys s zs d in
    let by = Below-left SLOTS ys (s ∷ zs) below in
    let bz = (Below-right SLOTS ys (s ∷ zs) below).1 in
    let s_new : Fresh s (ys ++ zs) = Fresh-append s ys zs (Distinct-apart ys s zs d) (Distinct-right ys (s ∷ zs) d).0 in
    record {
      slots = ys ++ zs;
      linked = bridge N P ys u s zs (get_or N s 0) refl (Links-left N P u ys s zs u l) (Links-right N P u ys s zs u l) dy
          (above_fresh SLOTS u ys by (omega arith)) (above_fresh SLOTS u zs bz (omega arith)) (omega arith) (omega arith)
          (Below-weaker SLOTS (length N) ys (omega arith) by) (Below-weaker SLOTS (length P) zs (omega arith) bz);
      distinct = dy;
      members = λ q. elim (cases_eq q s) as (λ _. has (ys ++ zs) q ≡ in_bucket (set keys s None) b q) [
        | inl e ↦ subst (λ z. has (ys ++ zs) z ≡ in_bucket (set keys s None) b z) (sym e)
            (fresh_not s (ys ++ zs) s_new ∙ sym (set_here keys s None b (within_keys keys b s here)))
        | inr ne ↦ sym (has_around s q ys zs ne) ∙ ap (λ xs. has xs q) (sym c.is) ∙ r.members q ∙ sym (set_there keys s None b q ne)
      ];
    }

pub take_other : (keys : List (Option CellKey)) (N P : List ℕ) (b c s : ℕ) → Ring keys N P b → Ring keys N P c → b ≢ c → length keys ≡ SLOTS
    → in_bucket keys b s ≡ true
    → Ring (set keys s None) (take_next N P s) (take_prev N P s) c
take_other keys N P b c s r o ne kl here =
    let u = SLOTS + b in
    let v = SLOTS + c in
    let p = get_or P s 0 in
    let n = get_or N s 0 in
    let w = split s r.slots (r.members s ∙ here) in
    let ys = w.front in
    let zs = w.back in
    let rb : Below SLOTS (ys ++ s ∷ zs) = subst (Below SLOTS) w.is (ring_below keys N P b r kl) in
    let ob = ring_below keys N P c o kl in
    let l : Links N P u (ys ++ s ∷ zs) u = subst (λ xs. Links N P u xs u) w.is r.linked in
    let ly = Links-left N P u ys s zs u l in
    let lz = Links-right N P u ys s zs u l in
    let u_new : Fresh u o.slots = above_fresh SLOTS u o.slots ob (omega arith) in
    let u_v : u ≢ v = λ e. ne (omega arith) in
    let apart : (q : ℕ) → has o.slots q ≡ true → has (ys ++ s ∷ zs) q ≡ false =
    λ q i. ap (λ xs. has xs q) (sym w.is) ∙ r.members q ∙ apart_here (get_or keys q None) b c ne (sym (o.members q) ∙ i) in
    let p_new : Fresh p o.slots =
    end_fresh N P u ys s o.slots ly u_new (λ q i. fresh_not q ys (Fresh-left q ys (s ∷ zs) (fresh_from q (ys ++ s ∷ zs) (apart q i)))) in
    let n_new : Fresh n o.slots =
    start_fresh N P s zs u o.slots lz u_new (λ q i. fresh_not q zs (Fresh-right q ys (s ∷ zs) (fresh_from q (ys ++ s ∷ zs) (apart q i))).1) in
    let p_v : p ≢ v = before_end N P u ys s v ly (λ e. u_v (sym e)) (above_fresh SLOTS v ys (Below-left SLOTS ys (s ∷ zs) rb) (omega arith)) in
    let n_v : n ≢ v = after_start N P s zs u v lz (λ e. u_v (sym e)) (above_fresh SLOTS v zs (Below-right SLOTS ys (s ∷ zs) rb).1 (omega arith)) in
    record {
      slots = o.slots;
      linked = frame_prev (take_next N P s) P v o.slots v n p n_v n_new (frame_next N P v o.slots v p n p_v p_new o.linked);
      distinct = o.distinct;
      members = λ q. elim (cases_eq q s) as (λ _. has o.slots q ≡ in_bucket (set keys s None) c q) [
        | inl e ↦ subst (λ z. has o.slots z ≡ in_bucket (set keys s None) c z) (sym e)
            (o.members s ∙ apart_here (get_or keys s None) c b (λ z. ne (sym z)) here ∙ sym (set_here keys s None c (within_keys keys b s here)))
        | inr n ↦ o.members q ∙ sym (set_there keys s None c q n)
      ];
    }

pub start_below : (N P : List ℕ) (u : ℕ) (xs : List ℕ) (e n : ℕ) → Links N P u xs e → Below n xs → e < n → get_or N u 0 < n
start_below N P u [] e n l b lt = rw l.0 lt
start_below N P u (x ∷ xs) e n l b lt = rw l.0 b.0

pub end_below : (N P : List ℕ) (u : ℕ) (xs : List ℕ) (e n : ℕ) → Links N P u xs e → Below n xs → u < n → get_or P e 0 < n
end_below N P u [] e n l b lt = rw l.1 lt
end_below N P u (x ∷ xs) e n l b lt = end_below N P x xs e n l.2 b.1 b.0

-- where a put and a taking write
pub put_inside : (keys : List (Option CellKey)) (N P : List ℕ) (b : ℕ) → Ring keys N P b → length keys ≡ SLOTS → b < BUCKETS → get_or N (SLOTS + b) 0 < NODES
put_inside keys N P b r kl bl =
    start_below N P (SLOTS + b) r.slots (SLOTS + b) NODES r.linked (Below-weaker SLOTS NODES r.slots (omega arith) (ring_below keys N P b r kl)) (omega arith)

pub record Beside (N P : List ℕ) (s : ℕ) : Type 0 where
  pub here : s < SLOTS
  pub before : get_or P s 0 < NODES
  pub after : get_or N s 0 < NODES

pub take_inside : (keys : List (Option CellKey)) (N P : List ℕ) (b s : ℕ) → Ring keys N P b → length keys ≡ SLOTS → b < BUCKETS → in_bucket keys b s ≡ true
    → Beside N P s
take_inside keys N P b s r kl bl here =
    let u = SLOTS + b in
    let w = split s r.slots (r.members s ∙ here) in
    let rb : Below SLOTS (w.front ++ s ∷ w.back) = subst (Below SLOTS) w.is (ring_below keys N P b r kl) in
    let l : Links N P u (w.front ++ s ∷ w.back) u = subst (λ xs. Links N P u xs u) w.is r.linked in
    record {
      here = (Below-right SLOTS w.front (s ∷ w.back) rb).0;
      before = end_below N P u w.front s NODES (Links-left N P u w.front s w.back u l)
          (Below-weaker SLOTS NODES w.front (omega arith) (Below-left SLOTS w.front (s ∷ w.back) rb)) (omega arith);
      after = start_below N P s w.back u NODES (Links-right N P u w.front s w.back u l)
          (Below-weaker SLOTS NODES w.back (omega arith) (Below-right SLOTS w.front (s ∷ w.back) rb).1) (omega arith);
    }

-- what a walk from the node of a bucket meets
pub walk_ring : (keys : List (Option CellKey)) (N P : List ℕ) (b : ℕ) (r : Ring keys N P b) → length keys ≡ SLOTS
    → walk N SLOTS (get_or N (SLOTS + b) 0) ≡ r.slots
walk_ring keys N P b r kl = let below =
    ring_below keys N P b r kl in walks N P (SLOTS + b) r.slots (SLOTS + b) SLOTS r.linked below (omega arith) (length-le SLOTS r.slots r.distinct below)

-- one step of a walk that picks
pub pick_yes : (p : ℕ → Bool) (N : List ℕ) (n m u : ℕ) (out goal : List ℕ) → u < SLOTS → n ≡ suc m → p u ≡ true → out ++ filter p (walk N n u) ≡ goal
    → (out ++ u ∷ []) ++ filter p (walk N m (get_or N u 0)) ≡ goal
pick_yes p N n m u out goal lt e passes h =
    append_assoc out (u ∷ []) (filter p (walk N m (get_or N u 0)))
    ∙ ap (λ l. out ++ l)
    (sym (ap (filter p) (walk_more N n m u lt e)
    ∙ ap (λ b. cond b (u ∷ filter p (walk N m (get_or N u 0))) (filter p (walk N m (get_or N u 0)))) passes)) ∙ h

pub pick_no : (p : ℕ → Bool) (N : List ℕ) (n m u : ℕ) (out goal : List ℕ) → u < SLOTS → n ≡ suc m → p u ≡ false → out ++ filter p (walk N n u) ≡ goal
    → out ++ filter p (walk N m (get_or N u 0)) ≡ goal
pick_no p N n m u out goal lt e fails h =
    ap (λ l. out ++ l)
    (sym (ap (filter p) (walk_more N n m u lt e)
    ∙ ap (λ b. cond b (u ∷ filter p (walk N m (get_or N u 0))) (filter p (walk N m (get_or N u 0)))) fails)) ∙ h

pub pick_done : (p : ℕ → Bool) (N : List ℕ) (n u : ℕ) (out goal : List ℕ) → SLOTS ≤ u → out ++ filter p (walk N n u) ≡ goal → out ≡ goal
pick_done p N n u out goal le h = sym (append-nil out) ∙ ap (λ l. out ++ l) (sym (ap (filter p) (walk_end N n u le))) ∙ h

pub pick_out : (p : ℕ → Bool) (N : List ℕ) (n u : ℕ) (out goal : List ℕ) → n ≡ 0 → out ++ filter p (walk N n u) ≡ goal → out ≡ goal
pick_out p N n u out goal e h = sym (append-nil out) ∙ ap (λ l. out ++ l) (sym (ap (λ z. filter p (walk N z u)) e ∙ ap (filter p) (walk_none N u))) ∙ h

-- one step of a walk
pub meet_more : (N : List ℕ) (n m u : ℕ) (out goal : List ℕ) → u < SLOTS → n ≡ suc m → out ++ walk N n u ≡ goal
    → (out ++ u ∷ []) ++ walk N m (get_or N u 0) ≡ goal
meet_more N n m u out goal lt e h = append_assoc out (u ∷ []) (walk N m (get_or N u 0)) ∙ ap (λ l. out ++ l) (sym (walk_more N n m u lt e)) ∙ h

pub meet_done : (N : List ℕ) (n u : ℕ) (out goal : List ℕ) → SLOTS ≤ u → out ++ walk N n u ≡ goal → out ≡ goal
meet_done N n u out goal le h = sym (append-nil out) ∙ ap (λ l. out ++ l) (sym (walk_end N n u le)) ∙ h

pub meet_out : (N : List ℕ) (n u : ℕ) (out goal : List ℕ) → n ≡ 0 → out ++ walk N n u ≡ goal → out ≡ goal
meet_out N n u out goal e h = sym (append-nil out) ∙ ap (λ l. out ++ l) (sym (ap (λ z. walk N z u) e ∙ walk_none N u)) ∙ h

-- one step of a walk that is written in place
pub put_room : (N : List ℕ) (n m u len total : ℕ) → u < SLOTS → n ≡ suc m → len + length (walk N n u) ≡ total
    → len + 1 + length (walk N m (get_or N u 0)) ≡ total
put_room N n m u len total lt e h = let l = ap length (walk_more N n m u lt e) in omega (arith, l, h)

pub put_met : (N slots : List ℕ) (n m u len : ℕ) (goal : List ℕ) → u < SLOTS → n ≡ suc m → len < length slots → take len slots ++ walk N n u ≡ goal
    → take (len + 1) (set slots len u) ++ walk N m (get_or N u 0) ≡ goal
put_met N slots n m u len goal lt e inside h =
    ap (λ l. l ++ walk N m (get_or N u 0)) (take_more_set slots len u inside) ∙ meet_more N n m u (take len slots) goal lt e h

-- its first node, which may be no slot
pub record Put (N slots : List ℕ) (u place r : ℕ) : Type 0 where
  pub room : place + r + length (walk N 8191 (get_or N u 0)) ≡ place + length (walk N SLOTS u)
  pub met : take (place + r) (set slots place u) ++ walk N 8191 (get_or N u 0) ≡ take place slots ++ walk N SLOTS u

pub put_first : (N slots : List ℕ) (u place r : ℕ) → StartsRing N u → (u < SLOTS → r ≡ 1) → (SLOTS ≤ u → r ≡ 0) → place < length slots → Put N slots u place r
put_first N slots u place r s one zero_is inside = elim (cases_lt u SLOTS) as (λ _. Put N slots u place r) [
  | inl lt ↦ subst (Put N slots u place) (sym (one lt)) (record {
    room = put_room N SLOTS 8191 u place (place + length (walk N SLOTS u)) lt refl refl;
    met = put_met N slots SLOTS 8191 u place (take place slots ++ walk N SLOTS u) lt refl inside refl;
  })
  | inr le ↦
      let none = walk_end N SLOTS u le in
      let ended = walk_end N 8191 (get_or N u 0) (s.closed le) in
      let z : place + 0 ≡ place = omega arith in
      subst (Put N slots u place) (sym (zero_is le)) (record {
        room = let a = ap length none in let b = ap length ended in omega (arith, a, b);
        met = ap (λ i. take i (set slots place u) ++ walk N 8191 (get_or N u 0)) z ∙ ap (λ l. l ++ walk N 8191 (get_or N u 0)) (take-set slots place u)
            ∙ ap (λ l. take place slots ++ l) (ended ∙ sym none);
      })
]

-- what the node of a bucket leads to
pub ring_starts : (keys : List (Option CellKey)) (N P : List ℕ) (b : ℕ) → Ring keys N P b → length keys ≡ SLOTS → b < BUCKETS
    → StartsRing N (get_or N (SLOTS + b) 0)
ring_starts keys N P b r kl bl =
    record { below = put_inside keys N P b r kl bl; closed = closes (SLOTS + b) r.slots r.linked (ring_below keys N P b r kl) }
  where
    closes : (u : ℕ) (xs : List ℕ) → Links N P u xs u → Below SLOTS xs → SLOTS ≤ get_or N u 0 → SLOTS ≤ get_or N (get_or N u 0) 0
    closes u [] l below le = let e = ap (λ i. get_or N i 0) l.0 in omega (arith, e, le)
    closes u (x ∷ xs) l below le = absurd (omega (arith, l.0, below.0, le))

-- what either of two lists has
pub has_left : (xs ys : List ℕ) (k : ℕ) → has xs k ≡ true → has (xs ++ ys) k ≡ true
has_left xs ys k h = has_append xs ys k ∙ ap (λ b. b || has ys k) h

pub has_right : (xs ys : List ℕ) (k : ℕ) → has ys k ≡ true → has (xs ++ ys) k ≡ true
has_right xs ys k h = has_append xs ys k ∙ ap (λ b. has xs k || b) h ∙ or_true (has xs k)
  where
    or_true : (b : Bool) → (b || true) ≡ true
    or_true true = refl
    or_true false = refl
