-- Two halves of some leaves, each as low as so many may stand, make a balanced tree that is as low.
use Rattle.std.proofs.Common.{◌≡◌, ℕ, zero, suc, ◌+◌, ◌<◌, ◌≤◌, ◌^◌, max, sym, subst, arith, ⊎_elim, ◌⊎◌}
use Rattle.std.proofs.Math.Nat.{two-pow-succ, pow-le-pow_right}
use Rattle.std.proofs.lemmas.Bool.{cases_lt}

twice : (h : ℕ) → 2 ^ suc h ≡ 2 ^ h + 2 ^ h
twice h = two-pow-succ h

rising : (a b : ℕ) → a ≤ b → 2 ^ a ≤ 2 ^ b
rising a b le = pow-le-pow_right (omega arith) le

pub left_near : (m n a b : ℕ) → m ≤ n → 1 ≤ m → 2 ^ a < m + m → n ≤ 2 ^ b → a ≤ b + 1
left_near m n a b le some la eb =
    ⊎_elim (λ lt. omega arith)
    (λ ge.
    let r = rising (suc (suc b)) a (omega arith) in
    let s = twice (suc b) in
    let t = twice b in
    absurd (omega (arith, r, s, t, le, some, la, eb)))
    (cases_lt a (suc (suc b)))

pub right_near : (m n a b : ℕ) → n ≤ m + 1 → 1 ≤ m → m ≤ 2 ^ a → 2 ^ b < n + n → b ≤ a + 1
right_near m n a b le some ea lb =
    ⊎_elim (λ lt. omega arith)
    (λ ge.
    let r = rising (suc (suc a)) b (omega arith) in
    let s = twice (suc a) in
    let t = twice a in
    absurd (omega (arith, r, s, t, le, some, ea, lb)))
    (cases_lt b (suc (suc a)))

max_either : (a b : ℕ) → (max a b ≡ a × b ≤ a) ⊎ (max a b ≡ b × a ≤ b)
max_either a b = grind (arith)

pub enough_above : (m n a b : ℕ) → m ≤ 2 ^ a → n ≤ 2 ^ b → m + n ≤ 2 ^ (1 + max a b)
enough_above m n a b ea eb =
    let e : 1 + max a b ≡ suc (max a b) = omega arith in
    let p = rising a (max a b) (grind (arith)) in
    let q = rising b (max a b) (grind (arith)) in
    let t = twice (max a b) in
    subst (λ h. m + n ≤ 2 ^ h) (sym e) (omega (arith, p, q, t, ea, eb))

right_top : (m n b : ℕ) → m ≤ n → n ≤ m + 1 → 1 ≤ m → 2 ^ b < n + n → 2 ^ suc b < (m + n) + (m + n)
right_top m n zero le ge some lb = let t = twice zero in omega (arith, t, le, some)
right_top m n (suc b) le ge some lb =
    let t = twice b in
    let s = twice (suc b) in
    omega (arith, t, s, le, ge, some, lb)

pub least_above : (m n a b : ℕ) → m ≤ n → n ≤ m + 1 → 1 ≤ m → 2 ^ a < m + m → 2 ^ b < n + n → 2 ^ (1 + max a b) < (m + n) + (m + n)
least_above m n a b le ge some la lb =
    let e : 1 + max a b ≡ suc (max a b) = omega arith in
    subst (λ h. 2 ^ h < (m + n) + (m + n)) (sym e)
    (⊎_elim
    (λ c. let t = twice a in subst (λ x. 2 ^ suc x < (m + n) + (m + n)) (sym c.0) (omega (arith, t, la, le)))
    (λ c. subst (λ x. 2 ^ suc x < (m + n) + (m + n)) (sym c.0) (right_top m n b le ge some lb))
    (max_either a b))

-- no lower tree has room for so many leaves
pub least_of_all : (n k h : ℕ) → 2 ^ k < n + n → n ≤ 2 ^ h → k ≤ h
least_of_all n k h lk eh =
    ⊎_elim
    (λ lt.
    let r = rising (suc h) k (omega arith) in
    let t = twice h in
    absurd (omega (arith, r, t, lk, eh)))
    (λ ge. ge)
    (cases_lt h k)
