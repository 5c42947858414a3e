-- The places of two slots are the axes on which their boxes overlap, and the pairs with three are those that meet.
use Rattle.std.proofs.Common.{ℕ, Bool, true, false, List, refl, sym, ap, inl, inr, nat_lt, get_or, Option, Some, None, ℤ, int_le, slice_index}
use Rattle.std.proofs.Common.{slice_index_or, is_some, ◌≡◌, ◌+◌, ◌*◌, ◌&&◌, ◌==◌, ◌∙◌, if◌then◌else◌, []}
use Rattle.std.proofs.lemmas.Bool.{cases_Bool, ltb-true}
use Rattle.std.specs.FinMap.{FinMap, get}
use Rattle.std.specs.Ordering.{nat_cmp}
use Rattle.fixed_box.specs.Bounds.{Bounds, meets}
use Rattle.fixed_box.specs.declared.point.Point.{Point}
use Rattle.broad_index.specs.Exchanges.{min_key, max_key}
use Rattle.broad_index.specs.Members.{has_pair, both_meet}
use Rattle.broad_index.specs.Near.{rises, near}
use Rattle.broad_index.specs.declared.pair.Pair.{Pair}
use Rattle.endpoint_list.specs.NodeList.{has}
use Rattle.overlap_count.specs.Counts.{count_of}
use Rattle.sweep_prune.specs.CoreKeeps.{IsCore}
use Rattle.sweep_prune.specs.Endpoints.{HasKeys}
use Rattle.sweep_prune.specs.KeyNumbers.{number}
use Rattle.sweep_prune.specs.Keyed.{coord}
use Rattle.sweep_prune.specs.Overlaps.{overlaps_on, axes_of, axes}
use Rattle.sweep_prune.specs.Places.{stands_before, overlap_in, one_if, places}
use Rattle.sweep_prune.specs.Sweep.{AxisKeeps, SweepKeeps}
use Rattle.sweep_prune.specs.Walks.{Rising}
use Rattle.sweep_prune.specs.declared.axis.Axis.TheVariants.{X, Y, Z}
use Rattle.sweep_prune.specs.declared.lists.Lists.{Lists}
use Rattle.sweep_prune.proofs.NumberLemmas.{number_lt, min_max_lt}
use Rattle.sweep_prune.proofs.OverlapLemmas.{no_first, no_second}
use Rattle.sweep_prune.proofs.RisingLemmas.{rising_before}

overlap_is : (f : Point → ℤ) (k : ℕ → ℕ) (xs : List ℕ) (a b : ℕ) (x y : Bounds) → Rising k xs → has (2 * a) xs ≡ true → has (2 * a + 1) xs ≡ true
    → has (2 * b) xs ≡ true → has (2 * b + 1) xs ≡ true → HasKeys k f a x → HasKeys k f b y
    → overlap_in xs a b ≡ overlaps_on f x y
overlap_is f k xs a b x y r an ax bn bx ka kb =
    let one : stands_before xs (2 * a) (2 * b + 1) ≡ int_le (f x.lo) (f y.hi) =
    rising_before k xs (2 * a) (2 * b + 1) r an bx ∙ ap (λ n. nat_lt n (k (2 * b + 1))) ka.min_is ∙ ap (nat_lt (number (min_key f a x))) kb.max_is
    ∙ number_lt (min_key f a x) (max_key f b y) ka.min_small kb.max_small ∙ min_max_lt f a b x y in
    let two : stands_before xs (2 * b) (2 * a + 1) ≡ int_le (f y.lo) (f x.hi) =
    rising_before k xs (2 * b) (2 * a + 1) r bn ax ∙ ap (λ n. nat_lt n (k (2 * a + 1))) kb.min_is ∙ ap (nat_lt (number (min_key f b y))) ka.max_is
    ∙ number_lt (min_key f b y) (max_key f a x) kb.min_small ka.max_small ∙ min_max_lt f b a y x in
    ap (λ t. t && stands_before xs (2 * b) (2 * a + 1)) one ∙ ap (λ t. int_le (f x.lo) (f y.hi) && t) two

all_three : (x y z : Bool) → ((one_if x + one_if y) + one_if z == 3) ≡ ((x && y) && z)
all_three true true true = refl
all_three true true false = refl
all_three true false true = refl
all_three true false false = refl
all_three false true true = refl
all_three false true false = refl
all_three false false true = refl
all_three false false false = refl

regrouped : (a b c d e f : Bool) → (((a && d) && (b && e)) && (c && f)) ≡ (((a && b) && c) && ((d && e) && f))
regrouped false b c d e f = refl
regrouped true false c true e f = refl
regrouped true false c false e f = refl
regrouped true true false true true f = refl
regrouped true true false true false f = refl
regrouped true true false false e f = refl
regrouped true true true true e f = refl
regrouped true true true false e f = refl

meets_three : (x y : Bounds) → (axes_of (Some x) (Some y) == 3) ≡ meets x y
meets_three x y =
    all_three (overlaps_on (coord X) x y) (overlaps_on (coord Y) x y) (overlaps_on (coord Z) x y)
    ∙ regrouped (int_le x.lo.x y.hi.x) (int_le x.lo.y y.hi.y) (int_le x.lo.z y.hi.z) (int_le y.lo.x x.hi.x) (int_le y.lo.y x.hi.y) (int_le y.lo.z x.hi.z)

abbrev pub is_three : Lists → Pair → Bool
is_three ls p = nat_lt p.a p.b && places ls p.a p.b == 3

three_member : (ls : Lists) (counts : List (List ℕ)) (p : Pair) → IsCore ls counts → (count_of counts p.a p.b == 3) ≡ is_three ls p
three_member ls counts p k = elim (cases_Bool (nat_lt p.a p.b)) as (λ _. (count_of counts p.a p.b == 3) ≡ is_three ls p) [
  | inl t ↦ ap (λ n. n == 3) (k.counted p.a p.b (ltb-true p.a p.b t)) ∙ sym (ap (λ b. b && places ls p.a p.b == 3) t)
  | inr f ↦ ap (λ b. (if b then slice_index (slice_index_or counts p.b []) p.a else 0) == 3) f
      ∙ sym (ap (λ b. b && places ls p.a p.b == 3) f)
]

pub full_are : (ls : Lists) (counts : List (List ℕ)) (full pairs : List Pair) → IsCore ls counts → rises full ≡ true
    → ((p : Pair) → has_pair full p ≡ (count_of counts p.a p.b == 3))
    → ((xs ys : List Pair) → rises xs ≡ true → rises ys ≡ true → ((p : Pair) → has_pair xs p ≡ has_pair ys p) → xs ≡ ys)
    → rises pairs ≡ true → ((p : Pair) → has_pair pairs p ≡ is_three ls p) → full ≡ pairs
full_are ls counts full pairs k r m one s n = one full pairs r s (λ p. m p ∙ three_member ls counts p k ∙ sym (n p))

none_of : (u v w : Bool) → u ≡ false → v ≡ false → w ≡ false → (one_if u + one_if v) + one_if w ≡ 0
none_of u v w a b c = ap (λ t. (one_if t + one_if v) + one_if w) a ∙ ap (λ t. (0 + one_if t) + one_if w) b ∙ ap (λ t. (0 + 0) + one_if t) c

on_axis : (bodies : FinMap nat_cmp Bounds) (f : Point → ℤ) (ks l : List ℕ) (a b : ℕ) (x y : Bounds) → AxisKeeps bodies f ks l → get bodies a ≡ Some x
    → get bodies b ≡ Some y → overlap_in l a b ≡ overlaps_on f x y
on_axis bodies f ks l a b x y k g h =
    overlap_is f (λ n. get_or ks n 0) l a b x y k.rising (k.min_in a ∙ ap is_some g) (k.max_in a ∙ ap is_some g) (k.min_in b ∙ ap is_some h)
    (k.max_in b ∙ ap is_some h) (k.keyed a x g) (k.keyed b y h)

places_of : (bodies : FinMap nat_cmp Bounds) (kx ky kz : List ℕ) (ls : Lists) (a b : ℕ) → SweepKeeps bodies kx ky kz ls → (o q : Option Bounds)
    → get bodies a ≡ o → get bodies b ≡ q → places ls a b ≡ axes_of o q
places_of bodies kx ky kz ls a b k None q g h =
    none_of _ _ _ (no_first ls.x a b (k.on_x.min_in a ∙ ap is_some g)) (no_first ls.y a b (k.on_y.min_in a ∙ ap is_some g))
    (no_first ls.z a b (k.on_z.min_in a ∙ ap is_some g))
places_of bodies kx ky kz ls a b k (Some x) None g h =
    none_of _ _ _ (no_second ls.x a b (k.on_x.max_in b ∙ ap is_some h)) (no_second ls.y a b (k.on_y.max_in b ∙ ap is_some h))
    (no_second ls.z a b (k.on_z.max_in b ∙ ap is_some h))
places_of bodies kx ky kz ls a b k (Some x) (Some y) g h =
    ap (λ t. (one_if t + one_if (overlap_in ls.y a b)) + one_if (overlap_in ls.z a b)) (on_axis bodies (coord X) kx ls.x a b x y k.on_x g h)
    ∙ ap (λ t. (one_if (overlaps_on (coord X) x y) + one_if t) + one_if (overlap_in ls.z a b)) (on_axis bodies (coord Y) ky ls.y a b x y k.on_y g h)
    ∙ ap (λ t. (one_if (overlaps_on (coord X) x y) + one_if (overlaps_on (coord Y) x y)) + one_if t) (on_axis bodies (coord Z) kz ls.z a b x y k.on_z g h)

-- the lists count what the boxes do
pub places_are : (bodies : FinMap nat_cmp Bounds) (kx ky kz : List ℕ) (ls : Lists) (a b : ℕ) → SweepKeeps bodies kx ky kz ls
    → places ls a b ≡ axes bodies a b
places_are bodies kx ky kz ls a b k = places_of bodies kx ky kz ls a b k (get bodies a) (get bodies b) refl refl

pub meets_of : (o q : Option Bounds) → (axes_of o q == 3) ≡ both_meet o q
meets_of None q = refl
meets_of (Some x) None = refl
meets_of (Some x) (Some y) = meets_three x y

pub near_are : (bodies : FinMap nat_cmp Bounds) (kx ky kz : List ℕ) (ls : Lists) (p : Pair) → SweepKeeps bodies kx ky kz ls
    → has_pair (near bodies) p ≡ (nat_lt p.a p.b && axes bodies p.a p.b == 3) → has_pair (near bodies) p ≡ is_three ls p
near_are bodies kx ky kz ls p k m = m ∙ ap (λ n. nat_lt p.a p.b && n == 3) (sym (places_are bodies kx ky kz ls p.a p.b k))
