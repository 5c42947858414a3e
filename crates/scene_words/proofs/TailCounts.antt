-- Lines of an `add` or a `ray` with few words before their tails have as many as are allowed.
use Rattle.std.proofs.Common.{◌≡◌, ℕ, ℤ, ◌+◌, ◌≤◌, true, List, [], ◌∷◌, length, take, drop, Result, Ok, Err, refl, sym, ap, subst}
use Rattle.std.proofs.Common.{◌∙◌, arith, length-take, length-drop}
use Rattle.std.proofs.lemmas.Bool.Decides.{nat_tests}
use Rattle.fixed_box.specs.declared.point.Point.{Point}
use Rattle.scene_words.specs.declared.line_fault.LineFault.{LineFault}
use Rattle.scene_words.specs.SceneWords.{◌>>=◌, number_at, point_at}
use Rattle.scene_words.specs.Values.{number_of_word}
use Rattle.scene_words.specs.declared.verb.Verb.TheVariants as verb
use Rattle.scene_words.specs.declared.version.Version.{Version}
use Rattle.scene_words.specs.declared.version.Version.TheVariants.{One, Two}
use Rattle.scene_words.specs.Tails.{tail_of, counted}
use Rattle.scene_words.specs.Verbs.{allows}

of_add : (count : ℕ) → 6 ≤ count → count ≤ 8 → allows verb.Add count ≡ true
of_add count some few = grind (arith, nat_tests)

of_ray : (count : ℕ) → 6 ≤ count → count ≤ 7 → allows verb.Ray count ≡ true
of_ray count some few = grind (arith, nat_tests)

pub add_allowed : (version : Version) (ws : List (List ℕ)) → 6 ≤ length ws → length (tail_of verb.Add version (drop 6 ws)).plain ≤ 2
    → allows verb.Add (counted verb.Add version ws) ≡ true
add_allowed One ws some few = of_add (length ws) some (omega (arith, few, length-drop 6 ws))
add_allowed Two ws some few =
    of_add (length (take 6 ws) + length (tail_of verb.Add Two (drop 6 ws)).plain) (omega (arith, length-take 6 ws)) (omega (arith, few, length-take 6 ws))

pub ray_allowed : (version : Version) (ws : List (List ℕ)) → 6 ≤ length ws → length (tail_of verb.Ray version (drop 6 ws)).plain ≤ 1
    → allows verb.Ray (counted verb.Ray version ws) ≡ true
ray_allowed One ws some few = of_ray (length ws) some (omega (arith, few, length-drop 6 ws))
ray_allowed Two ws some few =
    of_ray (length (take 6 ws) + length (tail_of verb.Ray Two (drop 6 ws)).plain) (omega (arith, length-take 6 ws)) (omega (arith, few, length-take 6 ws))

-- words that begin with a number
number_cases : (ws rest : List (List ℕ)) (x : ℤ) → number_at ws ≡ Ok (x, rest) → (a : List ℕ) × (ws ≡ a ∷ rest)
number_cases [] rest x h = absurd (cc)
number_cases (a ∷ more) rest x h = by_value (number_of_word a) h
  where
    by_value : (r : Result ℤ LineFault) → ◌>>=◌ {B = ℤ × List (List ℕ)} r (λ y. Ok (y, more)) ≡ Ok (x, rest)
        → (b : List ℕ) × (a ∷ more ≡ b ∷ rest)
    by_value (Ok y) e =
        let same : ◌≡◌ {A = ℤ × List (List ℕ)} (y, more) (x, rest) = cc in
        (a, ap (λ t. a ∷ t.1) same)
    by_value (Err f) e = absurd (cc)

abbrev third : ℤ → ℤ → Result (ℤ × List (List ℕ)) LineFault → Result (Point × List (List ℕ)) LineFault
third x y r = r >>= λ z. Ok (record { x = x; y = y; z = z.0 }, z.1)

abbrev second : ℤ → Result (ℤ × List (List ℕ)) LineFault → Result (Point × List (List ℕ)) LineFault
second x r = r >>= λ y. third x y.0 (number_at y.1)

abbrev first : Result (ℤ × List (List ℕ)) LineFault → Result (Point × List (List ℕ)) LineFault
first r = r >>= λ x. second x.0 (number_at x.1)

third_cases : (x y : ℤ) (ws more : List (List ℕ)) (p : Point) (r : Result (ℤ × List (List ℕ)) LineFault) → number_at ws ≡ r
    → third x y r ≡ Ok (p, more)
    → (a : List ℕ) × (ws ≡ a ∷ more)
third_cases x y ws more p (Ok t) is h =
    let one = number_cases ws t.1 t.0 is in
    let same : ◌≡◌ {A = Point × List (List ℕ)} (record { x = x; y = y; z = t.0 }, t.1) (p, more) = cc in
    (one.0, one.1 ∙ ap (λ u. one.0 ∷ u.1) same)
third_cases x y ws more p (Err f) is h = absurd (cc)

second_cases : (x : ℤ) (ws more : List (List ℕ)) (p : Point) (r : Result (ℤ × List (List ℕ)) LineFault) → number_at ws ≡ r
    → second x r ≡ Ok (p, more)
    → (a : List ℕ) × (b : List ℕ) × (ws ≡ a ∷ b ∷ more)
second_cases x ws more p (Ok t) is h =
    let one = number_cases ws t.1 t.0 is in
    let next = third_cases x t.0 t.1 more p (number_at t.1) refl h in
    (one.0, next.0, one.1 ∙ ap (λ u. one.0 ∷ u) next.1)
second_cases x ws more p (Err f) is h = absurd (cc)

first_cases : (ws more : List (List ℕ)) (p : Point) (r : Result (ℤ × List (List ℕ)) LineFault) → number_at ws ≡ r → first r ≡ Ok (p, more)
    → (a : List ℕ) × (b : List ℕ) × (c : List ℕ) × (ws ≡ a ∷ b ∷ c ∷ more)
first_cases ws more p (Ok t) is h =
    let one = number_cases ws t.1 t.0 is in
    let next = second_cases t.0 t.1 more p (number_at t.1) refl h in
    (one.0, next.0, next.1, one.1 ∙ ap (λ u. one.0 ∷ u) next.2)
first_cases ws more p (Err f) is h = absurd (cc)

-- words that begin with a point
point_cases : (ws more : List (List ℕ)) (p : Point) → point_at ws ≡ Ok (p, more)
    → (a : List ℕ) × (b : List ℕ) × (c : List ℕ) × (ws ≡ a ∷ b ∷ c ∷ more)
unfolding point_at
point_cases ws more p h = first_cases ws more p (number_at ws) refl h

-- behind two points, six words are passed
pub record IsPastSix (ws more : List (List ℕ)) : Type 0 where
  pub some : 6 ≤ length ws
  pub left : drop 6 ws ≡ more

past_six : (ws mid more : List (List ℕ)) (p q : Point) → point_at ws ≡ Ok (p, mid) → point_at mid ≡ Ok (q, more) → IsPastSix ws more
past_six ws mid more p q h k =
    let one = point_cases ws mid p h in
    let two = point_cases mid more q k in
    let all : ws ≡ one.0 ∷ one.1 ∷ one.2 ∷ two.0 ∷ two.1 ∷ two.2 ∷ more = one.3 ∙ ap (λ u. one.0 ∷ one.1 ∷ one.2 ∷ u) two.3 in
    record { some = omega (arith, ap length all); left = ap (drop 6) all }

pub add_read_allowed : (version : Version) (ws mid more : List (List ℕ)) (p q : Point) → point_at ws ≡ Ok (p, mid) → point_at mid ≡ Ok (q, more)
    → length (tail_of verb.Add version more).plain ≤ 2 → allows verb.Add (counted verb.Add version ws) ≡ true
add_read_allowed version ws mid more p q h k few =
    let past = past_six ws mid more p q h k in
    let P : List (List ℕ) → Type 0 = λ u. length (tail_of verb.Add version u).plain ≤ 2 in
    add_allowed version ws past.some (subst P (sym past.left) few)

pub ray_read_allowed : (version : Version) (ws mid more : List (List ℕ)) (p q : Point) → point_at ws ≡ Ok (p, mid) → point_at mid ≡ Ok (q, more)
    → length (tail_of verb.Ray version more).plain ≤ 1 → allows verb.Ray (counted verb.Ray version ws) ≡ true
ray_read_allowed version ws mid more p q h k few =
    let past = past_six ws mid more p q h k in
    let P : List (List ℕ) → Type 0 = λ u. length (tail_of verb.Ray version u).plain ≤ 1 in
    ray_allowed version ws past.some (subst P (sym past.left) few)
