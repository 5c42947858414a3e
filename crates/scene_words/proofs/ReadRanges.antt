-- What a line says lies within the ranges of its parts.
use Rattle.std.proofs.Common.{◌≡◌, ℕ, ◌<◌, ◌≤◌, ◌^◌, Bool, true, false, cond, ◌&&◌, nat_le, nat_eq, List, [], ◌∷◌, length}
use Rattle.std.proofs.Common.{arith}
use Rattle.std.proofs.Common.{ℤ, pos, negsuc, neg_ℤ, int_le, Option, Some, None, Result, Ok, Err, refl, ap, subst, ◌∙◌}
use Rattle.std.specs.Char.{is_digit, digit_value}
use Rattle.std.specs.List.{list_all, before_first, after_first}
use Rattle.std.specs.Str.Parse.{AllDigits, digits_value}
use Rattle.std.proofs.Math.Nat.{pow-le-pow_right}
use Rattle.std.proofs.lemmas.Bool.{and_parts}
use Rattle.std.proofs.lemmas.Bool.Decides.{nat_tests}
use Rattle.std.proofs.lemmas.Int.Digits.{digits_value-lt}
use Rattle.fixed_box.specs.Bounds.{Bounds}
use Rattle.fixed_box.specs.declared.TheConstants.{SLOTS}
use Rattle.fixed_box.specs.declared.fix_fault.FixFault.{FixFault}
use Rattle.fixed_box.specs.declared.fix_fault.FixFault.TheVariants.{Form, Range}
use Rattle.fixed_box.specs.declared.point.Point.{Point}
use Rattle.fixed_box.specs.Fix.{Digits, fix, fix_of_digits, digits_of_text, within_range, nearest_raw, number_of}
use Rattle.fixed_box.specs.Point.{is_at_most}
use Rattle.live_table.specs.declared.group.Group.{Group}
use Rattle.live_table.specs.declared.handle.Handle.{Handle}
use Rattle.live_table.specs.declared.masks.Masks.{Masks}
use Rattle.ray_slabs.specs.Vector.{widened}
use Rattle.scene_words.specs.declared.command.Command.{Command}
use Rattle.scene_words.specs.declared.command.Command.TheVariants.{Blank, Header, Add, Move, Mask, Remove, Frame, BoxQ, PointQ, RayQ, SegQ, Cast, Near, Mark}
use Rattle.scene_words.specs.declared.command.Command.TheVariants.{Back}
use Rattle.scene_words.specs.declared.line_fault.LineFault.{LineFault}
use Rattle.scene_words.specs.declared.line_fault.LineFault.TheVariants as fault
use Rattle.scene_words.specs.declared.verb.Verb.{Verb}
use Rattle.scene_words.specs.declared.verb.Verb.TheVariants as verb
use Rattle.scene_words.specs.declared.version.Version.{Version}
use Rattle.scene_words.specs.Ranges.{IsRaw, IsRawVector, IsRawBox, IsHandle, IsMasks, IsWanted, IsInRange}
use Rattle.scene_words.specs.SceneWords.{◌>>=◌, first_as, number_at, handle_at, mask_at, mask_or, want_at, point_at, box_between, masks_of, group_of}
use Rattle.scene_words.specs.SceneWords.{labels_of, listing_of}
use Rattle.scene_words.specs.SceneWords.{add_of, move_of, mask_of, remove_of, box_of, point_of, ray_of, seg_of, cast_of, near_of, header_for, header_of}
use Rattle.scene_words.specs.SceneWords.{further_of, by_verb, command_of, command, words}
use Rattle.scene_words.specs.Tails.{Tail, tail_of, counted}
use Rattle.scene_words.specs.Values.{line_number, number_of_word, is_numeral, index_of_digits, is_colon, handle_from, handle_of_word, mask_of_word, index_or}
use Rattle.scene_words.specs.Values.{owner_of_word, want_within, want_of_word}
use Rattle.scene_words.specs.Verbs.{verb_of, since, reaches, allows, version_of}
use Rattle.fixed_box.proofs.Numbers.{at_least, at_most}

-- reading that goes on hasn't failed
bind_ok : {A B : Type 0} (r : Result A LineFault) (f : A → Result B LineFault) (y : B) → (r >>= f) ≡ Ok y → (x : A) × (r ≡ Ok x) × (f x ≡ Ok y)
bind_ok (Ok x) f y h = (x, refl, h)
bind_ok (Err e) f y h = absurd (cc)

within_raw : (n r : ℤ) → within_range n ≡ Ok r → IsRaw r
within_raw n r h = by_tests (int_le (negsuc 2147483647) n) (int_le n (pos 2147483647)) refl refl h
  where
    by_tests : (s t : Bool) → int_le (negsuc 2147483647) n ≡ s → int_le n (pos 2147483647) ≡ t → cond (s && t) (Ok n) (Err Range) ≡ Ok r → IsRaw r
    by_tests true true low high e =
        let same : n ≡ r = cc in
        subst IsRaw same (at_least n low, at_most n high)
    by_tests true false low high e = absurd (cc)
    by_tests false t low high e = absurd (cc)

digits_raw : (negative : Bool) (o : Option Digits) (r : ℤ) → fix_of_digits negative o ≡ Ok r → IsRaw r
digits_raw negative None r h = absurd (cc)
digits_raw negative (Some d) r h = within_raw (nearest_raw (cond negative (neg_ℤ (pos (number_of d))) (pos (number_of d))) (length d.fraction)) r h

fix_raw : (text : List ℕ) (r : ℤ) → fix text ≡ Ok r → IsRaw r
fix_raw [] r h = absurd (cc)
fix_raw (b ∷ rest) r h = by_sign (nat_eq b 45) h
  where
    by_sign : (t : Bool) → cond t (fix_of_digits true (digits_of_text rest)) (fix_of_digits false (digits_of_text (b ∷ rest))) ≡ Ok r → IsRaw r
    by_sign true e = digits_raw true (digits_of_text rest) r e
    by_sign false e = digits_raw false (digits_of_text (b ∷ rest)) r e

number_raw : (word : List ℕ) (r : ℤ) → number_of_word word ≡ Ok r → IsRaw r
number_raw word r h = by_fix (fix word) refl h
  where
    by_fix : (f : Result ℤ FixFault) → fix word ≡ f → line_number f ≡ Ok r → IsRaw r
    by_fix (Ok n) is e = let same : n ≡ r = cc in subst IsRaw same (fix_raw word n is)
    by_fix (Err Form) is e = absurd (cc)
    by_fix (Err Range) is e = absurd (cc)

-- numerals of few digits
all_digits : (radix : ℕ) (ds : List ℕ) → list_all (λ b. is_digit b radix) ds ≡ true → AllDigits radix ds
all_digits radix [] h = tt
all_digits radix (d ∷ ds) h =
    let parts = and_parts (is_digit d radix) (list_all (λ b. is_digit b radix) ds) h in
    let low : digit_value d < radix = (let test = parts.0 in grind (arith, nat_tests)) in
    (low, all_digits radix ds parts.1)

numeral_small : (radix most : ℕ) (ds : List ℕ) → 1 ≤ radix → is_numeral radix most ds ≡ true → digits_value radix ds < radix ^ most
numeral_small radix most ds some h =
    let parts = and_parts (nat_le 1 (length ds) && nat_le (length ds) most) (list_all (λ b. is_digit b radix) ds) h in
    let sizes = and_parts (nat_le 1 (length ds)) (nat_le (length ds) most) parts.0 in
    let few : length ds ≤ most = (let test = sizes.1 in grind (arith, nat_tests)) in
    let below : digits_value radix ds < radix ^ length ds = digits_value-lt radix ds (all_digits radix ds parts.1) in
    let more : radix ^ length ds ≤ radix ^ most = pow-le-pow_right some few in
    omega (arith, below, more)

mask_small : (word : List ℕ) (n : ℕ) → mask_of_word word ≡ Ok n → n < 2 ^ 32
mask_small word n h = by_test (is_numeral 16 8 word) refl h
  where
    by_test : (t : Bool) → is_numeral 16 8 word ≡ t → cond t (Ok (digits_value 16 word)) (Err fault.Mask) ≡ Ok n → n < 2 ^ 32
    by_test true is e =
        let same : digits_value 16 word ≡ n = cc in
        let small : digits_value 16 word < 16 ^ 8 = numeral_small 16 8 word (omega arith) is in
        omega (arith, same, small)
    by_test false is e = absurd (cc)

index_small : (word : List ℕ) (n : ℕ) → index_of_digits word ≡ Some n → n < 2 ^ 32
index_small word n h = by_test (is_numeral 10 10 word) (nat_le (digits_value 10 word) 4294967295) refl h
  where
    by_test : (s t : Bool) → nat_le (digits_value 10 word) 4294967295 ≡ t → cond (s && t) (Some (digits_value 10 word)) None ≡ Some n → n < 2 ^ 32
    by_test true true is e =
        let same : digits_value 10 word ≡ n = cc in
        let few : digits_value 10 word ≤ 4294967295 = grind (arith, nat_tests) in
        omega (arith, same, few)
    by_test true false is e = absurd (cc)
    by_test false t is e = absurd (cc)

owner_small : (word : List ℕ) (n : ℕ) → owner_of_word word ≡ Ok n → n < 2 ^ 32
owner_small word n h = by_index (index_of_digits word) refl h
  where
    by_index : (o : Option ℕ) → index_of_digits word ≡ o → index_or fault.Owner o ≡ Ok n → n < 2 ^ 32
    by_index (Some m) is e = let same : m ≡ n = cc in index_small word n (is ∙ ap Some same)
    by_index None is e = absurd (cc)

handle_small : (word : List ℕ) (x : Handle) → handle_of_word word ≡ Ok x → IsHandle x
handle_small word x h = by_parts (index_of_digits (before_first is_colon word)) (index_of_digits (after_first is_colon word)) refl refl h
  where
    by_parts : (s g : Option ℕ) → index_of_digits (before_first is_colon word) ≡ s → index_of_digits (after_first is_colon word) ≡ g
        → handle_from s g ≡ Ok x → IsHandle x
    by_parts (Some slot) (Some generation) is of e =
        let same : ◌≡◌ {A = Handle} (record { slot = slot; generation = generation }) x = cc in
        subst IsHandle same (record {
          slot = index_small (before_first is_colon word) slot is;
          generation = index_small (after_first is_colon word) generation of;
        })
    by_parts (Some slot) None is of e = absurd (cc)
    by_parts None g is of e = absurd (cc)

wanted : (word : List ℕ) (n : ℕ) → want_of_word word ≡ Ok n → IsWanted n
wanted word n h = by_test (is_numeral 10 4 word) h
  where
    in_range : (s t : Bool) → nat_le 1 (digits_value 10 word) ≡ s → nat_le (digits_value 10 word) SLOTS ≡ t
        → cond (s && t) (Ok (digits_value 10 word)) (Err fault.Range) ≡ Ok n → IsWanted n
    in_range true true low high e =
        let same : digits_value 10 word ≡ n = cc in
        let some : 1 ≤ digits_value 10 word = grind (arith, nat_tests) in
        let few : digits_value 10 word ≤ SLOTS = grind (arith, nat_tests) in
        subst IsWanted same (record { some = some; few = few })
    in_range true false low high e = absurd (cc)
    in_range false t low high e = absurd (cc)

    by_test : (t : Bool) → cond t (want_within (digits_value 10 word)) (Err fault.Number) ≡ Ok n → IsWanted n
    by_test true e = in_range (nat_le 1 (digits_value 10 word)) (nat_le (digits_value 10 word) SLOTS) refl refl e
    by_test false e = absurd (cc)

-- the first word has what each value has
first_has : {A : Type 0} (value : List ℕ → Result A LineFault) (P : A → Type 0) → ((word : List ℕ) (x : A) → value word ≡ Ok x → P x)
    → (ws : List (List ℕ)) (t : A × List (List ℕ)) → first_as value ws ≡ Ok t → P t.0
first_has value P each [] t h = absurd (cc)
first_has {A} value P each (word ∷ more) t h =
    let read = bind_ok {A = A} {B = A × List (List ℕ)} (value word) (λ x. Ok (x, more)) t h in
    let same : read.0 ≡ t.0 = (let all = read.2 in cc) in
    subst P same (each word read.0 read.1)

mask_or_small : (default : ℕ) → default < 2 ^ 32 → (ws : List (List ℕ)) (t : ℕ × List (List ℕ)) → mask_or default ws ≡ Ok t → t.0 < 2 ^ 32
mask_or_small default small [] t h = let same : default ≡ t.0 = cc in omega (arith, same, small)
mask_or_small default small (word ∷ more) t h = first_has mask_of_word (λ n. n < 2 ^ 32) mask_small (word ∷ more) t h

point_raw : (ws : List (List ℕ)) (t : Point × List (List ℕ)) → point_at ws ≡ Ok t → IsRawVector (widened t.0)
unfolding point_at
point_raw ws t h =
    let x = bind_ok (number_at ws) _ t h in
    let y = bind_ok (number_at x.0.1) _ t x.2 in
    let z = bind_ok (number_at y.0.1) _ t y.2 in
    let same : ◌≡◌ {A = Point} (record { x = x.0.0; y = y.0.0; z = z.0.0 }) t.0 = (let all = z.2 in cc) in
    let P : Point → Type 0 = λ p. IsRawVector (widened p) in
    subst P same (record {
      x = first_has number_of_word IsRaw number_raw ws x.0 x.1;
      y = first_has number_of_word IsRaw number_raw x.0.1 y.0 y.1;
      z = first_has number_of_word IsRaw number_raw y.0.1 z.0 z.1;
    })

box_raw : (lo hi : Point) (b : Bounds) → box_between lo hi ≡ Ok b → IsRawVector (widened lo) → IsRawVector (widened hi) → IsRawBox b
box_raw lo hi b h low high = by_order (is_at_most lo hi) refl h
  where
    by_order : (t : Bool) → is_at_most lo hi ≡ t → cond t (Ok (record { lo = lo; hi = hi })) (Err fault.Inverted) ≡ Ok b → IsRawBox b
    by_order true is e =
        let same : ◌≡◌ {A = Bounds} (record { lo = lo; hi = hi }) b = cc in
        subst IsRawBox same (record { lo = low; hi = high; ordered = is })
    by_order false is e = absurd (cc)

masks_small : (ws : List (List ℕ)) (m : Masks) → masks_of ws ≡ Ok m → IsMasks m
masks_small ws m h =
    let groups = bind_ok (mask_or 1 ws) _ m h in
    let seen = bind_ok (mask_or 4294967295 groups.0.1) _ m groups.2 in
    let same : ◌≡◌ {A = Masks} (record { is = groups.0.0; sees = seen.0.0 }) m = (let all = seen.2 in cc) in
    subst IsMasks same (record {
      is = mask_or_small 1 (omega arith) ws groups.0 groups.1;
      sees = mask_or_small 4294967295 (omega arith) groups.0.1 seen.0 seen.1;
    })

group_small : (o : Option (List ℕ)) (fixed : Bool) (g : Group) → group_of o fixed ≡ Ok g → g.owner < 2 ^ 32
group_small None fixed g h = let same : 0 ≡ g.owner = cc in omega (arith, same)
group_small (Some word) fixed g h =
    let owner = bind_ok (owner_of_word word) _ g h in
    let same : owner.0 ≡ g.owner = (let all = owner.2 in cc) in
    let small = owner_small word owner.0 owner.1 in
    omega (arith, same, small)

labels_small : (t : Tail) (l : Masks × Group) → labels_of t ≡ Ok l → IsMasks l.0 × (l.1.owner < 2 ^ 32)
labels_small t l h =
    let masks = bind_ok (masks_of t.plain) _ l h in
    let group = bind_ok (group_of t.owner t.flagged) _ l masks.2 in
    let same : ◌≡◌ {A = Masks × Group} (masks.0, group.0) l = (let all = group.2 in cc) in
    let P : Masks × Group → Type 0 = λ l. IsMasks l.0 × (l.1.owner < 2 ^ 32) in
    subst P same (masks_small t.plain masks.0 masks.1, group_small t.owner t.flagged group.0 group.1)

-- each command
add_in : (version : Version) (ws : List (List ℕ)) (c : Command) → add_of version ws ≡ Ok c → IsInRange c
unfolding add_of
add_in version ws c h =
    let lo = bind_ok (point_at ws) _ c h in
    let hi = bind_ok (point_at lo.0.1) _ c lo.2 in
    let labels = bind_ok (labels_of (tail_of verb.Add version hi.0.1)) _ c hi.2 in
    let bounds = bind_ok (box_between lo.0.0 hi.0.0) _ c labels.2 in
    let same : Add bounds.0 labels.0.0 labels.0.1 ≡ c = (let all = bounds.2 in cc) in
    let small = labels_small (tail_of verb.Add version hi.0.1) labels.0 labels.1 in
    subst IsInRange same
    (box_raw lo.0.0 hi.0.0 bounds.0 bounds.1 (point_raw ws lo.0 lo.1) (point_raw lo.0.1 hi.0 hi.1), small.0, small.1)

move_in : (ws : List (List ℕ)) (c : Command) → move_of ws ≡ Ok c → IsInRange c
unfolding move_of
move_in ws c h =
    let name = bind_ok (handle_at ws) _ c h in
    let lo = bind_ok (point_at name.0.1) _ c name.2 in
    let hi = bind_ok (point_at lo.0.1) _ c lo.2 in
    let bounds = bind_ok (box_between lo.0.0 hi.0.0) _ c hi.2 in
    let same : Move name.0.0 bounds.0 ≡ c = (let all = bounds.2 in cc) in
    subst IsInRange same (
      first_has handle_of_word IsHandle handle_small ws name.0 name.1,
      box_raw lo.0.0 hi.0.0 bounds.0 bounds.1 (point_raw name.0.1 lo.0 lo.1) (point_raw lo.0.1 hi.0 hi.1),
    )

mask_in : (ws : List (List ℕ)) (c : Command) → mask_of ws ≡ Ok c → IsInRange c
unfolding mask_of
mask_in ws c h =
    let name = bind_ok (handle_at ws) _ c h in
    let groups = bind_ok (mask_at name.0.1) _ c name.2 in
    let seen = bind_ok (mask_at groups.0.1) _ c groups.2 in
    let same : Mask name.0.0 (record { is = groups.0.0; sees = seen.0.0 }) ≡ c = (let all = seen.2 in cc) in
    subst IsInRange same (
      first_has handle_of_word IsHandle handle_small ws name.0 name.1,
      record {
        is = first_has mask_of_word (λ n. n < 2 ^ 32) mask_small name.0.1 groups.0 groups.1;
        sees = first_has mask_of_word (λ n. n < 2 ^ 32) mask_small groups.0.1 seen.0 seen.1;
      },
    )

remove_in : (ws : List (List ℕ)) (c : Command) → remove_of ws ≡ Ok c → IsInRange c
remove_in ws c h =
    let name = bind_ok (handle_at ws) _ c h in
    let same : Remove name.0.0 ≡ c = (let all = name.2 in cc) in
    subst IsInRange same (first_has handle_of_word IsHandle handle_small ws name.0 name.1)

box_in : (ws : List (List ℕ)) (c : Command) → box_of ws ≡ Ok c → IsInRange c
unfolding box_of
box_in ws c h =
    let lo = bind_ok (point_at ws) _ c h in
    let hi = bind_ok (point_at lo.0.1) _ c lo.2 in
    let groups = bind_ok (mask_or 4294967295 hi.0.1) _ c hi.2 in
    let bounds = bind_ok (box_between lo.0.0 hi.0.0) _ c groups.2 in
    let same : BoxQ bounds.0 groups.0.0 ≡ c = (let all = bounds.2 in cc) in
    subst IsInRange same (
      box_raw lo.0.0 hi.0.0 bounds.0 bounds.1 (point_raw ws lo.0 lo.1) (point_raw lo.0.1 hi.0 hi.1),
      mask_or_small 4294967295 (omega arith) hi.0.1 groups.0 groups.1,
    )

spot_in : (ws : List (List ℕ)) (c : Command) → point_of ws ≡ Ok c → IsInRange c
unfolding point_of
spot_in ws c h =
    let p = bind_ok (point_at ws) _ c h in
    let groups = bind_ok (mask_or 4294967295 p.0.1) _ c p.2 in
    let same : PointQ p.0.0 groups.0.0 ≡ c = (let all = groups.2 in cc) in
    subst IsInRange same (point_raw ws p.0 p.1, mask_or_small 4294967295 (omega arith) p.0.1 groups.0 groups.1)

listing_small : (t : Tail) (l : ℕ × Bool) → listing_of t ≡ Ok l → l.0 < 2 ^ 32
listing_small t l h =
    let groups = bind_ok (mask_or 4294967295 t.plain) _ l h in
    let same : groups.0.0 ≡ l.0 = (let all = groups.2 in cc) in
    let small = mask_or_small 4294967295 (omega arith) t.plain groups.0 groups.1 in
    omega (arith, same, small)

ray_in : (version : Version) (ws : List (List ℕ)) (c : Command) → ray_of version ws ≡ Ok c → IsInRange c
unfolding ray_of
ray_in version ws c h =
    let p = bind_ok (point_at ws) _ c h in
    let q = bind_ok (point_at p.0.1) _ c p.2 in
    let listing = bind_ok (listing_of (tail_of verb.Ray version q.0.1)) _ c q.2 in
    let same : RayQ (record { from = widened p.0.0; dir = widened q.0.0 }) listing.0.0 listing.0.1 ≡ c = (let all = listing.2 in cc) in
    subst IsInRange same (point_raw ws p.0 p.1, point_raw p.0.1 q.0 q.1, listing_small (tail_of verb.Ray version q.0.1) listing.0 listing.1)

seg_in : (ws : List (List ℕ)) (c : Command) → seg_of ws ≡ Ok c → IsInRange c
unfolding seg_of
seg_in ws c h =
    let p = bind_ok (point_at ws) _ c h in
    let q = bind_ok (point_at p.0.1) _ c p.2 in
    let groups = bind_ok (mask_or 4294967295 q.0.1) _ c q.2 in
    let same : SegQ (record { a = widened p.0.0; b = widened q.0.0 }) groups.0.0 ≡ c = (let all = groups.2 in cc) in
    subst IsInRange same (point_raw ws p.0 p.1, point_raw p.0.1 q.0 q.1, mask_or_small 4294967295 (omega arith) q.0.1 groups.0 groups.1)

cast_in : (ws : List (List ℕ)) (c : Command) → cast_of ws ≡ Ok c → IsInRange c
unfolding cast_of
cast_in ws c h =
    let lo = bind_ok (point_at ws) _ c h in
    let hi = bind_ok (point_at lo.0.1) _ c lo.2 in
    let way = bind_ok (point_at hi.0.1) _ c hi.2 in
    let groups = bind_ok (mask_or 4294967295 way.0.1) _ c way.2 in
    let bounds = bind_ok (box_between lo.0.0 hi.0.0) _ c groups.2 in
    let same : Cast (record { body = bounds.0; by = way.0.0 }) groups.0.0 ≡ c = (let all = bounds.2 in cc) in
    subst IsInRange same (
      box_raw lo.0.0 hi.0.0 bounds.0 bounds.1 (point_raw ws lo.0 lo.1) (point_raw lo.0.1 hi.0 hi.1),
      point_raw hi.0.1 way.0 way.1,
      mask_or_small 4294967295 (omega arith) way.0.1 groups.0 groups.1,
    )

near_in : (ws : List (List ℕ)) (c : Command) → near_of ws ≡ Ok c → IsInRange c
unfolding near_of
near_in ws c h =
    let p = bind_ok (point_at ws) _ c h in
    let want = bind_ok (want_at p.0.1) _ c p.2 in
    let groups = bind_ok (mask_or 4294967295 want.0.1) _ c want.2 in
    let same : Near p.0.0 want.0.0 groups.0.0 ≡ c = (let all = groups.2 in cc) in
    subst IsInRange same (
      point_raw ws p.0 p.1,
      first_has want_of_word IsWanted wanted p.0.1 want.0 want.1,
      mask_or_small 4294967295 (omega arith) want.0.1 groups.0 groups.1,
    )

header_in : (ws : List (List ℕ)) (c : Command) → header_of ws ≡ Ok c → IsInRange c
header_in [] c h = absurd (cc)
header_in (word ∷ []) c h = by_version (version_of word) h
  where
    by_version : (o : Option Version) → header_for o ≡ Ok c → IsInRange c
    by_version None e = absurd (cc)
    by_version (Some version) e = let same : Header version ≡ c = cc in subst IsInRange same tt
header_in (word ∷ next ∷ more) c h = absurd (cc)

further_in : (version : Version) (v : Verb) (ws : List (List ℕ)) (c : Command) → further_of version v ws ≡ Ok c → IsInRange c
further_in version verb.Scene ws c h = header_in ws c h
further_in version verb.Add ws c h = add_in version ws c h
further_in version verb.Move ws c h = move_in ws c h
further_in version verb.Mask ws c h = mask_in ws c h
further_in version verb.Remove ws c h = remove_in ws c h
further_in version verb.Frame ws c h = let same : Frame ≡ c = cc in subst IsInRange same tt
further_in version verb.Box ws c h = box_in ws c h
further_in version verb.Point ws c h = spot_in ws c h
further_in version verb.Ray ws c h = ray_in version ws c h
further_in version verb.Seg ws c h = seg_in ws c h
further_in version verb.Cast ws c h = cast_in ws c h
further_in version verb.Near ws c h = near_in ws c h
further_in version verb.Mark ws c h = let same : Mark ≡ c = cc in subst IsInRange same tt
further_in version verb.Back ws c h = let same : Back ≡ c = cc in subst IsInRange same tt

verb_in : (version : Version) (o : Option Verb) (ws : List (List ℕ)) (c : Command) → by_verb version o ws ≡ Ok c → IsInRange c
verb_in version None ws c h = absurd (cc)
verb_in version (Some v) ws c h = by_tests (reaches (since v) version) (allows v (counted v version ws)) h
  where
    by_tests : (s t : Bool) → cond s (cond t (further_of version v ws) (Err fault.Count)) (Err fault.Word) ≡ Ok c → IsInRange c
    by_tests true true e = further_in version v ws c e
    by_tests true false e = absurd (cc)
    by_tests false t e = absurd (cc)

said_in : (version : Version) (ws : List (List ℕ)) (c : Command) → command_of version ws ≡ Ok c → IsInRange c
unfolding command_of
said_in version [] c h = let same : Blank ≡ c = cc in subst IsInRange same tt
said_in version (word ∷ more) c h = verb_in version (verb_of word) more c h

pub read_in_range : (version : Version) (line : List ℕ) (c : Command) → command version line ≡ Ok c → IsInRange c
read_in_range version line c h = said_in version (words line) c h
