-- The newest mark, behind the others.
use Rattle.std.proofs.Common.{◌≡◌, ℕ, ◌≤◌, Bool, false, List, [], ◌∷◌, ◌++◌, length, Option, Some, None, is_some, option_map}
use Rattle.std.proofs.Common.{refl, ap, sym, ◌∙◌, map, drop, arith}
use Rattle.std.specs.Option.{option_to_list}
use Rattle.std.proofs.lemmas.List.{length-append, length-map, drop-map, drop-append-le}
use Rattle.world_marks.specs.declared.held.Held.{Held}
use Rattle.world_marks.specs.HeldMarks.{mark_of, marks_of}
use Rattle.world_marks.specs.Marks.{Mark, with_newest}

pub with_newest-last : (change : Mark → Mark) (ms : List Mark) (m : Mark) → with_newest change (ms ++ m ∷ []) ≡ ms ++ change m ∷ []
with_newest-last change [] m = refl
with_newest-last change (n ∷ []) m = refl
with_newest-last change (n ∷ k ∷ ms) m = ap (λ xs. n ∷ xs) (with_newest-last change (k ∷ ms) m)

-- it is another
pub changed_newest : (change : Mark → Mark) (older : List Held) (newest : Option Held) (h k : Held) → newest ≡ Some h → mark_of k ≡ change (mark_of h)
    → marks_of older (Some k) ≡ with_newest change (marks_of older newest)
changed_newest change older newest h k is changed =
    ap (λ m. map mark_of older ++ m ∷ []) changed ∙ sym (with_newest-last change (map mark_of older) (mark_of h))
    ∙ ap (λ o. with_newest change (marks_of older o)) (sym is)

-- without one nothing changes
pub no_newest : (change : Mark → Mark) (older : List Held) (newest : Option Held) → newest ≡ None → older ≡ []
    → marks_of older newest ≡ with_newest change (marks_of older newest)
no_newest change older newest is none = rw (is, none) refl

-- the last of marks has pairs of its own
abbrev keeps : List Mark → Bool
keeps [] = false
keeps (m ∷ []) = is_some m.kept
keeps (m ∷ n ∷ ms) = keeps (n ∷ ms)

keeps_last : (ms : List Mark) (m : Mark) → keeps (ms ++ m ∷ []) ≡ is_some m.kept
keeps_last [] m = refl
keeps_last (n ∷ []) m = refl
keeps_last (n ∷ k ∷ ms) m = keeps_last (k ∷ ms) m

same_some : (h : Held) → is_some h.kept ≡ is_some (mark_of h).kept
same_some h = elim h.kept as (λ o. is_some o ≡ is_some (option_map (λ last. last.items) o)) [ None ↦ refl | Some last ↦ refl ]

pub newest_keeps : (older : List Held) (newest : Option Held) (h : Held) (ms : List Mark) (m : Mark) → newest ≡ Some h
    → marks_of older newest ≡ ms ++ m ∷ [] → is_some h.kept ≡ is_some m.kept
newest_keeps older newest h ms m is these =
    same_some h ∙ sym (keeps_last (map mark_of older) (mark_of h)) ∙ ap (λ o. keeps (marks_of older o)) (sym is) ∙ ap keeps these ∙ keeps_last ms m

pub none_newest : (older : List Held) (newest : Option Held) (ms : List Mark) (m : Mark) → newest ≡ None → older ≡ []
    → marks_of older newest ≡ ms ++ m ∷ [] → ⊥
none_newest older newest ms m is none these =
    let empty : marks_of older newest ≡ [] = rw (is, none) refl in
    let no : length (ms ++ m ∷ []) ≡ 0 = ap length (sym these ∙ empty) in
    let one = length-append ms (m ∷ []) in omega (arith, no, one)

pub some_newest : (older : List Held) (newest : Option Held) (h : Held) → newest ≡ Some h → marks_of older newest ≡ [] → ⊥
some_newest older newest h is these =
    let no : length (map mark_of older ++ mark_of h ∷ []) ≡ 0 = ap (λ o. length (marks_of older o)) (sym is) ∙ ap length these in
    let one = length-append (map mark_of older) (mark_of h ∷ []) in omega (arith, no, one)

-- the first of the older marks are given up
pub forgotten_first : (count : ℕ) (older left : List Held) (newest : Option Held) → count ≤ length older → left ≡ drop count older
    → marks_of left newest ≡ drop count (marks_of older newest)
forgotten_first count older left newest few is =
    let last = map mark_of (option_to_list newest) in
    ap (λ hs. map mark_of hs ++ last) is ∙ ap (λ ms. ms ++ last) (sym (drop-map mark_of count older))
    ∙ sym (drop-append-le count (map mark_of older) last (omega (arith, few, length-map older mark_of)))
