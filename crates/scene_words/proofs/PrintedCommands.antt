-- A printed command is read as that command, and its line is visible and short.
use Rattle.std.proofs.Common.{◌≡◌, ℕ, ◌+◌, ◌<◌, ◌≤◌, ◌^◌, Bool, true, false, not, ◌&&◌, ◌==◌, cond, bytes_eq, decimal, Some}
use Rattle.std.proofs.Common.{sym, ℤ, pos, negsuc, ◌≤ℤ◌, List, [], ◌∷◌, length, Ok, Err, refl, ap, ◌∙◌, arith, codes, IsTrue}
use Rattle.std.specs.List.{All, join_with_byte}
use Rattle.std.proofs.lemmas.Bool.Decides.{nat_tests}
use Rattle.std.proofs.lemmas.List.Elements.{All-nil, All-cons, All-weaker}
use Rattle.fixed_box.specs.Bounds.{Bounds}
use Rattle.fixed_box.specs.Fix.{fix, show}
use Rattle.fixed_box.specs.declared.point.Point.{Point}
use Rattle.fixed_box.specs.Point.{is_at_most}
use Rattle.live_table.specs.declared.handle.Handle.{Handle}
use Rattle.live_table.specs.declared.masks.Masks.{Masks}
use Rattle.ray_slabs.specs.Vector.{Vector, widened}
use Rattle.ray_slabs.specs.declared.ray.Ray.{Ray}
use Rattle.ray_slabs.specs.declared.seg.Seg.{Seg}
use Rattle.scene_words.specs.declared.command.Command.{Command}
use Rattle.scene_words.specs.declared.command.Command.TheVariants.{Blank, Header, Add, Move, Mask, Remove, Frame, BoxQ, PointQ, RayQ, SegQ, Cast, Near, Mark}
use Rattle.scene_words.specs.declared.command.Command.TheVariants.{Back}
use Rattle.scene_words.specs.declared.line_fault.LineFault.TheVariants as fault
use Rattle.box_cast.specs.declared.cast.Cast as way
use Rattle.live_table.specs.declared.group.Group.{Group}
use Rattle.scene_words.specs.declared.verb.Verb.TheVariants as verb
use Rattle.scene_words.specs.declared.version.Version.{Version}
use Rattle.scene_words.specs.declared.version.Version.TheVariants.{One, Two}
use Rattle.scene_words.specs.Values.{line_number, number_of_word}
use Rattle.scene_words.specs.Fronts.{group_from, group_said, flag_said, entry_said}
use Rattle.scene_words.specs.SceneWords.{command, command_of, further_of, point_at, box_between, add_of, move_of, mask_of, box_of, point_of, ray_of, seg_of}
use Rattle.scene_words.specs.SceneWords.{cast_of, near_of}
use Rattle.scene_words.specs.Printed.{IsWord, handle_text, mask_text, point_words, box_words, flag_words, group_words, command_words, printed, is_of_one}
use Rattle.scene_words.specs.Ranges.{IsRaw, IsRawVector, IsRawBox, IsHandle, IsMasks, IsWanted, IsInRange}
use Rattle.scene_words.proofs.Hexadecimal.{hex_length}
use Rattle.scene_words.proofs.JoinedWords.{IsInkWord, IsInk, ink_word, words_joined, joined_visible, joined_length, spaced_len}
use Rattle.scene_words.proofs.PrintedValues.{mask_read, mask_ink, handle_read, handle_ink, handle_length, owner_read, decimal_ink, index_length, want_read}
use Rattle.scene_words.proofs.PrintedValues.{want_small}
use Rattle.scene_words.proofs.TailCounts.{add_allowed, ray_allowed}
use Rattle.scene_words.proofs.TailWords.{IsLabelled, labels_ahead, IsListing, listing_ahead}

-- what is known of a printed number
pub record IsShown : Type 0 where
  pub back : (r : ℤ) → negsuc 2147483647 ≤ℤ r → r ≤ℤ pos 2147483647 → fix (show r) ≡ Ok r
  pub bytes : (r : ℤ) → negsuc 2147483647 ≤ℤ r → r ≤ℤ pos 2147483647 → All (λ b. (45 ≤ b) × (b ≤ 57)) (show r)
  pub short : (r : ℤ) → negsuc 2147483647 ≤ℤ r → r ≤ℤ pos 2147483647 → length (show r) ≤ 12

-- each byte lies past the sign of a comment
abbrev IsPlainText : List ℕ → Type 0
IsPlainText [] = Unit {0}
IsPlainText (b ∷ bs) = (36 ≤ b) × IsPlainText bs

-- a flag after a row
flags_said : (flag : List ℕ) (f : Bool) → bytes_eq flag flag ≡ true → flag_said flag (flag_words f flag) ≡ Some f
flags_said flag true same = rw same refl
flags_said flag false same = refl

fixed_said : (f : Bool) → group_said Two (flag_words f (codes "fixed")) ≡ Some (record { owner = 0; fixed = f })
fixed_said true = refl
fixed_said false = refl

-- the words of a group say it
group_two : (g : Group) → g.owner < 2 ^ 32 → group_said Two (group_words g) ≡ Some g
group_two g small = by_owner (g.owner == 0) refl
  where
    by_owner : (o : Bool) → (g.owner == 0) ≡ o
        → group_said Two (cond o (flag_words g.fixed (codes "fixed")) (codes "owner" ∷ decimal g.owner ∷ flag_words g.fixed (codes "fixed"))) ≡ Some g
    by_owner true is =
        let none : 0 ≡ g.owner = grind (arith, nat_tests) in
        fixed_said g.fixed ∙ ap (λ o. Some (record { owner = o; fixed = g.fixed })) none
    by_owner false is =
        ap (λ r. group_from r (flag_said (codes "fixed") (flag_words g.fixed (codes "fixed")))) (owner_read g.owner small)
        ∙ ap (group_from (Ok g.owner)) (flags_said (codes "fixed") g.fixed refl)

group_one : (g : Group) → (g.owner == 0 && not g.fixed) ≡ true → group_said One (group_words g) ≡ Some g
group_one g h = by_parts (g.owner == 0) g.fixed refl refl h
  where
    by_parts : (o f : Bool) → (g.owner == 0) ≡ o → g.fixed ≡ f → (o && not f) ≡ true
        → group_said One (cond o (flag_words f (codes "fixed")) (codes "owner" ∷ decimal g.owner ∷ flag_words f (codes "fixed"))) ≡ Some g
    by_parts true true is fixed k = absurd (cc)
    by_parts true false is fixed k =
        let none : 0 ≡ g.owner = grind (arith, nat_tests) in
        ap (λ o. Some (record { owner = o; fixed = false })) none ∙ ap (λ f. Some (record { owner = g.owner; fixed = f })) (sym fixed)
    by_parts false f is fixed k = absurd (cc)

entry_two : (e : Bool) → entry_said Two (flag_words e (codes "entry")) ≡ Some e
entry_two true = refl
entry_two false = refl

entry_one : (e : Bool) → not e ≡ true → entry_said One (flag_words e (codes "entry")) ≡ Some e
entry_one true h = absurd (cc)
entry_one false h = refl

-- what a version asks of a command that it has
abbrev pub IsSaid : Version → Command → Type 0
IsSaid One c = is_of_one c ≡ true
IsSaid Two c = Unit {0}

said_group : (version : Version) (b : Bounds) (m : Masks) (g : Group) → IsSaid version (Add b m g) → g.owner < 2 ^ 32
    → group_said version (group_words g) ≡ Some g
said_group One b m g said small = group_one g said
said_group Two b m g said small = group_two g small

said_entry : (version : Version) (r : Ray) (mask : ℕ) (e : Bool) → IsSaid version (RayQ r mask e)
    → entry_said version (flag_words e (codes "entry")) ≡ Some e
said_entry One r mask e said = entry_one e said
said_entry Two r mask e said = entry_two e

module _ (known : IsShown) where
  -- what each part is read as
  number_read : (r : ℤ) → IsRaw r → number_of_word (show r) ≡ Ok r
  number_read r h = ap line_number (known.back r h.0 h.1)

  point_read : (v : Vector) (more : List (List ℕ)) → IsRawVector v → point_at (point_words v more) ≡ Ok (record { x = v.x; y = v.y; z = v.z }, more)
  unfolding point_at
  point_read v more h = rw (number_read v.x h.x, number_read v.y h.y, number_read v.z h.z) refl

  between : (b : Bounds) → IsTrue (is_at_most b.lo b.hi) → box_between b.lo b.hi ≡ Ok b
  between b h = ap (λ t. cond t (Ok (record { lo = b.lo; hi = b.hi })) (Err fault.Inverted)) h

  labels_read : (version : Version) (m : Masks) (g : Group) → IsMasks m → group_said version (group_words g) ≡ Some g
      → IsLabelled version (mask_text m.is ∷ mask_text m.sees ∷ group_words g) m g
  labels_read version m g k said =
      labels_ahead version (mask_text m.is ∷ mask_text m.sees ∷ group_words g) (mask_text m.sees ∷ group_words g) (group_words g) m.is m.sees g
      (rw (mask_read m.is k.is) refl) (rw (mask_read m.sees k.sees) refl) said

  add_words : (version : Version) (b : Bounds) (m : Masks) (g : Group) → IsRawBox b
      → IsLabelled version (mask_text m.is ∷ mask_text m.sees ∷ group_words g) m g
      → add_of version (box_words b (mask_text m.is ∷ mask_text m.sees ∷ group_words g)) ≡ Ok (Add b m g)
  unfolding add_of
  add_words version b m g h labels =
      rw (
        point_read (widened b.lo) (point_words (widened b.hi) (mask_text m.is ∷ mask_text m.sees ∷ group_words g)) h.lo,
        point_read (widened b.hi) (mask_text m.is ∷ mask_text m.sees ∷ group_words g) h.hi,
        labels.labels,
        between b h.ordered,
      ) refl

  add_read : (version : Version) (b : Bounds) (m : Masks) (g : Group) → IsRawBox b → IsMasks m → group_said version (group_words g) ≡ Some g
      → command_of version (command_words (Add b m g)) ≡ Ok (Add b m g)
  unfolding command_of
  add_read version b m g h k said =
      let labels = labels_read version m g k said in
      ap (λ t. cond t (further_of version verb.Add (box_words b (mask_text m.is ∷ mask_text m.sees ∷ group_words g))) (Err fault.Count))
      (add_allowed version (box_words b (mask_text m.is ∷ mask_text m.sees ∷ group_words g)) (omega arith) labels.few)
      ∙ add_words version b m g h labels

  move_read : (n : Handle) (b : Bounds) → IsHandle n → IsRawBox b → move_of (handle_text n ∷ box_words b []) ≡ Ok (Move n b)
  unfolding move_of
  move_read n b k h =
      rw (handle_read n k, point_read (widened b.lo) (point_words (widened b.hi) []) h.lo, point_read (widened b.hi) [] h.hi, between b h.ordered) refl

  masks_read : (n : Handle) (m : Masks) → IsHandle n → IsMasks m
      → mask_of (handle_text n ∷ mask_text m.is ∷ mask_text m.sees ∷ []) ≡ Ok (Mask n m)
  unfolding mask_of
  masks_read n m k h = rw (handle_read n k, mask_read m.is h.is, mask_read m.sees h.sees) refl

  box_read : (b : Bounds) (mask : ℕ) → IsRawBox b → mask < 2 ^ 32 → box_of (box_words b (mask_text mask ∷ [])) ≡ Ok (BoxQ b mask)
  unfolding box_of
  box_read b mask h k =
      rw (
        point_read (widened b.lo) (point_words (widened b.hi) (mask_text mask ∷ [])) h.lo,
        point_read (widened b.hi) (mask_text mask ∷ []) h.hi,
        mask_read mask k,
        between b h.ordered,
      ) refl

  spot_read : (p : Point) (mask : ℕ) → IsRawVector (widened p) → mask < 2 ^ 32
      → point_of (point_words (widened p) (mask_text mask ∷ [])) ≡ Ok (PointQ p mask)
  unfolding point_of
  spot_read p mask h k = rw (point_read (widened p) (mask_text mask ∷ []) h, mask_read mask k) refl

  listing_read : (version : Version) (mask : ℕ) (e : Bool) → mask < 2 ^ 32 → entry_said version (flag_words e (codes "entry")) ≡ Some e
      → IsListing version (mask_text mask ∷ flag_words e (codes "entry")) mask e
  listing_read version mask e k said =
      listing_ahead version (mask_text mask ∷ flag_words e (codes "entry")) (flag_words e (codes "entry")) mask e (rw (mask_read mask k) refl) said

  ray_words : (version : Version) (r : Ray) (mask : ℕ) (e : Bool) → IsRawVector r.from → IsRawVector r.dir
      → IsListing version (mask_text mask ∷ flag_words e (codes "entry")) mask e
      → ray_of version (point_words r.from (point_words r.dir (mask_text mask ∷ flag_words e (codes "entry")))) ≡ Ok (RayQ r mask e)
  unfolding ray_of
  ray_words version r mask e h d listing =
      rw (
        point_read r.from (point_words r.dir (mask_text mask ∷ flag_words e (codes "entry"))) h,
        point_read r.dir (mask_text mask ∷ flag_words e (codes "entry")) d,
        listing.listing,
      ) refl

  ray_read : (version : Version) (r : Ray) (mask : ℕ) (e : Bool) → IsRawVector r.from → IsRawVector r.dir → mask < 2 ^ 32
      → entry_said version (flag_words e (codes "entry")) ≡ Some e → command_of version (command_words (RayQ r mask e)) ≡ Ok (RayQ r mask e)
  unfolding command_of
  ray_read version r mask e h d k said =
      let listing = listing_read version mask e k said in
      ap (λ t. cond t (further_of version verb.Ray (point_words r.from (point_words r.dir (mask_text mask ∷ flag_words e (codes "entry"))))) (Err fault.Count))
      (ray_allowed version (point_words r.from (point_words r.dir (mask_text mask ∷ flag_words e (codes "entry")))) (omega arith) listing.few)
      ∙ ray_words version r mask e h d listing

  seg_read : (r : Seg) (mask : ℕ) → IsRawVector r.a → IsRawVector r.b → mask < 2 ^ 32
      → seg_of (point_words r.a (point_words r.b (mask_text mask ∷ []))) ≡ Ok (SegQ r mask)
  unfolding seg_of
  seg_read r mask h d k =
      rw (point_read r.a (point_words r.b (mask_text mask ∷ [])) h, point_read r.b (mask_text mask ∷ []) d, mask_read mask k) refl

  cast_read : (c : way.Cast) (mask : ℕ) → IsRawBox c.body → IsRawVector (widened c.by) → mask < 2 ^ 32
      → cast_of (box_words c.body (point_words (widened c.by) (mask_text mask ∷ []))) ≡ Ok (Cast c mask)
  unfolding cast_of
  cast_read c mask h d k =
      rw (
        point_read (widened c.body.lo) (point_words (widened c.body.hi) (point_words (widened c.by) (mask_text mask ∷ []))) h.lo,
        point_read (widened c.body.hi) (point_words (widened c.by) (mask_text mask ∷ [])) h.hi,
        point_read (widened c.by) (mask_text mask ∷ []) d,
        mask_read mask k,
        between c.body h.ordered,
      ) refl

  near_read : (p : Point) (want mask : ℕ) → IsRawVector (widened p) → IsWanted want → mask < 2 ^ 32
      → near_of (point_words (widened p) (decimal want ∷ mask_text mask ∷ [])) ≡ Ok (Near p want mask)
  unfolding near_of
  near_read p want mask h w k =
      rw (point_read (widened p) (decimal want ∷ mask_text mask ∷ []) h, want_read want w, mask_read mask k) refl

  command_read : (version : Version) (c : Command) → IsInRange c → IsSaid version c → command_of version (command_words c) ≡ Ok c
  unfolding command_of
  command_read version Blank h said = refl
  command_read version (Header One) h said = refl
  command_read version (Header Two) h said = refl
  command_read version (Add body masks group) h said = add_read version body masks group h.0 h.1 (said_group version body masks group said h.2)
  command_read version (Move handle body) h said = move_read handle body h.0 h.1
  command_read version (Mask handle masks) h said = masks_read handle masks h.0 h.1
  command_read version (Remove handle) h said = rw (handle_read handle h) refl
  command_read version Frame h said = refl
  command_read version (BoxQ body mask) h said = box_read body mask h.0 h.1
  command_read version (PointQ at mask) h said = spot_read at mask h.0 h.1
  command_read version (RayQ ray mask entry) h said = ray_read version ray mask entry h.0 h.1 h.2 (said_entry version ray mask entry said)
  command_read version (SegQ seg mask) h said = seg_read seg mask h.0 h.1 h.2
  command_read One (Cast cast mask) h said = absurd (cc)
  command_read Two (Cast cast mask) h said = cast_read cast mask h.0 h.1 h.2
  command_read One (Near at want mask) h said = absurd (cc)
  command_read Two (Near at want mask) h said = near_read at want mask h.0 h.1 h.2
  command_read One Mark h said = absurd (cc)
  command_read Two Mark h said = refl
  command_read One Back h said = absurd (cc)
  command_read Two Back h said = refl

  -- each part is a word
  some_text : (text : List ℕ) (r : ℤ) → fix text ≡ Ok r → 0 < length text
  some_text [] r e = cc
  some_text (b ∷ bs) r e = omega arith

  number_ink : (r : ℤ) → IsRaw r → IsInkWord (show r)
  number_ink r h = record {
    some = some_text (show r) r (known.back r h.0 h.1);
    ink = All-weaker (λ b. (45 ≤ b) × (b ≤ 57)) IsInk (λ b l. omega (arith, l.0)) (show r) (known.bytes r h.0 h.1);
  }

  point_ink : (v : Vector) (more : List (List ℕ)) → IsRawVector v → All IsInkWord more → All IsInkWord (point_words v more)
  point_ink v more h k =
      All-cons IsInkWord (show v.x) (show v.y ∷ show v.z ∷ more) (number_ink v.x h.x)
      (All-cons IsInkWord (show v.y) (show v.z ∷ more) (number_ink v.y h.y) (All-cons IsInkWord (show v.z) more (number_ink v.z h.z) k))

  box_ink : (b : Bounds) (more : List (List ℕ)) → IsRawBox b → All IsInkWord more → All IsInkWord (box_words b more)
  box_ink b more h k = point_ink (widened b.lo) (point_words (widened b.hi) more) h.lo (point_ink (widened b.hi) more h.hi k)

  none : All IsInkWord []
  none = All-nil IsInkWord

  mask_then : (n : ℕ) (more : List (List ℕ)) → n < 2 ^ 32 → All IsInkWord more → All IsInkWord (mask_text n ∷ more)
  mask_then n more h k = All-cons IsInkWord (mask_text n) more (mask_ink n h) k

  masks_then : (m : Masks) (more : List (List ℕ)) → IsMasks m → All IsInkWord more → All IsInkWord (mask_text m.is ∷ mask_text m.sees ∷ more)
  masks_then m more h k = mask_then m.is (mask_text m.sees ∷ more) h.is (mask_then m.sees more h.sees k)

  handle_then : (n : Handle) (more : List (List ℕ)) → IsHandle n → All IsInkWord more → All IsInkWord (handle_text n ∷ more)
  handle_then n more h k = All-cons IsInkWord (handle_text n) more (handle_ink n h) k

  -- the word of a command comes first
  verb_then : (word : List ℕ) (more : List (List ℕ)) → 0 < length word → IsPlainText word → All IsInkWord more → All IsInkWord (word ∷ more)
  verb_then word more some h k = All-cons IsInkWord word more (record { some = some; ink = ink_of word h }) k
    where
      ink_of : (word : List ℕ) → IsPlainText word → All IsInk word
      ink_of [] h = All-nil IsInk
      ink_of (b ∷ bs) h = All-cons IsInk b bs h.0 (ink_of bs h.1)

  flag_ink : (flagged : Bool) (word : List ℕ) → 0 < length word → IsPlainText word → All IsInkWord (flag_words flagged word)
  flag_ink true word some h = verb_then word [] some h none
  flag_ink false word some h = none

  group_ink : (g : Group) → g.owner < 2 ^ 32 → All IsInkWord (group_words g)
  group_ink g small = by_owner (g.owner == 0)
    where
      flags : All IsInkWord (flag_words g.fixed (codes "fixed"))
      flags = flag_ink g.fixed (codes "fixed") (omega arith) (omega arith)

      by_owner : (o : Bool) → All IsInkWord (cond o (flag_words g.fixed (codes "fixed")) (codes "owner" ∷ decimal g.owner ∷ flag_words g.fixed (codes "fixed")))
      by_owner true = flags
      by_owner false = verb_then (codes "owner") (decimal g.owner ∷ flag_words g.fixed (codes "fixed")) (omega arith) (omega arith)
          (All-cons IsInkWord (decimal g.owner) (flag_words g.fixed (codes "fixed")) (decimal_ink g.owner small) flags)

  command_ink : (c : Command) → IsInRange c → All IsInkWord (command_words c)
  command_ink Blank h = none
  command_ink (Header One) h = verb_then (codes "scene") (codes "1" ∷ []) (omega arith) (omega arith)
      (verb_then (codes "1") [] (omega arith) (omega arith) none)
  command_ink (Header Two) h = verb_then (codes "scene") (codes "2" ∷ []) (omega arith) (omega arith)
      (verb_then (codes "2") [] (omega arith) (omega arith) none)
  command_ink (Add body masks group) h =
      verb_then (codes "add") (box_words body (mask_text masks.is ∷ mask_text masks.sees ∷ group_words group)) (omega arith) (omega arith)
      (box_ink body (mask_text masks.is ∷ mask_text masks.sees ∷ group_words group) h.0 (masks_then masks (group_words group) h.1 (group_ink group h.2)))
  command_ink (Move handle body) h = verb_then (codes "move") (handle_text handle ∷ box_words body []) (omega arith) (omega arith)
      (handle_then handle (box_words body []) h.0 (box_ink body [] h.1 none))
  command_ink (Mask handle masks) h = verb_then (codes "mask") (handle_text handle ∷ mask_text masks.is ∷ mask_text masks.sees ∷ []) (omega arith)
      (omega arith)
      (handle_then handle (mask_text masks.is ∷ mask_text masks.sees ∷ []) h.0 (masks_then masks [] h.1 none))
  command_ink (Remove handle) h = verb_then (codes "remove") (handle_text handle ∷ []) (omega arith) (omega arith) (handle_then handle [] h none)
  command_ink Frame h = verb_then (codes "frame") [] (omega arith) (omega arith) none
  command_ink (BoxQ body mask) h = verb_then (codes "box") (box_words body (mask_text mask ∷ [])) (omega arith) (omega arith)
      (box_ink body (mask_text mask ∷ []) h.0 (mask_then mask [] h.1 none))
  command_ink (PointQ at mask) h = verb_then (codes "point") (point_words (widened at) (mask_text mask ∷ [])) (omega arith) (omega arith)
      (point_ink (widened at) (mask_text mask ∷ []) h.0 (mask_then mask [] h.1 none))
  command_ink (RayQ ray mask entry) h =
      let flags = flag_words entry (codes "entry") in
      verb_then (codes "ray") (point_words ray.from (point_words ray.dir (mask_text mask ∷ flags))) (omega arith) (omega arith)
      (point_ink ray.from (point_words ray.dir (mask_text mask ∷ flags)) h.0
      (point_ink ray.dir (mask_text mask ∷ flags) h.1 (mask_then mask flags h.2 (flag_ink entry (codes "entry") (omega arith) (omega arith)))))
  command_ink (SegQ seg mask) h = verb_then (codes "seg") (point_words seg.a (point_words seg.b (mask_text mask ∷ []))) (omega arith) (omega arith)
      (point_ink seg.a (point_words seg.b (mask_text mask ∷ [])) h.0 (point_ink seg.b (mask_text mask ∷ []) h.1 (mask_then mask [] h.2 none)))
  command_ink (Cast cast mask) h =
      verb_then (codes "cast") (box_words cast.body (point_words (widened cast.by) (mask_text mask ∷ []))) (omega arith) (omega arith)
      (box_ink cast.body (point_words (widened cast.by) (mask_text mask ∷ [])) h.0
      (point_ink (widened cast.by) (mask_text mask ∷ []) h.1 (mask_then mask [] h.2 none)))
  command_ink (Near at want mask) h = verb_then (codes "near") (point_words (widened at) (decimal want ∷ mask_text mask ∷ [])) (omega arith) (omega arith)
      (point_ink (widened at) (decimal want ∷ mask_text mask ∷ []) h.0
      (All-cons IsInkWord (decimal want) (mask_text mask ∷ []) (decimal_ink want (want_small want h.1)) (mask_then mask [] h.2 none)))
  command_ink Mark h = verb_then (codes "mark") [] (omega arith) (omega arith) none
  command_ink Back h = verb_then (codes "back") [] (omega arith) (omega arith) none

  -- how long its words are, each with a space before it
  point_length : (v : Vector) (more : List (List ℕ)) → IsRawVector v → spaced_len (point_words v more) ≤ 39 + spaced_len more
  point_length v more h = omega (arith, known.short v.x h.x.0 h.x.1, known.short v.y h.y.0 h.y.1, known.short v.z h.z.0 h.z.1)

  points_length : (p q : Vector) (more : List (List ℕ)) → IsRawVector p → IsRawVector q
      → spaced_len (point_words p (point_words q more)) ≤ 78 + spaced_len more
  points_length p q more h k = omega (arith, point_length p (point_words q more) h, point_length q more k)

  joined_within : (word : List ℕ) (more : List (List ℕ)) → length word + spaced_len more ≤ 130 → length (join_with_byte 32 (word ∷ more)) ≤ 130
  joined_within word more h = omega (arith, joined_length word more)

  flag_length : (flagged : Bool) (word : List ℕ) → spaced_len (flag_words flagged word) ≤ 1 + length word
  flag_length true word = omega arith
  flag_length false word = omega arith

  group_length : (g : Group) → g.owner < 2 ^ 32 → spaced_len (group_words g) ≤ 23
  group_length g small = by_owner (g.owner == 0)
    where
      by_owner : (o : Bool)
          → spaced_len (cond o (flag_words g.fixed (codes "fixed")) (codes "owner" ∷ decimal g.owner ∷ flag_words g.fixed (codes "fixed"))) ≤ 23
      by_owner true = omega (arith, flag_length g.fixed (codes "fixed"))
      by_owner false = omega (arith, flag_length g.fixed (codes "fixed"), index_length g.owner small)

  pub short : (c : Command) → IsInRange c → length (printed c) ≤ 130
  short Blank h = omega arith
  short (Header One) h = omega arith
  short (Header Two) h = omega arith
  short (Add body masks group) h = joined_within (codes "add") (box_words body (mask_text masks.is ∷ mask_text masks.sees ∷ group_words group))
      (omega (
        arith,
        points_length (widened body.lo) (widened body.hi) (mask_text masks.is ∷ mask_text masks.sees ∷ group_words group) h.0.lo h.0.hi,
        hex_length masks.is h.1.is,
        hex_length masks.sees h.1.sees,
        group_length group h.2,
      ))
  short (Move handle body) h = joined_within (codes "move") (handle_text handle ∷ box_words body [])
      (omega (arith, handle_length handle h.0, points_length (widened body.lo) (widened body.hi) [] h.1.lo h.1.hi))
  short (Mask handle masks) h = joined_within (codes "mask") (handle_text handle ∷ mask_text masks.is ∷ mask_text masks.sees ∷ [])
      (omega (arith, handle_length handle h.0, hex_length masks.is h.1.is, hex_length masks.sees h.1.sees))
  short (Remove handle) h = joined_within (codes "remove") (handle_text handle ∷ []) (omega (arith, handle_length handle h))
  short Frame h = omega arith
  short (BoxQ body mask) h = joined_within (codes "box") (box_words body (mask_text mask ∷ []))
      (omega (arith, points_length (widened body.lo) (widened body.hi) (mask_text mask ∷ []) h.0.lo h.0.hi, hex_length mask h.1))
  short (PointQ at mask) h = joined_within (codes "point") (point_words (widened at) (mask_text mask ∷ []))
      (omega (arith, point_length (widened at) (mask_text mask ∷ []) h.0, hex_length mask h.1))
  short (RayQ ray mask entry) h = joined_within (codes "ray") (point_words ray.from (point_words ray.dir (mask_text mask ∷ flag_words entry (codes "entry"))))
      (omega (
        arith,
        points_length ray.from ray.dir (mask_text mask ∷ flag_words entry (codes "entry")) h.0 h.1,
        hex_length mask h.2,
        flag_length entry (codes "entry"),
      ))
  short (SegQ seg mask) h = joined_within (codes "seg") (point_words seg.a (point_words seg.b (mask_text mask ∷ [])))
      (omega (arith, points_length seg.a seg.b (mask_text mask ∷ []) h.0 h.1, hex_length mask h.2))
  short (Cast cast mask) h = joined_within (codes "cast") (box_words cast.body (point_words (widened cast.by) (mask_text mask ∷ [])))
      (omega (
        arith,
        points_length (widened cast.body.lo) (widened cast.body.hi) (point_words (widened cast.by) (mask_text mask ∷ [])) h.0.lo h.0.hi,
        point_length (widened cast.by) (mask_text mask ∷ []) h.1,
        hex_length mask h.2,
      ))
  short (Near at want mask) h = joined_within (codes "near") (point_words (widened at) (decimal want ∷ mask_text mask ∷ []))
      (omega (
        arith,
        point_length (widened at) (decimal want ∷ mask_text mask ∷ []) h.0,
        index_length want (want_small want h.1),
        hex_length mask h.2,
      ))
  short Mark h = omega arith
  short Back h = omega arith

  said_back : (version : Version) (c : Command) → IsInRange c → IsSaid version c → command version (printed c) ≡ Ok c
  said_back version c h said =
      ap (command_of version) (words_joined (command_words c) (All-weaker IsInkWord IsWord ink_word (command_words c) (command_ink c h)))
      ∙ command_read version c h said

  pub reads_back : (c : Command) → IsInRange c → command Two (printed c) ≡ Ok c
  reads_back c h = said_back Two c h tt

  pub reads_back_before : (c : Command) → IsInRange c → is_of_one c ≡ true → command One (printed c) ≡ Ok c
  reads_back_before c h said = said_back One c h said

  pub visible : (c : Command) → IsInRange c → All (λ b. 32 ≤ b) (printed c)
  visible c h = joined_visible (command_words c) (command_ink c h)
