-- Serves proofs alone: what each change, frame, mark and way back makes of the worlds that the marks stand for, and of the way
-- back to them.
use Rattle.std.proofs.Common.{◌≡◌, ◌≢◌, ℕ, ◌+◌, ◌-◌, suc, true, false, nat_lt, List, [], ◌∷◌, ◌++◌, Option, Some, None, reverse, length, take, drop, refl}
use Rattle.std.proofs.Common.{sym, ap, ◌∙◌, subst, arith}
use Rattle.std.proofs.lemmas.List.{reverse-append, length-reverse, length-drop, take-append-drop}
use Rattle.live_table.specs.Table.{Table}
use Rattle.pair_events.specs.declared.hpair.HPair.{HPair}
use Rattle.pair_events.specs.PairEvents.{is_in_order}
use Rattle.world_marks.specs.declared.TheConstants.{MOST_MARKS}
use Rattle.world_marks.specs.declared.undo.Undo.{Undo}
use Rattle.world_marks.specs.Marks.{Mark, fresh, noted, keeping, or_kept, with_newest, IsReturn}
use Rattle.world_marks.specs.Undone.{after_undo, undone, CanUndo, AreUndoable}
use Rattle.box_world.specs.World.{World, Timeline, marked, forgotten}
use Rattle.box_world.specs.Parts.{marked_world, worlds_back, CanReturn}

-- the laws of lists of changes that are cited here: such a list is undone in two parts
abbrev pub IsSplit : Type 0
IsSplit = (sooner later : List Undo) (t : Table) → undone (sooner ++ later) t ≡ undone sooner (undone later t)

abbrev pub IsWhole : Type 0
IsWhole = (sooner later : List Undo) (t : Table) → AreUndoable sooner (undone later t) → AreUndoable later t → AreUndoable (sooner ++ later) t

-- the first of marks, which is the newest where they stand so, changed
abbrev pub with_first : (Mark → Mark) → List Mark → List Mark
with_first change [] = []
with_first change (m ∷ ms) = change m ∷ ms

pub reverse-push : (ms : List Mark) (m : Mark) → reverse (ms ++ m ∷ []) ≡ m ∷ reverse ms
reverse-push ms m = reverse-append ms (m ∷ [])

reverse-cons : (m : Mark) (ms : List Mark) → reverse (m ∷ ms) ≡ reverse ms ++ m ∷ []
reverse-cons m ms = reverse-append (m ∷ []) ms

with_first-push : (change : Mark → Mark) (ms : List Mark) (n m : Mark)
    → with_first change (ms ++ n ∷ []) ++ m ∷ [] ≡ with_first change ((ms ++ n ∷ []) ++ m ∷ [])
with_first-push change [] n m = refl
with_first-push change (x ∷ ms) n m = refl

pub reverse-with_newest : (change : Mark → Mark) (ms : List Mark) → reverse (with_newest change ms) ≡ with_first change (reverse ms)
reverse-with_newest change [] = refl
reverse-with_newest change (m ∷ []) = refl
reverse-with_newest change (m ∷ n ∷ ms) =
    reverse-cons m (with_newest change (n ∷ ms)) ∙ ap (λ xs. xs ++ m ∷ []) (reverse-with_newest change (n ∷ ms))
    ∙ ap (λ xs. with_first change xs ++ m ∷ []) (reverse-cons n ms) ∙ with_first-push change (reverse ms) n m
    ∙ ap (λ xs. with_first change (xs ++ m ∷ [])) (sym (reverse-cons n ms)) ∙ ap (with_first change) (sym (reverse-cons m (n ∷ ms)))

-- a change of the table that is noted
changed_first : IsSplit → (w : World) (t : Table) (x : ℕ) (undo : Undo) (ms : List Mark) → after_undo t undo ≡ w.table
    → worlds_back (record w { table = t; exchanges = x }) (with_first (noted undo) ms) ≡ worlds_back w ms
changed_first split w t x undo [] back = refl
changed_first split w t x undo (m ∷ older) back =
    let same : undone (m.undos ++ undo ∷ []) t ≡ undone m.undos w.table = split m.undos (undo ∷ []) t ∙ ap (undone m.undos) back in
    ap (λ s. let v : World = record (marked_world w m) { table = s } in v ∷ worlds_back v older) same

pub changed_worlds : IsSplit → (w : World) (t : Table) (x : ℕ) (undo : Undo) (ms ns : List Mark) → ns ≡ with_newest (noted undo) ms
    → after_undo t undo ≡ w.table
    → worlds_back (record w { table = t; exchanges = x }) (reverse ns) ≡ worlds_back w (reverse ms)
changed_worlds split w t x undo ms ns is back =
    ap (λ ks. worlds_back (record w { table = t; exchanges = x }) ks) (ap reverse is ∙ reverse-with_newest (noted undo) ms)
    ∙ changed_first split w t x undo (reverse ms) back

returns_first : IsSplit → IsWhole → (s t : Table) (undo : Undo) (ms : List Mark) → CanUndo undo t → after_undo t undo ≡ s → CanReturn s ms
    → CanReturn t (with_first (noted undo) ms)
returns_first split whole s t undo [] can back h = tt
returns_first split whole s t undo (m ∷ older) can back h =
    let same : undone (m.undos ++ undo ∷ []) t ≡ undone m.undos s = split m.undos (undo ∷ []) t ∙ ap (undone m.undos) back in (
      record {
        undoable = whole m.undos (undo ∷ []) t (subst (AreUndoable m.undos) (sym back) h.0.undoable) (can, tt);
        ordered = h.0.ordered;
      },
      subst (λ r. CanReturn r older) (sym same) h.1,
    )

pub changed_returns : IsSplit → IsWhole → (s t : Table) (undo : Undo) (ms ns : List Mark) → ns ≡ with_newest (noted undo) ms → CanUndo undo t
    → after_undo t undo ≡ s
    → CanReturn s (reverse ms) → CanReturn t (reverse ns)
changed_returns split whole s t undo ms ns is can back h =
    subst (CanReturn t) (sym (ap reverse is ∙ reverse-with_newest (noted undo) ms)) (returns_first split whole s t undo (reverse ms) can back h)

-- a frame, whose former pairs are kept
framed_first : (w : World) (last : List HPair) (frames exchanges : ℕ) (ms : List Mark)
    → worlds_back (record w { last = last; frames = frames; exchanges = exchanges }) (with_first (keeping w.last) ms) ≡ worlds_back w ms
framed_first w last frames exchanges [] = refl
framed_first w last frames exchanges (m ∷ older) = refl

pub framed_worlds : (w : World) (last : List HPair) (frames exchanges : ℕ) (ms ns : List Mark) → ns ≡ with_newest (keeping w.last) ms
    → worlds_back (record w { last = last; frames = frames; exchanges = exchanges }) (reverse ns) ≡ worlds_back w (reverse ms)
framed_worlds w last frames exchanges ms ns is =
    ap (λ ks. worlds_back (record w { last = last; frames = frames; exchanges = exchanges }) ks) (ap reverse is ∙ reverse-with_newest (keeping w.last) ms)
    ∙ framed_first w last frames exchanges (reverse ms)

kept_ordered : (kept : Option (List HPair)) (last : List HPair) → is_in_order last ≡ true → is_in_order (or_kept kept []) ≡ true
    → is_in_order (or_kept kept last) ≡ true
kept_ordered None last h g = h
kept_ordered (Some ps) last h g = g

framed_returns_first : (t : Table) (last : List HPair) (ms : List Mark) → is_in_order last ≡ true → CanReturn t ms
    → CanReturn t (with_first (keeping last) ms)
framed_returns_first t last [] h g = tt
framed_returns_first t last (m ∷ older) h g =
    (record { undoable = g.0.undoable; ordered = kept_ordered m.kept last h g.0.ordered }, g.1)

pub framed_returns : (t : Table) (last : List HPair) (ms ns : List Mark) → ns ≡ with_newest (keeping last) ms → is_in_order last ≡ true
    → CanReturn t (reverse ms) → CanReturn t (reverse ns)
framed_returns t last ms ns is h g =
    subst (CanReturn t) (sym (ap reverse is ∙ reverse-with_newest (keeping last) ms)) (framed_returns_first t last (reverse ms) h g)

-- a mark of the world as it stands
pub marked_worlds : (w : World) (ms ns : List Mark) → ns ≡ ms ++ fresh w.frames w.exchanges ∷ []
    → worlds_back w (reverse ns) ≡ w ∷ worlds_back w (reverse ms)
marked_worlds w ms ns is = ap (λ ks. worlds_back w (reverse ks)) is ∙ ap (worlds_back w) (reverse-push ms (fresh w.frames w.exchanges))

-- the way back to the newest mark
pub back_worlds : (w : World) (older : List Mark) (m : Mark) (ms : List Mark) → ms ≡ older ++ m ∷ []
    → worlds_back w (reverse ms) ≡ marked_world w m ∷ worlds_back (marked_world w m) (reverse older)
back_worlds w older m ms is = ap (λ ks. worlds_back w (reverse ks)) is ∙ ap (worlds_back w) (reverse-push older m)

pub back_returns : (t : Table) (older : List Mark) (m : Mark) (ms : List Mark) → ms ≡ older ++ m ∷ [] → CanReturn t (reverse ms)
    → IsReturn m t × CanReturn (undone m.undos t) (reverse older)
back_returns t older m ms is h = subst (CanReturn t) (ap reverse is ∙ reverse-push older m) h

-- a change that nobody notes, where no mark is held
pub unmarked_worlds : (v w : World) (ms ns : List Mark) → ms ≡ [] → ns ≡ ms → worlds_back v (reverse ns) ≡ worlds_back w (reverse ms)
unmarked_worlds v w ms ns none same = rw (same, none) refl

pub unmarked_returns : (t : Table) (ms ns : List Mark) → ms ≡ [] → ns ≡ ms → CanReturn t (reverse ns)
unmarked_returns t ms ns none same = rw (same, none) tt

-- as many worlds as marks
length-worlds : (w : World) (ms : List Mark) → length (worlds_back w ms) ≡ length ms
length-worlds w [] = refl
length-worlds w (m ∷ older) = ap suc (length-worlds (marked_world w m) older)

pub marks_as_worlds : (w : World) (ms : List Mark) → length (worlds_back w (reverse ms)) ≡ length ms
marks_as_worlds w ms = length-worlds w (reverse ms) ∙ length-reverse ms

-- no mark where there is no marked world
pub no_worlds : (w : World) (ms : List Mark) → worlds_back w (reverse ms) ≡ [] → ms ≡ []
no_worlds w [] none = refl
no_worlds w (m ∷ ms) none =
    let many : length (worlds_back w (reverse (m ∷ ms))) ≡ suc (length ms) = marks_as_worlds w (m ∷ ms) in
    let few : length (worlds_back w (reverse (m ∷ ms))) ≡ 0 = ap length none in absurd (omega (arith, many, few))

-- the newer marks lead to their worlds without the older ones
worlds_of_newer : (w : World) (ms older : List Mark) → take (length ms) (worlds_back w (ms ++ older)) ≡ worlds_back w ms
worlds_of_newer w [] older = refl
worlds_of_newer w (m ∷ ms) older = ap (λ ws. marked_world w m ∷ ws) (worlds_of_newer (marked_world w m) ms older)

returns_of_newer : (t : Table) (ms older : List Mark) → CanReturn t (ms ++ older) → CanReturn t ms
returns_of_newer t [] older h = tt
returns_of_newer t (m ∷ ms) older h = (h.0, returns_of_newer (undone m.undos t) ms older h.1)

reverse-parts : (count : ℕ) (ms : List Mark) → reverse ms ≡ reverse (drop count ms) ++ reverse (take count ms)
reverse-parts count ms = ap reverse (sym (take-append-drop count ms)) ∙ reverse-append (take count ms) (drop count ms)

-- the oldest marks are given up, which are the first ones
pub forgotten_worlds : (w : World) (count : ℕ) (ms ns : List Mark) → ns ≡ drop count ms
    → worlds_back w (reverse ns) ≡ take (length (worlds_back w (reverse ms)) - count) (worlds_back w (reverse ms))
forgotten_worlds w count ms ns is =
    let newer = reverse (drop count ms) in
    let older = reverse (take count ms) in
    let left : length newer ≡ length (worlds_back w (reverse ms)) - count =
    length-reverse (drop count ms) ∙ length-drop count ms ∙ ap (λ n. n - count) (sym (marks_as_worlds w ms)) in
    ap (λ ks. worlds_back w (reverse ks)) is ∙ sym (worlds_of_newer w newer older) ∙ ap (λ n. take n (worlds_back w (newer ++ older))) left
    ∙ ap (λ ks. take (length (worlds_back w (reverse ms)) - count) (worlds_back w ks)) (sym (reverse-parts count ms))

pub forgotten_returns : (t : Table) (count : ℕ) (ms ns : List Mark) → ns ≡ drop count ms → CanReturn t (reverse ms) → CanReturn t (reverse ns)
forgotten_returns t count ms ns is h =
    subst (λ ks. CanReturn t (reverse ks)) (sym is)
    (returns_of_newer t (reverse (drop count ms)) (reverse (take count ms)) (subst (CanReturn t) (reverse-parts count ms) h))

-- marks are given up where so many are held, and else none
pub after_forget : (t : Timeline) (count : ℕ) → nat_lt (length t.marks) count ≡ false
    → forgotten count t ≡ record t { marks = take (length t.marks - count) t.marks }
after_forget t count enough = rw enough refl

pub after_no_forget : (t : Timeline) (count : ℕ) → nat_lt (length t.marks) count ≡ true → forgotten count t ≡ t
after_no_forget t count few = rw few refl

-- the last of marks
pub record EndsIn (ms : List Mark) : Type 0 where
  pub older : List Mark
  pub newest : Mark
  pub is : ms ≡ older ++ newest ∷ []

pub ends_in : (ms : List Mark) → ms ≢ [] → EndsIn ms
ends_in [] some = absurd (some refl)
ends_in (m ∷ ms) some = go m ms
  where
    go : (m : Mark) (ms : List Mark) → EndsIn (m ∷ ms)
    go m [] = record { older = []; newest = m; is = refl }
    go m (n ∷ ms) = let rest = go n ms in record { older = m ∷ rest.older; newest = rest.newest; is = ap (λ xs. m ∷ xs) rest.is }

-- a mark of the world, where there is room, and where there is none
pub after_mark : (t : Timeline) → nat_lt (length t.marks) MOST_MARKS ≡ true → marked t ≡ record t { marks = t.now ∷ t.marks }
after_mark t some = rw some refl

pub after_no_mark : (t : Timeline) → nat_lt (length t.marks) MOST_MARKS ≡ false → marked t ≡ t
after_no_mark t none = rw none refl

pub same_world : (t u : Table) (ps qs : List HPair) (f g x y : ℕ) → t ≡ u → ps ≡ qs → f ≡ g → x ≡ y
    → ◌≡◌ {A = World} (record { table = t; last = ps; frames = f; exchanges = x }) (record { table = u; last = qs; frames = g; exchanges = y })
same_world t u ps qs f g x y et ep ef ex =
    ap (λ a. record { table = a; last = ps; frames = f; exchanges = x }) et ∙ ap (λ a. record { table = u; last = a; frames = f; exchanges = x }) ep
    ∙ ap (λ a. record { table = u; last = qs; frames = a; exchanges = x }) ef ∙ ap (λ a. record { table = u; last = qs; frames = g; exchanges = a }) ex

pub same_time : (v w : World) (vs ws : List World) → v ≡ w → vs ≡ ws
    → ◌≡◌ {A = Timeline} (record { now = v; marks = vs }) (record { now = w; marks = ws })
same_time v w vs ws e es = ap (λ a. record { now = a; marks = vs }) e ∙ ap (λ a. record { now = w; marks = a }) es

-- marked worlds have their own number of exchanges
pub same_worlds : (v w : World) (ms : List Mark) → v.table ≡ w.table → v.last ≡ w.last → worlds_back v ms ≡ worlds_back w ms
same_worlds v w [] table last = refl
same_worlds v w (m ∷ older) table last =
    let same : marked_world v m ≡ marked_world w m = same_world _ _ _ _ m.frames m.frames m.exchanges m.exchanges (ap (undone m.undos) table)
    (ap (or_kept m.kept) last) refl refl in
    ap (λ u. u ∷ worlds_back u older) same

-- a frame is counted, whose pairs are the last ones now
pub counted_time : (v w : World) (ps : List HPair) (ms : List Mark) (ws : List World) (x : ℕ)
    → ◌≡◌ {A = Timeline} (record { now = v; marks = worlds_back v ms }) (record { now = record w { last = ps }; marks = ws }) → x ≡ 0
    → ◌≡◌ {A = Timeline} (record {
      now = record v { frames = v.frames + 1; exchanges = x };
      marks = worlds_back (record v { frames = v.frames + 1; exchanges = x }) ms;
    }) (record { now = record w { last = ps; frames = w.frames + 1; exchanges = 0 }; marks = ws })
counted_time v w ps ms ws x told none =
    let last : v ≡ record w { last = ps } = ap (λ t. t.now) told in
    let now : World = record v { frames = v.frames + 1; exchanges = x } in
    same_time now (record w { last = ps; frames = w.frames + 1; exchanges = 0 }) (worlds_back now ms) ws
    (ap (λ (u : World). record u { frames = u.frames + 1; exchanges = x }) last
    ∙ ap (λ n. record w { last = ps; frames = w.frames + 1; exchanges = n }) none)
    (same_worlds now v ms refl refl ∙ ap (λ t. t.marks) told)
