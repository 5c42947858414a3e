-- One line raises each number of a world by at most so much, and those of its marks not at all.
use Rattle.std.proofs.Common.{◌≡◌, ◌≢◌, ◌⊎◌, inl, inr, ℕ, ◌+◌, ◌*◌, ◌^◌, ◌<◌, ◌≤◌, ◌||◌, Bool, true, false, cond, nat_lt, List, [], ◌∷◌, Some, None}
use Rattle.std.proofs.Common.{eqb, eq-eqb, ne_eqb, true≢false, refl, sym, ◌∙◌}
use Rattle.std.proofs.Common.{length, get_or, sum, ap, arith}
use Rattle.std.specs.List.{All}
use Rattle.std.proofs.lemmas.Bool.{cases_lt, le-ltb}
use Rattle.std.proofs.lemmas.List.{set_past}
use Rattle.std.proofs.lemmas.List.Sums.{sum_by-set}
use Rattle.std.proofs.lemmas.List.Elements.{All-cons, All-head, All-tail, All-weaker}
use Rattle.fixed_box.specs.Bounds.{Bounds}
use Rattle.fixed_box.specs.declared.TheConstants.{SLOTS}
use Rattle.live_table.specs.declared.TheConstants.{MOST_GIVES}
use Rattle.live_table.specs.declared.group.Group.{Group}
use Rattle.live_table.specs.declared.handle.Handle.{Handle}
use Rattle.live_table.specs.declared.masks.Masks.{Masks}
use Rattle.live_table.specs.Table.{Table, IsTable, least_free, raised}
use Rattle.world_marks.specs.declared.TheConstants.{MOST_MARKS}
use Rattle.box_world.specs.declared.TheConstants.{MOST_EXCHANGES}
use Rattle.box_world.specs.declared.refusal.Refusal.TheVariants.{Full, Exhausted}
use Rattle.box_world.specs.Answers.{add_refusal, is_counted_out}
use Rattle.box_world.specs.World.{World as Boxes, Timeline, counted, exchanges_of_add, exchanges_of_move, added, moved, marked, back_to}
use Rattle.scene_words.specs.declared.command.Command.{Command}
use Rattle.scene_words.specs.declared.command.Command.TheVariants.{Blank, Header, Add, Move, Mask, Remove, Frame, BoxQ, PointQ, RayQ, SegQ, Cast, Near, Mark}
use Rattle.scene_words.specs.declared.command.Command.TheVariants.{Back}
use Rattle.play_rules.specs.Counted.{IsSmall, IsCounted}
use Rattle.play_rules.specs.World.{World, after}

-- what is known of the exchanges of one change
abbrev pub FewAdded : Type 0
FewAdded = (counts : Bool) (w : Boxes) (body : Bounds) → IsTable w.table → counted counts (exchanges_of_add w body) ≤ 12 * SLOTS

abbrev pub FewMoved : Type 0
FewMoved = (counts : Bool) (w : Boxes) (handle : Handle) (body : Bounds) → IsTable w.table → counted counts (exchanges_of_move w handle body) ≤ 12 * SLOTS

-- what is known of a table without a free slot
abbrev pub IsOpen : Type 0
IsOpen = (t : Table) → IsTable t → sum t.gives < MOST_GIVES → least_free t ≡ SLOTS → length t.entries ≡ SLOTS

-- no number that an add needs is at its end
pub may_add : IsOpen → (n : ℕ) (w : Boxes) → IsTable w.table → n < 2 ^ 28 → IsSmall n w
    → add_refusal w ≢ Some Exhausted
may_add known n w is few small =
    let gives = small.gives in let exchanges = small.exchanges in
    elim (eqb (length w.table.entries) SLOTS) as (λ b. eqb (length w.table.entries) SLOTS ≡ b
    → cond b (Some Full) (cond (eqb (least_free w.table) SLOTS || is_counted_out w) (Some Exhausted) None) ≢ Some Exhausted) [
      | true ↦ λ _ e. cc
      | false ↦ λ room.
          let unfull : eqb (least_free w.table) SLOTS ≡ false = ne_eqb (least_free w.table) SLOTS
          (λ full. absurd (true≢false (sym (eq-eqb (length w.table.entries) SLOTS (known w.table is (omega (arith, gives, few)) full)) ∙ room))) in
          let within : is_counted_out w ≡ false = le-ltb MOST_EXCHANGES w.exchanges (omega (arith, exchanges, few)) in
          rw (unfull, within) (λ e. cc)
    ] refl

-- one more give, or none where there is no such slot
raised_sum : (gives : List ℕ) (slot : ℕ) → sum (raised gives slot) ≤ sum gives + 1
raised_sum gives slot = by_place (cases_lt slot (length gives))
  where
    by_place : (slot < length gives) ⊎ (length gives ≤ slot) → sum (raised gives slot) ≤ sum gives + 1
    by_place (inl within) =
        let moved : sum (raised gives slot) + get_or gives slot 0 ≡ sum gives + (get_or gives slot 0 + 1) =
        sum_by-set (λ x. x) gives slot (get_or gives slot 0 + 1) 0 within in
        omega (arith, moved)
    by_place (inr past) = let same : sum (raised gives slot) ≡ sum gives = ap sum (set_past gives slot (get_or gives slot 0 + 1) past) in omega (arith, same)

module _ (few_added : FewAdded) (few_moved : FewMoved) (counts : Bool) (n : ℕ) where
  small_later : (w : Boxes) → IsSmall n w → IsSmall (n + 1) w
  small_later w h =
      let gives = h.gives in let frames = h.frames in let exchanges = h.exchanges in
      record { gives = omega (arith, gives); frames = omega (arith, frames); exchanges = omega (arith, exchanges) }

  marks_later : (ws : List Boxes) → All (IsSmall n) ws → All (IsSmall (n + 1)) ws
  marks_later ws h = All-weaker (IsSmall n) (IsSmall (n + 1)) small_later ws h

  later : (t : Timeline) → IsCounted n t → IsCounted (n + 1) t
  later t h = record { now = small_later t.now h.now; marks = marks_later t.marks h.marks }

  small_added : (w : Boxes) (body : Bounds) (masks : Masks) (group : Group) → IsTable w.table → IsSmall n w
      → IsSmall (n + 1) (added counts w body masks group)
  small_added w body masks group is h =
      let gives = h.gives in let frames = h.frames in let exchanges = h.exchanges in
      let more = raised_sum w.table.gives (least_free w.table) in
      let few = few_added counts w body is in
      record { gives = omega (arith, gives, more); frames = omega (arith, frames); exchanges = omega (arith, exchanges, few) }

  small_moved : (w : Boxes) (handle : Handle) (body : Bounds) → IsTable w.table → IsSmall n w → IsSmall (n + 1) (moved counts w handle body)
  small_moved w handle body is h =
      let gives = h.gives in let frames = h.frames in let exchanges = h.exchanges in
      let few = few_moved counts w handle body is in
      record { gives = omega (arith, gives); frames = omega (arith, frames); exchanges = omega (arith, exchanges, few) }

  counted_marked : (t : Timeline) → IsCounted n t → IsCounted (n + 1) (marked t)
  counted_marked t h = elim (nat_lt (length t.marks) MOST_MARKS) as (λ b. IsCounted (n + 1) (cond b (record t { marks = t.now ∷ t.marks }) t)) [
    | true ↦ record {
      now = small_later t.now h.now;
      marks = All-cons (IsSmall (n + 1)) t.now t.marks (small_later t.now h.now) (marks_later t.marks h.marks);
    }
    | false ↦ later t h
  ]

  counted_back : (t : Timeline) (ws : List Boxes) → IsCounted n t → All (IsSmall n) ws → IsCounted (n + 1) (back_to t ws)
  counted_back t [] h held = later t h
  counted_back t (w ∷ older) h held =
      record { now = small_later w (All-head (IsSmall n) w older held); marks = marks_later older (All-tail (IsSmall n) w older held) }

  pub counted_after : (w : World) (c : Command) → IsTable w.time.now.table → IsCounted n w.time → IsCounted (n + 1) (after counts w c).time
  counted_after w Blank is h = later w.time h
  counted_after w (Header version) is h = later w.time h
  counted_after w (Add body masks group) is h =
      record { now = small_added w.time.now body masks group is h.now; marks = marks_later w.time.marks h.marks }
  counted_after w (Move handle body) is h = record { now = small_moved w.time.now handle body is h.now; marks = marks_later w.time.marks h.marks }
  counted_after w (Mask handle masks) is h =
      let now = small_later w.time.now h.now in
      record { now = record { gives = now.gives; frames = now.frames; exchanges = now.exchanges }; marks = marks_later w.time.marks h.marks }
  counted_after w (Remove handle) is h =
      let now = small_later w.time.now h.now in
      record { now = record { gives = now.gives; frames = now.frames; exchanges = now.exchanges }; marks = marks_later w.time.marks h.marks }
  counted_after w Frame is h =
      let now = small_later w.time.now h.now in
      let frames = h.now.frames in
      record { now = record { gives = now.gives; frames = omega (arith, frames); exchanges = omega arith }; marks = marks_later w.time.marks h.marks }
  counted_after w (BoxQ body mask) is h = later w.time h
  counted_after w (PointQ at mask) is h = later w.time h
  counted_after w (RayQ ray mask entry) is h = later w.time h
  counted_after w (SegQ seg mask) is h = later w.time h
  counted_after w (Cast cast mask) is h = later w.time h
  counted_after w (Near at want mask) is h = later w.time h
  counted_after w Mark is h = counted_marked w.time h
  counted_after w Back is h = counted_back w.time w.time.marks h h.marks
