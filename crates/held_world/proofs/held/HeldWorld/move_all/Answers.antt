-- One box more moves.
use Rattle.std.proofs.Common.{◌≡◌, ◌⊎◌, ℕ, ◌+◌, ◌<◌, suc, List, ◌∷◌, length, get_or, drop, zip, ap, ap₂, ◌∙◌, subst, rules, arith}
use Rattle.std.proofs.lemmas.List.{drop_more, nil_from_length}
use Rattle.named_index.specs.declared.structure.Structure.{Structure}
use Rattle.named_index.specs.Structures.{counts}
use Rattle.box_world.specs.Answers.{State}
use Rattle.any_world.specs.AnyWorld.{state_of, structure_of, counts_of}
use Rattle.held_world.specs.declared.plain.PwBox.{PwBox}
use Rattle.held_world.specs.declared.plain.PwHandle.{PwHandle}
use Rattle.held_world.specs.Batches.{Steps, IsBatch}
use Rattle.held_world.specs.Changes.{moves}
use Rattle.held_world.specs.Steps.{StepDone, StepRefused, StepRanOut, StepSpent}
use Rattle.held_world.proofs.BatchUnderWay.{IsUnderWay, batch_goes_on, batch_done, batch_ends}
use Rattle.held_world.proofs.held.HeldWorld.move_all.Goals as goal

-- the next of both lists
zip_next : {A B : Type 0} (xs more : List A) (x : A) (ys : List B) (d : B) (n : ℕ) → xs ≡ x ∷ more → n < length ys
    → zip xs (drop n ys) ≡ (x, get_or ys n d) ∷ zip more (drop (n + 1) ys)
zip_next xs more x ys d n first lt = ap₂ zip first (drop_more ys n d lt)

zip_none : {A B : Type 0} (xs : List A) (ys : List B) → length xs ≡ 0 → length (zip xs ys) ≡ 0
zip_none xs ys none = ap (λ l. length (zip l ys)) (nil_from_length xs none)

moves_on : (s t : Structure) (handles rest more : List PwHandle) (boxes : List PwBox) (next : PwHandle) (d : PwBox) (count : ℕ) (old now new : State)
    → s ≡ t → rest ≡ next ∷ more → count < length boxes
    → IsUnderWay (moves (counts t)) (zip handles boxes) (zip rest (drop count boxes)) count old now
    → StepDone (moves (counts s)) (next, get_or boxes count d) now new
    → IsUnderWay (moves (counts t)) (zip handles boxes) (zip more (drop (count + 1) boxes)) (count + 1) old new
moves_on s t handles rest more boxes next d count old now new same first lt u step =
    batch_goes_on (moves (counts t)) (zip handles boxes) (zip rest (drop count boxes)) (zip more (drop (count + 1) boxes)) (next, get_or boxes count d)
    count old now new u (zip_next rest more next boxes d count first lt)
    (subst (λ (v : Structure). StepDone (moves (counts v)) (next, get_or boxes count d) now new) same step)

abbrev Ends : Steps (PwHandle × PwBox) → PwHandle × PwBox → ℕ → State → State → Type 0
Ends by x status now new = StepRefused by x status now new ⊎ (StepRanOut by x status now new ⊎ StepSpent status now new)

moves_end : (s t : Structure) (handles rest more : List PwHandle) (boxes : List PwBox) (next : PwHandle) (d : PwBox) (count status : ℕ) (old now new : State)
    → s ≡ t → rest ≡ next ∷ more → count < length boxes
    → IsUnderWay (moves (counts t)) (zip handles boxes) (zip rest (drop count boxes)) count old now
    → Ends (moves (counts s)) (next, get_or boxes count d) status now new
    → IsBatch (moves (counts t)) (zip handles boxes) count status old new
moves_end s t handles rest more boxes next d count status old now new same first lt u step =
    batch_ends (moves (counts t)) (zip handles boxes) (zip rest (drop count boxes)) (zip more (drop (count + 1) boxes)) (next, get_or boxes count d)
    count status old now new u (zip_next rest more next boxes d count first lt)
    (subst (λ (v : Structure). Ends (moves (counts v)) (next, get_or boxes count d) status now new) same step)

pub moves-preserved : goal.moves-preserved
moves-preserved c =
    let first : c.moves.rest.now ≡ c.in-Some.next.now ∷ c.in-Some.more.now = search rules in
    let longer : length c.moves.rest.now ≡ suc (length c.in-Some.more.now) = ap length first in
    let some : c.moves.count < length c.args.boxes.now = omega (arith, longer, c.moves.invariant.left) in
    record {
      batch = moves_on (structure_of c.moves.self.world) (structure_of c.args.self.now.world) c.args.handles.now c.moves.rest.now c.in-Some.more.now
          c.args.boxes.now c.in-Some.next.now _ c.moves.count (state_of c.args.self.now.world) (state_of c.moves.self.world)
          (state_of c.shift.new.self.world) c.moves.invariant.structure first some c.moves.invariant.batch c.in-Ok.ensures.step;
      left = omega (arith, longer, c.moves.invariant.left);
      structure = c.in-Ok.ensures.structure ∙ c.moves.invariant.structure;
      room = c.in-Ok.ensures.room ∙ c.moves.invariant.room;
    }

pub returns-in-Err-clause-moved : goal.returns-in-Err-clause-moved
returns-in-Err-clause-moved c =
    let first : c.moves.rest.now ≡ c.in-Some.next.now ∷ c.in-Some.more.now = search rules in
    let longer : length c.moves.rest.now ≡ suc (length c.in-Some.more.now) = ap length first in
    let some : c.moves.count < length c.args.boxes.now = omega (arith, longer, c.moves.invariant.left) in
    λ even. moves_end (structure_of c.moves.self.world) (structure_of c.args.self.now.world) c.args.handles.now c.moves.rest.now c.in-Some.more.now
    c.args.boxes.now c.in-Some.next.now _ c.moves.count c.in-Err.status (state_of c.args.self.now.world) (state_of c.moves.self.world)
    (state_of c.shift.new.self.world) c.moves.invariant.structure first some c.moves.invariant.batch c.in-Err.ensures.step

pub returns-clause-moved : goal.returns-clause-moved
returns-clause-moved c =
    let handles = c.args.handles.now in let boxes = c.args.boxes.now in let rest = zip c.moves.rest.now (drop c.moves.count boxes) in
    λ even. batch_done (moves (counts_of c.args.self.now.world)) (zip handles boxes) rest c.moves.count (state_of c.args.self.now.world)
    (state_of c.moves.self.world) c.moves.invariant.batch (zip_none c.moves.rest.now (drop c.moves.count boxes) c.in_default.ensures.cases)
