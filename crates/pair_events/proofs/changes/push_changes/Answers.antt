-- Of two first pairs the lower one is alone, and where they have the same slots both go.
use Rattle.std.proofs.Common.{◌≡◌, true, false, ◌∷◌, ◌++◌, sym, ap, ◌∙◌}
use Rattle.slot_lists.specs.RisingLaws.{later_rise}
use Rattle.pair_events.specs.PairEvents.{precedes, rises, same_pair}
use Rattle.pair_events.specs.PairEvents.{missing}
use Rattle.pair_events.specs.MissingLaws.{rest_missing, none_missing, lone, passed, stayed, renewed, pushed, same_level, same_turned}
use Rattle.pair_events.proofs.changes.push_changes.Goals.{in-Some+in_default-split_first, in_default}
use Rattle.pair_events.proofs.changes.push_changes.Goals as goal

pub merge-preserved-then-is_same : goal.merge-preserved-then-is_same
merge-preserved-then-is_same c =
    let x = c.in-Some.x.now in
    let xs = c.in-Some.more_left.now in
    let y = c.in-Some-split_first.y.now in
    let ys = c.in-Some-split_first.more_right.now in
    let left : c.merge.left.now ≡ x ∷ xs = c.in-Some.ensures.cases.0 in
    let right : c.merge.right.now ≡ y ∷ ys = c.in-Some-split_first.ensures.cases.0 in
    let left_up : rises (x ∷ xs) ≡ true = rw left at c.merge.invariant.left_up in
    let right_up : rises (y ∷ ys) ≡ true = rw right at c.merge.invariant.right_up in
    let same : same_pair x y ≡ true = sym c.is_same.ensures ∙ c.if-is_same.true in
    let back : same_pair y x ≡ true = sym (same_turned x y) ∙ same in
    record {
      left_up = later_rise precedes x xs left_up;
      right_up = later_rise precedes y ys right_up;
      began = ap (λ l. c.merge.began.items ++ l) (sym (stayed y ys x xs (same_level y x back) (same_level x y same) back right_up)
          ∙ ap (λ l. missing l (x ∷ xs)) (sym right) ∙ ap (missing c.merge.right.now) (sym left)) ∙ c.merge.invariant.began;
      over = ap (λ l. c.merge.over.items ++ l) (sym (stayed x xs y ys (same_level x y same) (same_level y x back) same left_up)
          ∙ ap (λ l. missing l (y ∷ ys)) (sym left) ∙ ap (missing c.merge.left.now) (sym right)) ∙ c.merge.invariant.over;
    }

pub merge-preserved-then-precedes : goal.merge-preserved-then-precedes
merge-preserved-then-precedes c =
    let x = c.in-Some.x.now in
    let xs = c.in-Some.more_left.now in
    let y = c.in-Some-split_first.y.now in
    let ys = c.in-Some-split_first.more_right.now in
    let left : c.merge.left.now ≡ x ∷ xs = c.in-Some.ensures.cases.0 in
    let right : c.merge.right.now ≡ y ∷ ys = c.in-Some-split_first.ensures.cases.0 in
    let left_up : rises (x ∷ xs) ≡ true = rw left at c.merge.invariant.left_up in
    let right_up : rises (y ∷ ys) ≡ true = rw right at c.merge.invariant.right_up in
    let lower : precedes x y ≡ true = sym c.precedes.ensures ∙ c.if-precedes.true in
    record {
      left_up = later_rise precedes x xs left_up;
      right_up = c.merge.invariant.right_up;
      began = ap (λ l. c.merge.began.items ++ l) (ap (λ l. missing l xs) right ∙ sym (passed x xs y ys lower right_up)
          ∙ ap (λ l. missing l (x ∷ xs)) (sym right) ∙ ap (missing c.merge.right.now) (sym left)) ∙ c.merge.invariant.began;
      over = pushed c.push.new.self.items c.merge.over.items x (missing xs c.merge.right.now) (missing c.merge.left.now c.merge.right.now)
          c.in_ok-push.ensures.items
          (ap (λ l. missing l c.merge.right.now) left ∙ ap (missing (x ∷ xs)) right ∙ lone x xs y ys lower right_up
          ∙ ap (λ l. x ∷ missing xs l) (sym right)) ∙ c.merge.invariant.over;
    }

pub merge-preserved-then-precedes-2 : goal.merge-preserved-then-precedes-2
merge-preserved-then-precedes-2 c =
    let x = c.in-Some.x.now in
    let xs = c.in-Some.more_left.now in
    let y = c.in-Some-split_first.y.now in
    let ys = c.in-Some-split_first.more_right.now in
    let left : c.merge.left.now ≡ x ∷ xs = c.in-Some.ensures.cases.0 in
    let right : c.merge.right.now ≡ y ∷ ys = c.in-Some-split_first.ensures.cases.0 in
    let left_up : rises (x ∷ xs) ≡ true = rw left at c.merge.invariant.left_up in
    let right_up : rises (y ∷ ys) ≡ true = rw right at c.merge.invariant.right_up in
    let lower : precedes y x ≡ true = sym c.precedes-else-precedes.ensures ∙ c.if-precedes-2.true in
    record {
      left_up = c.merge.invariant.left_up;
      right_up = later_rise precedes y ys right_up;
      began = pushed c.push-then-precedes-2.new.self.items c.merge.began.items y (missing ys c.merge.left.now) (missing c.merge.right.now c.merge.left.now)
          c.in_ok-push-2.ensures.items
          (ap (λ l. missing l c.merge.left.now) right ∙ ap (missing (y ∷ ys)) left ∙ lone y ys x xs lower left_up
          ∙ ap (λ l. y ∷ missing ys l) (sym left)) ∙ c.merge.invariant.began;
      over = ap (λ l. c.merge.over.items ++ l) (ap (λ l. missing l ys) left ∙ sym (passed y ys x xs lower left_up)
          ∙ ap (λ l. missing l (y ∷ ys)) (sym left) ∙ ap (missing c.merge.left.now) (sym right)) ∙ c.merge.invariant.over;
    }

pub merge-preserved : goal.merge-preserved
merge-preserved c =
    let x = c.in-Some.x.now in
    let xs = c.in-Some.more_left.now in
    let y = c.in-Some-split_first.y.now in
    let ys = c.in-Some-split_first.more_right.now in
    let left : c.merge.left.now ≡ x ∷ xs = c.in-Some.ensures.cases.0 in
    let right : c.merge.right.now ≡ y ∷ ys = c.in-Some-split_first.ensures.cases.0 in
    let left_up : rises (x ∷ xs) ≡ true = rw left at c.merge.invariant.left_up in
    let right_up : rises (y ∷ ys) ≡ true = rw right at c.merge.invariant.right_up in
    let no : precedes x y ≡ false = sym c.precedes.ensures ∙ c.if-precedes.false in
    let none : precedes y x ≡ false = sym c.precedes-else-precedes.ensures ∙ c.if-precedes-2.false in
    let differs : same_pair x y ≡ false = sym c.is_same.ensures ∙ c.if-is_same.false in
    let apart : same_pair y x ≡ false = sym (same_turned x y) ∙ differs in
    record {
      left_up = later_rise precedes x xs left_up;
      right_up = later_rise precedes y ys right_up;
      began = pushed c.push-else-precedes-2-2.new.self.items c.merge.began.items y (missing ys xs) (missing c.merge.right.now c.merge.left.now)
          c.in_ok-push-4.ensures.items
          (ap (λ l. missing l c.merge.left.now) right ∙ ap (missing (y ∷ ys)) left ∙ renewed y ys x xs none no apart right_up left_up) ∙ c.merge.invariant.began;
      over = pushed c.push-else-precedes-2.new.self.items c.merge.over.items x (missing xs ys) (missing c.merge.left.now c.merge.right.now)
          c.in_ok-push-3.ensures.items
          (ap (λ l. missing l c.merge.right.now) left ∙ ap (missing (x ∷ xs)) right ∙ renewed x xs y ys no none differs left_up right_up) ∙ c.merge.invariant.over;
    }

pub returns-clause-began : goal.returns-clause-began
returns-clause-began c =
    let rest : missing c.merge.right.now c.merge.left.now ≡ c.merge.right.now =
    elim c.match-split_first.branch as (λ _. missing c.merge.right.now c.merge.left.now ≡ c.merge.right.now) [
      | in-Some+in_default-split_first w ↦ none_missing c.merge.right.now c.merge.left.now w.in_default-split_first.ensures.cases
      | in_default w ↦ rest_missing c.merge.right.now c.merge.left.now w.in_default.ensures.cases
    ] in
    c.in_ok-extend_from_slice-2.ensures.items ∙ ap (λ l. c.merge.began.items ++ l) (sym rest) ∙ c.merge.invariant.began

pub returns-clause-over : goal.returns-clause-over
returns-clause-over c =
    let rest : missing c.merge.left.now c.merge.right.now ≡ c.merge.left.now =
    elim c.match-split_first.branch as (λ _. missing c.merge.left.now c.merge.right.now ≡ c.merge.left.now) [
      | in-Some+in_default-split_first w ↦ rest_missing c.merge.left.now c.merge.right.now w.in_default-split_first.ensures.cases
      | in_default w ↦ none_missing c.merge.left.now c.merge.right.now w.in_default.ensures.cases
    ] in
    c.in_ok-extend_from_slice.ensures.items ∙ ap (λ l. c.merge.over.items ++ l) (sym rest) ∙ c.merge.invariant.over
