-- Of the first pair of boxes and the first pair of slots: both go where they are one, and else the lower one is alone.
use Rattle.std.proofs.Common.{rules, ◌≡◌, ◌-◌, ◌++◌, true, [], ◌∷◌, Some, length, take, ap, sym, subst, append_assoc, append-nil, ◌∙◌}
use Rattle.std.specs.List.{filter_map, cons_option, list_all}
use Rattle.std.specs.Cmp.{first_so}
use Rattle.slot_lists.specs.RisingLaws.{later_rise}
use Rattle.broad_index.specs.Near.{precedes as slots_precede, rises as slots_rise}
use Rattle.pair_events.specs.PairEvents.{precedes, rises, missing}
use Rattle.pair_events.specs.MissingLaws.{both_first, first_alone, not_of_theirs, later_after, all_missing, pushed}
use Rattle.live_queries.specs.InHandles.{touching, slots_in, AreCurrent}
use Rattle.live_queries.proofs.Current.{touching_slots}
use Rattle.live_queries.proofs.Merged.{Passes, passes, whole_left, none_passed, same_slots, made_after, slots_below, before_all, before_none, no_pairs}
use Rattle.live_queries.proofs.pairs.merge_changes.Goals.{in-Some-split_first+else-is_of+else-precedes, in_default-split_first}
use Rattle.live_queries.proofs.pairs.merge_changes.Goals as goal

pub pairs-preserved-then-is_of : goal.pairs-preserved-then-is_of
pairs-preserved-then-is_of c =
    let es = c.args.table.now.entries in
    let pair = c.in-Some.pair.now in
    let more = c.in-Some.more.now in
    let first = c.in-Some-split_first.first.now in
    let later = c.in-Some-split_first.later.now in
    let made = filter_map (touching es) in
    let run = c.pairs.run.now in
    let rest : c.pairs.rest.now ≡ pair ∷ more = c.in-Some.ensures.cases.0 in
    let left : c.pairs.left.now ≡ first ∷ later = c.in-Some-split_first.ensures.cases.0 in
    let rest_up : slots_rise (pair ∷ more) ≡ true = rw rest at c.pairs.invariant.rest_up in
    let left_up : rises (first ∷ later) ≡ true = rw left at c.pairs.invariant.left_up in
    let are : AreCurrent es (first ∷ later) = subst (AreCurrent es) left c.pairs.invariant.current in
    let same : slots_in first ≡ pair = same_slots first pair (sym c.is_of.ensures ∙ c.if-is_of.true) in
    let found : touching es pair ≡ Some first = ap (touching es) (sym same) ∙ are.0 in
    let these : made c.pairs.rest.now ≡ first ∷ made more = ap made rest ∙ ap (λ o. cons_option o (made more)) found in
    let after : list_all (precedes first) (made more) ≡ true =
    made_after es first more (ap (λ p. list_all (slots_precede p) more) same ∙ first_so (list_all (slots_precede pair) more) (slots_rise more) rest_up) in
    let is : Passes run first later = passes run c.pairs.left.now first later c.pairs.invariant.fits c.pairs.invariant.follows left in
    let before = c.pairs.now.items ++ take (length run - length (first ∷ later)) run in
    let here : take (length run - length (first ∷ later)) run ≡ take (length run - length c.pairs.left.now) run =
    ap (λ xs. take (length run - length xs) run) (sym left) in
    record {
      fits = is.fits;
      follows = is.follows;
      left_up = later_rise precedes first later left_up;
      rest_up = later_rise slots_precede pair more rest_up;
      current = are.1;
      now = ap (λ xs. c.pairs.now.items ++ xs ++ made more) is.taken
          ∙ ap (λ xs. xs ++ made more) (sym (append_assoc c.pairs.now.items (take (length run - length (first ∷ later)) run) (first ∷ [])))
          ∙ append_assoc before (first ∷ []) (made more) ∙ ap (λ ps. before ++ ps) (sym these)
          ∙ ap (λ xs. c.pairs.now.items ++ xs ++ made c.pairs.rest.now) here ∙ c.pairs.invariant.now;
      began = ap (λ l. c.pairs.began.items ++ l) (sym (both_first first (made more) later after)
          ∙ ap (λ l. missing l (first ∷ later)) (sym these) ∙ ap (missing (made c.pairs.rest.now)) (sym left)) ∙ c.pairs.invariant.began;
      over = ap (λ l. c.pairs.over.items ++ l) (sym (both_first first later (made more) (later_after first later left_up))
          ∙ ap (λ l. missing (first ∷ later) l) (sym these) ∙ ap (λ l. missing l (made c.pairs.rest.now)) (sym left)) ∙ c.pairs.invariant.over;
    }

pub pairs-preserved-then-precedes : goal.pairs-preserved-then-precedes
pairs-preserved-then-precedes c =
    let es = c.args.table.now.entries in
    let pair = c.in-Some.pair.now in
    let more = c.in-Some.more.now in
    let first = c.in-Some-split_first.first.now in
    let later = c.in-Some-split_first.later.now in
    let made = filter_map (touching es) in
    let run = c.pairs.run.now in
    let rest : c.pairs.rest.now ≡ pair ∷ more = c.in-Some.ensures.cases.0 in
    let left : c.pairs.left.now ≡ first ∷ later = c.in-Some-split_first.ensures.cases.0 in
    let rest_up : slots_rise (pair ∷ more) ≡ true = rw rest at c.pairs.invariant.rest_up in
    let left_up : rises (first ∷ later) ≡ true = rw left at c.pairs.invariant.left_up in
    let are : AreCurrent es (first ∷ later) = subst (AreCurrent es) left c.pairs.invariant.current in
    let lower : slots_precede (slots_in first) pair ≡ true = sym c.precedes.ensures ∙ c.if-precedes.true in
    let below : list_all (slots_precede (slots_in first)) (pair ∷ more) ≡ true = slots_below (slots_in first) pair more lower rest_up in
    let after : list_all (precedes first) (made c.pairs.rest.now) ≡ true =
    made_after es first c.pairs.rest.now (ap (list_all (slots_precede (slots_in first))) rest ∙ below) in
    record {
      fits = search rules;
      follows = whole_left later;
      left_up = later_rise precedes first later left_up;
      rest_up = c.pairs.invariant.rest_up;
      current = are.1;
      now = ap (λ xs. c.extend_from_slice.new.self.items ++ xs ++ made c.pairs.rest.now) (none_passed later)
          ∙ ap (λ xs. xs ++ made c.pairs.rest.now) (append-nil c.extend_from_slice.new.self.items ∙ c.in_ok-extend_from_slice.ensures.items)
          ∙ c.pairs.invariant.now;
      began = ap (λ l. c.pairs.began.items ++ l) (sym (not_of_theirs first (made c.pairs.rest.now) later after)
          ∙ ap (missing (made c.pairs.rest.now)) (sym left)) ∙ c.pairs.invariant.began;
      over = pushed c.push.new.self.items c.pairs.over.items first (missing later (made c.pairs.rest.now)) (missing c.pairs.left.now (made c.pairs.rest.now))
          c.in_ok-push.ensures.items (ap (λ l. missing l (made c.pairs.rest.now)) left ∙ first_alone first later (made c.pairs.rest.now) after)
          ∙ c.pairs.invariant.over;
    }

pub pairs-preserved-in_ok-push-3 : goal.pairs-preserved-in_ok-push-3
pairs-preserved-in_ok-push-3 c =
    let es = c.args.table.now.entries in
    let pair = c.in-Some.pair.now in
    let more = c.in-Some.more.now in
    let left = c.pairs.left.now in
    let found = c.in-Some-touching.found in
    let made = filter_map (touching es) in
    let run = c.pairs.run.now in
    let before_run = c.pairs.now.items ++ take (length run - length left) run in
    let rest : c.pairs.rest.now ≡ pair ∷ more = c.in-Some.ensures.cases.0 in
    let rest_up : slots_rise (pair ∷ more) ≡ true = rw rest at c.pairs.invariant.rest_up in
    let is : touching es pair ≡ Some found = sym c.touching.ensures ∙ c.in-Some-touching.is in
    let slots : slots_in found ≡ pair = touching_slots es pair found is in
    let these : made c.pairs.rest.now ≡ found ∷ made more = ap made rest ∙ ap (λ o. cons_option o (made more)) is in
    let after : list_all (precedes found) (made more) ≡ true =
    made_after es found more (ap (λ p. list_all (slots_precede p) more) slots ∙ first_so (list_all (slots_precede pair) more) (slots_rise more) rest_up) in
    let before : list_all (precedes found) left ≡ true = elim c.match-split_first-2.branch as (λ _. list_all (precedes found) left ≡ true) [
      | in-Some-split_first+else-is_of+else-precedes w ↦
          let at : left ≡ w.in-Some-split_first.first.now ∷ w.in-Some-split_first.later.now = w.in-Some-split_first.ensures.cases.0 in
          ap (list_all (precedes found)) at
          ∙ before_all found w.in-Some-split_first.first.now w.in-Some-split_first.later.now pair slots (sym w.is_of.ensures ∙ w.if-is_of.false)
          (sym w.precedes.ensures ∙ w.if-precedes.false) (rw at at c.pairs.invariant.left_up)
      | in_default-split_first w ↦ before_none found left w.in_default-split_first.ensures.cases
    ] in
    record {
      fits = search rules;
      follows = whole_left left;
      left_up = c.pairs.invariant.left_up;
      rest_up = later_rise slots_precede pair more rest_up;
      current = c.pairs.invariant.current;
      now = ap (λ xs. c.push-in-Some-touching.new.self.items ++ xs ++ made more) (none_passed left)
          ∙ ap (λ xs. xs ++ made more) (append-nil c.push-in-Some-touching.new.self.items
          ∙ c.in_ok-push-2.ensures.items ∙ ap (λ xs. xs ++ found ∷ []) c.in_ok-extend_from_slice-2.ensures.items)
          ∙ append_assoc before_run (found ∷ []) (made more) ∙ ap (λ ps. before_run ++ ps) (sym these) ∙ c.pairs.invariant.now;
      began = pushed c.push-in-Some-touching-2.new.self.items c.pairs.began.items found (missing (made more) left) (missing (made c.pairs.rest.now) left)
          c.in_ok-push-3.ensures.items (ap (λ l. missing l left) these ∙ first_alone found (made more) left before) ∙ c.pairs.invariant.began;
      over = ap (λ l. c.pairs.over.items ++ l) (sym (not_of_theirs found left (made more) before) ∙ ap (missing left) (sym these)) ∙ c.pairs.invariant.over;
    }

pub returns-clause-over : goal.returns-clause-over
returns-clause-over c =
    let made = filter_map (touching c.args.table.now.entries) in
    let none : made c.pairs.rest.now ≡ [] = ap made (no_pairs c.pairs.rest.now c.in_default.ensures.cases) in
    c.in_ok-extend_from_slice-4.ensures.items
    ∙ ap (λ l. c.pairs.over.items ++ l) (sym (ap (missing c.pairs.left.now) none ∙ all_missing c.pairs.left.now)) ∙ c.pairs.invariant.over
