-- One place after the other.
use Rattle.std.proofs.Common.{◌+◌, ◌++◌, [], ◌∷◌, drop, get_or, ap, sym, ◌∙◌, arith}
use Rattle.std.proofs.lemmas.Grind.{common_steps}
use Rattle.std.proofs.Common.{append_assoc}
use Rattle.std.proofs.lemmas.List.{drop_more}
use Rattle.broad_index.specs.Entries.{pairs_at}
use Rattle.broad_index.proofs.entries.push_pairs.Goals as goal

pub places-preserved : goal.places-preserved
places-preserved c =
    let slots = c.args.slots.now in
    let places = c.args.places.now in
    let at = c.places.at in
    let pairs = pairs_at c.args.slot slots in
    record {
      found =
          rw c.in_ok-push.ensures.items
          (append_assoc c.places.out.items (pairs (get_or places at 0 ∷ [])) (pairs (drop (at + 1) places))
          ∙ ap (λ l. c.places.out.items ++ pairs l) (sym (drop_more places at 0 c.places-test.true))
          ∙ c.places.invariant.found);
      kept = rw c.in_ok-push.ensures.items (grind (arith, common_steps));
    }
