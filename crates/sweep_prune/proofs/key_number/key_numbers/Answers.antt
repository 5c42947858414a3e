-- A box's corners are in order, so its two keys are.
use Rattle.std.proofs.Common.{◌≡◌, rules, ◌∙◌, to_z, of_z, w32}
use Rattle.sweep_prune.proofs.AxisLemmas.{new_keys}
use Rattle.sweep_prune.proofs.key_number.key_numbers.Goals as goal

pub returns : goal.returns
returns c =
    let lo : to_z w32 (of_z w32 c.coordinate.result) ≡ c.coordinate.result = search rules in
    let hi : to_z w32 (of_z w32 c.coordinate-2.result) ≡ c.coordinate-2.result = search rules in
    new_keys c.args.axis c.args.slot c.args.body c.lo.result c.hi.result (to_z w32 (of_z w32 c.coordinate.result))
    (to_z w32 (of_z w32 c.coordinate-2.result))
    c.key_number-lo.result c.key_number-hi.result c.requires (lo ∙ c.coordinate.ensures) c.lo.ensures.lo (hi ∙ c.coordinate-2.ensures) c.hi.ensures.hi
    c.lo.ensures.ordered c.key_number-lo.ensures.number c.key_number-lo.ensures.range c.key_number-hi.ensures.number c.key_number-hi.ensures.range
