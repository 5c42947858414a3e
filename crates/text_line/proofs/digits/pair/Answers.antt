-- Both digits are those of the table.
use Rattle.std.proofs.Common.{◌+◌, ◌≤◌, length, rules}
use Rattle.text_line.proofs.Decimal.{both_at, both_put}
use Rattle.text_line.proofs.digits.pair.Goals as goal

pub returns-clause-text : goal.returns-clause-text
returns-clause-text c =
    let found = both_at c.args.number c.requires.small in
    let within : c.args.at + 2 ≤ length c.args.into.now = search rules in
    both_put c.args.into.now c.args.at c.args.number _ _ found.0 found.1 within
