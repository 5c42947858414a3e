-- A number that is stopped at an end of 32 bits lies past that end.
use Rattle.std.proofs.Common.{arith}
use Rattle.std.proofs.lemmas.Int.{ints, clamps}
use Rattle.broad_index.proofs.regions.nearest.Goals as goal

pub returns : goal.returns
returns c = record {
  below = λ end h low. omega (arith, ints, clamps);
  above = λ end h high. omega (arith, ints, clamps);
}
