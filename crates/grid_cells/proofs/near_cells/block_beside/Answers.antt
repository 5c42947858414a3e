-- Each cell beside the region lies between the two corners.
use Rattle.std.proofs.Common.{arith, sym, ◌∙◌}
use Rattle.std.proofs.lemmas.Int.{ints}
use Rattle.grid_cells.proofs.near_cells.block_beside.Goals as goal

pub returns-clause-whole : goal.returns-clause-whole
returns-clause-whole c k e b = record {
  level = e ∙ sym c.first_beside.ensures.level;
  low_x = omega (arith, ints, c.first_beside.ensures.x, b.x.low);
  high_x = omega (arith, ints, c.end_beside.ensures.x, b.x.high);
  low_y = omega (arith, ints, c.first_beside.ensures.y, b.y.low);
  high_y = omega (arith, ints, c.end_beside.ensures.y, b.y.high);
  low_z = omega (arith, ints, c.first_beside.ensures.z, b.z.low);
  high_z = omega (arith, ints, c.end_beside.ensures.z, b.z.high);
}
