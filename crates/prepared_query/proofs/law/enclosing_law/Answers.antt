-- Each kind of query has its law.
use Rattle.broad_index.specs.Found.{query_meets}
use Rattle.prepared_query.proofs.QueryMeets.{enclosed, missed}
use Rattle.prepared_query.proofs.law.enclosing_law.Goals as goal

pub returns-clause-enclosed : goal.returns-clause-enclosed
returns-clause-enclosed c = enclosed (record {
  either_way = c.box_laws.ensures.either_way;
  met = c.box_laws.ensures.met;
  held = c.box_laws.ensures.held;
  on_ray = c.ray_law.ensures.enclosed;
  on_cast = c.cast_law.ensures.enclosed;
  on_seg = c.seg_law.ensures.enclosed;
})

pub returns-clause-missed : goal.returns-clause-missed
returns-clause-missed c query outer inner e out = missed (query_meets query outer) (query_meets query inner) (enclosed (record {
  either_way = c.box_laws.ensures.either_way;
  met = c.box_laws.ensures.met;
  held = c.box_laws.ensures.held;
  on_ray = c.ray_law.ensures.enclosed;
  on_cast = c.cast_law.ensures.enclosed;
  on_seg = c.seg_law.ensures.enclosed;
}) query outer inner e) out
