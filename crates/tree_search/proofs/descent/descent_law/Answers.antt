-- They are laws of boxes, of queries and of trees.
use Rattle.tree_search.proofs.descent.descent_law.Goals as goal

pub returns : goal.returns
returns c query = record {
  missed = c.enclosing_law.ensures.missed query;
  this = c.box_laws.ensures.hull_this;
  that = c.box_laws.ensures.hull_that;
  itself = c.tree_laws.ensures.itself;
  deeper = c.tree_laws.ensures.deeper;
  children = λ n k h l r. c.tree_laws.ensures.children n k h l r;
  within = c.tree_laws.ensures.within;
  shown = c.tree_laws.ensures.shown;
}
