-- A level with no slot has no box.
use Rattle.std.proofs.Common.{◌≡◌, ℕ, false, nat_lt, sym, ◌∙◌, subst, arith}
use Rattle.std.proofs.lemmas.Bool.Decides.{nat_tests}
use Rattle.grid_boxes.specs.Candidates.{IsBare}
use Rattle.grid_boxes.proofs.GridLemmas.{bare}
use Rattle.grid_boxes.proofs.grid_boxes.GridBoxes.has_some.Goals as goal

none : (n : ℕ) → nat_lt 0 n ≡ false → n ≡ 0
none n h = grind (arith, nat_tests)

pub returns : goal.returns
returns c few =
    subst (λ m. IsBare m c.args.level) c.self.view_is
    (bare c.self.inside.boxes c.self.inside.cells c.self.inside.hull c.args.level c.self.invariant (sym c.level_len.ensures ∙ none c.level_len.result few))
