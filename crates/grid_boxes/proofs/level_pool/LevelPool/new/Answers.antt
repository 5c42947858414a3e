-- No box stands in any stretch, and all stretches begin and end at the first place.
use Rattle.std.proofs.Common.{ℕ, ◌∙◌, ap, length}
use Rattle.std.proofs.lemmas.List.{length-replicate}
use Rattle.grid_boxes.specs.Leveled.{Pool}
use Rattle.grid_boxes.proofs.PoolLemmas.{emptied}
use Rattle.grid_boxes.proofs.level_pool.LevelPool.new.Goals as goal

pub returns : goal.returns
returns c =
    let pool : Pool = record { listed = c.in_ok-new.field-0; places = c.in_ok-vec.field-0.items; starts = c.in_ok-vec-2.field-0.items } in
    emptied pool c.in_ok-new.ensures.slots c.in_ok-new.ensures.boxes c.in_ok-new.ensures.room
    (ap length (c.in_ok-vec.ensures.items_if_clones_equal (λ _ e. e)) ∙ length-replicate {A = ℕ} 8192 0)
    (c.in_ok-vec-2.ensures.items_if_clones_equal (λ _ e. e))
