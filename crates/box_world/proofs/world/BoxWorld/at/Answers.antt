-- Each live box has a slot below the last one.
use Rattle.std.proofs.Common.{◌≡◌, ℕ, ◌==◌, ◌<◌, ◌≤◌, suc, false, List, [], ◌∷◌, None, refl, ◌∙◌, arith}
use Rattle.std.specs.List.{All}
use Rattle.fixed_box.specs.declared.TheConstants.{SLOTS}
use Rattle.live_table.specs.declared.live.Live.{Live}
use Rattle.live_table.specs.Entries.{slot_of, live_at}
use Rattle.box_world.proofs.world.BoxWorld.at.Goals as goal

none_past : (slot : ℕ) (es : List Live) → SLOTS ≤ slot → All (λ e. slot_of e < SLOTS) es → live_at slot es ≡ None
none_past slot [] past small = refl
none_past slot (e ∷ es) past small =
    let low : slot_of e < SLOTS = small 0 e (omega arith) in
    let later : live_at slot es ≡ None = none_past slot es past (λ k d lt. small (suc k) d (omega (arith, lt))) in
    let other : (slot_of e == slot) ≡ false = grind (arith, low, past) in
    rw other later

pub returns-clause-past : goal.returns-clause-past
returns-clause-past g c past = c.at.ensures.at ∙ none_past c.args.slot c.self.inside.parts.table.entries past c.at.ensures.table.small
