-- What the sink in memory keeps of a play that is done is the whole report.
use Rattle.std.proofs.Common.{ℕ, List, [], ◌++◌, Option, Some, None, ap, ◌∙◌}
use Rattle.play_rules.specs.Course.{whole}
use Rattle.play_rules.specs.Outcome.{of_bytes}
use Rattle.play_rules.specs.Play.{played}
use Rattle.made_scene.specs.MadeScene.{made_text}
use Rattle.scene_lines.specs.declared.TheConstants.{MOST_LINES}
use Rattle.scene_drill.proofs.drilling.made_report.Goals as goal

abbrev bytes_of : Option (List ℕ) → List ℕ
bytes_of None = []
bytes_of (Some bytes) = bytes

pub returns-in-Done : goal.returns-in-Done
returns-in-Done g c =
    let report : List ℕ → List ℕ = λ given. whole (of_bytes (played c.args.options.exchanges MOST_LINES) given) in
    let left = c.in_ok-scene.scene.left in
    ap bytes_of {x = Some c.play.new.sink.written} {y = Some (c.new-kept.result.written ++ report left)} c.in-Done.ensures.outcome.0.text
    ∙ ap (λ bytes. bytes ++ report left) (ap (λ s. s.written) c.new-kept.ensures)
    ∙ ap report {x = left} {y = made_text c.args.load.seed c.args.load.boxes c.args.load.frames} c.in_ok-scene.ensures
