-- Each printed command is read back under either version, and the scene is played by that.
use Rattle.std.proofs.Common.{◌≡◌, true, arith}
use Rattle.std.proofs.lemmas.List.Elements.{All-weaker}
use Rattle.scene_words.specs.declared.command.Command.{Command}
use Rattle.scene_words.specs.declared.version.Version.TheVariants.{One, Two}
use Rattle.scene_words.specs.Printed.{is_of_one}
use Rattle.scene_words.specs.Ranges.{IsInRange}
use Rattle.play_rules.proofs.PrintedLines.{IsLegible}
use Rattle.play_rules.proofs.PrintedPlay.{IsOfBoth, ends_done}
use Rattle.play_rules.proofs.printed_scene.printed_scene_ends.Goals as goal

by_version : (c : Command) → IsLegible One c → IsLegible Two c → IsOfBoth c
by_version c first second One = first
by_version c first second Two = second

pub returns : goal.returns
returns c shows limit cs few range old allowed headed =
    let law = c.printed_reads_back.ensures in
    let P : Command → Type 0 = λ said. IsInRange said × (is_of_one said ≡ true) in
    ends_done shows limit cs few (All-weaker P IsOfBoth (λ said known.
    let length = law.short said known.0 in
    let visible = law.visible said known.0 in
    by_version said (record { back = law.back_before said known.0 known.1; visible = visible; short = omega (arith, length) })
    (record { back = law.back said known.0; visible = visible; short = omega (arith, length) })) cs
    (λ k d inside. (range k d inside, old k d inside))) allowed headed
