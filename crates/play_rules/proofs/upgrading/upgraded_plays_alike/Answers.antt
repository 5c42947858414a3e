-- What a line says is in range, so that it is printed as itself.
use Rattle.std.proofs.Common.{refl, arith}
use Rattle.scene_words.specs.declared.command.Command.TheVariants.{Blank, Header}
use Rattle.scene_words.specs.declared.version.Version.TheVariants.{Two}
use Rattle.play_rules.specs.Upgrade.{as_two}
use Rattle.play_rules.proofs.Upgraded.{in_range_two, same_report}
use Rattle.play_rules.proofs.upgrading.upgraded_plays_alike.Goals as goal

pub returns : goal.returns
returns c shows limit scene done =
    let law = c.printed_reads_back.ensures in
    let read = c.read_in_range.ensures in
    same_report (record {
      legible = λ version line said is. (let range = in_range_two said (read version line said is) in
          let short = law.short (as_two said) range in
          record { back = law.back (as_two said) range; visible = law.visible (as_two said) range; short = omega (arith, short) });
      blank = law.back_before Blank tt refl;
      header = law.back_before (Header Two) tt refl;
    }) shows limit scene done
