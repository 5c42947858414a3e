use Rattle.scene_drill.proofs.Digits.{IsValue}
use Rattle.scene_drill.proofs.number.number.Given as goal

abbrev pub invariant-digits : goal.invariant-digits
invariant-digits l = record { digits : IsValue l.value l.byte-index l.word }
