-- Words of 0 at the end have no slot.
use Rattle.std.proofs.Common.{◌≤◌, refl, ap, ◌∙◌, arith, length, get_or}
use Rattle.std.specs.Int.{bit_at}
use Rattle.std.proofs.lemmas.Nat.Bits.{bit_at-zero}
use Rattle.overlap_count.proofs.SetLemmas.{length-bits_of, grown_set}
use Rattle.overlap_count.proofs.SpreadLemmas.{grown_is, grown_at}
use Rattle.overlap_count.proofs.slot_set.SlotSet.grow.Goals as goal

pub invariant_of-self : goal.invariant_of-self
invariant_of-self c =
    let words = c.self.inside.words.items in
    let short : length words ≤ 128 = omega (arith, c.self.inside.words.ok.0, c.len.ensures, c.self.invariant.few) in
    grown_set words c.resize.new.self.items c.self.inside.number _ c.self.invariant
    (grown_is 0 words c.resize.new.self.items 128 _ 0 refl short c.in_ok-resize.ensures.items)
    (omega (arith, c.resize.new.self.ok.0, c.in_ok-resize.ensures.len))

pub returns-in_ok-resize-clause-ok : goal.returns-in_ok-resize-clause-ok
returns-in_ok-resize-clause-ok c k =
    let words = c.self.inside.words.items in
    let short : length words ≤ 128 = omega (arith, c.self.inside.words.ok.0, c.len.ensures, c.self.invariant.few) in
    grown_at bit_at 0 bit_at-zero words c.resize.new.self.items _
    (grown_is 0 words c.resize.new.self.items 128 _ 0 refl short c.in_ok-resize.ensures.items) k
    ∙ ap (λ l. get_or l k 0) c.self.view_is

pub returns-in_ok-resize-clause-len : goal.returns-in_ok-resize-clause-len
returns-in_ok-resize-clause-len c = omega (arith, length-bits_of c.resize.new.self.items, c.resize.new.self.ok.0, c.in_ok-resize.ensures.len)

pub returns-else-len-lt-WORDS-clause-len : goal.returns-else-len-lt-WORDS-clause-len
returns-else-len-lt-WORDS-clause-len c =
    omega (arith, c.self.inside.words.ok.0, c.len.ensures, c.if-len-lt-WORDS.false, length-bits_of c.self.inside.words.items, ap length c.self.view_is)
