-- Each piece is put behind the one before.
use Rattle.std.proofs.Common.{◌≡◌, ◌+◌, ◌∷◌, [], ◌++◌, length, take, rules, ap, ◌∙◌}
use Rattle.pair_report.specs.PairReport.{handle_text, event_text}
use Rattle.pair_report.proofs.Pieces.{front_put, line_put}
use Rattle.pair_report.proofs.short_line.put_short.Goals as goal

pub returns-clause-ok : goal.returns-clause-ok
returns-clause-ok c =
    let old = c.args.out.now.items in
    let len = c.word_of-len.result.1 in
    let word = event_text c.args.event in
    let grown : c.extend_from_slice.new.self.items ≡ old ++ c.word_of-len.result.0.now = search rules in
    let place : c.len-before.result ≡ length old = search rules in
    let begin : take (c.len-before.result + len) c.extend_from_slice.new.self.items ≡ old ++ word =
    ap (λ k. take (k + len) c.extend_from_slice.new.self.items) place ∙ ap (λ l. take (length old + len) l) grown
    ∙ front_put old c.word_of-len.result.0.now word len c.word_of-len.ensures.text in
    line_put old _ word (handle_text c.args.a.now.handle) (32 ∷ []) (handle_text c.args.b.now.handle) (10 ∷ []) _ _ _ _ begin
    c.put_piece-at.ensures.text c.put_byte-at.ensures.text c.put_piece-at-2.ensures.text (c.truncate.ensures.items ∙ c.put_byte-at-2.ensures.text)
