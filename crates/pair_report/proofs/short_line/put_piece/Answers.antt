-- Sixteen bytes are written at a place, of which those of the text count.
use Rattle.std.proofs.Common.{◌≡◌, ◌+◌, ◌≤◌, length, take, rules}
use Rattle.pair_report.specs.PairReport.{handle_text}
use Rattle.pair_report.proofs.Pieces.{piece_in}
use Rattle.pair_report.proofs.short_line.put_piece.Goals as goal

pub returns-clause-text : goal.returns-clause-text
returns-clause-text c =
    let room : c.args.at + c.args.text.now.len ≤ c.args.out.now.len = search rules in
    let within : c.args.at ≤ length c.deref_mut.result.now = search rules in
    let few : c.args.text.now.len ≤ length c.copy_from_slice.new.self = search rules in
    let front : take c.args.at c.deref_mut.result.now ≡ take c.args.at c.args.out.now.items = search rules in
    let counted : take c.args.text.now.len c.copy_from_slice.new.self ≡ handle_text c.args.text.now.handle = search rules in
    piece_in c.deref_mut.result.now c.copy_from_slice.new.self _ _ (take c.args.at c.args.out.now.items) (handle_text c.args.text.now.handle)
    c.args.at c.args.text.now.len c.args.out.now.len room within few front counted
