-- the keys are ordered as the pairs are
use Rattle.std.proofs.Common.{rules}
use Rattle.broad_index.proofs.PairKeys.{key_cmp}
use Rattle.broad_index.proofs.pair.PairOrd.cmp.Goals as goal

pub returns : goal.returns
returns c =
    let keyed = key_cmp c.args.self.now.a c.args.self.now.b c.args.other.now.a c.args.other.now.b c.key.ensures.low c.key-2.ensures.low in
    search (rules, keyed)
