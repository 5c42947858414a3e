-- `retain` keeps what passes the closure's test
use Rattle.std.proofs.Common.{ap, ◌∙◌, rules}
use Rattle.std.proofs.lemmas.Fn.{filter_same}
use Rattle.slot_lists.specs.RisingLaws.{filtered_rise}
use Rattle.broad_index.specs.Near.{precedes, rises}
use Rattle.engine_tick.specs.Colliding.{is_let}
use Rattle.engine_tick.proofs.contacts.keep_let.Goals as goal

pub returns-clause-let_them : goal.returns-clause-let_them
returns-clause-let_them c = filter_same _ (is_let c.args.kinds.now) _ (λ x b f' k. search rules) _ _ c.retain.ensures.filtered

pub returns-clause-rises : goal.returns-clause-rises
returns-clause-rises c =
    ap rises (returns-clause-let_them c) ∙ filtered_rise precedes (is_let c.args.kinds.now) c.args.pairs.now.items c.requires
