-- The entries stay, and so does what is counted.
use Rattle.std.proofs.Common.{ap}
use Rattle.box_world.proofs.Stale.{unchanged, none_gone, none_moved}
use Rattle.box_world.proofs.laws.stale_law.Goals as goal

pub returns-clause-moved : goal.returns-clause-moved
returns-clause-moved c counts w handle body stale = none_moved counts w handle body stale

pub returns-clause-masked : goal.returns-clause-masked
returns-clause-masked c w handle masks stale =
    ap (λ es. record w { table = record w.table { entries = es } }) (unchanged handle (λ entry. record entry { masks = masks }) w.table.entries stale)

pub returns-clause-regrouped : goal.returns-clause-regrouped
returns-clause-regrouped c w handle group stale =
    ap (λ es. record w { table = record w.table { entries = es } }) (unchanged handle (λ entry. record entry { group = group }) w.table.entries stale)

pub returns-clause-removed : goal.returns-clause-removed
returns-clause-removed c w handle stale = ap (λ es. record w { table = record w.table { entries = es } }) (none_gone handle w.table.entries stale)
