-- each slot's list and number are those of its own search
use Rattle.std.proofs.Common.{◌<◌, ◌^◌, ◌∙◌, sym, subst, rules}
use Rattle.std.proofs.lemmas.Result.{IfOk-weaker}
use Rattle.broad_index.specs.Reach.{reach}
use Rattle.work_pieces.specs.EachLaws.{Each-length, Each-map}
use Rattle.broad_index.proofs.Costs.{summed}
use Rattle.broad_index.proofs.slot_search.seek_many.Goals as goal

pub parted-requires : goal.parted-requires
parted-requires g c =
    let as_many = Each-length _ c.args.slots.now c.in_ok-found.found.items c.in_ok-found.ensures in
    record { few = subst (λ n. n < 2 ^ 32) (sym as_many) c.requires.few }

pub returns-clause-lists : goal.returns-clause-lists
returns-clause-lists g c =
    IfOk-weaker c.parted.result _ _ (
    λ r same. same ∙ Each-map _ (reach (g.K.Seeker.bodies c.args.index.now)) (λ one. one.0.items) c.args.slots.now c.in_ok-found.found.items
    (λ x y e. search rules) c.in_ok-found.ensures
    ) c.parted.ensures.lists

pub returns-clause-cost : goal.returns-clause-cost
returns-clause-cost g c =
    IfOk-weaker c.parted.result _ _ (
    λ r same. summed _ (g.K.Seeker.costs c.args.index.now) c.args.slots.now c.in_ok-found.found.items r.1 (λ x y e. search rules) c.in_ok-found.ensures same
    ) c.parted.ensures.cost
