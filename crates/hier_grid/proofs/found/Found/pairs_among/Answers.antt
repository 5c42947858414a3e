-- Partners among the slots are found, and no others.
use Rattle.std.proofs.Common.{◌≡◌, ap, sym, ◌∙◌, ◌++◌, subst, rules}
use Rattle.broad_index.specs.Members.{has_pair, has_slot}
use Rattle.broad_index.specs.Touched.{ordered}
use Rattle.hier_grid.specs.Search.{HasPairs, IsSound}
use Rattle.hier_grid.proofs.PairLemmas.{more_pairs}
use Rattle.hier_grid.proofs.PartnerLemmas.{found_pairs, sound_pairs, pair_in}
use Rattle.hier_grid.proofs.found.Found.pairs_among.Goals as goal

pub returns : goal.returns
returns c =
    let boxes = c.args.boxes.now in
    let own = c.args.own.now in
    let any = c.args.any in
    let old = c.args.self.now.pairs.items in
    let slots = c.deref.result.now in
    let same : slots ≡ c.args.self.now.slots.items = search rules in
    let is : c.push_pairs.new.out.items ≡ old ++ found_pairs boxes own.slot own.body any slots = c.in_ok-push_pairs.ensures.ok in
    record {
      sound = λ here s. subst (IsSound boxes) (sym is) (sound_pairs boxes own.slot own.body any slots old here s);
      more = subst (HasPairs old) (sym is) (more_pairs old (found_pairs boxes own.slot own.body any slots));
      found = λ q b e there m other due. ap (λ l. has_pair l (ordered own.slot q)) is
          ∙ pair_in boxes own.slot own.body any slots old q b e m other due (ap (λ l. has_slot l q) same ∙ there);
    }
