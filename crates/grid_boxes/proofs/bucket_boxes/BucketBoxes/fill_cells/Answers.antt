-- The slots that are listed are those that have boxes.
use Rattle.std.proofs.Common.{◌≡◌, ◌<◌, length, get_or, ap, sym, ◌∙◌, subst}
use Rattle.std.specs.FinMap.{contains_key}
use Rattle.std.proofs.lemmas.List.{get_or_default}
use Rattle.grid_boxes.specs.Buckets.{AreOf}
use Rattle.grid_boxes.specs.Copies.{slots_of}
use Rattle.grid_boxes.proofs.StandingLemmas.{same_standing}
use Rattle.grid_boxes.proofs.bucket_boxes.BucketBoxes.fill_cells.Goals as goal

pub copy_boxes-requires : goal.copy_boxes-requires
copy_boxes-requires c k d l =
    let cells = c.args.cells.now in
    let slots = c.fill.new.self.slots in
    let is = c.slots.ensures in
    let within : k < length slots = subst (λ xs. k < length xs) is l in
    ap (λ xs. contains_key c.boxes.result.now (get_or xs k d)) is
    ∙ ap (contains_key c.boxes.result.now) (get_or_default slots k d 0 within)
    ∙ ap (λ m. contains_key m (get_or slots k 0)) c.boxes.ensures
    ∙ sym (same_standing c.args.kept.now c.args.self.now.floor cells (get_or slots k 0) c.requires.standing)
    ∙ c.in_ok-fill.ensures.ok.present k within

pub returns-clause-filled : goal.returns-clause-filled
returns-clause-filled c =
    let is : c.put_in_packets.new.self ≡ c.copy_boxes.new.self = c.put_in_packets.ensures in
    record {
      cells = c.args.cells.now;
      low = c.requires.low;
      keyed = c.requires.standing;
      listed = c.in_ok-fill.ensures.ok;
      same = ap slots_of is ∙ c.in_ok-copy_boxes.ensures.same ∙ c.slots.ensures;
      right = subst (AreOf c.args.kept.now) (sym is)
          (subst (λ m. AreOf m c.copy_boxes.new.self) c.boxes.ensures c.in_ok-copy_boxes.ensures.right);
    }
