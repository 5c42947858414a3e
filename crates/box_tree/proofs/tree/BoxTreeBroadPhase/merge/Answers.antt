-- What the pieces found renews the pairs.
use Rattle.std.proofs.Common.{map, ap, ◌∙◌}
use Rattle.std.specs.List.{sum}
use Rattle.slot_lists.specs.SlotMap.{map_of}
use Rattle.work_pieces.specs.Runs.{put_together}
use Rattle.broad_index.specs.Members.{has_pair}
use Rattle.tree_search.specs.Looked.{raised}
use Rattle.box_tree.proofs.Searching.{near_viewed, same_searched}
use Rattle.box_tree.proofs.SharedSlots.{pieces_renewed, pieces_counted}
use Rattle.box_tree.proofs.tree.BoxTreeBroadPhase.merge.Goals as goal

pub invariant_of-self-2 : goal.invariant_of-self-2
invariant_of-self-2 c =
    let s = c.self.inside in
    let m = map_of s.boxes.bodies in
    record {
      sound = record {
        kept_rise = c.renew.ensures.rises;
        kept_are = c.renew.ensures.kept m (pieces_renewed (λ piece. piece.0.items) (λ piece. piece.1)
            s.boxes.tree s.boxes.bodies s.boxes.fats c.kept_law.ensures.kept s.marks c.args.self.now s.looked c.self.view_is s.kept.items
            c.self.invariant.sound.kept_are
            c.holding_laws.ensures.reach c.keeping_laws.ensures.renewing c.keeping_laws.ensures.touched c.args.found.items c.requires.pieces
            c.join_pieces.new.out.items (λ p. c.in_ok-counted.ensures.members p
            ∙ ap (λ l. has_pair (put_together (map (λ piece. piece.0.items) l)) p) c.deref.ensures.value));
      };
      listed = c.self.invariant.listed;
    }

pub invariant_of-self-in_err-renew : goal.invariant_of-self-in_err-renew
invariant_of-self-in_err-renew c =
    let s = c.self.inside in
    let m = map_of s.boxes.bodies in
    record {
      sound = record {
        kept_rise = c.renew.ensures.rises;
        kept_are = c.renew.ensures.kept m (pieces_renewed (λ piece. piece.0.items) (λ piece. piece.1)
            s.boxes.tree s.boxes.bodies s.boxes.fats c.kept_law.ensures.kept s.marks c.args.self.now s.looked c.self.view_is s.kept.items
            c.self.invariant.sound.kept_are
            c.holding_laws.ensures.reach c.keeping_laws.ensures.renewing c.keeping_laws.ensures.touched c.args.found.items c.requires.pieces
            c.join_pieces.new.out.items (λ p. c.in_ok-counted.ensures.members p
            ∙ ap (λ l. has_pair (put_together (map (λ piece. piece.0.items) l)) p) c.deref.ensures.value));
      };
      listed = c.self.invariant.listed;
    }

pub returns-clause-ok : goal.returns-clause-ok
returns-clause-ok c =
    let s = c.self.inside in
    let m = map_of s.boxes.bodies in
    let r = c.in_ok-renew.ensures.near m (pieces_renewed (λ piece. piece.0.items) (λ piece. piece.1)
    s.boxes.tree s.boxes.bodies s.boxes.fats c.kept_law.ensures.kept s.marks c.args.self.now s.looked c.self.view_is s.kept.items
    c.self.invariant.sound.kept_are
    c.holding_laws.ensures.reach c.keeping_laws.ensures.renewing c.keeping_laws.ensures.touched c.args.found.items c.requires.pieces
    c.join_pieces.new.out.items (λ p. c.in_ok-counted.ensures.members p
    ∙ ap (λ l. has_pair (put_together (map (λ piece. piece.0.items) l)) p) c.deref.ensures.value)) in
    near_viewed s.boxes.tree s.boxes.bodies s.boxes.fats s.marks c.args.self.now s.looked
    c.self.view_is c.args.out.now.items c.renew.new.out.items r

pub returns-clause-paired : goal.returns-clause-paired
returns-clause-paired c =
    let s = c.self.inside in
    same_searched s.boxes.tree s.boxes.bodies s.boxes.fats s.marks c.renew.new.marks s.looked c.in_ok-counted.counted c.args.self.now
    c.self.view_is c.in_ok-renew.ensures.marks
    (pieces_counted (λ piece. piece.0.items) (λ piece. piece.1)
    s.boxes.tree s.boxes.bodies s.boxes.fats c.kept_law.ensures.kept s.marks c.args.self.now s.looked c.self.view_is c.args.found.items c.requires.pieces
    c.in_ok-counted.counted
    (c.in_ok-counted.ensures.count ∙ ap (λ l. raised s.looked (sum (map (λ piece. piece.1) l))) c.deref.ensures.value))
