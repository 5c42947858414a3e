-- The touched slots are searched for, and the pairs renewed, which are kept where `out` has no room too.
use Rattle.slot_lists.specs.SlotMap.{map_of}
use Rattle.box_tree.proofs.Searching.{near_viewed, same_searched, costs_viewed}
use Rattle.box_tree.proofs.tree.BoxTreeBroadPhase.pairs.Goals as goal

pub invariant_of-self-2 : goal.invariant_of-self-2
invariant_of-self-2 c =
    let s = c.self.inside in
    let m = map_of s.boxes.bodies in
    record {
      sound = record {
        kept_rise = c.renew.ensures.rises;
        kept_are = c.renew.ensures.kept m (c.in_ok-looked.ensures.ok s.kept.items c.self.invariant.sound.kept_are);
      };
      listed = c.search_touched.ensures.listed;
    }

pub invariant_of-self-in_err-renew : goal.invariant_of-self-in_err-renew
invariant_of-self-in_err-renew c =
    let s = c.self.inside in
    let m = map_of s.boxes.bodies in
    record {
      sound = record {
        kept_rise = c.renew.ensures.rises;
        kept_are = c.renew.ensures.kept m (c.in_ok-looked.ensures.ok s.kept.items c.self.invariant.sound.kept_are);
      };
      listed = c.search_touched.ensures.listed;
    }

pub returns-clause-ok : goal.returns-clause-ok
returns-clause-ok c =
    let s = c.self.inside in
    let m = map_of s.boxes.bodies in
    let r = c.in_ok-renew.ensures.near m (c.in_ok-looked.ensures.ok s.kept.items c.self.invariant.sound.kept_are) in
    near_viewed s.boxes.tree s.boxes.bodies s.boxes.fats s.marks c.args.self.now s.looked
    c.self.view_is c.args.out.now.items c.renew.new.out.items r

pub returns-clause-paired : goal.returns-clause-paired
returns-clause-paired c =
    let s = c.self.inside in
    same_searched s.boxes.tree s.boxes.bodies s.boxes.fats s.marks c.renew.new.marks s.looked c.in_ok-looked.looked c.args.self.now
    c.self.view_is c.in_ok-renew.ensures.marks
    (costs_viewed s.boxes.tree s.boxes.bodies s.boxes.fats s.marks s.looked c.in_ok-looked.looked c.args.self.now c.self.view_is
    c.in_ok-looked.ensures.count)
