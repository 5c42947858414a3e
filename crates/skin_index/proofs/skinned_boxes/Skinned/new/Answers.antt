-- There is neither a box nor a skin, and all skins are marked.
use Rattle.std.proofs.Common.{◌≡◌, ◌∙◌, None, Some, ap, sym}
use Rattle.std.proofs.lemmas.Bool.{false≢true}
use Rattle.std.specs.Ordering.{nat_cmp}
use Rattle.std.specs.FinMap.{get, contains_key, get-empty}
use Rattle.skin_index.proofs.skinned_boxes.Skinned.new.Goals as goal

pub invariant_of-result : goal.invariant_of-result
invariant_of-result g c = record {
  same_spent = c.requires.sound;
  held = λ _. record {
    same = λ k. ap (λ m. contains_key m k) (c.requires.none ∙ sym c.in_ok-new.ensures);
    inside = λ k b is.
        let none : None ≡ Some b = sym (ap (λ m. get m k) c.in_ok-new.ensures ∙ get-empty nat_cmp k) ∙ is in
        absurd (cc);
  };
  pairs_kept = λ _ few. absurd (false≢true (sym few ∙ c.in_ok-new-2.ensures.all));
}
