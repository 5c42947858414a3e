-- A slot's value put in place of another, or at once.
use Rattle.std.proofs.Common.{◌≡◌, ℕ, true, false, cond, None, Some, is_some, refl, sym, ap, ◌∙◌, inl, inr}
use Rattle.std.proofs.lemmas.Bool.{cases_eq}
use Rattle.std.proofs.lemmas.Cmp.{nat_cmp_total}
use Rattle.std.specs.Ordering.{nat_cmp, eq_by_cmp}
use Rattle.std.specs.FinMap.{FinMap, get, insert, remove, contains_key, get-insert, get-remove, same_map, nat_cmp-IsAntisymmetric}
use Rattle.slot_lists.specs.SlotMapLaws.{tie_same, tie_other}

module _ {X : Type 0} where
  pub insert_again : (m : FinMap nat_cmp X) (s : ℕ) (k : X) → insert (remove m s) s k ≡ insert m s k
  insert_again m s k = same_map nat_cmp_total nat_cmp-IsAntisymmetric (insert (remove m s) s k) (insert m s k) (λ q.
      get-insert nat_cmp_total (remove m s) s k q
      ∙ ap (cond (eq_by_cmp nat_cmp q s) (Some k)) (get-remove nat_cmp_total m s q)
      ∙ elim (eq_by_cmp nat_cmp q s) as (λ b. cond b (Some k) (cond b None (get m q)) ≡ cond b (Some k) (get m q)) [ true ↦ refl | false ↦ refl ]
      ∙ sym (get-insert nat_cmp_total m s k q))

  pub insert_same : (m : FinMap nat_cmp X) (s : ℕ) (k : X) → get m s ≡ Some k → m ≡ insert m s k
  insert_same m s k h = same_map nat_cmp_total nat_cmp-IsAntisymmetric m (insert m s k) (λ q.
      elim (cases_eq q s) as (λ _. get m q ≡ cond (eq_by_cmp nat_cmp q s) (Some k) (get m q)) [
        | inl e ↦ ap (get m) e ∙ h ∙ sym (ap (λ b. cond b (Some k) (get m q)) (tie_same q s e))
        | inr ne ↦ sym (ap (λ b. cond b (Some k) (get m q)) (tie_other q s ne))
      ] ∙ sym (get-insert nat_cmp_total m s k q))

  pub remove_absent : (m : FinMap nat_cmp X) (s : ℕ) → get m s ≡ None → m ≡ remove m s
  remove_absent m s h = same_map nat_cmp_total nat_cmp-IsAntisymmetric m (remove m s) (λ q.
      elim (cases_eq q s) as (λ _. get m q ≡ cond (eq_by_cmp nat_cmp q s) None (get m q)) [
        | inl e ↦ ap (get m) e ∙ h ∙ sym (ap (λ b. cond b None (get m q)) (tie_same q s e))
        | inr ne ↦ sym (ap (λ b. cond b None (get m q)) (tie_other q s ne))
      ] ∙ sym (get-remove nat_cmp_total m s q))

  pub gone : (m : FinMap nat_cmp X) (s : ℕ) → contains_key (remove m s) s ≡ false
  gone m s = ap is_some (get-remove nat_cmp_total m s s ∙ ap (λ b. cond b None (get m s)) (tie_same s s refl))
