-- No slot is marked, and none is listed.
use Rattle.std.proofs.Common.{◌≡◌, ℕ, false, replicate, slice_index_or, sym, ap, ◌∙◌, arith, inl, inr}
use Rattle.std.proofs.lemmas.Bool.{cases_lt}
use Rattle.std.proofs.lemmas.List.{get_or-replicate, get_or_past, length-replicate}
use Rattle.fixed_box.specs.declared.TheConstants.{SLOTS}
use Rattle.broad_index.specs.Members.{has_slot}
use Rattle.skin_index.proofs.marked_skins.MarkedSkins.clear.Goals as goal

none_marked : (n k : ℕ) → slice_index_or (replicate n false) k false ≡ false
none_marked n k = elim (cases_lt k n) as (λ _. slice_index_or (replicate n false) k false ≡ false) [
  | inl lt ↦ get_or-replicate n k false false lt
  | inr ge ↦ get_or_past (replicate n false) k false (let long = length-replicate n false in omega (arith, long, ge))
]

pub returns-clause-are : goal.returns-clause-are
returns-clause-are c k =
    ap (λ l. slice_index_or l k false) c.clear.ensures ∙ none_marked SLOTS k ∙ sym (ap (λ l. has_slot l k) c.clear-2.ensures.items)
