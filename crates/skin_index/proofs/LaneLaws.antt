-- Serves proofs alone: lanes while boxes change.
use Rattle.std.proofs.Common.{◌≡◌, ℕ, ◌<◌, cond, List, None, Some, length, get_or, set, replicate, sym, ap, ◌∙◌, inl, inr}
use Rattle.std.proofs.lemmas.Bool.{cases_eq}
use Rattle.std.proofs.lemmas.List.{get_or-set_same, get_or-set_other, get_or-replicate}
use Rattle.std.specs.Ordering.{nat_cmp}
use Rattle.std.proofs.lemmas.Cmp.{nat_cmp_total}
use Rattle.std.specs.FinMap.{FinMap, get, empty, insert, remove, get-empty, get-insert, get-remove}
use Rattle.fixed_box.specs.Bounds.{Bounds}
use Rattle.fixed_box.specs.declared.TheConstants.{SLOTS}
use Rattle.slot_lists.specs.SlotMapLaws.{tie_same, tie_other}
use Rattle.skin_index.specs.declared.lanes.Lanes.{Lanes}
use Rattle.skin_index.specs.Lanes.{absent, lanes_of, AreLanes}

pub no_lanes : (lanes : List Lanes) (bodies : FinMap nat_cmp Bounds) → lanes ≡ replicate SLOTS absent → bodies ≡ empty → AreLanes lanes bodies
no_lanes lanes bodies is none k lt =
    ap (λ ls. get_or ls k absent) is ∙ get_or-replicate SLOTS k absent absent lt ∙ sym (ap lanes_of (ap (λ m. get m k) none ∙ get-empty nat_cmp k))

module _ (lanes : List Lanes) (bodies : FinMap nat_cmp Bounds) (slot : ℕ) (within : slot < length lanes) (are : AreLanes lanes bodies) where
  pub lanes_put : (body : Bounds) → AreLanes (set lanes slot (lanes_of (Some body))) (insert bodies slot body)
  lanes_put body k lt = elim (cases_eq k slot) as (λ _. get_or (set lanes slot (lanes_of (Some body))) k absent ≡ lanes_of (get (insert bodies slot body) k)) [
    | inl same ↦
        ap (λ q. get_or (set lanes slot (lanes_of (Some body))) q absent) same ∙ get_or-set_same lanes slot (lanes_of (Some body)) absent within
        ∙ sym (ap lanes_of (get-insert nat_cmp_total bodies slot body k ∙ ap (λ b. cond b (Some body) (get bodies k)) (tie_same k slot same)))
    | inr other ↦
        get_or-set_other lanes slot k (lanes_of (Some body)) absent other ∙ are k lt
        ∙ sym (ap lanes_of (get-insert nat_cmp_total bodies slot body k ∙ ap (λ b. cond b (Some body) (get bodies k)) (tie_other k slot other)))
  ]

  pub lanes_taken : AreLanes (set lanes slot absent) (remove bodies slot)
  lanes_taken k lt = elim (cases_eq k slot) as (λ _. get_or (set lanes slot absent) k absent ≡ lanes_of (get (remove bodies slot) k)) [
    | inl same ↦
        ap (λ q. get_or (set lanes slot absent) q absent) same ∙ get_or-set_same lanes slot absent absent within
        ∙ sym (ap lanes_of (get-remove nat_cmp_total bodies slot k ∙ ap (λ b. cond b None (get bodies k)) (tie_same k slot same)))
    | inr other ↦
        get_or-set_other lanes slot k absent absent other ∙ are k lt
        ∙ sym (ap lanes_of (get-remove nat_cmp_total bodies slot k ∙ ap (λ b. cond b None (get bodies k)) (tie_other k slot other)))
  ]
