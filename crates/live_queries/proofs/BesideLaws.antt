-- Two lists side by side: put in orders that agree on what stands side by side, cut, and looked up by their slots.
use Rattle.std.proofs.Common.{◌≡◌, refl, ap, ◌∙◌, subst, ℕ, zero, suc, true, false, cond, List, [], ◌∷◌, ◌++◌, take, length, Some, append-nil}
use Rattle.std.specs.List.{filter_map, cons_option}
use Rattle.std.specs.declared.cmp.Ordering.{Ordering}
use Rattle.std.specs.Ordering.{is_lt}
use Rattle.ordered_lists.specs.Ordered.{placed, ordered_by}
use Rattle.live_table.specs.declared.live.Live.{Live}
use Rattle.live_table.specs.Entries.{live_at}
use Rattle.live_queries.specs.Beside.{AreBeside, handle_at}
use Rattle.live_queries.specs.Queries.{handles}

module _ {X Y : Type 0} (R : X → Y → Type 0) where
  -- no member is left of one list, so none of the other
  pub all_beside : (xs : List X) (us : List Y) → AreBeside R (xs ++ []) us → AreBeside R xs us
  all_beside xs us h = subst (λ ys. AreBeside R ys us) (append-nil xs) h

  module _ (c : X → X → Ordering) (d : Y → Y → Ordering) (agree : (x y : X) (u v : Y) → R x u → R y v → c x y ≡ d u v) where
    placed_beside : (x : X) (u : Y) (xs : List X) (us : List Y) → R x u → AreBeside R xs us → AreBeside R (placed c x xs) (placed d u us)
    placed_beside x u [] [] r h = (r, tt)
    placed_beside x u [] (v ∷ us) r h = absurd h
    placed_beside x u (y ∷ xs) [] r h = absurd h
    placed_beside x u (y ∷ xs) (v ∷ us) r h =
        subst (λ t. AreBeside R (cond (is_lt (c y x)) (y ∷ placed c x xs) (x ∷ y ∷ xs)) (cond t (v ∷ placed d u us) (u ∷ v ∷ us)))
        (ap is_lt (agree y x v u h.0 r))
        (elim (is_lt (c y x)) as (λ t. AreBeside R (cond t (y ∷ placed c x xs) (x ∷ y ∷ xs)) (cond t (v ∷ placed d u us) (u ∷ v ∷ us))) [
          | true ↦ (h.0, placed_beside x u xs us r h.1)
          | false ↦ (r, h)
        ])

    pub ordered_beside : (xs : List X) (us : List Y) → AreBeside R xs us → AreBeside R (ordered_by c xs) (ordered_by d us)
    ordered_beside [] [] h = tt
    ordered_beside [] (u ∷ us) h = absurd h
    ordered_beside (x ∷ xs) [] h = absurd h
    ordered_beside (x ∷ xs) (u ∷ us) h = placed_beside x u (ordered_by c xs) (ordered_by d us) h.0 (ordered_beside xs us h.1)

  pub front_beside : (want : ℕ) (xs : List X) (us : List Y) → AreBeside R xs us → AreBeside R (take want xs) (take want us)
  front_beside zero xs us h = tt
  front_beside (suc n) [] [] h = tt
  front_beside (suc n) [] (u ∷ us) h = absurd h
  front_beside (suc n) (x ∷ xs) [] h = absurd h
  front_beside (suc n) (x ∷ xs) (u ∷ us) h = (h.0, front_beside n xs us h.1)

-- The handles of what stands beside live boxes are theirs, where each is found by its slot.
pub handles_beside : {X : Type 0} (slot : X → ℕ) (R : X → Live → Type 0) (all : List Live) → ((x : X) (e : Live) → R x e → live_at (slot x) all ≡ Some e)
    → (xs : List X) (es : List Live) → AreBeside R xs es → filter_map (λ x. handle_at all (slot x)) xs ≡ handles es
handles_beside slot R all found [] [] h = refl
handles_beside slot R all found [] (e ∷ es) h = absurd h
handles_beside slot R all found (x ∷ xs) [] h = absurd h
handles_beside slot R all found (x ∷ xs) (e ∷ es) h =
    let here : handle_at all (slot x) ≡ Some e.handle = rw (found x e h.0) refl in
    ap (λ o. cons_option o (filter_map (λ y. handle_at all (slot y)) xs)) here
    ∙ ap (λ hs. e.handle ∷ hs) (handles_beside slot R all found xs es h.1)

pub none_left : {X : Type 0} (xs : List X) → length xs ≡ 0 → xs ≡ []
none_left [] e = refl
none_left (x ∷ xs) e = let no : ⊥ = cc in absurd no
