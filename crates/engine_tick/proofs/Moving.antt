-- A body that moves stays there, and so do the others.
use Rattle.std.proofs.Common.{◌≡◌, ℕ, ◌+◌, ◌<◌, Bool, true, false, cond, List, length, drop, get_or, Some, Option, is_some}
use Rattle.std.proofs.Common.{refl, sym, ap, ◌∙◌}
use Rattle.std.specs.List.{All}
use Rattle.std.specs.Ordering.{nat_cmp, eq_by_cmp}
use Rattle.std.specs.FinMap.{FinMap, insert, get, contains_key, get-insert}
use Rattle.std.proofs.lemmas.Cmp.{nat_cmp_total}
use Rattle.std.proofs.lemmas.List.{drop_more}
use Rattle.std.proofs.lemmas.List.Elements.{All-weaker}
use Rattle.fixed_box.specs.Bounds.{Bounds}
use Rattle.engine_tick.specs.Moves.{moved_all}

some_either : (t : Bool) (x : Bounds) (o : Option Bounds) → is_some o ≡ true → is_some (cond t (Some x) o) ≡ true
some_either true x o h = refl
some_either false x o h = h

-- where one body is moved, all that were there are there still
pub still_there : (now next : FinMap nat_cmp Bounds) (m : ℕ × Bounds) (moved : List (ℕ × Bounds)) → next ≡ insert now m.0 m.1
    → All (λ o. contains_key now o.0 ≡ true) moved → All (λ o. contains_key next o.0 ≡ true) moved
still_there now next m moved put h =
    All-weaker (λ o. contains_key now o.0 ≡ true) (λ o. contains_key next o.0 ≡ true)
    (λ o there.
    ap (λ bodies. contains_key bodies o.0) put
    ∙ ap is_some (get-insert nat_cmp_total now m.0 m.1 o.0)
    ∙ some_either (eq_by_cmp nat_cmp o.0 m.0) m.1 (get now o.0) there)
    moved h

-- one more move is made, and the others are ahead still
pub one_more : (now next : FinMap nat_cmp Bounds) (moved : List (ℕ × Bounds)) (i : ℕ) (m : ℕ × Bounds)
    → i < length moved → m ≡ get_or moved i m → next ≡ insert now m.0 m.1 → moved_all next (drop (i + 1) moved) ≡ moved_all now (drop i moved)
one_more now next moved i m lt is put =
    ap (λ bodies. moved_all bodies (drop (i + 1) moved)) put
    ∙ ap (λ n. moved_all (insert now n.0 n.1) (drop (i + 1) moved)) is
    ∙ ap (moved_all now) (sym (drop_more moved i m lt))
