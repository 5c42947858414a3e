-- Where no live box has a handle, its box isn't changed.
use Rattle.std.proofs.Common.{◌≡◌, ℕ, ◌+◌, Bool, true, false, not, cond, List, [], ◌∷◌, Option, None, Some, is_some, option_map, refl, ap, ◌∙◌, arith}
use Rattle.std.specs.List.{find}
use Rattle.live_table.specs.declared.handle.Handle.{Handle}
use Rattle.live_table.specs.declared.live.Live.{Live}
use Rattle.live_table.specs.Bodies.{slots_with_bodies}
use Rattle.live_table.specs.Entries.{entry_at, has, changed, without}
use Rattle.fixed_box.specs.Bounds.{Bounds}
use Rattle.broad_index.specs.Exchanges.{passed_from}
use Rattle.box_world.specs.World.{World, counted, exchanges_of_move, moved}

-- one entry, by whether it has the handle
change_one : (handle : Handle) (change : Live → Live) (entry : Live) (later : List Live) (b : Bool) → has handle entry ≡ b
    → (is_some (find (has handle) later) ≡ false → changed handle change later ≡ later)
    → is_some (cond b (Some entry) (find (has handle) later)) ≡ false
    → (cond b (change entry) entry) ∷ changed handle change later ≡ entry ∷ later
change_one handle change entry later true is rest h = absurd (cc)
change_one handle change entry later false is rest h = ap (λ l. entry ∷ l) (rest h)

pub unchanged : (handle : Handle) (change : Live → Live) (entries : List Live) → is_some (entry_at handle entries) ≡ false
    → changed handle change entries ≡ entries
unchanged handle change [] h = refl
unchanged handle change (entry ∷ later) h = change_one handle change entry later (has handle entry) refl (unchanged handle change later) h

kept_one : (handle : Handle) (entry : Live) (later : List Live) (b : Bool) → has handle entry ≡ b
    → (is_some (find (has handle) later) ≡ false → without handle later ≡ later)
    → is_some (cond b (Some entry) (find (has handle) later)) ≡ false
    → cond (not b) (entry ∷ without handle later) (without handle later) ≡ entry ∷ later
kept_one handle entry later true is rest h = absurd (cc)
kept_one handle entry later false is rest h = ap (λ l. entry ∷ l) (rest h)

pub none_gone : (handle : Handle) (entries : List Live) → is_some (entry_at handle entries) ≡ false → without handle entries ≡ entries
none_gone handle [] h = refl
none_gone handle (entry ∷ later) h = kept_one handle entry later (has handle entry) refl (none_gone handle later) h

-- no exchanges either
pub none_passed : (found : Option Live) (es : List (ℕ × Bounds)) (slot : ℕ) (body : Bounds) → is_some found ≡ false
    → passed_from (option_map (λ entry. entry.body) found) es slot body ≡ 0
none_passed None es slot body h = refl
none_passed (Some entry) es slot body h = absurd (cc)

none_counted : (counts : Bool) (x n : ℕ) → n ≡ 0 → x + counted counts n ≡ x
none_counted true x n h = omega (arith, h)
none_counted false x n h = omega arith

pub none_moved : (counts : Bool) (w : World) (handle : Handle) (body : Bounds) → is_some (entry_at handle w.table.entries) ≡ false
    → moved counts w handle body ≡ w
none_moved counts w handle body h =
    let none = none_passed (entry_at handle w.table.entries) (slots_with_bodies w.table.entries) handle.slot body h in
    let same = unchanged handle (λ entry. record entry { body = body }) w.table.entries h in
    ap (λ es. record w { table = record w.table { entries = es }; exchanges = w.exchanges + counted counts (exchanges_of_move w handle body) }) same
    ∙ ap (λ x. record w { exchanges = x }) (none_counted counts w.exchanges (exchanges_of_move w handle body) none)
