-- How many pairs there can be.
use Rattle.std.proofs.Common.{ℕ, ◌*◌, ◌≤◌, List, [], ◌∷◌, filter, length, arith}
use Rattle.std.proofs.lemmas.List.{length-append, length-map}
use Rattle.live_table.specs.declared.live.Live.{Live}
use Rattle.pair_events.specs.declared.hpair.HPair.{HPair}
use Rattle.fixed_box.specs.declared.TheConstants.{SLOTS}
use Rattle.live_queries.specs.Pairs.{may_touch, partners, pairs_of}
use Rattle.fixed_box.proofs.Lists.{kept_le}

partners_few : (a : Live) (later : List Live) → length (partners a later) ≤ length later
partners_few a later =
    let touch : Live → HPair = λ b. record { a = a.handle; b = b.handle } in
    rw (length-map (filter (may_touch a) later) touch) (kept_le (may_touch a) later)

-- at most as many as the boxes, for each box
pairs_few : (es : List Live) (n : ℕ) → length es ≤ n → length (pairs_of es) ≤ length es * n
pairs_few [] n le = grind arith
pairs_few (a ∷ later) n le =
    let rest : length (pairs_of later) ≤ length later * n = pairs_few later n (omega arith) in
    let here : length (partners a later) ≤ n = omega (arith, partners_few a later) in
    rw (length-append (partners a later) (pairs_of later)) (grind (arith, rest, here))

pub pairs_countable : (es : List Live) → length es ≤ SLOTS → length (pairs_of es) ≤ SLOTS * SLOTS
pairs_countable es le = let few : length (pairs_of es) ≤ length es * SLOTS = pairs_few es SLOTS le in omega arith
