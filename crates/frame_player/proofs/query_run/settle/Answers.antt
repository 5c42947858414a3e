-- The index has found the slots of each query, and has the live boxes.
use Rattle.std.proofs.Common.{ap, sym, ◌∙◌, map}
use Rattle.std.proofs.lemmas.Simd.{map-map}
use Rattle.broad_index.specs.Found.{found}
use Rattle.live_table.specs.Bodies.{bodies_of}
use Rattle.frame_player.specs.Owed.{query_for}
use Rattle.frame_player.proofs.query_run.settle.Goals as goal

pub send_answers-requires-clause-lists : goal.send_answers-requires-clause-lists
send_answers-requires-clause-lists g c =
    let live = c.args.player.now.world.time.now.table in
    let run = c.args.run.now in
    ap (λ v. map (λ l. l.items) v) c.deref-3.ensures.value
    ∙ c.in_ok-lists.ensures ∙ ap (map (found (g.B.BroadPhase.bodies c.index.result.now))) c.deref.ensures.value
    ∙ ap (λ b. map (found b) run.queries.items) (c.index.ensures.boxes c.requires.sound)
    ∙ ap (map (found (bodies_of live.entries))) c.requires.same
    ∙ map-map (found (bodies_of live.entries)) query_for run.asked.items
    ∙ ap (λ t. map (λ a. found (bodies_of t.entries) (query_for a)) run.asked.items) (sym c.table.ensures.same)
    ∙ ap (map (λ a. found (bodies_of c.table.result.now.entries) (query_for a))) (sym c.deref-2.ensures.value)
