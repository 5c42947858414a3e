-- The answers that are owed, as queries are held and answered.
use Rattle.std.proofs.Common.{◌≡◌, ℕ, ◌++◌, ◌∷◌, Bool, List, [], Result, refl, sym, ap, subst, ◌∙◌}
use Rattle.std.proofs.lemmas.List.{append_assoc, append-nil}
use Rattle.live_table.specs.declared.live.Live.{Live}
use Rattle.frame_player.specs.declared.asked.Asked.{Asked}
use Rattle.play_rules.specs.World.{World, reply}
use Rattle.scene_words.specs.declared.command.Command.{Command}
use Rattle.play_io.specs.declared.sink.SinkFault.{SinkFault}
use Rattle.std.specs.Result.{IsErrAnd}
use Rattle.frame_player.specs.Outlet.{Outlet, IsHanded, IsStopped, IsSent}
use Rattle.frame_player.proofs.Sending.{on_always, sent_after, stopped_more, stopped_so}
use Rattle.frame_player.specs.Owed.{answer_line, answers}

-- one more query is held
answers_push : (entries : List Live) (run : List Asked) (asked : Asked)
    → answers entries (run ++ asked ∷ []) ≡ answers entries run ++ answer_line entries asked
answers_push entries [] asked = append-nil _
answers_push entries (first ∷ run) asked =
    ap (λ t. answer_line entries first ++ t) (answers_push entries run asked)
    ∙ sym (append_assoc (answer_line entries first) (answers entries run) (answer_line entries asked))

pub one_more_owed : (entries : List Live) (text : List ℕ) (run longer : List Asked) (asked : Asked) → longer ≡ run ++ asked ∷ []
    → (text ++ answers entries run) ++ answer_line entries asked ≡ text ++ answers entries longer
one_more_owed entries text run longer asked is =
    append_assoc text (answers entries run) (answer_line entries asked) ∙ ap (λ t. text ++ t) (sym (answers_push entries run asked)) ∙ rw is refl

-- nothing is owed any more
pub none_owed : (entries : List Live) (text : List ℕ) (run : List Asked) → run ≡ [] → text ≡ text ++ answers entries run
none_owed entries text run none = sym (append-nil text) ∙ ap (λ r. text ++ answers entries r) (sym none)

-- the answers that are owed can't go on, and so no reply can
pub reply_stopped : {T : Type 0} (a b : Outlet) (start said held : List ℕ) (r : Result T SinkFault) (fault : SinkFault) → IsErrAnd r (λ e. e ≡ fault)
    → IsStopped a b start fault → IsSent a b (start ++ said) held r
reply_stopped a b start said held r fault is stopped = stopped_so a b (start ++ said) held r fault is (stopped_more a b start said fault stopped)

-- the answers that were owed went on, and the reply of a command goes behind them
pub reply_sent : {T : Type 0} (a b c : Outlet) (w : World) (shows : Bool) (d e : Command) (start text left : List ℕ) (entries : List Live) (run : List Asked)
    (r : Result T SinkFault) → IsHanded a b start text → IsSent b c (text ++ reply shows w d) left r → run ≡ [] → d ≡ e
    → IsSent a c (start ++ reply shows w e) (left ++ answers entries run) r
reply_sent a b c w shows d e start text left entries run r first second none same =
    subst (λ k. IsSent a c (start ++ reply shows w k) (left ++ answers entries run) r) same
    (sent_after a b c start text (reply shows w d) left (left ++ answers entries run) r first second (on_always r (none_owed entries left run none)))
