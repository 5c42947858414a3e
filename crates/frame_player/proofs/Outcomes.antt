-- What writing the text of a run over the lines of a scene comes to.
use Rattle.std.proofs.Common.{◌^◌, ◌-◌, ◌≡◌, ℕ, ◌<◌, true, List, [], length}
use Rattle.std.proofs.Common.{◌++◌, Option, IfSome, OnOk, Result, Ok, Err, option_map, sym, ap, subst, ◌∙◌, arith}
use Rattle.std.specs.Io.KnownBytes.{append_known}
use Rattle.std.proofs.lemmas.List.{append-nil}
use Rattle.play_io.specs.Source.{CountsFault}
use Rattle.play_io.specs.declared.sink.SinkFault.{SinkFault}
use Rattle.play_io.specs.declared.sink.SinkFault.TheVariants as why
use Rattle.scene_lines.specs.SceneLines.{lines}
use Rattle.play_rules.specs.declared.status.Status.{Status}
use Rattle.play_rules.specs.declared.status.Status.TheVariants.{Done, Refused, ReadFault}
use Rattle.play_rules.specs.Course.{Played, whole}
use Rattle.play_rules.specs.Outcome.{Ends, IsBegun, IsReportBegun, IsWriteFault, IsOutcome}
use Rattle.frame_player.specs.Reached.{IsTextOf}
use Rattle.frame_player.proofs.ReachedLaws.{Begins, text_within}
use Rattle.frame_player.specs.Ending.{IsCountedAs, after_fault, ended}
use Rattle.frame_player.specs.Outlet.{Outlet, outlet, IsSaid, IsSent}
use Rattle.frame_player.proofs.Sending.{begun_all, begun_within, on_some, said_all, said_each, said_stopped}

-- a part of the text is a part of the report
report_begun : (play : List (List ℕ) → Played) (before now : Ends) (text : List ℕ) (status : Status)
    → Begins play → IfSome before.left (λ given. IsTextOf play given now.left text status) → IsBegun before.written now.written text
    → IsReportBegun play before now
report_begun play before now text status law is begun =
    on_some before.left is (λ given of. begun_within before.written now.written text (whole (play (lines given true))) begun
    (text_within play given now.left text status law of))

-- all is written and settled
pub all_written : (play : List (List ℕ) → Played) (before now : Ends) (text : List ℕ) (status : Status)
    → IfSome before.left (λ given. IsTextOf play given now.left text status) → IsCountedAs before.read_faults now.read_faults status
    → IsBegun before.written now.written text → now.written ≡ append_known before.written text → now.settled ≡ option_map length now.written
    → now.write_faults ≡ before.write_faults → IsOutcome play before now status
all_written play before now text Done is count begun written settled same = (
  record {
    ending = on_some before.left is (λ given of. of.0);
    text = on_some before.left is (λ given of. written ∙ ap (append_known before.written) of.1);
    flushed = settled;
    unread = count;
    unwritten = same;
  },
  on_some before.left is (λ given of. of.2),
)
all_written play before now text (Refused n c) is count begun written settled same = (
  record {
    ending = on_some before.left is (λ given of. of.0);
    text = on_some before.left is (λ given of. written ∙ ap (append_known before.written) of.1);
    flushed = settled;
    unread = count;
    unwritten = same;
  },
  on_some before.left is (λ given of. of.2),
)
all_written play before now text ReadFault is count begun written settled same = record {
  rose = count;
  text = on_some before.left is (λ given of. record { text = text; replies = of; begun = begun; all = λ _. written });
  flushed = λ _. settled;
}
all_written play before now text Status.Usage is count begun written settled same = absurd count
all_written play before now text Status.WriteFault is count begun written settled same = absurd count
all_written play before now text Status.NoMemory is count begun written settled same = absurd count

-- the sink failed
failed_there : (play : List (List ℕ) → Played) (before now : Ends) (text : List ℕ) (status : Status)
    → Begins play → IfSome before.left (λ given. IsTextOf play given now.left text status) → now.read_faults ≡ before.read_faults
    → IsBegun before.written now.written text → before.write_faults < now.write_faults → IsWriteFault play before now
failed_there play before now text status law is count begun rose =
    record { rose = rose; unread = count; begun = report_begun play before now text status law is begun }

pub sink_failed : (play : List (List ℕ) → Played) (before now : Ends) (text : List ℕ) (status : Status)
    → Begins play → IfSome before.left (λ given. IsTextOf play given now.left text status) → IsCountedAs before.read_faults now.read_faults status
    → IsBegun before.written now.written text → before.write_faults < now.write_faults → IsOutcome play before now (after_fault status)
sink_failed play before now text Done law is count begun rose = failed_there play before now text Done law is count begun rose
sink_failed play before now text (Refused n c) law is count begun rose = failed_there play before now text (Refused n c) law is count begun rose
sink_failed play before now text ReadFault law is count begun rose = record {
  rose = count;
  text = on_some before.left is (λ given of. record { text = text; replies = of; begun = begun; all = λ same. absurd (omega (arith, rose, same)) });
  flushed = λ same. absurd (omega (arith, rose, same));
}
sink_failed play before now text Status.Usage law is count begun rose = absurd count
sink_failed play before now text Status.WriteFault law is count begun rose = absurd count
sink_failed play before now text Status.NoMemory law is count begun rose = absurd count

-- a count that has room rises at a fault
pub rose_by : (before now : ℕ) → CountsFault before now → before < 2 ^ 64 - 1 → before < now
rose_by before now counts few = counts.rose few

-- what holds of a sink at the end of a report holds of the one that was lent to it
pub final_sink : {K : Type 0} (P : K → Type 0) (sink : K) {lent : K} → P sink → sink ≡ lent → P lent
final_sink P sink holds same = subst P same holds

-- the rest of the text went out as far as it goes, and the status follows
pub play_ended : (play : List (List ℕ) → Played) (before now : Ends) (since since' : Option ℕ) (b : Outlet) (held last : List ℕ) (status : Status)
    (sent : Result (Unit {0}) SinkFault) → Begins play
    → IsSaid (outlet before.written before.write_faults since) b held
    (λ all. IfSome before.left (λ given. IsTextOf play given now.left (all ++ last) status))
    → IsCountedAs before.read_faults now.read_faults status
    → IsSent b (outlet now.written now.write_faults since') (held ++ last) [] sent
    → OnOk sent (now.settled ≡ option_map length now.written) → before.write_faults < 2 ^ 64 - 1
    → IsOutcome play before now (ended status sent)
play_ended play before now since since' b held last status (Ok x) law said count sent settled few =
    let all = said_all (λ all. IfSome before.left (λ given. IsTextOf play given now.left (all ++ last) status))
    (outlet before.written before.write_faults since) b (outlet now.written now.write_faults since') held last said sent in
    all_written play before now ((said.done ++ held) ++ last) status said.whole count
    (begun_all before.written now.written ((said.done ++ held) ++ last) all) all settled (sent.unfailed ∙ said.unfailed)
play_ended play before now since since' b held last status (Err why.Failed) law said count sent settled few =
    let stop = said_stopped (λ all. IfSome before.left (λ given. IsTextOf play given now.left (all ++ last) status))
    (outlet before.written before.write_faults since) b (outlet now.written now.write_faults since') held last why.Failed said sent in
    sink_failed play before now ((said.done ++ held) ++ last) status law said.whole count stop.begun
    (rose_by before.write_faults now.write_faults stop.count few)
play_ended play before now since since' b held last status (Err why.NoMemory) law said count sent settled few =
    let stop = said_stopped (λ all. IfSome before.left (λ given. IsTextOf play given now.left (all ++ last) status))
    (outlet before.written before.write_faults since) b (outlet now.written now.write_faults since') held last why.NoMemory said sent in
    record {
      unwritten = stop.count;
      begun = report_begun play before now ((said.done ++ held) ++ last) status law said.whole stop.begun;
    }

-- where there is no last line
pub run_ended : (play : List (List ℕ) → Played) (before now : Ends) (since since' : Option ℕ) (b : Outlet) (held : List ℕ) (status : Status)
    (sent : Result (Unit {0}) SinkFault) → Begins play
    → IsSaid (outlet before.written before.write_faults since) b held (λ all. IfSome before.left (λ given. IsTextOf play given now.left all status))
    → IsCountedAs before.read_faults now.read_faults status → IsSent b (outlet now.written now.write_faults since') held [] sent
    → OnOk sent (now.settled ≡ option_map length now.written) → before.write_faults < 2 ^ 64 - 1
    → IsOutcome play before now (ended status sent)
run_ended play before now since since' b held status sent law said count gone settled few =
    play_ended play before now since since' b held [] status sent law
    (said_each before.left _ _ said (λ given all is. subst (λ t. IsTextOf play given now.left t status) (sym (append-nil all)) is)) count
    (subst (λ t. IsSent b (outlet now.written now.write_faults since') t [] sent) (sym (append-nil held)) gone) settled few
