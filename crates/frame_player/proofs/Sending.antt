-- A text that goes on to a sink in parts.
use Rattle.std.proofs.Common.{◌≡◌, ℕ, List, [], ◌++◌, take, drop, Option, Some, None, Result}
use Rattle.std.proofs.Common.{Ok, Err, OnOk, IfErr, IfSome, refl, sym, ap, ◌∙◌, subst, option_map}
use Rattle.std.specs.Io.KnownBytes.{append_known}
use Rattle.std.specs.Result.{IsErrAnd}
use Rattle.std.proofs.lemmas.List.{append_assoc, append-nil, take-append-drop}
use Rattle.play_io.specs.declared.sink.SinkFault.{SinkFault}
use Rattle.play_io.specs.declared.sink.SinkFault.TheVariants as why
use Rattle.play_io.specs.Sink.{SinkCount, CountsSince, since_after}
use Rattle.play_rules.specs.Outcome.{IsBegun}
use Rattle.play_rules.specs.OutcomeLaws.{append_known-nil}
use Rattle.frame_player.specs.Outlet.{Outlet, IsUncalled, IsHanded, IsStopped, IsSent, IsSaid}
use Rattle.scene_lines.specs.SceneLines.{IsPrefix}

pub on_some : {A : Type 0} {P Q : A → Type 0} (o : Option A) → IfSome o P → ((a : A) → P a → Q a) → IfSome o Q
on_some None p f = tt
on_some (Some a) p f = f a p

pub append_known-append : (known : Option (List ℕ)) (xs ys : List ℕ) → append_known (append_known known xs) ys ≡ append_known known (xs ++ ys)
append_known-append None xs ys = refl
append_known-append (Some k) xs ys = ap Some (append_assoc k xs ys)

-- nothing was called, and nothing is written
pub handed_none : (a : Outlet) (text : List ℕ) → IsHanded a a text text
handed_none a text = record { part = []; split = refl; written = append_known-nil a.written; unfailed = refl; uncalled = λ _. refl }

pub stopped_here : (a : Outlet) (text : List ℕ) → IsStopped a a text why.NoMemory
stopped_here a text = record { begun = record { part = []; prefix = (text, refl); written = append_known-nil a.written }; count = refl; uncalled = λ _. refl }

-- one text after another
uncalled_on : (a b c : Outlet) → b.faults ≡ a.faults → IsUncalled a b → IsUncalled b c → IsUncalled a c
uncalled_on a b c same first second = λ none. second (same ∙ none) ∙ first none

pub handed_on : (a b c : Outlet) (text held left : List ℕ) → IsHanded a b text held → IsHanded b c held left → IsHanded a c text left
handed_on a b c text held left first second = record {
  part = first.part ++ second.part;
  split = first.split ∙ ap (λ t. first.part ++ t) second.split ∙ sym (append_assoc first.part second.part left);
  written = second.written ∙ ap (λ k. append_known k second.part) first.written ∙ append_known-append a.written first.part second.part;
  unfailed = second.unfailed ∙ first.unfailed;
  uncalled = uncalled_on a b c first.unfailed first.uncalled second.uncalled;
}

pub stopped_on : (a b c : Outlet) (text held : List ℕ) (fault : SinkFault)
    → IsHanded a b text held → IsStopped b c held fault → IsStopped a c text fault
stopped_on a b c text held fault first second = record {
  begun = record {
    part = first.part ++ second.begun.part;
    prefix = (
      second.begun.prefix.0,
      first.split ∙ ap (λ t. first.part ++ t) second.begun.prefix.1 ∙ sym (append_assoc first.part second.begun.part second.begun.prefix.0),
    );
    written = second.begun.written ∙ ap (λ k. append_known k second.begun.part) first.written ∙ append_known-append a.written first.part second.begun.part;
  };
  count = subst (λ n. SinkCount {T = Unit {0}} n c.faults (Err fault)) first.unfailed second.count;
  uncalled = uncalled_on a b c first.unfailed first.uncalled second.uncalled;
}

pub sent_on : {T : Type 0} (a b c : Outlet) (text held left : List ℕ) (r : Result T SinkFault) → IsHanded a b text held → IsSent b c held left r
    → IsSent a c text left r
sent_on a b c text held left (Ok _) first second = handed_on a b c text held left first second
sent_on a b c text held left (Err fault) first second = stopped_on a b c text held fault first second

-- a text that more comes behind
pub handed_more : (a b : Outlet) (text held more : List ℕ) → IsHanded a b text held → IsHanded a b (text ++ more) (held ++ more)
handed_more a b text held more h =
    record {
      part = h.part;
      split = ap (λ t. t ++ more) h.split ∙ append_assoc h.part held more;
      written = h.written;
      unfailed = h.unfailed;
      uncalled = h.uncalled;
    }

pub stopped_more : (a b : Outlet) (text more : List ℕ) (fault : SinkFault) → IsStopped a b text fault → IsStopped a b (text ++ more) fault
stopped_more a b text more fault s = record {
  begun = record {
    part = s.begun.part;
    prefix = (s.begun.prefix.0 ++ more, ap (λ t. t ++ more) s.begun.prefix.1 ∙ append_assoc s.begun.part s.begun.prefix.0 more);
    written = s.begun.written;
  };
  count = s.count;
  uncalled = s.uncalled;
}

-- the same texts by other names
pub handed_as : (a b : Outlet) (text held text' held' : List ℕ) → text ≡ text' → held ≡ held' → IsHanded a b text held → IsHanded a b text' held'
handed_as a b text held text' held' e f h = subst (λ t. IsHanded a b t held') e (subst (λ t. IsHanded a b text t) f h)

pub stopped_as : (a b : Outlet) (text text' : List ℕ) (fault : SinkFault) → text ≡ text' → IsStopped a b text fault → IsStopped a b text' fault
stopped_as a b text text' fault e s = subst (λ t. IsStopped a b t fault) e s

pub sent_as : {T : Type 0} (a b : Outlet) (text held text' held' : List ℕ) (r : Result T SinkFault)
    → text ≡ text' → held ≡ held' → IsSent a b text held r → IsSent a b text' held' r
sent_as a b text held text' held' (Ok _) e f s = handed_as a b text held text' held' e f s
sent_as a b text held text' held' (Err fault) e f s = stopped_as a b text text' fault e s

-- the held text of an answer that is Ok may be said otherwise
pub sent_held : {T : Type 0} (a b : Outlet) (text held held' : List ℕ) (r : Result T SinkFault) → OnOk r (held ≡ held') → IsSent a b text held r
    → IsSent a b text held' r
sent_held a b text held held' (Ok _) e s = subst (λ t. IsHanded a b text t) e s
sent_held a b text held held' (Err fault) e s = s

-- what is held goes behind what was said
pub said_on : (P Q : List ℕ → Type 0) (a b c : Outlet) (held piece left : List ℕ) → IsSaid a b held P → IsHanded b c (held ++ piece) left
    → ((all : List ℕ) → P all → Q (all ++ piece)) → IsSaid a c left Q
said_on P Q a b c held piece left s h grows =
    let same : (s.done ++ held) ++ piece ≡ (s.done ++ h.part) ++ left =
    append_assoc s.done held piece ∙ ap (λ t. s.done ++ t) h.split ∙ sym (append_assoc s.done h.part left) in
    record {
      done = s.done ++ h.part;
      written = h.written ∙ ap (λ k. append_known k h.part) s.written ∙ append_known-append a.written s.done h.part;
      unfailed = h.unfailed ∙ s.unfailed;
      uncalled = uncalled_on a b c s.unfailed s.uncalled h.uncalled;
      whole = subst Q same (grows (s.done ++ held) s.whole);
    }

pub said_map : (P Q : List ℕ → Type 0) (a b : Outlet) (held : List ℕ)
    → IsSaid a b held P → ((all : List ℕ) → P all → Q all) → IsSaid a b held Q
said_map P Q a b held s f = record { done = s.done; written = s.written; unfailed = s.unfailed; uncalled = s.uncalled; whole = f (s.done ++ held) s.whole }

-- where the source tells its bytes
pub said_each : {a b : Outlet} {held : List ℕ} (left : Option (List ℕ)) (P Q : List ℕ → List ℕ → Type 0)
    → IsSaid a b held (λ all. IfSome left (λ given. P given all)) → ((given all : List ℕ) → P given all → Q given all)
    → IsSaid a b held (λ all. IfSome left (λ given. Q given all))
said_each {a} {b} {held} left P Q s f =
    said_map (λ all. IfSome left (λ given. P given all)) (λ all. IfSome left (λ given. Q given all)) a b held s
    (λ all ok. on_some left ok (λ given p. f given all p))

-- a part of a part
pub begun_within : (before now : Option (List ℕ)) (text whole : List ℕ) → IsBegun before now text → IsPrefix text whole → IsBegun before now whole
begun_within before now text whole b p =
    record { part = b.part; prefix = (b.prefix.0 ++ p.0, p.1 ∙ ap (λ t. t ++ p.0) b.prefix.1 ∙ append_assoc b.part b.prefix.0 p.0); written = b.written }

-- a call of a sink, where none has failed
same_since : (known : Option ℕ) → option_map (since_after 0) known ≡ known
same_since None = refl
same_since (Some n) = refl

pub uncalled_step : (a b : Outlet) (now : Outlet) → IsUncalled a b → b.faults ≡ a.faults → CountsSince b.faults b.since now.since → IsUncalled a now
uncalled_step a b now before same step = λ none. step ∙ ap (λ n. option_map (since_after n) b.since) (same ∙ none) ∙ same_since b.since ∙ before none

-- one more piece of a text is written
pub piece_written : (a b c : Outlet) (text rest back : List ℕ) (n : ℕ) → IsHanded a b text rest → c.written ≡ append_known b.written (take n rest)
    → c.faults ≡ b.faults → CountsSince b.faults b.since c.since → back ≡ drop n rest
    → IsHanded a c text back
piece_written a b c text rest back n h piece same since left = record {
  part = h.part ++ take n rest;
  split = h.split ∙ ap (λ r. h.part ++ r) (sym (take-append-drop n rest)) ∙ sym (append_assoc h.part (take n rest) (drop n rest))
      ∙ ap (λ r. (h.part ++ take n rest) ++ r) (sym left);
  written = piece ∙ ap (λ k. append_known k (take n rest)) h.written ∙ append_known-append a.written h.part (take n rest);
  unfailed = same ∙ h.unfailed;
  uncalled = uncalled_step a b c h.uncalled h.unfailed since;
}

-- an answer that carries a fault on
pub stopped_so : {T : Type 0} (a b : Outlet) (text held : List ℕ) (r : Result T SinkFault) (fault : SinkFault) → IsErrAnd r (λ e. e ≡ fault)
    → IsStopped a b text fault → IsSent a b text held r
stopped_so a b text held (Ok x) fault is s = absurd is
stopped_so a b text held (Err e) fault is s = subst (λ f. IsStopped a b text f) (sym is) s

-- memory ran out before the sink was called
pub out_of_memory : {T : Type 0} (a : Outlet) (text held : List ℕ) (r : Result T SinkFault)
    → IsErrAnd r (λ e. e ≡ why.NoMemory) → IsSent a a text held r
out_of_memory a text held r is = stopped_so a a text held r why.NoMemory is (stopped_here a text)

-- the same of a report, whose sink goes by the name that it had
pub report_out_of_memory : {N T : Type 0} (name : N) (a : Outlet) (text held : List ℕ) (r : Result T SinkFault) → IsErrAnd r (λ e. e ≡ why.NoMemory)
    → (name ≡ name) × IsSent a a text held r
report_out_of_memory name a text held r is = (refl, out_of_memory a text held r is)

-- One more line goes on, of those that are left.
pub sent_next : (a b c : Outlet) (start text rest line later text' : List ℕ) → IsHanded a b start (text ++ rest) → rest ≡ line ++ later
    → IsHanded b c (text ++ line) text' → IsHanded a c start (text' ++ later)
sent_next a b c start text rest line later text' first next on =
    let cut : text ++ rest ≡ (text ++ line) ++ later = ap (λ t. text ++ t) next ∙ sym (append_assoc text line later) in
    handed_on a b c start ((text ++ line) ++ later) (text' ++ later) (handed_as a b start (text ++ rest) start ((text ++ line) ++ later) refl cut first)
    (handed_more b c (text ++ line) text' later on)

pub stopped_next : (a b c : Outlet) (start text rest line later : List ℕ) (fault : SinkFault) → IsHanded a b start (text ++ rest) → rest ≡ line ++ later
    → IsStopped b c (text ++ line) fault → IsStopped a c start fault
stopped_next a b c start text rest line later fault first next on =
    let cut : text ++ rest ≡ (text ++ line) ++ later = ap (λ t. text ++ t) next ∙ sym (append_assoc text line later) in
    stopped_on a b c start ((text ++ line) ++ later) fault (handed_as a b start (text ++ rest) start ((text ++ line) ++ later) refl cut first)
    (stopped_more b c (text ++ line) later fault on)

-- The first line of several goes on.
pub handed_first : (a b : Outlet) (text put first later held : List ℕ) → put ≡ text ++ first → IsHanded a b put held
    → IsHanded a b (text ++ (first ++ later)) (held ++ later)
handed_first a b text put first later held is h =
    handed_as a b (put ++ later) (held ++ later) (text ++ (first ++ later)) (held ++ later) (ap (λ t. t ++ later) is
    ∙ append_assoc text first later) refl (handed_more a b put held later h)

pub stopped_first : (a b : Outlet) (text put first later : List ℕ) (fault : SinkFault) → put ≡ text ++ first → IsStopped a b put fault
    → IsStopped a b (text ++ (first ++ later)) fault
stopped_first a b text put first later fault is s =
    stopped_as a b (put ++ later) (text ++ (first ++ later)) fault (ap (λ t. t ++ later) is
    ∙ append_assoc text first later) (stopped_more a b put later fault s)

-- An answer whose text goes behind a text that went on, and more.
pub sent_after : {T : Type 0} (a b c : Outlet) (start held more left left' : List ℕ) (r : Result T SinkFault) → IsHanded a b start held
    → IsSent b c (held ++ more) left r → OnOk r (left ≡ left') → IsSent a c (start ++ more) left' r
sent_after a b c start held more left left' r first second same =
    sent_held a c (start ++ more) left left' r same (sent_on a b c (start ++ more) (held ++ more) left r (handed_more a b start held more first) second)

-- memory ran out after a text went on
pub out_of_memory_after : {T : Type 0} (a b : Outlet) (start held more left : List ℕ) (r : Result T SinkFault) → IsHanded a b start held
    → IsErrAnd r (λ e. e ≡ why.NoMemory) → IsSent a b (start ++ more) left r
out_of_memory_after a b start held more left r first is =
    stopped_so a b (start ++ more) left r why.NoMemory is (stopped_on a b b (start ++ more) (held ++ more) why.NoMemory
    (handed_more a b start held more first) (stopped_here b (held ++ more)))

pub on_always : {T E P : Type 0} (r : Result T E) → P → OnOk r P
on_always (Ok x) p = p
on_always (Err e) p = tt

-- a play that a fault cuts short
pub said_stopped : (P : List ℕ → Type 0) (a b c : Outlet) (held piece : List ℕ) (fault : SinkFault) (s : IsSaid a b held P)
    → IsStopped b c (held ++ piece) fault → IsStopped a c ((s.done ++ held) ++ piece) fault
said_stopped P a b c held piece fault s e =
    stopped_as a c (s.done ++ (held ++ piece)) ((s.done ++ held) ++ piece) fault (sym (append_assoc s.done held piece))
    (stopped_on a b c (s.done ++ (held ++ piece)) (held ++ piece) fault (record {
      part = s.done;
      split = refl;
      written = s.written;
      unfailed = s.unfailed;
      uncalled = s.uncalled;
    }) e)

pub on_fault : {T : Type 0} (P : SinkFault → Type 0) (r : Result T SinkFault) (fault : SinkFault) → IsErrAnd r (λ e. e ≡ fault) → P fault → IfErr r P
on_fault P (Ok x) fault is p = tt
on_fault P (Err e) fault is p = subst P (sym is) p

-- all of it is written
pub said_all : (P : List ℕ → Type 0) (a b c : Outlet) (held piece : List ℕ) (s : IsSaid a b held P) → IsHanded b c (held ++ piece) []
    → c.written ≡ append_known a.written ((s.done ++ held) ++ piece)
said_all P a b c held piece s h =
    h.written ∙ ap (λ k. append_known k h.part) s.written ∙ append_known-append a.written s.done h.part
    ∙ ap (λ t. append_known a.written (s.done ++ t)) (sym (append-nil h.part) ∙ sym h.split)
    ∙ ap (append_known a.written) (sym (append_assoc s.done held piece))

pub begun_all : (before now : Option (List ℕ)) (text : List ℕ) → now ≡ append_known before text → IsBegun before now text
begun_all before now text written = record { part = text; prefix = ([], sym (append-nil text)); written = written }
