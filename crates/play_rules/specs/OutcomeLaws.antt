-- Serves proofs alone: a play that touches neither end.
use Rattle.std.specs.Prelude.{◌≡◌, ℕ, List, [], Option, Some, None, IfSome}
use Rattle.std.proofs.Common.{refl, sym, ap}
use Rattle.std.proofs.lemmas.List.{append-nil}
use Rattle.std.specs.Io.KnownBytes.{append_known}
use Rattle.play_rules.specs.declared.status.Status.TheVariants.{NoMemory}
use Rattle.play_rules.specs.Outcome.{Ends, IsBegun, IsOutcome, of_bytes}
use Rattle.play_rules.specs.Course.{Played, whole}

pub append_known-nil : (known : Option (List ℕ)) → known ≡ append_known known []
append_known-nil None = refl
append_known-nil (Some k) = ap Some (sym (append-nil k))

-- what is written as before holds a part of any text
pub nothing_begun : (left known : Option (List ℕ)) (text : List ℕ → List ℕ) → IfSome left (λ given. IsBegun known known (text given))
nothing_begun None known text = tt
nothing_begun (Some given) known text = record { part = []; prefix = (text given, refl); written = append_known-nil known }

pub uncalled_ends : (play : List (List ℕ) → Played) (here : Ends) → IsOutcome play here here NoMemory
uncalled_ends play here = record { unwritten = refl; begun = nothing_begun here.left here.written (λ given. whole (of_bytes play given)) }
