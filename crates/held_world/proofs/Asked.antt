-- What a question finds is what the world appended to an empty list.
use Rattle.std.proofs.Common.{◌≡◌, ◌⊎◌, Bool, false, List, [], ◌++◌, length, Result, Ok, Err, ap, ◌∙◌, inl, inr}
use Rattle.std.specs.Prelude.{OnOk, OnErr}
use Rattle.live_table.specs.declared.handle.Handle.{Handle}
use Rattle.held_world.specs.declared.TheConstants.{OK, NO_MEMORY}
use Rattle.held_world.specs.declared.answers.Reply.{Reply}
use Rattle.held_world.specs.declared.plain.PwHandle.{PwHandle}
use Rattle.held_world.specs.Asks.{IsFound, IsUnanswered}
use Rattle.held_world.specs.Copies.{copied}
use Rattle.held_world.specs.Plain.{handle_out}

pub answered : {A E : Type 0} (answer : Result A E) (spent : Bool) (hits before items : List Handle) (reply : Reply) (room out : List PwHandle)
    → before ≡ [] → OnOk answer (spent ≡ false) → OnOk answer (items ≡ before ++ hits)
    → OnOk answer ((reply ≡ record { status = OK; count = length items }) × (out ≡ copied handle_out items room))
    → OnErr answer ((reply ≡ record { status = NO_MEMORY; count = 0 }) × (out ≡ room))
    → IsFound hits spent reply room out ⊎ IsUnanswered NO_MEMORY reply room out
answered (Ok x) spent hits before items reply room out none sound found told refused =
    let is : items ≡ hits = found ∙ ap (λ (b : List Handle). b ++ hits) none in
    inl (record {
      sound = sound;
      told = told.0 ∙ ap (λ (l : List Handle). record { status = OK; count = length l }) is;
      copied = told.1 ∙ ap (λ (l : List Handle). copied handle_out l room) is;
    })
answered (Err why) spent hits before items reply room out none sound found told refused = inr (record { told = refused.0; same = refused.1 })
