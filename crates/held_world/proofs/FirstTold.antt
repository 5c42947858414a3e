-- A first hit is told as the world found it.
use Rattle.std.proofs.Common.{◌≡◌, Bool, false, Option, Result, Ok, Err, inl, inr}
use Rattle.std.specs.Prelude.{OnOk, OnErr, IfOk}
use Rattle.live_queries.specs.declared.first_hit.FirstHit.{FirstHit}
use Rattle.held_world.specs.declared.TheConstants.{OK, NO_MEMORY}
use Rattle.held_world.specs.declared.answers.Reply.{Reply}
use Rattle.held_world.specs.declared.plain.PwHit.{PwHit}
use Rattle.held_world.specs.Firsts.{AsksFirst, hit_count, hit_told}

pub first_told : {E : Type 0} (IsHit : Option FirstHit → Type 0) (answer : Result (Option FirstHit) E) (spent : Bool) (reply : Reply) (room out : PwHit)
    → OnOk answer (spent ≡ false) → IfOk answer IsHit
    → IfOk answer (λ hit. (reply ≡ record { status = OK; count = hit_count hit }) × (out ≡ hit_told hit room))
    → OnErr answer ((reply ≡ record { status = NO_MEMORY; count = 0 }) × (out ≡ room))
    → AsksFirst IsHit spent reply room out
first_told IsHit (Ok hit) spent reply room out sound first told refused =
    inl (record { hit = hit; sound = sound; first = first; told = told.0; room_has = told.1 })
first_told IsHit (Err why) spent reply room out sound first told refused = inr (record { told = refused.0; same = refused.1 })
