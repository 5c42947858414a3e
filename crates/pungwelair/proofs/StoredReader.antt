-- The machine value of a `HeldReader`, and what one owns. Assumes `Logic`.
use Rattle.std.proofs.Common.{◌≡◌, List, [], ◌∷◌, ◌++◌, refl, subst, sym, true≢false}
use seplogic.Ra.Ura.{Ura}
use mir.Val.{Val, vstruct, of_list}
use types.Kit.{Item, Goal, Seq, Step, step, ‵, ◌$◌, drop, fsplit, fjoin, fpick, fpack, feq_i, feq_l}
use types.Logic.{Logic}
use denote.RattleType.{RattleType, Valss}
use denote.Builtin.{RawPtr}
use denote.RawPtr.{Ptr, ptr_val}
use denote.Steps.{nothing}
use denote.Struct.Struct.{within}
use denote.Struct.Owning.{shape}
use Rattle.std.specs.Prelude.{Option, Some, None, is_some, true}
use Rattle.held_world.specs.declared.held.HeldWorld.{HeldWorld}
use Rattle.world_reader.specs.HeldReader.{held_reader}
use Rattle.world_reader.specs.contracts.held_reader.HeldReader as held-type
use Rattle.pungwelair.proofs.Stored.{word}

abbrev pub HeldReader : RattleType
HeldReader = held-type.the_row

module _ {M : Type 1} {𝓤 : Ura M} {𝓛 : Logic 𝓤} {K : Type 0} {Γ : List (Item 𝓤)} {G : Goal 𝓤 𝓛.H} where
  pub held_in : K → (p : Ptr) (x : Option (Option HeldWorld)) → Step K 𝓛 (‵ (HeldReader.own_val (record { at = p; inner = x }) (word p ∷ [])) ∷ Γ) G (‵ (held_reader p x) ∷ Γ) G
  held_in t p x = step (λ s.
      nothing t $ feq_i t (List Val) (ptr_val p ∷ []) (ptr_val p ∷ []) refl $ fjoin t $ feq_i t (List Val) (word p ∷ []) (word p ∷ []) refl $ fjoin t $
      fpack t (Valss (RawPtr ∷ [])) (within (shape held-type.the_type) (p, tt) (word p ∷ [])) (ptr_val p ∷ [], tt) $ fjoin t $ s)

  pub held_out : K → (d : HeldReader.Denot) (vs : List Val)
      → (vs ≡ word d.at ∷ [] → Seq K 𝓛 (‵ (held_reader d.at d.inner) ∷ Γ) G)
      → Seq K 𝓛 (‵ (HeldReader.own_val d vs) ∷ Γ) G
  held_out t d vs k =
      fsplit t $ fpick t (λ vss. fsplit t $ feq_l t (λ ev. fsplit t $ feq_l t (λ ep. drop t $
      k (subst (λ (ps : List Val). vs ≡ vstruct (of_list (ps ++ [])) ∷ []) ep ev))))

abbrev pub empty : Option (Option HeldWorld)
empty = None

abbrev pub full : Option HeldWorld → Option (Option HeldWorld)
full w = Some w

-- what the reader that is held reads
pub record IsFull (x : Option (Option HeldWorld)) : Type 0 where
  pub w : Option HeldWorld
  pub is : x ≡ full w

pub found : (x : Option (Option HeldWorld)) → is_some x ≡ true → IsFull x
found (Some w) e = record { w = w; is = refl }
found None e = absurd (true≢false (sym e))
