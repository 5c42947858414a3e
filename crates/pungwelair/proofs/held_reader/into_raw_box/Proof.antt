-- `into_raw_box` hands over what the pointer owns.
use Rattle.std.proofs.Common.{◌≡◌, List, [], ◌∷◌, ◌++◌, refl, sym, ap, ◌∙◌}
use mir.Syntax.{impl, tnil, dnil}
use mir.Val.{Val, vptr}
use base.Logic.{SProp, emp, never, fst∗}
use prog.Wp.{WpFn}
use types.Logic.{sem}
use contract.Monad.{fact, fact_i}
use contract.Running.{tables}
use types.Kit.{‵, raw, ◌⊛◌, prop, ◌$◌, ◌∵◌, !, qed, by, move, keep, split, fsplit, fjoin, use0, regoal, rewrite}
use types.Part.{agg, sub, whole}
use types.Run.{stop, fld, of_opd, no_more, and_then, returns, enter}
use types.ByLocal.{alloc_all, pass_all, free_all, look_at, get, get_in, sets}
use denote.RattleType.{RattleType, owns}
use denote.RawPtr.{Ptr, block_ptr, null_ptr, in_a_block}
use denote.Signature.{types_at, plain}
use denote.Steps.{nothing, heard}
use denote.Exit.{yes}
use denote.Memory.{lone}
use mir.Raw.{raw as bare}
use denote.Triple.Entry.{alive}
use denote.Triple.Walked.{Stays, stay_dropped, walk_of}
use Rattle.core.proofs.alloc.Calls.{Goes-blank, Al, handle_tells}
use Rattle.std.proofs.raw_atomic.Walks.{proved_at, leaves}
use Rattle.std.specs.Prelude.{Option, is_some, true}
use Rattle.std.specs.Box.Ownership.{box_owns}
use Rattle.std_heap.specs.contracts.Global as heap
use Rattle.std_heap.specs.contracts.GlobalAllocator.TheImpl.{ghosts}
use Rattle.std_heap.proofs.Global.TheLaws as heap_laws
use Rattle.held_world.specs.declared.held.HeldWorld.{HeldWorld}
use Rattle.world_reader.specs.contracts.reader.WorldReader as world
use Rattle.raw_box.proofs.Stored.{word as pair, raw_in, word_typed as pair_typed}
use Rattle.world_reader.specs.HeldReader.{held_reader, home}
use Rattle.pungwelair.proofs.Stored.{word, word_typed}
use Rattle.pungwelair.proofs.StoredReader.{HeldReader, held_out, full, found}
use Rattle.pungwelair.specs.contracts.held_reader.into_raw_box.{ended, clauses}
use Rattle.pungwelair.specs.contracts.held_reader.into_raw_box.Key.{name as #self}
use Rattle.pungwelair.proofs.held_reader.into_raw_box.Statement.{statement}
use Rattle.pungwelair.proofs.held_reader.into_raw_box.Code as code

abbrev Z : RattleType
Z = heap.the_row

abbrev al : Al
al = record { row = Z; laws = heap_laws.the_row_laws; g = ghosts; d = impl [] tnil dnil; drops = impl [] tnil dnil }

pub into_raw_box_spec : {M : Type 1} → statement M
into_raw_box_spec 𝓤 𝓛 𝓜 𝓡 wired =
    let H = 𝓛.H in let 𝓣 = tables 𝓤 H 𝓜 𝓡 𝓡.env in let c = clauses 𝓛 𝓜.mem 𝓡.returns in let fn = code.function in
    let hs : Stays ended.signature.params ended.kept = (stay_dropped (plain (λ _. HeldReader)) yes, (stay_dropped (plain (λ _. Z)) yes, tt)) in
    proved_at 𝓛 ended hs c 𝓜 𝓡 (Goes-blank 𝓛 0 (plain (λ _. HeldReader)) yes (λ κs x f. tt), (Goes-blank 𝓛 0 (plain (λ _. Z)) yes (λ κs x f. tt), tt)) #self fn (code.unfolded 𝓤 H 𝓜 𝓡 wired) (λ z are.
    let Post : Val → SProp 𝓤 = (walk_of 𝓛 ended hs c).post z in let h = z.0.3.0 in let a = z.0.3.1.0 in
    qed 𝓛 ((raw (alive 𝓛 ended.signature z.0.0 z.0.1) ⊛ ‵ (owns (types_at ended.signature.params z.0.0) z.0.3 z.0.4)) ∷ raw (fact 𝓤 (is_some h.inner ≡ true)) ∷ []) ∵
    move ! (1 ∷ []) $ heard ! (is_some h.inner ≡ true) (λ some. split ! $ move ! (1 ∷ []) $ fsplit ! $
    held_out ! h z.0.4.0 (λ ws. move ! (1 ∷ []) $ fsplit ! $ handle_tells al ! a z.0.4.1.0 (λ hv ea fits.
    let f = found h.inner some in let w = f.w in
    -- [the allocator; nothing; what the pointer owns; the tokens]
    move ! (2 ∷ []) $ rewrite ! 0 (λ (x : Option (Option HeldWorld)). ‵ (held_reader h.at x)) f.is refl $
    in_a_block ! h.at (λ p. box_owns (ghosts.dealloc_token home) world.the_row p w) (fst∗ 𝓤 (never 𝓤) (sem 𝓛 (ghosts.dealloc_token home (bare (lone world.the_row.mir)) null_ptr))) (λ b o e.
    let made = pair_typed world.the_row Z heap_laws.the_row_laws ghosts b o hv fits in let ws' = ws ∙ ap (λ (p : Ptr). word p ∷ []) e in
    regoal ! (λ (us : List Val). prop (WpFn 𝓤 H 𝓣.C 𝓣.Λ fn us Post)) (λ i. ws' i ++ (ea i ++ [])) refl $
    enter ! 𝓣.C 𝓣.Λ fn (word (block_ptr b o) ∷ hv ∷ []) Post $ alloc_all ! (λ l. pass_all ! refl (word_typed (block_ptr b o), (fits, tt)) $
    sets ! (of_opd ! (get_in ! (fld ! refl (stop !)) (sub ! 0 refl (whole !)))) refl (tt, tt) $
    sets ! (of_opd ! (get ! refl)) refl (tt, tt) $
    sets ! (agg ! (and_then ! (get ! refl) (and_then ! (get ! refl) (no_more !)))) refl made $
    raw_in world.the_row Z heap_laws.the_row_laws ghosts ! b o hv a w $
    use0 𝓛 (raw (fact 𝓤 (full w ≡ h.inner))) (fact_i 𝓤 (full w ≡ h.inner) (emp 𝓤) (sym f.is)) $
    nothing ! $ nothing ! $ fjoin ! $ nothing ! $ fjoin ! $ returns ! (look_at ! 0 refl) $ free_all ! refl $ keep ! (4 ∷ 0 ∷ 2 ∷ 1 ∷ []) $
    by ! (leaves 𝓛 ended hs c z (pair (vptr b o) hv) (record { at = block_ptr b o; alloc = a; value = w }) (tt, (tt, tt)) (tt, (tt, tt)))))))))
