-- What is told of a frame, from its pairs and what changed.
use Rattle.std.proofs.Common.{◌≡◌, Bool, true, false, cond, List, [], Option, None, Some, is_some, refl, ap, ◌∙◌}
use Rattle.std.specs.Cmp.{second_so}
use Rattle.pair_events.specs.declared.hpair.HPair.{HPair}
use Rattle.pair_events.specs.PairEvents.{events, missing, told_of, rises, is_in_order}
use Rattle.world_marks.specs.Marks.{or_kept}

abbrev pub TellLaw : Type 0
TellLaw = (before now : List HPair) → rises now ≡ true → told_of now (missing now before) (missing before now) ≡ events before now

abbrev pub NoneLaw : Type 0
NoneLaw = (pairs : List HPair) → missing pairs pairs ≡ []

pub told_changes : TellLaw → (before now last began over : List HPair) → is_in_order now ≡ true → last ≡ now → began ≡ missing now before
    → over ≡ missing before now → told_of last began over ≡ events before now
told_changes law before now last began over ordered same begun ended =
    ap (λ ps. told_of ps began over) same ∙ ap (λ ps. told_of now ps over) begun ∙ ap (told_of now (missing now before)) ended
    ∙ law before now (second_so _ (rises now) ordered)

pub none_missing : NoneLaw → (pairs others : List HPair) → others ≡ pairs → missing pairs others ≡ []
none_missing law pairs others same = ap (missing pairs) same ∙ law pairs

-- the last pairs after a way back, and what was told of
pub restored_pairs : (keeps : Bool) (kept : Option (List HPair)) (fresh old : List HPair) → keeps ≡ is_some kept → fresh ≡ or_kept kept []
    → cond keeps fresh old ≡ or_kept kept old
restored_pairs keeps None fresh old is these = ap (λ k. cond k fresh old) is
restored_pairs keeps (Some ps) fresh old is these = ap (λ k. cond k fresh old) is ∙ these

pub restored_told : (keeps : Bool) (fresh : List HPair) (shown : Option (List HPair)) (old began over : List HPair)
    → told_of (or_kept (cond keeps (Some (or_kept shown old)) shown) (cond keeps fresh old)) began over ≡ told_of (or_kept shown old) began over
restored_told true fresh shown old began over = refl
restored_told false fresh shown old began over = refl
