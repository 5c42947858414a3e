-- Lists cut into pieces, and their answers put together again.
use Rattle.std.proofs.Common.{◌≡◌, ℕ, suc, take, drop, ◌*◌, ◌<◌, List, [], ◌∷◌, ◌++◌, length, get_or, All, map, Result}
use Rattle.std.proofs.Common.{refl, sym, ap, ◌∙◌, subst, arith, append-nil, append_assoc}
use Rattle.std.proofs.lemmas.List.{map-append, take-append-drop}
use Rattle.std.specs.Fork.{slice_chunk}
use denote.Ref.{Bor}
use denote.Param.Members.{Shared}
use Rattle.work_pieces.specs.Each.{Each, Accepts, AcceptsAll}
use Rattle.work_pieces.specs.Runs.{AcceptsRuns, InRuns, chunks_to, put_together}
use Rattle.work_pieces.specs.RunLaws.{All-run, put-push}

pub Each-append : {X Y : Type 0} (P : X → Y → Type 0) (xs us : List X) (ys vs : List Y) → Each P xs ys → Each P us vs → Each P (xs ++ us) (ys ++ vs)
Each-append P [] us [] vs h more = more
Each-append P [] us (y ∷ ys) vs h more = absurd h
Each-append P (x ∷ xs) us [] vs h more = absurd h
Each-append P (x ∷ xs) us (y ∷ ys) vs h more = (h.0, Each-append P xs us ys vs h.1 more)

-- one more item is answered: whatever answers the rest completes the whole
pub next_item : {X Y : Type 0} (P : X → Y → Type 0) (all rest more : List X) (x : X) (ys new : List Y) (y : Y)
    → rest ≡ x ∷ more → P x y → new ≡ ys ++ y ∷ []
    → ((zs : List Y) → Each P rest zs → Each P all (ys ++ zs)) → (zs : List Y) → Each P more zs → Each P all (new ++ zs)
next_item P all rest more x ys new y next told grows so zs h =
    let here : Each P rest (y ∷ zs) = subst (λ l. Each P l (y ∷ zs)) (sym next) (told, h) in
    subst (λ l. Each P all l) (sym (append_assoc ys (y ∷ []) zs) ∙ ap (λ l. l ++ zs) (sym grows)) (so (y ∷ zs) here)

pub all_rest : {A : Type 0} (P : A → Type 0) (rest more : List A) (x : A) → rest ≡ x ∷ more → All P rest → All P more
all_rest P rest more x next h k d short =
    let at : get_or rest (suc k) d ≡ get_or more k d = rw next refl in
    let within : suc k < length rest = rw next (omega arith) in
    subst P at (h (suc k) d within)

-- no item is left
pub all_done : {X Y : Type 0} (P : X → Y → Type 0) (all rest : List X) (ys : List Y)
    → length rest ≡ 0 → ((zs : List Y) → Each P rest zs → Each P all (ys ++ zs)) → Each P all ys
all_done P all [] ys none so = subst (λ l. Each P all l) (append-nil ys) (so [] tt)
all_done P all (x ∷ rest) ys none so = absurd (omega (arith, none))

-- the last of the pieces that are counted is answered, and its answer is put behind
pub last_piece : {X Y : Type 0} (P : List X → Y → Type 0) (size : ℕ) (xs : List X) (count last : ℕ) (ys new : List Y) (y : Y)
    → count ≡ suc last → Each P (chunks_to size xs last) ys → P (slice_chunk xs size last) y → new ≡ ys ++ y ∷ [] → Each P (chunks_to size xs count) new
last_piece P size xs count last ys new y is before one grows =
    subst (λ n. Each P (chunks_to size xs n) new) (sym is) (subst (λ l. Each P (chunks_to size xs (suc last)) l) (sym grows)
    (Each-append P (chunks_to size xs last) (slice_chunk xs size last ∷ []) ys (y ∷ []) before (one, tt)))

-- one more list is put behind
pub one_list : {V X : Type 0} (items : V → List X) (lists before left rest : List V) (v : V) (ys new : List X)
    → before ++ left ≡ lists → left ≡ v ∷ rest → ys ≡ put_together (map items before) → new ≡ ys ++ items v
    → (new ≡ put_together (map items (before ++ v ∷ []))) × ((before ++ v ∷ []) ++ rest ≡ lists)
one_list items lists before left rest v ys new split next so grows = (
  grows ∙ ap (λ l. l ++ items v) so ∙ sym (put-push (map items before) (items v)) ∙ ap put_together (sym (map-append items before (v ∷ []))),
  append_assoc before (v ∷ []) rest ∙ ap (λ l. before ++ l) (sym next) ∙ split,
)

-- all lists were put together
pub all_lists : {V X : Type 0} (items : V → List X) (lists before left : List V) (ys : List X)
    → before ++ left ≡ lists → length left ≡ 0 → ys ≡ put_together (map items before) → ys ≡ put_together (map items lists)
all_lists items lists before [] ys split none so = so ∙ ap (λ l. put_together (map items l)) (sym (append-nil before) ∙ split)
all_lists items lists before (v ∷ left) ys split none so = absurd (omega (arith, none))

-- runs whose items are answered one by one make a list of which each is
pub each_of_runs : {V X Y : Type 0} (P : X → Y → Type 0) (Q : List X → V → Type 0) (items : V → List Y) (xs : List X) (vs : List V) (ys : List Y)
    → ((run : List X) (v : V) → Q run v → Each P run (items v)) → InRuns Q xs vs → ys ≡ put_together (map items vs) → Each P xs ys
each_of_runs P Q items xs vs ys tells h is = rw (is, ← h.whole) (go h.runs vs h.each)
  where
    go : (runs : List _) (vs : List _) → Each Q runs vs → Each P (put_together runs) (put_together (map items vs))
    go [] [] e = tt
    go [] (v ∷ vs) e = absurd e
    go (run ∷ runs) [] e = absurd e
    go (run ∷ runs) (v ∷ vs) e = Each-append P run (put_together runs) (items v) (put_together (map items vs)) (tells run v e.0) (go runs vs e.1)

-- a piece is a run
pub accepts_chunk : {F X Y E : Type 0} (g : Shared F (Bor (List X) × Unit {0}) (Result Y E)) (f : F) (xs run : List X) (size n : ℕ)
    → AcceptsRuns g f xs → run ≡ slice_chunk xs size n → Accepts g f run
accepts_chunk g f xs run size n accepts is =
    accepts (take (n * size) xs) run (drop size (drop (n * size) xs)) (sym (ap (λ l. take (n * size) xs ++ (l ++ drop size (drop (n * size) xs))) is
    ∙ ap (λ l. take (n * size) xs ++ l) (take-append-drop size (drop (n * size) xs)) ∙ take-append-drop (n * size) xs))

-- what may be asked of each item may be asked of each item of a run
pub accepts_run : {F X Y E : Type 0} (g : Shared F (Bor X × Unit {0}) (Result Y E)) (f : F) (xs before run after : List X)
    → AcceptsAll g f xs → xs ≡ before ++ (run ++ after) → AcceptsAll g f run
accepts_run g f xs before run after accepts is = All-run (Accepts g f) xs before run after is accepts
