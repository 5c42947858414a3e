-- Serves proofs alone: runs of a list, whatever belongs to each.
use Rattle.std.specs.Prelude.{◌≡◌, ℕ, zero, suc, ◌+◌, ◌*◌, ◌/◌, ◌%◌, ◌<◌, ◌≤◌, min, List, [], ◌∷◌, ◌++◌, All, length, take, refl}
use Rattle.std.specs.Int.{div_ceil}
use Rattle.std.specs.Fork.{slice_chunk}
use Rattle.std.proofs.Common.{subst, sym, ap, ◌∙◌, arith, append-nil, append_assoc, mul_comm, mul-add, mul-one}
use Rattle.std.proofs.Math.Nat.{div-add-mod}
use Rattle.std.proofs.Math.Seq.{take-add}
use Rattle.std.proofs.lemmas.List.{take_all}
use Rattle.std.proofs.lemmas.List.Elements.{All-head, All-tail, All-cons, All-nil}
use Rattle.work_pieces.specs.Each.{Each}
use Rattle.work_pieces.specs.Runs.{InRuns, chunks_to, pieces_of, put_together}

-- what holds of each item of a list holds of each item of a run
pub All-run : {X : Type 0} (P : X → Type 0) (xs before run after : List X) → xs ≡ before ++ (run ++ after) → All P xs → All P run
All-run P xs before run after is h = go before run (subst (λ l. All P l) is h)
  where
    go : (before run : List _) → All P (before ++ (run ++ after)) → All P run
    go (x ∷ before) run h = go before run (All-tail P x (before ++ (run ++ after)) h)
    go [] [] h = All-nil P
    go [] (x ∷ run) h = All-cons P x run (All-head P x (run ++ after) h) (go [] run (All-tail P x (run ++ after) h))

-- what belongs to each run tells something of it
pub InRuns-weaker : {X Y : Type 0} (P Q : List X → Y → Type 0) (xs : List X) (ys : List Y) → ((run : List X) (y : Y) → P run y → Q run y)
    → InRuns P xs ys → InRuns Q xs ys
InRuns-weaker P Q xs ys tells h = record { runs = h.runs; whole = h.whole; each = go h.runs ys h.each }
  where
    go : (runs : List (List _)) (ys : List _) → Each P runs ys → Each Q runs ys
    go [] [] e = tt
    go [] (y ∷ ys) e = absurd e
    go (run ∷ runs) [] e = absurd e
    go (run ∷ runs) (y ∷ ys) e = (tells run y e.0, go runs ys e.1)

pub put-push : {X : Type 0} (runs : List (List X)) (run : List X) → put_together (runs ++ run ∷ []) ≡ put_together runs ++ run
put-push [] run = append-nil run
put-push (first ∷ runs) run = ap (λ l. first ++ l) (put-push runs run) ∙ sym (append_assoc first (put_together runs) run)

-- the first pieces put together are the first items
chunks-take : {X : Type 0} (size : ℕ) (xs : List X) (n : ℕ) → put_together (chunks_to size xs n) ≡ take (n * size) xs
chunks-take size xs zero = let e : 0 * size ≡ 0 = omega arith in sym (ap (λ m. take m xs) e)
chunks-take size xs (suc n) =
    let e : suc n * size ≡ n * size + size = omega arith in
    put-push (chunks_to size xs n) (slice_chunk xs size n) ∙ ap (λ l. l ++ slice_chunk xs size n) (chunks-take size xs n)
    ∙ sym (take-add (n * size) size xs) ∙ ap (λ m. take m xs) (sym e)

covers_case : (q size r n : ℕ) → size * q + r ≡ n → r < size → n ≤ (q + min 1 r) * size
covers_case q size zero n h l =
    let w : (q + min 1 zero) * size ≡ size * q + size * min 1 zero = mul_comm (q + min 1 zero) size ∙ mul-add size q (min 1 zero) in
    omega arith
covers_case q size (suc r) n h l =
    let o : min 1 (suc r) ≡ 1 = grind arith in
    let w : (q + min 1 (suc r)) * size ≡ size * q + size = rw (o, mul_comm (q + 1) size, mul-add, mul-one) refl in
    omega arith

-- all pieces together have all items
covers : (n size : ℕ) → 0 < size → n ≤ div_ceil n size * size
covers n size pos =
    let l : n % size < size = omega arith in
    covers_case (n / size) size (n % size) n (div-add-mod n size) l

above_of : (q w n : ℕ) → n ≤ q * w → 0 < n → 0 < q
above_of zero w n h pos = let e : 0 * w ≡ 0 = omega arith in absurd (omega arith)
above_of (suc q) w n h pos = omega arith

-- where there are items, a piece has some
size_above : (n workers : ℕ) → 1 ≤ workers → 0 < n → 0 < div_ceil n workers
size_above n workers some pos = above_of (div_ceil n workers) workers n (covers n workers some) pos

-- the pieces of a list put together are the list
pub pieces-whole : {X : Type 0} (workers : ℕ) (xs : List X) → 1 ≤ workers → put_together (pieces_of workers xs) ≡ xs
pieces-whole {X} workers [] some =
    let size = div_ceil (length {A = X} []) workers in
    chunks-take size [] (div_ceil (length {A = X} []) size) ∙ take_all (div_ceil (length {A = X} []) size * size) [] (omega arith)
pieces-whole workers (x ∷ xs) some =
    let size = div_ceil (length (x ∷ xs)) workers in
    chunks-take size (x ∷ xs) (div_ceil (length (x ∷ xs)) size)
    ∙ take_all (div_ceil (length (x ∷ xs)) size * size) (x ∷ xs) (covers (length (x ∷ xs)) size (size_above (length (x ∷ xs)) workers some (omega arith)))

-- what belongs to the pieces of a list belongs to runs of it
pub runs_of_pieces : {X Y : Type 0} (P : List X → Y → Type 0) (workers : ℕ) (xs : List X) (ys : List Y) → 1 ≤ workers
    → Each P (pieces_of workers xs) ys → InRuns P xs ys
runs_of_pieces P workers xs ys some each = record { runs = pieces_of workers xs; whole = pieces-whole workers xs some; each = each }
