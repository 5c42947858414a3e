-- A list is copied into a caller's room, one item after another.
use Rattle.std.proofs.Common.{◌≡◌, ℕ, ◌+◌, ◌-◌, min, ◌<◌, ◌≤◌, List, [], ◌∷◌, ◌++◌, length, get_or, set, take, drop, map, sym, ap, ◌∙◌, arith}
use Rattle.held_world.specs.Copies.{copied}
use Rattle.std.proofs.lemmas.List.{append_assoc, length-drop, length-map, length-take-le, take_all, take_more, drop_more, set_at, map_push}

pub some_left : {A : Type 0} (items more : List A) (x : A) (n : ℕ) → x ∷ more ≡ drop n items → n < length items
some_left items more x n h = let same : length (x ∷ more) ≡ length items - n = ap length h ∙ length-drop n items in omega (arith, same)

pub first_left : {A : Type 0} (items more : List A) (x : A) (n : ℕ) → x ∷ more ≡ drop n items → x ≡ get_or items n x
first_left items more x n h = ap (λ l. get_or l 0 x) (h ∙ drop_more items n x (some_left items more x n h))

pub later_left : {A : Type 0} (items more : List A) (x : A) (n : ℕ) → x ∷ more ≡ drop n items → more ≡ drop (n + 1) items
later_left items more x n h = ap (λ l. drop 1 l) (h ∙ drop_more items n x (some_left items more x n h))

pub one_more : {A : Type 0} (items more : List A) (x : A) (n : ℕ) → x ∷ more ≡ drop n items → take (n + 1) items ≡ take n items ++ x ∷ []
one_more items more x n h = take_more items n x (some_left items more x n h)
    ∙ ap (λ y. take n items ++ y ∷ []) (sym (first_left items more x n h))

set_next : {B : Type 0} (p room : List B) (y : B) (n : ℕ) → length p ≡ n → n < length room
    → set (p ++ drop n room) n y ≡ (p ++ y ∷ []) ++ drop (n + 1) room
set_next p room y n same lt = ap (λ l. set (p ++ l) n y) (drop_more room n y lt) ∙ set_at p (get_or room n y) (drop (n + 1) room) y n same
    ∙ sym (append_assoc p (y ∷ []) (drop (n + 1) room))

-- The first `count` items are written, and `rest` is left.
pub record IsCopying {A B : Type 0} (out : A → B) (items rest : List A) (count : ℕ) (room now : List B) : Type 0 where
  pub left : rest ≡ drop count items
  pub most : count ≤ length items
  pub in_room : count ≤ length room
  pub written : now ≡ map out (take count items) ++ drop count room

pub copying_goes_on : {A B : Type 0} (out : A → B) (items rest more : List A) (x : A) (y : B) (n : ℕ) (room now : List B)
    → IsCopying out items rest n room now → rest ≡ x ∷ more → y ≡ out x → n < length room → IsCopying out items more (n + 1) room (set now n y)
copying_goes_on out items rest more x y n room now u first is lt =
    let left : x ∷ more ≡ drop n items = sym first ∙ u.left in
    let some : n < length items = some_left items more x n left in record {
      left = later_left items more x n left;
      most = omega (arith, some);
      in_room = omega (arith, lt);
      written = ap (λ l. set l n y) u.written
          ∙ set_next (map out (take n items)) room y n (length-map (take n items) out ∙ length-take-le n items u.most) lt
          ∙ ap (λ z. (map out (take n items) ++ z ∷ []) ++ drop (n + 1) room) is
          ∙ ap (λ l. l ++ drop (n + 1) room) (sym (ap (map out) (one_more items more x n left) ∙ map_push out (take n items) x));
    }

-- where none is left all are written
all_copied : {A B : Type 0} (out : A → B) (items rest : List A) (n : ℕ) (room now : List B) → IsCopying out items rest n room now → rest ≡ []
    → n ≡ length items
all_copied out items rest n room now u none =
    let no : 0 ≡ length items - n = ap length (sym none ∙ u.left) ∙ length-drop n items in
    let most = u.most in omega (arith, no, most)

pub copied_whole : {A B : Type 0} (out : A → B) (items rest : List A) (n : ℕ) (room now : List B) → IsCopying out items rest n room now → rest ≡ []
    → now ≡ copied out items room
copied_whole out items rest n room now u none =
    let all : n ≡ length items = all_copied out items rest n room now u none in
    let in_room = u.in_room in
    let fits : length items ≤ length room = omega (arith, all, in_room) in
    u.written ∙ ap (λ k. map out (take k items) ++ drop k room) all
    ∙ ap (λ l. map out l ++ drop (length items) room) (take_all (length items) items (omega arith) ∙ sym (take_all (length room) items fits))

pub counted_whole : {A B : Type 0} (out : A → B) (items rest : List A) (n : ℕ) (room now : List B) → IsCopying out items rest n room now → rest ≡ []
    → n ≡ min (length items) (length room)
counted_whole out items rest n room now u none =
    let all : n ≡ length items = all_copied out items rest n room now u none in
    let in_room = u.in_room in omega (arith, all, in_room)
