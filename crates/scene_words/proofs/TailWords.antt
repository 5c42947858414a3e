-- The tail of a line: taken off from its end, and read from its front behind masks that may be left out.
use Rattle.std.proofs.Common.{◌≡◌, ℕ, ◌≤◌, Bool, true, false, cond, List, [], ◌∷◌, ◌++◌, length, reverse, codes}
use Rattle.std.proofs.Common.{bytes_eq, Option, Some, None, Result, Ok, Err, ◌⊎◌, inl, inr, refl, sym, ap, subst, ◌∙◌, arith}
use Rattle.std.proofs.lemmas.List.{append-nil, reverse-append, reverse-reverse}
use Rattle.std.proofs.lemmas.Slice.Eq.{bytes_eq-Decides}
use Rattle.live_table.specs.declared.group.Group.{Group}
use Rattle.live_table.specs.declared.masks.Masks.{Masks}
use Rattle.scene_words.specs.declared.line_fault.LineFault.{LineFault}
use Rattle.scene_words.specs.declared.line_fault.LineFault.TheVariants as fault
use Rattle.scene_words.specs.declared.verb.Verb.TheVariants as verb
use Rattle.scene_words.specs.declared.version.Version.{Version}
use Rattle.scene_words.specs.declared.version.Version.TheVariants.{One, Two}
use Rattle.scene_words.specs.Fronts.{label_from, label_said, group_from, group_said, entry_said}
use Rattle.scene_words.specs.SceneWords.{◌>>=◌, first_group, every_group, mask_at, masks_of, group_of, labels_of, listing_of}
use Rattle.scene_words.specs.Tails.{Tail, off_flag, off_owner, owned, tail_of}
use Rattle.scene_words.specs.Values.{mask_of_word, owner_of_word}
use Rattle.scene_words.proofs.WordPlaces.{by_flag, by_owner}

-- a word with a value isn't one that has none
differs : {A : Type 0} (value : List ℕ → Result A LineFault) (word other : List ℕ) (x : A) (f : LineFault) → value word ≡ Ok x
    → value other ≡ Err f
    → bytes_eq word other ≡ false
differs value word other x f is none =
    elim (bytes_eq word other) as (λ t. bytes_eq word other ≡ t → t ≡ false) [
      | true ↦ λ e. absurd (let clash = sym is ∙ ap value ((bytes_eq-Decides word other).0 e) ∙ none in cc)
      | false ↦ λ e. refl
    ] refl

no_fixed : (a : List ℕ) (n : ℕ) → mask_of_word a ≡ Ok n → bytes_eq a (codes "fixed") ≡ false
no_fixed a n is = differs mask_of_word a (codes "fixed") n fault.Mask is refl

no_owner : (a : List ℕ) (n : ℕ) → mask_of_word a ≡ Ok n → bytes_eq a (codes "owner") ≡ false
no_owner a n is = differs mask_of_word a (codes "owner") n fault.Mask is refl

no_entry : (a : List ℕ) (n : ℕ) → mask_of_word a ≡ Ok n → bytes_eq a (codes "entry") ≡ false
no_entry a n is = differs mask_of_word a (codes "entry") n fault.Mask is refl

owner_no_fixed : (a : List ℕ) (n : ℕ) → owner_of_word a ≡ Ok n → bytes_eq a (codes "fixed") ≡ false
owner_no_fixed a n is = differs owner_of_word a (codes "fixed") n fault.Owner is refl

-- words before a tail, of which none belongs to it
pub record IsPlain (p : List (List ℕ)) : Type 0 where
  pub no_flag : off_flag (codes "fixed") (reverse p) ≡ (false, reverse p)
  pub no_owner : off_owner (reverse p) ≡ (None, reverse p)

plain_none : IsPlain []
plain_none = record { no_flag = refl; no_owner = refl }

plain_one : (a : List ℕ) (x : ℕ) → mask_of_word a ≡ Ok x → IsPlain (a ∷ [])
plain_one a x is = record { no_flag = ap (by_flag a []) (no_fixed a x is); no_owner = refl }

plain_two : (a b : List ℕ) (x y : ℕ) → mask_of_word a ≡ Ok x → mask_of_word b ≡ Ok y → IsPlain (a ∷ b ∷ [])
plain_two a b x y first second = record { no_flag = ap (by_flag b (a ∷ [])) (no_fixed b y second); no_owner = ap (by_owner b a []) (no_owner a x first) }

-- words whose tail is this, which says this group
pub record IsTailed (version : Version) (ws plain : List (List ℕ)) (g : Group) : Type 0 where
  pub owner : Option (List ℕ)
  pub flagged : Bool
  pub tail : tail_of verb.Add version ws ≡ record { plain = plain; owner = owner; flagged = flagged }
  pub says : group_of owner flagged ≡ Ok g

abbrev tail_with : List (List ℕ) → Option (List ℕ) → Bool → Tail
tail_with plain owner flagged = record { plain = plain; owner = owner; flagged = flagged }

abbrev tail_from : Bool → Option (List ℕ) × List (List ℕ) → Tail
tail_from flagged o = tail_with (reverse o.1) o.0 flagged

module _ (p : List (List ℕ)) (plain : IsPlain p) where
  -- what is taken off behind these words
  settled : (back : List (List ℕ)) (flagged : Bool) (owner : Option (List ℕ)) → off_owner back ≡ (owner, reverse p)
      → owned (flagged, back) ≡ tail_with p owner flagged
  settled back flagged owner e = ap (tail_from flagged) e ∙ ap (λ w. tail_with w owner flagged) (reverse-reverse p)

  none_behind : (version : Version) → tail_of verb.Add version (p ++ []) ≡ tail_with p None false
  none_behind One = ap (λ w. tail_with w None false) (append-nil p)
  none_behind Two =
      ap (λ w. owned (off_flag (codes "fixed") (reverse w))) (append-nil p) ∙ ap owned plain.no_flag ∙ settled (reverse p) false None plain.no_owner

  fixed_behind : (c : List ℕ) → bytes_eq c (codes "fixed") ≡ true → tail_of verb.Add Two (p ++ c ∷ []) ≡ tail_with p None true
  fixed_behind c is =
      ap (λ w. owned (off_flag (codes "fixed") w)) (reverse-append p (c ∷ [])) ∙ ap (λ t. owned (by_flag c (reverse p) t)) is
      ∙ settled (reverse p) true None plain.no_owner

  owner_behind : (c n : List ℕ) → bytes_eq n (codes "fixed") ≡ false → bytes_eq c (codes "owner") ≡ true
      → tail_of verb.Add Two (p ++ c ∷ n ∷ []) ≡ tail_with p (Some n) false
  owner_behind c n off is =
      ap (λ w. owned (off_flag (codes "fixed") w)) (reverse-append p (c ∷ n ∷ [])) ∙ ap (λ t. owned (by_flag n (c ∷ reverse p) t)) off
      ∙ settled (n ∷ c ∷ reverse p) false (Some n) (ap (by_owner n c (reverse p)) is)

  both_behind : (c n d : List ℕ) → bytes_eq d (codes "fixed") ≡ true → bytes_eq c (codes "owner") ≡ true
      → tail_of verb.Add Two (p ++ c ∷ n ∷ d ∷ []) ≡ tail_with p (Some n) true
  both_behind c n d flag is =
      ap (λ w. owned (off_flag (codes "fixed") w)) (reverse-append p (c ∷ n ∷ d ∷ [])) ∙ ap (λ t. owned (by_flag d (n ∷ c ∷ reverse p) t)) flag
      ∙ settled (n ∷ c ∷ reverse p) true (Some n) (ap (by_owner n c (reverse p)) is)

  -- one word behind them
  said_fixed : (c : List ℕ) (t : Bool) (g : Group) → bytes_eq c (codes "fixed") ≡ t → cond t (Some (record { owner = 0; fixed = true })) None ≡ Some g
      → IsTailed Two (p ++ c ∷ []) p g
  said_fixed c true g is said = record {
    owner = None;
    flagged = true;
    tail = fixed_behind c is;
    says = ap Ok (let same : ◌≡◌ {A = Group} (record { owner = 0; fixed = true }) g = cc in same);
  }
  said_fixed c false g is said = absurd (cc)

  -- an owner behind them
  said_owner : (c n : List ℕ) (r : Result ℕ LineFault) (g : Group) → bytes_eq c (codes "owner") ≡ true → owner_of_word n ≡ r
      → group_from r (Some false) ≡ Some g → IsTailed Two (p ++ c ∷ n ∷ []) p g
  said_owner c n (Ok owner) g is value said = record {
    owner = Some n;
    flagged = false;
    tail = owner_behind c n (owner_no_fixed n owner value) is;
    says = rw value (ap Ok (let same : ◌≡◌ {A = Group} (record { owner = owner; fixed = false }) g = cc in same));
  }
  said_owner c n (Err f) g is value said = absurd (cc)

  said_both : (c n d : List ℕ) (t : Bool) (r : Result ℕ LineFault) (g : Group) → bytes_eq c (codes "owner") ≡ true → bytes_eq d (codes "fixed") ≡ t
      → owner_of_word n ≡ r → group_from r (cond t (Some true) None) ≡ Some g → IsTailed Two (p ++ c ∷ n ∷ d ∷ []) p g
  said_both c n d true (Ok owner) g is flag value said = record {
    owner = Some n;
    flagged = true;
    tail = both_behind c n d flag is;
    says = rw value (ap Ok (let same : ◌≡◌ {A = Group} (record { owner = owner; fixed = true }) g = cc in same));
  }
  said_both c n d true (Err f) g is flag value said = absurd (cc)
  said_both c n d false (Ok owner) g is flag value said = absurd (cc)
  said_both c n d false (Err f) g is flag value said = absurd (cc)

  no_more : (r : Result ℕ LineFault) (g : Group) → group_from r None ≡ Some g → ⊥
  no_more (Ok owner) g said = cc
  no_more (Err f) g said = cc

  -- what is read behind them from the front is their tail
  pub tail_said : (version : Version) (t : List (List ℕ)) (g : Group) → group_said version t ≡ Some g → IsTailed version (p ++ t) p g
  tail_said version [] g said = record {
    owner = None;
    flagged = false;
    tail = none_behind version;
    says = ap Ok (let same : ◌≡◌ {A = Group} (record { owner = 0; fixed = false }) g = cc in same);
  }
  tail_said One (c ∷ more) g said = absurd (cc)
  tail_said Two (c ∷ []) g said = said_fixed c (bytes_eq c (codes "fixed")) g refl said
  tail_said Two (c ∷ n ∷ []) g said = named (bytes_eq c (codes "owner")) refl said
    where
      named : (u : Bool) → bytes_eq c (codes "owner") ≡ u → cond u (group_from (owner_of_word n) (Some false)) None ≡ Some g
          → IsTailed Two (p ++ c ∷ n ∷ []) p g
      named true is s = said_owner c n (owner_of_word n) g is refl s
      named false is s = absurd (cc)
  tail_said Two (c ∷ n ∷ d ∷ []) g said = named (bytes_eq c (codes "owner")) refl said
    where
      named : (u : Bool) → bytes_eq c (codes "owner") ≡ u
          → cond u (group_from (owner_of_word n) (cond (bytes_eq d (codes "fixed")) (Some true) None)) None ≡ Some g
          → IsTailed Two (p ++ c ∷ n ∷ d ∷ []) p g
      named true is s = said_both c n d (bytes_eq d (codes "fixed")) (owner_of_word n) g is refl refl s
      named false is s = absurd (cc)
  tail_said Two (c ∷ n ∷ d ∷ e ∷ more) g said = named (bytes_eq c (codes "owner")) said
    where
      named : (u : Bool) → cond u (group_from (owner_of_word n) None) None ≡ Some g → IsTailed Two (p ++ c ∷ n ∷ d ∷ e ∷ more) p g
      named true s = absurd (no_more (owner_of_word n) g s)
      named false s = absurd (cc)

-- the labels that a tail says
labels_from : (version : Version) (ws plain : List (List ℕ)) (masks : Masks) (g : Group) → masks_of plain ≡ Ok masks → IsTailed version ws plain g
    → labels_of (tail_of verb.Add version ws) ≡ Ok (masks, g)
labels_from version ws plain masks g is h = ap labels_of h.tail ∙ ap (λ r. r >>= λ m. group_of h.owner h.flagged >>= λ o. Ok (m, o)) is
    ∙ ap (λ r. r >>= λ o. Ok (masks, o)) h.says

-- a mask at the front
pub label_read : (default : ℕ) (ws rest : List (List ℕ)) (n : ℕ) → mask_at ws ≡ Ok (n, rest) → label_said default ws ≡ (n, rest)
label_read default [] rest n h = absurd (cc)
label_read default (a ∷ more) rest n h = by_value (mask_of_word a) h
  where
    by_value : (r : Result ℕ LineFault) → ◌>>=◌ {B = ℕ × List (List ℕ)} r (λ x. Ok (x, more)) ≡ Ok (n, rest)
        → label_from default (a ∷ more) more r ≡ (n, rest)
    by_value (Ok x) e = cc
    by_value (Err f) e = absurd (cc)

-- it is left out where the words stay, and then it is left out with any other default. Else it is the first word.
label_cases : (default : ℕ) (ws rest : List (List ℕ)) (n : ℕ) → label_said default ws ≡ (n, rest)
    → ((n ≡ default) × (rest ≡ ws) × ((d : ℕ) → label_said d ws ≡ (d, ws))) ⊎
    ((a : List ℕ) × (ws ≡ a ∷ rest) × (mask_of_word a ≡ Ok n))
label_cases default [] rest n h =
    let same : ◌≡◌ {A = ℕ × List (List ℕ)} (default, []) (n, rest) = h in
    inl (sym (ap (λ t. t.0) same), sym (ap (λ t. t.1) same), λ d. refl)
label_cases default (a ∷ more) rest n h = by_value (mask_of_word a) refl h
  where
    by_value : (r : Result ℕ LineFault) → mask_of_word a ≡ r → label_from default (a ∷ more) more r ≡ (n, rest)
        → ((n ≡ default) × (rest ≡ a ∷ more) × ((d : ℕ) → label_said d (a ∷ more) ≡ (d, a ∷ more)))
        ⊎ ((b : List ℕ) × (a ∷ more ≡ b ∷ rest) × (mask_of_word b ≡ Ok n))
    by_value (Ok x) is e =
        let same : ◌≡◌ {A = ℕ × List (List ℕ)} (x, more) (n, rest) = e in
        inr (a, ap (λ t. a ∷ t.1) same, is ∙ ap (λ t. Ok t.0) same)
    by_value (Err f) is e =
        let same : ◌≡◌ {A = ℕ × List (List ℕ)} (default, a ∷ more) (n, rest) = e in
        inl (sym (ap (λ t. t.0) same), sym (ap (λ t. t.1) same), λ d. ap (label_from d (a ∷ more) more) is)

pub record IsLabelled (version : Version) (ws : List (List ℕ)) (masks : Masks) (g : Group) : Type 0 where
  pub labels : labels_of (tail_of verb.Add version ws) ≡ Ok (masks, g)
  pub few : length (tail_of verb.Add version ws).plain ≤ 2

-- both masks, as far as they are there, before the words that are left
record IsMasked (ws rest : List (List ℕ)) (masks : Masks) : Type 0 where
  pub front : List (List ℕ)
  pub plain : IsPlain front
  pub few : length front ≤ 2
  pub whole : ws ≡ front ++ rest
  pub value : masks_of front ≡ Ok masks

masked : (ws more rest : List (List ℕ)) (is sees : ℕ) → label_said first_group ws ≡ (is, more) → label_said every_group more ≡ (sees, rest)
    → IsMasked ws rest (record { is = is; sees = sees })
masked ws more rest is sees p q = by_first (label_cases first_group ws more is p)
  where
    by_second : (a : List ℕ) → ws ≡ a ∷ more → mask_of_word a ≡ Ok is
        → ((sees ≡ every_group) × (rest ≡ more) × ((d : ℕ) → label_said d more ≡ (d, more))) ⊎
        ((b : List ℕ) × (more ≡ b ∷ rest) × (mask_of_word b ≡ Ok sees))
        → IsMasked ws rest (record { is = is; sees = sees })
    by_second a here first (inl h) = record {
      front = a ∷ [];
      plain = plain_one a is first;
      few = omega arith;
      whole = here ∙ ap (λ t. a ∷ t) (sym h.1);
      value = rw (first, h.0) refl;
    }
    by_second a here first (inr h) = record {
      front = a ∷ h.0 ∷ [];
      plain = plain_two a h.0 is sees first h.2;
      few = omega arith;
      whole = here ∙ ap (λ t. a ∷ t) h.1;
      value = rw (first, h.2) refl;
    }

    by_first : ((is ≡ first_group) × (more ≡ ws) × ((d : ℕ) → label_said d ws ≡ (d, ws))) ⊎
        ((a : List ℕ) × (ws ≡ a ∷ more) × (mask_of_word a ≡ Ok is))
        → IsMasked ws rest (record { is = is; sees = sees })
    by_first (inl h) =
        let same : ◌≡◌ {A = ℕ × List (List ℕ)} (every_group, ws) (sees, rest) = sym (h.2 every_group) ∙ ap (label_said every_group) (sym h.1)
        ∙ q in
        record { front = []; plain = plain_none; few = omega arith; whole = ap (λ t. t.1) same; value = rw (h.0, sym (ap (λ t. t.0) same)) refl }
    by_first (inr h) = by_second h.0 h.1 h.2 (label_cases every_group more rest sees q)

few_in : (m : ℕ) (t u : Tail) → t ≡ u → length u.plain ≤ m → length t.plain ≤ m
few_in m t u e h = let P : Tail → Type 0 = λ v. length v.plain ≤ m in subst P (sym e) h

-- Two masks that may be left out, and a group, are the labels of a new box.
pub labels_ahead : (version : Version) (ws more rest : List (List ℕ)) (is sees : ℕ) (g : Group) → label_said first_group ws ≡ (is, more)
    → label_said every_group more ≡ (sees, rest) → group_said version rest ≡ Some g → IsLabelled version ws (record { is = is; sees = sees }) g
labels_ahead version ws more rest is sees g p q said =
    let m = masked ws more rest is sees p q in
    let tailed = tail_said m.front m.plain version rest g said in
    record {
      labels = ap (λ w. labels_of (tail_of verb.Add version w)) m.whole
          ∙ labels_from version (m.front ++ rest) m.front (record { is = is; sees = sees }) g m.value tailed;
      few = few_in 2 _ _ (ap (tail_of verb.Add version) m.whole ∙ tailed.tail) m.few;
    }

-- the same of a ray
entry_none : (version : Version) → tail_of verb.Ray version [] ≡ record { plain = []; owner = None; flagged = false }
entry_none One = refl
entry_none Two = refl

entry_one : (version : Version) (a : List ℕ) → bytes_eq a (codes "entry") ≡ false
    → tail_of verb.Ray version (a ∷ []) ≡ record { plain = a ∷ []; owner = None; flagged = false }
entry_one One a off = refl
entry_one Two a off = rw off refl

entry_behind : (a b : List ℕ) → bytes_eq b (codes "entry") ≡ true
    → tail_of verb.Ray Two (a ∷ b ∷ []) ≡ record { plain = a ∷ []; owner = None; flagged = true }
entry_behind a b is = rw is refl

entry_alone : (b : List ℕ) → bytes_eq b (codes "entry") ≡ true → tail_of verb.Ray Two (b ∷ []) ≡ record { plain = []; owner = None; flagged = true }
entry_alone b is = rw is refl

pub record IsListing (version : Version) (ws : List (List ℕ)) (mask : ℕ) (entry : Bool) : Type 0 where
  pub listing : listing_of (tail_of verb.Ray version ws) ≡ Ok (mask, entry)
  pub few : length (tail_of verb.Ray version ws).plain ≤ 1

-- a mask, then the flag
listed : (version : Version) (a : List ℕ) (n : ℕ) (rest : List (List ℕ)) (entry : Bool) → mask_of_word a ≡ Ok n
    → entry_said version rest ≡ Some entry
    → IsListing version (a ∷ rest) n entry
listed version a n [] entry is said =
    let one = entry_one version a (no_entry a n is) in
    let off : false ≡ entry = cc in
    record { listing = ap listing_of one ∙ rw is (ap (λ e. Ok (n, e)) off); few = few_in 1 _ _ one (omega arith) }
listed One a n (b ∷ more) entry is said = absurd (cc)
listed Two a n (b ∷ []) entry is said = by_flag (bytes_eq b (codes "entry")) refl said
  where
    by_flag : (t : Bool) → bytes_eq b (codes "entry") ≡ t → cond t (Some true) None ≡ Some entry → IsListing Two (a ∷ b ∷ []) n entry
    by_flag true flag s =
        let two = entry_behind a b flag in
        let yes : true ≡ entry = cc in
        record { listing = ap listing_of two ∙ rw is (ap (λ e. Ok (n, e)) yes); few = few_in 1 _ _ two (omega arith) }
    by_flag false flag s = absurd (cc)
listed Two a n (b ∷ d ∷ more) entry is said = absurd (cc)

-- no mask
unlisted : (version : Version) (ws : List (List ℕ)) (entry : Bool) → entry_said version ws ≡ Some entry → IsListing version ws every_group entry
unlisted version [] entry said =
    let off : false ≡ entry = cc in
    record { listing = ap listing_of (entry_none version) ∙ ap (λ e. Ok (every_group, e)) off; few = few_in 1 _ _ (entry_none version) (omega arith) }
unlisted One (b ∷ more) entry said = absurd (cc)
unlisted Two (b ∷ []) entry said = by_flag (bytes_eq b (codes "entry")) refl said
  where
    by_flag : (t : Bool) → bytes_eq b (codes "entry") ≡ t → cond t (Some true) None ≡ Some entry → IsListing Two (b ∷ []) every_group entry
    by_flag true flag s =
        let one = entry_alone b flag in
        let yes : true ≡ entry = cc in
        record { listing = ap listing_of one ∙ ap (λ e. Ok (every_group, e)) yes; few = few_in 1 _ _ one (omega arith) }
    by_flag false flag s = absurd (cc)
unlisted Two (b ∷ d ∷ more) entry said = absurd (cc)

pub listing_ahead : (version : Version) (ws rest : List (List ℕ)) (n : ℕ) (entry : Bool) → label_said every_group ws ≡ (n, rest)
    → entry_said version rest ≡ Some entry → IsListing version ws n entry
listing_ahead version ws rest n entry p said = by_first (label_cases every_group ws rest n p)
  where
    by_first : ((n ≡ every_group) × (rest ≡ ws) × ((d : ℕ) → label_said d ws ≡ (d, ws))) ⊎
        ((a : List ℕ) × (ws ≡ a ∷ rest) × (mask_of_word a ≡ Ok n))
        → IsListing version ws n entry
    by_first (inl h) =
        let P : ℕ → Type 0 = λ m. IsListing version ws m entry in
        subst P (sym h.0) (unlisted version ws entry (ap (entry_said version) (sym h.1) ∙ said))
    by_first (inr h) =
        let P : List (List ℕ) → Type 0 = λ w. IsListing version w n entry in
        subst P (sym h.1) (listed version h.0 n rest entry h.2 said)
