-- Serves proofs alone: a tree as it is stored, a list of its nodes, each behind those below it.
use Rattle.std.specs.Prelude.{◌⊎◌, ◌≡◌, ℕ, List, [], ◌∷◌, Option, None, Some, refl}
use Rattle.std.proofs.Common.{ap, ◌∙◌, inl, inr}
use Rattle.std.specs.Coded.{Coded, code_by, coded×, coded⊎, coded_ℕ, coded_list}
use Rattle.fixed_box.specs.Bounds.{Bounds, coded_bounds}
use Rattle.tree_nodes.specs.Tree.{Tree, tip, fork}

abbrev Token : Type 0
Token = (ℕ × (ℕ × Bounds)) ⊎ (ℕ × (Bounds × ℕ))

-- the nodes of a tree, before a list
abbrev flat : Tree → List Token → List Token
flat (tip n s b) rest = inl (n, (s, b)) ∷ rest
flat (fork n h k l r) rest = flat l (flat r (inr (n, (h, k)) ∷ rest))

-- the last two trees below an inner node
abbrev joined : ℕ → Bounds → ℕ → List Tree → List Tree
joined n h k [] = []
joined n h k (r ∷ []) = []
joined n h k (r ∷ l ∷ below) = fork n h k l r ∷ below

-- the trees that a list of nodes stands for, the last one first
abbrev built : List Token → List Tree → List Tree
built [] below = below
built (inl t ∷ rest) below = built rest (tip t.0 t.1.0 t.1.1 ∷ below)
built (inr t ∷ rest) below = built rest (joined t.0 t.1.0 t.1.1 below)

abbrev first_of : List Tree → Option Tree
first_of [] = None
first_of (t ∷ _) = Some t

abbrev tokens : Option Tree → List Token
tokens None = []
tokens (Some t) = flat t []

built_flat : (t : Tree) (rest : List Token) (below : List Tree) → built (flat t rest) below ≡ built rest (t ∷ below)
built_flat (tip n s b) rest below = refl
built_flat (fork n h k l r) rest below = built_flat l _ below ∙ built_flat r _ (l ∷ below)

pub tokens_back : (t : Option Tree) → first_of (built (tokens t) []) ≡ t
tokens_back None = refl
tokens_back (Some t) = ap first_of (built_flat t [] [])

abbrev pub coded_tree : Coded (Option Tree)
coded_tree =
    code_by (List Token)
    (coded_list (coded⊎ (coded× coded_ℕ (coded× coded_ℕ coded_bounds)) (coded× coded_ℕ (coded× coded_bounds coded_ℕ))))
    tokens (λ ts. first_of (built ts [])) tokens_back
