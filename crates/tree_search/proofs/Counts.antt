-- How many nodes searches look at.
use Rattle.std.proofs.Common.{◌≡◌, ℕ, ◌+◌, ◌^◌, ◌<◌, cond, Option, None, Some, refl, ap, ◌∙◌, arith}
use Rattle.fixed_box.specs.Bounds.{Bounds, meets}
use Rattle.broad_index.specs.declared.query.Query.{Query}
use Rattle.broad_index.specs.declared.query.Query.TheVariants.{Region}
use Rattle.broad_index.specs.Found.{query_meets}
use Rattle.tree_nodes.specs.Tree.{Tree, tip, fork, visits, visits_in}
use Rattle.tree_search.specs.Looked.{raised}
use Rattle.tree_search.specs.Visits.{visits_by, visits_by_in}

visits_region : ((a b : Bounds) → meets a b ≡ meets b a) → (t : Tree) (b : Bounds) → visits_by t (Region b) ≡ visits t b
visits_region w (tip n s f) b = refl
visits_region w (fork n h k l r) b =
    ap (λ m. 1 + cond m (visits_by l (Region b) + visits_by r (Region b)) 0) (w b h)
    ∙ ap (λ v. 1 + cond (meets h b) v 0)
    (ap (λ v. v + visits_by r (Region b)) (visits_region w l b) ∙ ap (λ v. visits l b + v) (visits_region w r b))

-- a descent with a region is one with its box
pub region_visits : ((a b : Bounds) → meets a b ≡ meets b a) → (o : Option Tree) (b : Bounds) → visits_by_in o (Region b) ≡ visits_in o b
region_visits w None b = refl
region_visits w (Some t) b = visits_region w t b

visits_alike : (q p : Query) → ((b : Bounds) → query_meets q b ≡ query_meets p b) → (t : Tree) → visits_by t q ≡ visits_by t p
visits_alike q p same (tip n s f) = refl
visits_alike q p same (fork n h k l r) =
    ap (λ m. 1 + cond m (visits_by l q + visits_by r q) 0) (same h)
    ∙ ap (λ v. 1 + cond (query_meets p h) v 0)
    (ap (λ v. v + visits_by r q) (visits_alike q p same l) ∙ ap (λ v. visits_by l p + v) (visits_alike q p same r))

-- queries that meet the same boxes look at as many nodes
pub alike_visits : (q p : Query) → ((b : Bounds) → query_meets q b ≡ query_meets p b) → (o : Option Tree) → visits_by_in o q ≡ visits_by_in o p
alike_visits q p same None = refl
alike_visits q p same (Some t) = visits_alike q p same t

pub raised_again : (a c s : ℕ) → raised (raised a c) s ≡ raised a (c + s)
raised_again a c s = grind (arith)

pub raised_none : (a : ℕ) → a < 2 ^ 64 → raised a 0 ≡ a
raised_none a lt = grind (arith)

pub raised_fits : (a n m : ℕ) → n ≡ raised a m → n < 2 ^ 64
raised_fits a n m e = grind (arith)
