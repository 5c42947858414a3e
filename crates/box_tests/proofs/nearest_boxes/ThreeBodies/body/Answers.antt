-- What a map of three boxes has under a slot.
use Rattle.std.proofs.Common.{◌≡◌, ℕ, Bool, true, false, cond, Option, None, Some, sym, ap, subst, ◌∙◌, ◌≢◌}
use Rattle.std.specs.Prelude.{IsTrue}
use Rattle.std.specs.Ordering.{nat_cmp, eq_by_cmp}
use Rattle.std.specs.FinMap.{FinMap, get, empty, insert, get-empty, get-insert}
use Rattle.std.proofs.lemmas.Cmp.{nat_cmp_total}
use Rattle.fixed_box.specs.Bounds.{Bounds, meets}
use Rattle.fixed_box.specs.Space.{space}
use Rattle.slot_lists.specs.SlotMapLaws.{tie_other}
use Rattle.near_boxes.specs.Bodies.{AreInSpace}
use Rattle.box_tests.proofs.nearest_boxes.ThreeBodies.body.Goals as goal

abbrev three : Bounds → Bounds → Bounds → FinMap nat_cmp Bounds
three a b c = insert (insert (insert empty 0 a) 1 b) 2 c

abbrev under : ℕ → ℕ → Bounds → Option Bounds → Option Bounds
under k slot b o = cond (eq_by_cmp nat_cmp k slot) (Some b) o

got : (a b c : Bounds) (k : ℕ) → get (three a b c) k ≡ under k 2 c (under k 1 b (under k 0 a None))
got a b c k =
    get-insert nat_cmp_total (insert (insert empty 0 a) 1 b) 2 c k
    ∙ ap (under k 2 c) (get-insert nat_cmp_total (insert empty 0 a) 1 b k ∙ ap (under k 1 b) (get-insert nat_cmp_total empty 0 a k
    ∙ ap (under k 0 a) (get-empty nat_cmp k)))

got_at : (a b c : Bounds) (k slot : ℕ) → k ≡ slot → get (three a b c) k ≡ under slot 2 c (under slot 1 b (under slot 0 a None))
got_at a b c k slot e = ap (get (three a b c)) e ∙ got a b c slot

got_none : (a b c : Bounds) (k : ℕ) → k ≢ 0 → k ≢ 1 → k ≢ 2 → get (three a b c) k ≡ None
got_none a b c k x y z =
    got a b c k ∙ ap (λ t. cond t (Some c) (under k 1 b (under k 0 a None))) (tie_other k 2 z)
    ∙ ap (λ t. cond t (Some b) (under k 0 a None)) (tie_other k 1 y)
    ∙ ap (λ t. cond t (Some a) None) (tie_other k 0 x)

one_in_space : (t : Bool) (b other : Bounds) (o : Option Bounds) → IsTrue (meets space b) → (o ≡ Some other → IsTrue (meets space other))
    → cond t (Some b) o ≡ Some other → IsTrue (meets space other)
one_in_space true b other o h rest e = let same : b ≡ other = cc in subst (λ x. IsTrue (meets space x)) same h
one_in_space false b other o h rest e = rest e

in_space : (a b c : Bounds) → IsTrue (meets space a) → IsTrue (meets space b) → IsTrue (meets space c) → AreInSpace (three a b c)
in_space a b c ha hb hc k other e =
    one_in_space (eq_by_cmp nat_cmp k 2) c other (under k 1 b (under k 0 a None)) hc
    (one_in_space (eq_by_cmp nat_cmp k 1) b other (under k 0 a None) hb (one_in_space (eq_by_cmp nat_cmp k 0) a other None ha (λ no. absurd (cc))))
    (sym (got a b c k) ∙ e)

pub returns-then-slot-eq0-clause-body : goal.returns-then-slot-eq0-clause-body
returns-then-slot-eq0-clause-body c = sym (got_at c.args.self.now.first c.args.self.now.second c.args.self.now.third c.args.slot 0 c.if-slot-eq0.true)

pub returns-then-slot-eq0-clause-in_space : goal.returns-then-slot-eq0-clause-in_space
returns-then-slot-eq0-clause-in_space c =
    in_space c.args.self.now.first c.args.self.now.second c.args.self.now.third c.space_law.ensures c.space_law-2.ensures c.space_law-3.ensures

pub returns-then-slot-eq1-clause-body : goal.returns-then-slot-eq1-clause-body
returns-then-slot-eq1-clause-body c = sym (got_at c.args.self.now.first c.args.self.now.second c.args.self.now.third c.args.slot 1 c.if-slot-eq1.true)

pub returns-then-slot-eq1-clause-in_space : goal.returns-then-slot-eq1-clause-in_space
returns-then-slot-eq1-clause-in_space c =
    in_space c.args.self.now.first c.args.self.now.second c.args.self.now.third c.space_law.ensures c.space_law-2.ensures c.space_law-3.ensures

pub returns-then-slot-eq2-clause-body : goal.returns-then-slot-eq2-clause-body
returns-then-slot-eq2-clause-body c = sym (got_at c.args.self.now.first c.args.self.now.second c.args.self.now.third c.args.slot 2 c.if-slot-eq2.true)

pub returns-then-slot-eq2-clause-in_space : goal.returns-then-slot-eq2-clause-in_space
returns-then-slot-eq2-clause-in_space c =
    in_space c.args.self.now.first c.args.self.now.second c.args.self.now.third c.space_law.ensures c.space_law-2.ensures c.space_law-3.ensures

pub returns-else-slot-eq2-clause-body : goal.returns-else-slot-eq2-clause-body
returns-else-slot-eq2-clause-body c =
    sym (got_none c.args.self.now.first c.args.self.now.second c.args.self.now.third c.args.slot c.if-slot-eq0.false c.if-slot-eq1.false c.if-slot-eq2.false)

pub returns-else-slot-eq2-clause-in_space : goal.returns-else-slot-eq2-clause-in_space
returns-else-slot-eq2-clause-in_space c =
    in_space c.args.self.now.first c.args.self.now.second c.args.self.now.third c.space_law.ensures c.space_law-2.ensures c.space_law-3.ensures
