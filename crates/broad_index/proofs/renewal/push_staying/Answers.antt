-- What stood before is followed by what stays.
use Rattle.std.proofs.Common.{rules, ◌≡◌, ◌++◌, Bool, List, filter, take, drop, length, ℕ, ap, ◌∙◌, arith}
use Rattle.std.proofs.lemmas.Grind.{common_steps}
use Rattle.broad_index.specs.Touched.{stays}
use Rattle.broad_index.proofs.renewal.push_staying.Goals as goal

kept_behind : {X : Type 0} (p : X → Bool) (xs ys zs : List X) (n : ℕ)
    → n ≡ length xs → zs ≡ xs ++ ys → take n zs ++ filter p (drop n zs) ≡ xs ++ filter p ys
kept_behind p xs ys zs n long is =
    let front : take n zs ≡ xs = grind (arith, common_steps) in
    let rest : drop n zs ≡ ys = grind (arith, common_steps) in
    ap (λ l. take n zs ++ filter p l) rest ∙ ap (λ l. l ++ filter p ys) front

pub returns : goal.returns
returns c =
    let s = c.keep_passing.ensures (stays c.args.marks.now) (λ item r h. search rules) in
    let long : c.len-before.result ≡ length c.args.out.now.items = omega (arith, c.len-before.ensures) in
    record {
      ok = s ∙ kept_behind (stays c.args.marks.now) c.args.out.now.items c.args.kept.now c.extend_from_slice.new.self.items c.len-before.result long
          c.in_ok-extend_from_slice.ensures.items;
    }
