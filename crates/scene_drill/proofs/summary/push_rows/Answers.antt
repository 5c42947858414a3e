-- Row after row.
use Rattle.std.proofs.Common.{◌≡◌, ℕ, List, ◌++◌, append_assoc, sym, ap, ◌∙◌}
use Rattle.scene_drill.proofs.summary.push_rows.Goals as goal

-- a row behind others
next : (before between after done row : List ℕ) → between ≡ before ++ done → after ≡ between ++ row → after ≡ before ++ (done ++ row)
next before between after done row e f = f ∙ ap (λ l. l ++ row) e ∙ append_assoc before done row

pub returns-clause-ok : goal.returns-clause-ok
returns-clause-ok c =
    let two = next _ _ _ _ _ c.in_ok-push_row.ensures.ok c.in_ok-push_row-2.ensures.ok in
    let four = next _ _ _ _ _ (next _ _ _ _ _ two c.in_ok-push_row-3.ensures.ok) c.in_ok-push_row-4.ensures.ok in
    let six = next _ _ _ _ _ (next _ _ _ _ _ four c.in_ok-push_row-5.ensures.ok) c.in_ok-push_row-6.ensures.ok in
    let eight = next _ _ _ _ _ (next _ _ _ _ _ six c.in_ok-push_row-7.ensures.ok) c.in_ok-push_row-8.ensures.ok in
    rw (sym c.from.ensures, sym c.from-2.ensures) eight
