-- A byte more was appended, or the columns.
use Rattle.std.proofs.Common.{◌≡◌, ◌++◌, ◌∙◌, List, ap, arith, drop, get_or, ne_eqb, ℕ}
use Rattle.std.specs.Prelude.{nat_eq, vec_items}
use Rattle.std.proofs.lemmas.List.{take_rest}
use Rattle.std.proofs.lemmas.Result.{on_ok_weaker}
use Rattle.disk_changes.proofs.lemmas.lines.ColumnLines.{line-columns, line-end, line-next}
use Rattle.disk_changes.specs.lines.ColumnLines.{one_column, plain_line}
use Rattle.disk_changes.proofs.lines.column_lines.push_line.Goals as goal

pub returns-then-byte-eq44 : goal.returns-then-byte-eq44
returns-then-byte-eq44 c =
    let rest = c.loop-rest.rest.now in
    let here : get_or rest 0 0 ≡ 44 = omega (arith, c.if-byte-eq44.true) in
    on_ok_weaker c.push_column.result
    (λ done. done ∙ ap (λ (xs : List ℕ). vec_items c.loop-rest.text ++ one_column c.args.form xs) (take_rest rest 1)
    ∙ line-columns c.args.form _ rest _ c.in-len1-up.len_at_least (ap (λ (n : ℕ). nat_eq n 44) here) c.loop-rest.invariant)
    c.push_column.ensures

pub loop-rest-preserved : goal.loop-rest-preserved
loop-rest-preserved c =
    let rest = c.loop-rest.rest.now in
    rw (take_rest rest 1)
    (ap (λ (xs : List ℕ). xs ++ plain_line c.args.form (drop 1 rest)) c.in_ok-push.ensures.items
    ∙ line-next c.args.form _ rest _ c.in-len1-up.len_at_least
    (ne_eqb (get_or rest 0 0) 44 (λ comma. omega (arith, comma, c.if-byte-eq44.false))) c.loop-rest.invariant)

pub returns : goal.returns
returns c = line-end c.args.form _ c.loop-rest.rest.now _ c.in_default.len_below c.loop-rest.invariant
