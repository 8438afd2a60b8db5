-- A mark if there are bytes beyond the next position, and otherwise nothing.
use Rattle.std.proofs.Common.{◌++◌, ◌∙◌, List, ap, arith, sym, ℕ}
use Rattle.std.specs.Prelude.{vec_items}
use Rattle.std.proofs.lemmas.List.{append-nil}
use Rattle.std.proofs.lemmas.Result.{on_ok_weaker}
use Rattle.line_text.proofs.lemmas.columns.Places.{end-before, end-none, too-far}
use Rattle.line_text.proofs.columns.placing.end_line.Goals as goal

pub returns-then-end-from : goal.returns-then-end-from
returns-then-end-from c =
    on_ok_weaker c.push_mark.result
    (λ done. done ∙ ap (λ (t : List ℕ). vec_items c.args.text.now ++ t)
    (sym (too-far c.args.end c.args.starts.now _ c.in-len1-up.len_at_least (omega (arith, c.if-end-from.true)))))
    c.push_mark.ensures

pub returns-in_default : goal.returns-in_default
returns-in_default c =
    sym (append-nil (vec_items c.args.text.now))
    ∙ ap (λ (t : List ℕ). vec_items c.args.text.now ++ t)
    (sym (end-none c.args.end c.args.starts.now c.in_default.len_below))

pub returns : goal.returns
returns c =
    sym (append-nil (vec_items c.args.text.now))
    ∙ ap (λ (t : List ℕ). vec_items c.args.text.now ++ t)
    (sym (end-before c.args.end c.args.starts.now c.in-len1-up.len_at_least (omega (arith, c.if-end-from.false))))
