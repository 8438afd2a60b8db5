use Rattle.std.proofs.Common.{refl}
use Rattle.line_text.proofs.lemmas.bytes.Behind.{columns-refused, line-found, line-refused, text-refused}
use Rattle.line_text.proofs.bytes.line_reading.read_line.Goals as goal

pub returns-in_err-number-clause-none : goal.returns-in_err-number-clause-none
returns-in_err-number-clause-none c = λ _ n bytes low high small few line.
    line-refused c.args.line.now c.in_err-number.ensures.exact n bytes low high line

pub returns-then-not-is_one_column-clause-none : goal.returns-then-not-is_one_column-clause-none
returns-then-not-is_one_column-clause-none c = λ _ n bytes low high small few line.
    let no = c.is_one_column.ensures.no c.if-not-is_one_column.true in
    columns-refused c.args.line.now c.in_ok-number.number c.in_ok-number.text.now c.unquoted-inner.result.now
    c.in_ok-number.ensures.exact c.unquoted-inner.ensures no.0 no.1 n bytes low high line

pub returns-then-not-fill_from-clause-none : goal.returns-then-not-fill_from-clause-none
returns-then-not-fill_from-clause-none c = λ _ n bytes low high small few line.
    c.if-not-fill_from.ensures.none refl bytes small few
    (text-refused c.args.line.now c.in_ok-number.number c.in_ok-number.text.now c.unquoted-inner.result.now
    c.in_ok-number.ensures.exact c.unquoted-inner.ensures n bytes low high line)

pub returns-clause-found : goal.returns-clause-found
returns-clause-found c =
    line-found c.args.line.now c.in_ok-number.number c.in_ok-number.text.now c.unquoted-inner.result.now
    c.fill_from.new.bytes.items c.in_ok-number.ensures.exact c.unquoted-inner.ensures
    (c.is_one_column.ensures.yes c.if-not-is_one_column.false) (c.if-not-fill_from.ensures.found refl)
