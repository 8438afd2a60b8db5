-- What comes after the number.
use Rattle.line_text.proofs.lemmas.bytes.Texts.{none-found}
use Rattle.line_text.proofs.lemmas.petscii.TextLines.{line-found, number-refused, text-refused}
use Rattle.line_text.proofs.petscii.typing.text_line.Goals as goal

pub returns-in_err-number : goal.returns-in_err-number
returns-in_err-number c = none-found c.from_residual.result _ _ c.from_residual.ensures
    (number-refused c.args.line.now c.in_err-number.ensures.exact)

pub returns-in_err-unmarked : goal.returns-in_err-unmarked
returns-in_err-unmarked c = none-found c.from_residual-in_err-unmarked.result _ _ c.from_residual-in_err-unmarked.ensures
    (text-refused c.args.line.now c.in_ok-number.number c.in_ok-number.text.now c.in_ok-number.ensures.exact
    c.in_err-unmarked.ensures)

pub returns : goal.returns
returns c =
    line-found c.args.line.now c.in_ok-number.number c.in_ok-number.text.now c.in_ok-unmarked.field-0.now
    c.in_ok-number.ensures.exact c.in_ok-unmarked.ensures
