-- Two quotation marks at the ends are dropped, and nothing else.
use Rattle.std.proofs.Common.{◌≡◌, ◌-◌, get_or, inl, inr, length, refl, arith}
use Rattle.line_text.proofs.lemmas.bytes.Displays.{quoted-ends, quoted-of}
use Rattle.line_text.proofs.bytes.line_reading.unquoted.Goals as goal

pub returns-in-34 : goal.returns-in-34
returns-in-34 c =
    let text = c.args.text.now in
    let first : get_or text 0 0 ≡ 34 = grind arith in
    let last : get_or text (length text - 1) 0 ≡ 34 = grind arith in
    inl (quoted-of text c.in-34.len_at_least first last)

pub returns-in_default : goal.returns-in_default
returns-in_default c = inr (refl, λ inner is. omega (arith, quoted-ends c.args.text.now inner is, c.in_default.len_below))

pub returns-in_default-2 : goal.returns-in_default-2
returns-in_default-2 c =
    inr (refl, λ inner is. let ends = quoted-ends c.args.text.now inner is in grind (arith, ends))

pub returns-in_default-3 : goal.returns-in_default-3
returns-in_default-3 c =
    inr (refl, λ inner is. let ends = quoted-ends c.args.text.now inner is in grind (arith, ends))
