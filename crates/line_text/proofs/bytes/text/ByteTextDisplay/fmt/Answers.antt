-- A byte is written as its text.
use Rattle.std.proofs.Common.{List, ℕ, sym, subst, ◌∙◌, arith}
use Rattle.std.specs.Fmt.{HasWritten}
use Rattle.line_text.proofs.lemmas.bytes.Displays.{escaped-shown, plain-shown}
use Rattle.line_text.proofs.bytes.text.ByteTextDisplay.fmt.Goals as goal

pub digit-requires : goal.digit-requires
digit-requires g c = omega arith

pub digit-requires-2 : goal.digit-requires-2
digit-requires-2 g c = omega arith

pub returns-then-is_plain-clause-writes : goal.returns-then-is_plain-clause-writes
returns-then-is_plain-clause-writes g c = λ plain ok.
    subst (λ (text : List ℕ). HasWritten g.W.Write.write_str_gives c.args.f.now text c.write_char.new.self)
    (plain-shown c.args.self.now.0 c.from.result c.from.ensures (sym c.if-is_plain.ensures))
    (c.write_char.ensures.writes plain ok)

pub returns-clause-writes : goal.returns-clause-writes
returns-clause-writes g c = λ plain ok.
    subst (λ (text : List ℕ). HasWritten g.W.Write.write_str_gives c.args.f.now text c.write.new.self)
    (escaped-shown c.args.self.now.0 c.from-high.result c.from-low.result (omega arith) (sym c.if-is_plain.ensures)
    (c.from-high.ensures ∙ c.digit.ensures) (c.from-low.ensures ∙ c.digit-2.ensures))
    (c.write.ensures.writes plain ok)
