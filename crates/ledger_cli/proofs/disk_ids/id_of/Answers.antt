-- The bytes that have the text aren't two, and no others have it.
use Rattle.std.proofs.Common.{◌≡◌, ◌∙◌, ap, arith, length, refl, sym}
use Rattle.line_text.proofs.lemmas.bytes.Texts.{one-text}
use Rattle.ledger_cli.proofs.disk_ids.id_of.Goals as goal

pub returns-then-len-ne2 : goal.returns-then-len-ne2
returns-then-len-ne2 c = (
  refl,
  λ bytes are id.
      let same : c.in-Some.bytes.items ≡ bytes = one-text c.in-Some.bytes.items bytes
      (sym c.in-Some.ensures.found ∙ c.as_bytes.ensures.value ∙ id.is) in
      let sizes = ap length same in
      let two = id.two in
      c.if-len-ne2.true (omega (arith, c.len.ensures.value, sizes, two)),
)
