-- Byte by byte.
use Rattle.std.proofs.Common.{◌≡◌, arith, length, refl}
use Rattle.std.proofs.lemmas.Bool.{false≢true}
use Rattle.line_text.proofs.lemmas.petscii.Typed.{all-of, nothing-left, nothing-more, one-more, other-text-at}
use Rattle.line_text.proofs.petscii.typing.reads_as.Goals as goal

pub loop-byte-init : goal.loop-byte-init
loop-byte-init c = refl

pub returns-in_default : goal.returns-in_default
returns-in_default c = (
  λ yes. absurd (false≢true yes),
  λ same. absurd (other-text-at c.args.set c.args.text.now c.args.bytes.now c.loop-byte.rest.now c.loop-byte.byte-index
      c.loop-byte-test.true c.loop-byte.invariant c.in_default.ensures same),
)

pub loop-byte-preserved : goal.loop-byte-preserved
loop-byte-preserved c =
    one-more c.args.set c.args.text.now c.args.bytes.now c.loop-byte.rest.now c.in-Some.behind.now c.loop-byte.byte-index
    c.loop-byte-test.true c.loop-byte.invariant c.in-Some.ensures

pub returns : goal.returns
returns c =
    let text = all-of c.args.set c.args.text.now c.args.bytes.now c.loop-byte.rest.now c.loop-byte.byte-index
    (omega (arith, c.loop-byte-test.false)) c.loop-byte.invariant in (
      λ yes. nothing-left c.args.set c.args.text.now c.args.bytes.now c.loop-byte.rest.now text
          (grind (arith, yes, c.is_empty.ensures)),
      λ same. let none = nothing-more c.args.set c.args.text.now c.args.bytes.now c.loop-byte.rest.now text same in
          grind (arith, none, c.is_empty.ensures),
    )
