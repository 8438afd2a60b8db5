-- The text of the bytes is written byte by byte.
use Rattle.std.proofs.Common.{List, ℕ, refl, subst, true, arith}
use Rattle.std.specs.Fmt.{HasWritten}
use Rattle.std.proofs.lemmas.Grind.{put_two}
use Rattle.std.proofs.lemmas.List.{take_all}
use Rattle.line_text.specs.bytes.Texts.{text_of}
use Rattle.line_text.proofs.lemmas.bytes.Displays.{err-not-ok, text-next}
use Rattle.line_text.proofs.bytes.text.TextDisplay.fmt.Goals as goal

pub returns-in_err-write-clause-writes : goal.returns-in_err-write-clause-writes
returns-in_err-write-clause-writes g c = λ plain ok.
    absurd (err-not-ok c.from_residual.result c.from_residual.ensures.0 ok)

pub loop-byte-preserved : goal.loop-byte-preserved
loop-byte-preserved g c = λ plain.
    let so_far = c.loop-byte.invariant plain in
    put_two g.W.Write.write_str_gives c.args.f.now c.loop-byte.f c.write.new.self _ _ _ so_far
    (c.in_ok-write.ensures.writes so_far.plain (refl {a = true}))
    (text-next c.args.self.now.0.now c.loop-byte.byte-index (omega arith))

pub returns-clause-writes : goal.returns-clause-writes
returns-clause-writes g c = λ plain ok.
    subst (λ (xs : List ℕ). HasWritten g.W.Write.write_str_gives c.args.f.now (text_of xs) c.loop-byte.f)
    (take_all c.loop-byte.byte-index c.args.self.now.0.now (omega arith)) (c.loop-byte.invariant plain)
