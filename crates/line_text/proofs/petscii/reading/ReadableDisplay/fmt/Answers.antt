-- The text of the bytes is written byte by byte.
use Rattle.std.proofs.Common.{refl, true, arith}
use Rattle.std.proofs.lemmas.Grind.{put_two}
use Rattle.line_text.proofs.lemmas.petscii.Printed.{readable-next}
use Rattle.line_text.proofs.petscii.reading.ReadableDisplay.fmt.Goals as goal

pub loop-byte-preserved : goal.loop-byte-preserved
loop-byte-preserved g c = λ plain.
    let so_far = c.loop-byte.invariant plain in
    put_two g.W.Write.write_str_gives c.args.f.now c.loop-byte.f c.write.new.self _ _ _ so_far
    (c.in_ok-write.ensures.writes so_far.plain (refl {a = true}))
    (readable-next c.args.self.now.set c.args.self.now.bytes.now c.loop-byte.byte-index (omega arith))
