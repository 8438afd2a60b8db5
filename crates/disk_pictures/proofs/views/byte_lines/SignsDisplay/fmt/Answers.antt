-- The text of the bytes is written byte by byte.
use Rattle.std.proofs.Common.{refl, true, arith}
use Rattle.std.proofs.lemmas.Grind.{put_two}
use Rattle.disk_pictures.proofs.lemmas.views.Viewed.{text-next}
use Rattle.disk_pictures.specs.Views.{byte_sign}
use Rattle.disk_pictures.proofs.views.byte_lines.SignsDisplay.fmt.Goals as goal

pub loop-byte-preserved : goal.loop-byte-preserved
loop-byte-preserved g c = λ plain.
    let so_far = c.loop-byte.invariant plain in
    put_two g.W.Write.write_str_gives c.args.f.now c.loop-byte.f c.write.new.self _ _ _ so_far
    (c.in_ok-write.ensures.writes so_far.plain (refl {a = true}))
    (text-next byte_sign c.args.self.now.0.now c.loop-byte.byte-index (omega arith))
