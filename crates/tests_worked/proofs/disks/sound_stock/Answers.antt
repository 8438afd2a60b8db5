-- Reads leave the disk.
use Rattle.std.proofs.Common.{sym, subst}
use Rattle.d64_image.specs.Images.{Image}
use Rattle.rel_records.specs.File.{IsOf, entry_of}
use Rattle.tests_worked.proofs.disks.sound_stock.Goals as goal

pub returns : goal.returns
returns g c =
    let v = c.in-Ok.file in
    let (l, layout) = c.sound.ensures in
    let (f, first, of) = c.in-Ok.ensures.ok l layout in
    let P : Image → Type 0 = λ img. IsOf img v in
    subst P (sym c.in-Ok.ensures.reads.image) (l, entry_of v, f, of)
