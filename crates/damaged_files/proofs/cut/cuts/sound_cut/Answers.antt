-- The disk is sound, or no file of it is checked.
use Rattle.std.proofs.Common.{refl}
use Rattle.std.proofs.lemmas.Bool.{false≢true}
use Rattle.d64_image.specs.Memory.{disk_image}
use Rattle.damaged_files.proofs.lemmas.cut.Told.{told-of-disk}
use Rattle.damaged_files.proofs.cut.cuts.sound_cut.Goals as goal

pub returns-in-Ok-clause-told : goal.returns-in-Ok-clause-told
returns-in-Ok-clause-told c = told-of-disk (disk_image c.args.disk.now) c.args.entry c.in-Ok.cut (c.in-Ok.ensures.sound.0 refl)
    c.in-Ok.ensures.ok

pub returns-in-Err-clause-told : goal.returns-in-Err-clause-told
returns-in-Err-clause-told c l is = absurd (false≢true (c.in-Err.ensures.sound.1 (l, is)))
