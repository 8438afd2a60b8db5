use Rattle.file_changes.proofs.Patched.{patched-after}
use Rattle.file_changes.proofs.patching.patch_sector.Goals as goal

pub returns : goal.returns
returns g c =
    patched-after g.D.Sectors.history c.args.disk.now c.read.new.self c.write.new.self c.args.place c.args.at
    c.args.new.now c.read.new.to c.overwrite.new.bytes c.in_ok-read.ensures.reads c.in_ok-read.ensures.sector
    c.in_ok-read.ensures.failures c.overwrite.ensures c.write.result c.write.ensures
