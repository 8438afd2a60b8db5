-- The entry is found, the disk surveyed, the entry's type cleared, and what it owned freed.
use Rattle.std.proofs.Common.{arith}
use Rattle.file_changes.proofs.DeleteCalls.{deletable-low, deletes-done, deletes-failed, unsurveyed, unwritten}
use Rattle.file_changes.proofs.deleting.delete.Goals as goal

pub patch_sector-requires : goal.patch_sector-requires
patch_sector-requires g c =
    let (l, usable) = c.requires.usable in
    omega (
      arith,
      deletable-low (g.D.Sectors.history.image c.args.disk.now) l c.in_ok-entry.entry c.args.name.now usable.1.layout
          (c.in_ok-entry.ensures.ok l usable.1.layout),
    )

pub returns-in_default : goal.returns-in_default
returns-in_default g c = unsurveyed g.D.Sectors.history c.args.disk.now c.find_deletable.new.disk c.survey.new.disk
    c.args.name.now c.in_ok-entry.entry c.in_ok-entry.ensures c.requires.usable c.in_default.field-0
    c.in_default.ensures.reads c.in_default.ensures.err c.in_default.ensures.failures

pub returns-in_default-patch_sector : goal.returns-in_default-patch_sector
returns-in_default-patch_sector g c = unwritten g.D.Sectors.history c.args.disk.now c.find_deletable.new.disk
    c.survey.new.disk c.patch_sector.new.disk c.args.name.now c.in_ok-entry.entry c.in_ok-entry.ensures c.requires.usable
    c.in-Ok.before c.in-Ok.ensures.ok c.in-Ok.ensures.reads c.in-Ok.ensures.failures
    c.in_default-patch_sector.field-0 c.in_default-patch_sector.ensures

pub returns-in-Ok-free_left : goal.returns-in-Ok-free_left
returns-in-Ok-free_left g c = deletes-done g.D.Sectors.history c.args.disk.now c.find_deletable.new.disk
    c.survey.new.disk c.patch_sector.new.disk c.args.name.now c.in_ok-entry.entry c.in_ok-entry.ensures c.requires.usable
    c.in-Ok.before c.in-Ok.ensures.ok c.in-Ok.ensures.reads c.in-Ok.ensures.failures
    c.in-Ok-patch_sector.ensures c.free_left.new.disk c.in-Ok-free_left.field-0 c.in-Ok-free_left.ensures

pub returns-in-Err : goal.returns-in-Err
returns-in-Err g c = deletes-failed g.D.Sectors.history c.args.disk.now c.find_deletable.new.disk
    c.survey.new.disk c.patch_sector.new.disk c.args.name.now c.in_ok-entry.entry c.in_ok-entry.ensures c.requires.usable
    c.in-Ok.before c.in-Ok.ensures.ok c.in-Ok.ensures.reads c.in-Ok.ensures.failures
    c.in-Ok-patch_sector.ensures c.free_left.new.disk c.in-Err.field-0 c.in-Err.ensures
