-- The entry is found, and its sector written.
use Rattle.std.proofs.Common.{ap, arith, length}
use Rattle.file_changes.proofs.RenameCalls.{entry-low, renames-done, renames-failed}
use Rattle.file_changes.proofs.Renamed.{length-name}
use Rattle.file_changes.proofs.renaming.rename.Goals as goal

pub patch_sector-requires : goal.patch_sector-requires
patch_sector-requires g c =
    let (l, h) = c.requires.sound in
    omega (
      arith,
      entry-low (g.D.Sectors.history.image c.args.disk.now) l c.in_ok-entry.entry c.args.from.now c.args.to.now h
          (c.in_ok-entry.ensures.ok l h),
      ap length c.padded_name.ensures,
      length-name c.args.to.now c.requires.to,
    )

pub returns-in-Ok : goal.returns-in-Ok
returns-in-Ok g c = renames-done g.D.Sectors.history c.args.disk.now c.find_renamable.new.disk c.patch_sector.new.disk
    c.args.from.now c.args.to.now c.requires.to c.in_ok-entry.entry c.padded_name.result c.padded_name.ensures
    c.in_ok-entry.ensures c.in-Ok.ensures

pub returns-in-Err : goal.returns-in-Err
returns-in-Err g c = renames-failed g.D.Sectors.history c.args.disk.now c.find_renamable.new.disk
    c.patch_sector.new.disk c.args.from.now c.args.to.now c.requires.to c.in_ok-entry.entry c.padded_name.result
    c.padded_name.ensures c.in_ok-entry.ensures c.in-Err.field-0 c.in-Err.ensures
