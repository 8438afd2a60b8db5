-- The sector is read, its counts are made right, and it is written where other bytes came out.
use Rattle.std.proofs.Common.{[], ◌∷◌, ap, arith, subst, sym, ◌∙◌}
use Rattle.std.proofs.lemmas.Result.{err_from_is_err_and}
use Rattle.d64_image.specs.Images.{Image, Sector, sector}
use Rattle.disk_layout.proofs.lemmas.kept.OtherWrites.{write_changes}
use Rattle.layout_check.proofs.lemmas.mending.MapMends.{device_later, device_told, write_device}
use Rattle.layout_check.proofs.lemmas.repairing.MakesRights.{makes_none, makes_one}
use Rattle.layout_check.proofs.lemmas.repairing.RightDirectory.{counts-right, right-counts}
use Rattle.layout_check.proofs.lemmas.repairing.RightWrites.{reads_moment, write_moment}
use Rattle.layout_check.specs.Recounted.{IsCountedAs}
use Rattle.layout_check.proofs.recounting.mend_sector.Goals as goal

pub write_other-requires : goal.write_other-requires
write_other-requires g c = c.in_ok-read_sector.ensures.sector
    ∙ ap (λ (i : Image). sector i c.args.place) (sym c.read_sector.ensures.reads.image)

pub returns : goal.returns
returns g c img here numbers same =
    let S = g.D.Sectors.history in
    let a = c.args.disk.now in
    let b = c.read_sector.new.disk in
    let w = c.write_other.new.disk in
    let p = c.args.place in
    let read = c.in_ok-read_sector.ensures in
    let done = c.write_other.ensures in
    let had = c.read_sector.new.to in
    let bytes = c.recount_sector.new.bytes in
    let gets = c.recount_sector.ensures img here numbers (read.sector ∙ same) in
    let P : Sector → Type 0 = λ x. IsCountedAs x bytes in
    record {
      right = λ l is. makes_one S l p bytes had a b w c.write_other.result
          (counts-right img l is p bytes (here.own l is) gets.right) (λ r. gets.kept (right-counts img l is p had r))
          c.read_sector.ensures.reads read.sector done.write done.once done.quiet;
      moments = write_moment S a b w 1 p bytes c.read_sector.ensures.reads
          (write_changes S b w p bytes _ c.write_other.result done.write) (subst P read.sector gets.counts);
      failures = device_later S (Unit {0}) a b w c.write_other.result read.failures
          (write_device S (Unit {0}) b w p bytes c.write_other.result done.write);
      reads = omega (arith, c.read_sector.ensures.reads.reads, done.write.reads);
    }

-- the device fails at the sector: nothing is written
pub returns-in_err-read_sector : goal.returns-in_err-read_sector
returns-in_err-read_sector g c img here numbers same =
    let S = g.D.Sectors.history in
    let a = c.args.disk.now in
    let b = c.read_sector.new.disk in
    let read = c.in_err-read_sector.ensures in
    let reads = c.read_sector.ensures.reads in
    let p = err_from_is_err_and c.from_residual.result c.from_residual.ensures.1 in
    record {
      right = λ l is. rw p.1 (makes_none S l (c.args.place ∷ []) a b 1 _ reads);
      moments = reads_moment S a b 1 c.args.place reads;
      failures = rw (p.1, p.2) (device_told S (Unit {0}) a b c.args.place _ read.told read.failures read.failed);
      reads = reads.reads;
    }
