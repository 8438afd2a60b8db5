-- How a look ended is how its command did.
use Rattle.std.proofs.Common.{List, subst, ℕ}
use Rattle.disk_pictures.specs.Views.{AreFreePrinted, IsSectorPrinted, IsViewFault}
use Rattle.disk_reports.specs.AllFaults.{AreListed}
use Rattle.disk_reports.specs.Listings.{IsCheckFault, IsListFault, IsListed}
use Rattle.disk_reports.specs.Outcomes.{IsDescribeFault}
use Rattle.file_rescues.specs.LongRecords.{AreRecordsOut, WhyNotOut}
use Rattle.file_rescues.specs.Printed.{AreBytesTaken}
use Rattle.image_looks.specs.Reports.{IsChecked}
use Rattle.image_looks.specs.Looks.{IsTakingEnd, WhyNoBytes}
use Rattle.image_looks.proofs.Looked.{if-all, if-both, no-cut-bytes, no-cut-records, printed, quietly-printed, taken}
use Rattle.image_looks.proofs.looks.look.Goals as goal

pub returns-in-List : goal.returns-in-List
returns-in-List g c =
    let done = c.list_image in
    rw c.in-List.is (quietly-printed c.args.out.now done.new.out (IsListed g.W.Write.contents c.in-List.form c.args.image.now) (IsListFault c.args.image.now) done.result
    c.run_end.result c.run_end.ensures done.ensures.ok done.ensures.err done.ensures.untouched)

pub returns-in-Check : goal.returns-in-Check
returns-in-Check g c =
    let done = c.check_image in
    rw c.in-Check.is (printed c.args.out.now done.new.out (IsChecked g.W.Write.contents c.args.image.now) (IsCheckFault c.args.image.now) done.result
    (if-all _ _ _ done.result done.ensures.size done.ensures.verdict done.ensures.printed) done.ensures.err done.ensures.untouched)

pub returns-in-Faults : goal.returns-in-Faults
returns-in-Faults g c =
    let done = c.faults_image in
    rw c.in-Faults.is (printed c.args.out.now done.new.out (AreListed g.W.Write.contents c.args.image.now) (IsDescribeFault c.args.image.now) done.result
    done.ensures.ok done.ensures.err done.ensures.untouched)

pub returns-in-Show : goal.returns-in-Show
returns-in-Show g c = rw c.in-Show.is c.print_shop.ensures

pub returns-in-AsIs : goal.returns-in-AsIs
returns-in-AsIs g c = rw c.in-AsIs.is c.look_as_is.ensures

pub returns-in-Map : goal.returns-in-Map
returns-in-Map g c = rw c.in-Map.is c.report_image.ensures

pub returns-in-Picture : goal.returns-in-Picture
returns-in-Picture g c = rw c.in-Picture.is c.report_image-in-Picture.ensures

pub returns-in-Poster : goal.returns-in-Poster
returns-in-Poster g c = rw c.in-Poster.is c.report_image-in-Poster.ensures

pub returns-in-Free : goal.returns-in-Free
returns-in-Free g c =
    let done = c.free_image in
    rw c.in-Free.is (quietly-printed c.args.out.now done.new.out (AreFreePrinted g.W.Write.contents c.args.image.now) (IsViewFault c.args.image.now) done.result
    c.run_end-in-Free.result c.run_end-in-Free.ensures done.ensures.ok done.ensures.err done.ensures.untouched)

pub returns-in-Sector : goal.returns-in-Sector
returns-in-Sector g c =
    let done = c.sector_image in
    rw c.in-Sector.is (quietly-printed c.args.out.now done.new.out (IsSectorPrinted g.W.Write.contents c.args.image.now c.in-Sector.place) (IsViewFault c.args.image.now) done.result
    c.run_end-in-Sector.result c.run_end-in-Sector.ensures done.ensures.ok done.ensures.err done.ensures.untouched)

pub returns-in-Records : goal.returns-in-Records
returns-in-Records g c =
    let at = c.in-Records in
    let done = c.file_records_image in
    rw at.is (subst (λ (name : List ℕ).
    IsTakingEnd (AreRecordsOut g.W.Write.contents at.form at.candidates c.args.image.now name)
    (WhyNotOut g.W.Write.contents at.form at.candidates c.args.image.now name) c.args.out.now
    done.new.out c.taken_end.result) c.as_bytes.ensures
    (taken c.args.out.now done.new.out
    (AreRecordsOut g.W.Write.contents at.form at.candidates c.args.image.now c.as_bytes.result.now)
    (WhyNotOut g.W.Write.contents at.form at.candidates c.args.image.now c.as_bytes.result.now)
    (no-cut-records g.W.Write.contents at.form at.candidates c.args.image.now c.as_bytes.result.now c.args.out.now done.new.out)
    done.result c.taken_end.result c.taken_end.ensures done.ensures.ok
    done.ensures.err))

pub returns-in-Bytes : goal.returns-in-Bytes
returns-in-Bytes g c =
    let at = c.in-Bytes in
    let done = c.bytes_image in
    rw at.is (subst (λ (name : List ℕ).
    IsTakingEnd (AreBytesTaken g.W.Write.contents at.form at.candidates c.args.image.now name)
    (WhyNoBytes g.W.Write.contents at.form at.candidates c.args.image.now name) c.args.out.now
    done.new.out c.taken_end-in-Bytes.result) c.as_bytes-in-Bytes.ensures
    (taken c.args.out.now done.new.out
    (AreBytesTaken g.W.Write.contents at.form at.candidates c.args.image.now c.as_bytes-in-Bytes.result.now)
    (WhyNoBytes g.W.Write.contents at.form at.candidates c.args.image.now c.as_bytes-in-Bytes.result.now)
    (no-cut-bytes g.W.Write.contents at.form at.candidates c.args.image.now c.as_bytes-in-Bytes.result.now c.args.out.now done.new.out)
    done.result c.taken_end-in-Bytes.result c.taken_end-in-Bytes.ensures
    done.ensures.ok (if-both _ _ done.result done.ensures.err done.ensures.part)))
