-- How a look at the disk ended is how its command did.
use Rattle.std.proofs.Common.{List, subst, ℕ}
use Rattle.disk_reports.specs.Listings.{IsListFault, IsListed}
use Rattle.opened_files.specs.Ends.{IsQuietPrint}
use Rattle.image_looks.specs.Looks.{IsShowEnd}
use Rattle.image_looks.proofs.Looked.{quietly-printed}
use Rattle.image_looks.proofs.looks.look_as_is.Goals as goal

pub returns-in-List : goal.returns-in-List
returns-in-List g c =
    let done = c.list_image in
    let out = c.args.out.now in
    rw c.in-List.is (subst (λ (disk : List ℕ). IsQuietPrint (IsListed g.W.Write.contents c.in-List.form disk) (IsListFault disk) out
    done.new.out c.run_end.result) c.disk_in.ensures
    (quietly-printed out done.new.out (IsListed g.W.Write.contents c.in-List.form c.disk_in.result.now)
    (IsListFault c.disk_in.result.now) done.result
    c.run_end.result c.run_end.ensures done.ensures.ok done.ensures.err done.ensures.untouched))

pub returns-in-Check : goal.returns-in-Check
returns-in-Check g c = rw c.in-Check.is c.report_image.ensures

pub returns-in-Faults : goal.returns-in-Faults
returns-in-Faults g c = rw c.in-Faults.is c.report_image-in-Faults.ensures

pub returns-in-Show : goal.returns-in-Show
returns-in-Show g c =
    rw c.in-Show.is (subst (λ (disk : List ℕ). IsShowEnd g.W.Write.contents c.in-Show.loss disk c.args.out.now c.print_shop.new.out
    c.print_shop.result) c.disk_in-in-Show.ensures c.print_shop.ensures)
