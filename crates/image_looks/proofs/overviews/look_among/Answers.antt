-- A check among several says more; every other look is that of one image.
use Rattle.std.proofs.Common.{sym, ◌∙◌}
use Rattle.disk_reports.specs.Listings.{IsCheckFault}
use Rattle.disk_reports.specs.Outcomes.{IsCheckedAmong}
use Rattle.image_looks.proofs.Looked.{printed}
use Rattle.image_looks.proofs.overviews.look_among.Goals as goal

pub returns-in-Check : goal.returns-in-Check
returns-in-Check g c =
    let done = c.check_among in (
      λ _. printed c.args.out.now done.new.out (IsCheckedAmong g.W.Write.contents c.args.image.now)
          (IsCheckFault c.args.image.now) done.result done.ensures.ok done.ensures.err
          done.ensures.untouched,
      λ as_is. absurd (cc),
      λ other. absurd (other c.in-Check.is),
    )
