-- The sectors below the loop's number are written, and no other than the blank image's.
use Rattle.std.proofs.Common.{◌≡◌}
use Rattle.d64_image.specs.History.{Changes}
use Rattle.disk_layout.proofs.lemmas.blank.Blanks.{AreWritten}
use Rattle.disk_layout.specs.Blank.{SameElsewhere, request_blocks}
use Rattle.disk_layout.proofs.blank.blank_image.Given as goal

abbrev pub invariant-loop-number : goal.invariant-loop-number
invariant-loop-number g l =
    let S = g.D.Sectors.history in
    record {
      written : AreWritten (S.image l.disk) l.name l.fn.id l.requests.items l.number;
      moments : Changes S l.fn.disk l.disk l.number (SameElsewhere (request_blocks l.tills) (S.image l.fn.disk));
      failures : S.failures l.disk ≡ S.failures l.fn.disk;
    }
