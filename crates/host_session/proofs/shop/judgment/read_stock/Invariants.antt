use Rattle.std.proofs.Common.{◌≡◌, ◌*◌, ◌≤◌}
use Rattle.d64_image.specs.History.{OnlyReads}
use Rattle.host_session.specs.shop.Files.{Files}
use Rattle.host_session.specs.shop.Found.{AreFilesOf}
use Rattle.host_session.specs.shop.LoadedShop.{HasJudgedTills, IsCountedTo}
use Rattle.rel_records.specs.reading.Kept.{IsKept}
use Rattle.host_session.proofs.shop.judgment.read_stock.Given as goal

abbrev pub invariant-loop-place : goal.invariant-loop-place
invariant-loop-place g l =
    let S = g.D.Sectors.history in record {
      reads : OnlyReads S l.initial.disk l.disk (3 * l.place);
      kept : IsKept (S.image l.initial.disk) l.files.stock l.last;
      failures : S.failures l.disk ≡ S.failures l.initial.disk;
      few : l.place ≤ 10160;
      so_far : (f : Files) → AreFilesOf (S.image l.initial.disk) f l.files → HasJudgedTills f l.new
          → IsCountedTo f l.place l.cards;
    }
