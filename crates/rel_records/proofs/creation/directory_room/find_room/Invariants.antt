use Rattle.std.proofs.Common.{◌≡◌, ◌+◌, ℕ}
use Rattle.std.specs.Prelude.{Some, slice_get}
use Rattle.d64_image.specs.History.{OnlyReads}
use Rattle.d64_image.specs.Images.{sector}
use Rattle.d64_image.specs.declared.place.Place.{Place}
use Rattle.rel_records.proofs.creation.directory_room.find_room.Given as goal
use Rattle.rel_records.proofs.lemmas.directory.Rooms.{AreFullTo}

abbrev pub invariant-loop-before : goal.invariant-loop-before
invariant-loop-before g l =
    let S = g.D.Sectors.history in
    record {
      reads : OnlyReads S l.fn.disk l.disk l.before;
      failures : S.failures l.disk ≡ S.failures l.fn.disk;
      full : AreFullTo (S.image l.fn.disk) l.places l.before;
      last : (n : ℕ) (p : Place) → n + 1 ≡ l.before → slice_get l.places n ≡ Some p
          → l.bytes ≡ sector (S.image l.fn.disk) p;
    }
