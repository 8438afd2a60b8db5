-- The next sector, where there is one.
use Rattle.std.proofs.Common.{length, refl, sym, ◌+◌}
use Rattle.std.proofs.lemmas.Option.{slice_get_read}
use Rattle.file_changes.proofs.put_sectors.next_of.Goals as goal

pub returns-in-Some : goal.returns-in-Some
returns-in-Some c =
    let places = c.args.places.now in
    let found = c.in-Some.ensures.lookup in
    sym (slice_get_read places (length places) (c.args.block + 1) c.in-Some.next.now refl found.3.0 found.1)
