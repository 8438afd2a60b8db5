-- The first line, the lines of the entries and the last line are the listing.
use Rattle.disk_reports.proofs.Listings.{listing-written}
use Rattle.d64_image.proofs.Told.{at-ok}
use Rattle.disk_reports.proofs.directory_listing.print_directory.Goals as goal

pub returns-clause-ok : goal.returns-clause-ok
returns-clause-ok g c =
    let last = rw c.blocks_free.ensures at c.in_ok-print_line-2.ensures.ok in
    at-ok c.flush.result
    (listing-written _ _ _ _ _ c.args.form c.args.map.now.bytes.now c.args.slots.now c.in_ok-print_line.ensures.ok
    c.in_ok-print_entries.ensures.ok last c.flush.ensures.kept)
