-- The two entries, one behind the other.
use Rattle.std.proofs.Common.{◌∙◌}
use Rattle.disk_layout.proofs.lemmas.blank.Blanks.{entry-is}
use Rattle.disk_layout.proofs.lemmas.chains.Names.{found-is, on-disk}
use Rattle.disk_layout.specs.Blank.{blank_directory, requests_block, requests_side, stock_block, stock_side}
use Rattle.disk_layout.proofs.blank.directory_bytes.Goals as goal

pub returns : goal.returns
unfolding blank_directory
returns c =
    let stock = c.copy_from_slice-2.ensures.after
    ∙ entry-is _ _ _ _ _ stock_block stock_side _ c.relative_entry-stock.ensures
    (found-is stock_block c.known.result c.known.ensures)
    (found-is stock_side c.known-2.result c.known-2.ensures) in
    let requests = c.copy_from_slice.ensures.after
    ∙ entry-is _ _ _ _ _ requests_block requests_side _ c.relative_entry-requests.ensures
    (found-is requests_block c.known-3.result c.known-3.ensures) (found-is requests_side c.known-4.result
    c.known-4.ensures) in
    cc (stock, requests)

pub known-requires : goal.known-requires
known-requires c = on-disk stock_block

pub known-requires-2 : goal.known-requires-2
known-requires-2 c = on-disk stock_side

pub known-requires-3 : goal.known-requires-3
known-requires-3 c = on-disk requests_block

pub known-requires-4 : goal.known-requires-4
known-requires-4 c = on-disk requests_side
