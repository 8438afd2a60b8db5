-- The side sectors of the two files.
use Rattle.std.proofs.Common.{subst, sym, ℕ}
use Rattle.disk_layout.proofs.blank.blank_sector.Goals as goal
use Rattle.disk_layout.proofs.lemmas.blank.Blanks.{requests-side-is, stock-side-is}
use Rattle.disk_layout.proofs.lemmas.chains.Names.{found-is, on-disk}
use Rattle.disk_layout.specs.Blank.{requests_side, stock_block, stock_side}
use Rattle.disk_layout.specs.BlankWritten.{IsWritten}

pub returns-in-3 : goal.returns-in-3
returns-in-3 c =
    let block = found-is stock_block c.known-stock_block.result c.known-stock_block.ensures in
    let side = found-is stock_side c.known-stock_side.result c.known-stock_side.ensures in
    let P : ℕ → Type 0 = λ n. IsWritten c.args.name.now c.args.id c.args.requests.now n c.known-stock_side.result
    c.side_bytes.result in
    subst P (sym c.in-3.is) (side, stock-side-is _ _ _ c.side_bytes.ensures block side)

pub known-stock_block-requires : goal.known-stock_block-requires
known-stock_block-requires c = on-disk stock_block

pub known-stock_side-requires : goal.known-stock_side-requires
known-stock_side-requires c = on-disk stock_side

pub known-requests_side-requires : goal.known-requests_side-requires
known-requests_side-requires c = on-disk requests_side

pub returns-in-2 : goal.returns-in-2
returns-in-2 c =
    let P : ℕ → Type 0 = λ n. IsWritten c.args.name.now c.args.id c.args.requests.now n c.known-stock_block.result
    c.empty_block.result in
    subst P (sym c.in-2.is) (
      found-is stock_block c.known-stock_block.result c.known-stock_block.ensures,
      c.empty_block.ensures,
    )

pub returns-in-4 : goal.returns-in-4
returns-in-4 c =
    let side = found-is requests_side c.known-requests_side.result c.known-requests_side.ensures in
    let P : ℕ → Type 0 = λ n. IsWritten c.args.name.now c.args.id c.args.requests.now n c.known-requests_side.result
    c.side_bytes-in-4.result in
    subst P (sym c.in-4.is) (side, requests-side-is _ _ _ c.side_bytes-in-4.ensures side)
