-- Side sector by side sector.
use Rattle.std.proofs.Common.{arith, ap, ◌∙◌, refl, ◌≤◌, length, sym, ◌≡◌, ◌+◌, ◌*◌, ◌<◌, ◌∷◌, [], ◌++◌, Some, take}
use Rattle.std.proofs.Common.{drop}
use Rattle.std.proofs.lemmas.List.{length-take, take_all}
use Rattle.d64_image.proofs.Moments.{no_reads, reads_then, reads_weaker}
use Rattle.rel_records.proofs.growth.gathering.read_places.Goals as goal
use Rattle.rel_records.proofs.lemmas.growth.Gathered.{all-listed, len-low, piece-joined, piece-long, piece-named}
use Rattle.rel_records.proofs.lemmas.growth.Gathered.{take-one}
use Rattle.rel_records.proofs.lemmas.Told.{not-done}
use Rattle.std.specs.Prelude.{slice_get}
use Rattle.d64_image.specs.Images.{sector}
use Rattle.disk_layout.proofs.lemmas.lists.Lists.{read-there}

-- The device fails.
pub returns-in_err-read-clause-sides : goal.returns-in_err-read-clause-sides
returns-in_err-read-clause-sides g c l n f of = not-done c.from_residual.result _ c.from_residual.ensures.1 _

-- The blocks of one side sector more are listed.
pub list_blocks-requires-clause-named : goal.list_blocks-requires-clause-named
list_blocks-requires-clause-named g c =
    let S = g.D.Sectors.history in
    let (l, n, f, of) = c.requires.of in
    let v = c.args.file.now in
    let i = c.loop-side.side-index in
    let items : c.as_slice-side-items.result.now ≡ v.sides.items = c.as_slice-side-items.ensures.value in
    let lt : i < length v.sides.items = omega (arith, c.loop-side-test.true, ap length items) in
    let at : slice_get v.sides.items i ≡ Some c.side-item.result = read-there v.sides.items i c.side-item.result lt
    (rw items at c.side-item.is) in
    let read : c.read.new.to ≡ sector (S.image c.args.disk.now) c.side-item.result = c.in_ok-read.ensures.sector
    ∙ ap (λ img. sector img c.side-item.result) c.loop-side.invariant.reads.image in (
      take 120 (drop (120 * i) f.blocks),
      piece-long _ l n f v of i c.len.result c.loop-side.blocks.items (c.loop-side.invariant.listed l n f of)
          c.len.ensures.value lt ∙ sym c.min-count.ensures,
      piece-named _ l n f v of i c.side-item.result c.read.new.to at read,
    )

pub loop-side-preserved : goal.loop-side-preserved
loop-side-preserved g c =
    let S = g.D.Sectors.history in
    let v = c.args.file.now in
    let i = c.loop-side.side-index in
    let items : c.as_slice-side-items.result.now ≡ v.sides.items = c.as_slice-side-items.ensures.value in
    let lt : i < length v.sides.items = omega (arith, c.loop-side-test.true, ap length items) in
    let at : slice_get v.sides.items i ≡ Some c.side-item.result = read-there v.sides.items i c.side-item.result lt
    (rw items at c.side-item.is) in
    let read : c.read.new.to ≡ sector (S.image c.args.disk.now) c.side-item.result = c.in_ok-read.ensures.sector
    ∙ ap (λ img. sector img c.side-item.result) c.loop-side.invariant.reads.image in
    record {
      listed = λ l n f of. piece-joined _ l n f v of i c.loop-side.blocks.items c.list_blocks.new.blocks.items
          (c.loop-side.invariant.listed l n f of)
          (c.list_blocks.ensures (take 120 (drop (120 * i) f.blocks))
          (piece-long _ l n f v of i c.len.result c.loop-side.blocks.items (c.loop-side.invariant.listed l n f of)
          c.len.ensures.value lt ∙ sym c.min-count.ensures) (piece-named _ l n f v of i c.side-item.result
          c.read.new.to at read));
      sides = c.push.ensures.items ∙ ap (λ xs. xs ++ c.side-item.result ∷ []) c.loop-side.invariant.sides
          ∙ sym (take-one v.sides.items i c.side-item.result at);
      reads = reads_then S _ _ _ i 1 (i + 1) (omega arith) c.loop-side.invariant.reads c.in_ok-read.ensures.reads;
      failures = c.in_ok-read.ensures.failures ∙ c.loop-side.invariant.failures;
    }

pub overflow_sub-file : goal.overflow_sub-file
overflow_sub-file g c =
    let (l, n, f, of) = c.requires.of in
    len-low _ l n f c.args.file.now of c.loop-side.side-index c.len.result c.loop-side.blocks.items
    (c.loop-side.invariant.listed l n f of) c.len.ensures.value

pub returns-clause-blocks : goal.returns-clause-blocks
returns-clause-blocks g c l n f of =
    all-listed _ l n f c.args.file.now of c.loop-side.side-index c.loop-side.blocks.items
    (omega (arith, c.loop-side-test.false, ap length c.as_slice-side-items.ensures.value))
    (c.loop-side.invariant.listed l n f of)

pub loop-side-init : goal.loop-side-init
loop-side-init g c = record {
  listed = λ l n f of. c.requires.no_blocks;
  sides = c.requires.no_sides;
  reads = no_reads g.D.Sectors.history _;
  failures = refl;
}

pub list_blocks-requires-clause-room : goal.list_blocks-requires-clause-room
list_blocks-requires-clause-room g c =
    let (l, n, f, of) = c.requires.of in
    let low = len-low _ l n f c.args.file.now of c.loop-side.side-index c.len.result c.loop-side.blocks.items
    (c.loop-side.invariant.listed l n f of) c.len.ensures.value in
    omega (arith, low, c.len.ensures.value, c.min-count.ensures, c.args.file.now.few)

pub push-requires : goal.push-requires
push-requires g c =
    let m = ap length c.loop-side.invariant.sides in (
      omega arith,
      omega (
        arith,
        m,
        length-take c.loop-side.side-index c.args.file.now.sides.items,
        c.loop-side-test.true,
        ap length c.as_slice-side-items.ensures.value,
        c.as_slice-side-items.ensures.fits,
      ),
    )

pub returns-clause-sides : goal.returns-clause-sides
returns-clause-sides g c l n f of =
    let all : length c.args.file.now.sides.items ≤ c.loop-side.side-index =
    omega (arith, c.loop-side-test.false, ap length c.as_slice-side-items.ensures.value) in
    c.loop-side.invariant.sides ∙ take_all c.loop-side.side-index c.args.file.now.sides.items all ∙ of.shows.sides

pub offset_bounds-side-items-side-index : goal.offset_bounds-side-items-side-index
offset_bounds-side-items-side-index g c = omega (arith, c.loop-side-test.true, c.as_slice-side-items.type_inv.1)

pub list_blocks-requires-clause-few : goal.list_blocks-requires-clause-few
list_blocks-requires-clause-few g c = omega (arith, c.min-count.ensures)

pub loop-side-smaller : goal.loop-side-smaller
loop-side-smaller g c = omega (arith, c.loop-side-test.true)

pub returns-clause-reads : goal.returns-clause-reads
returns-clause-reads g c = reads_weaker g.D.Sectors.history _ _ c.loop-side.side-index 6
    (omega (arith, c.loop-side.auto.side-index-end, c.as_slice-side-items.ensures.fits)) c.loop-side.invariant.reads

pub returns-in_err-read-clause-reads : goal.returns-in_err-read-clause-reads
returns-in_err-read-clause-reads g c = reads_then g.D.Sectors.history _ _ _ c.loop-side.side-index 1 6
    (omega (arith, c.loop-side-test.true, c.as_slice-side-items.ensures.fits)) c.loop-side.invariant.reads
    c.read.ensures.reads
