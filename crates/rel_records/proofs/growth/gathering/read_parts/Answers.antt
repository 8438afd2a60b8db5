-- The places, the directory sector, the last block.
use Rattle.std.proofs.Common.{arith, ap, ◌∙◌, refl, length}
use Rattle.d64_image.proofs.Moments.{reads_then, reads_weaker}
use Rattle.d64_image.specs.Images.{sector}
use Rattle.rel_records.proofs.growth.gathering.read_parts.Goals as goal
use Rattle.rel_records.proofs.lemmas.growth.Gathered.{number-low}
use Rattle.rel_records.proofs.lemmas.growth.Gathers.{is-at}
use Rattle.rel_records.proofs.lemmas.reading.Opened.{some-blocks}

pub returns-in_err-read-clause-reads : goal.returns-in_err-read-clause-reads
returns-in_err-read-clause-reads g c = reads_then g.D.Sectors.history _ _ _ 6 1 8 (omega arith)
    c.in_ok-read_places.ensures.reads c.in_err-read.ensures.reads

pub overflow_sub-len : goal.overflow_sub-len
overflow_sub-len g c =
    let (l, n, f, of) = c.requires.of in
    omega (
      arith,
      c.len.ensures.value,
      ap length (c.in_ok-read_places.ensures.blocks l n f of),
      some-blocks _ l n f c.args.file.now of,
    )

pub bounds-deref-len : goal.bounds-deref-len
bounds-deref-len g c =
    let (l, n, f, of) = c.requires.of in
    omega (
      arith,
      c.len.ensures.value,
      ap length c.deref.ensures.0,
      ap length (c.in_ok-read_places.ensures.blocks l n f of),
      some-blocks _ l n f c.args.file.now of,
    )

pub returns-in_err-read-2-clause-reads : goal.returns-in_err-read-2-clause-reads
returns-in_err-read-2-clause-reads g c =
    let S = g.D.Sectors.history in
    reads_then S _ _ _ 7 1 8 (omega arith) (reads_then S _ _ _ 6 1 7 (omega arith) c.in_ok-read_places.ensures.reads
    c.in_ok-read.ensures.reads) c.in_err-read-2.ensures.reads

pub returns-clause-reads : goal.returns-clause-reads
returns-clause-reads g c =
    let S = g.D.Sectors.history in
    reads_then S _ _ _ 7 1 8 (omega arith) (reads_then S _ _ _ 6 1 7 (omega arith) c.in_ok-read_places.ensures.reads
    c.in_ok-read.ensures.reads) c.in_ok-read-2.ensures.reads

pub invariant_of-result : goal.invariant_of-result
invariant_of-result g c =
    let (l, n, f, of) = c.requires.of in
    record {
      eight = number-low _ l n f c.args.file.now of;
      size_low = c.args.file.now.size_low;
      size_high = c.args.file.now.size_high;
    }

pub returns-clause-ok : goal.returns-clause-ok
returns-clause-ok g c l n f of =
    let S = g.D.Sectors.history in
    let first = c.in_ok-read_places.ensures.reads.image in
    let second = c.in_ok-read.ensures.reads.image ∙ first in
    is-at (S.image c.args.disk.now) l n f c.args.file.now _ _ c.index-deref-len.result c.requires.usable of
    c.requires.map refl refl refl (c.in_ok-read_places.ensures.sides l n f of)
    (c.in_ok-read_places.ensures.blocks l n f of)
    (omega (
      arith,
      c.len.ensures.value,
      ap length (c.in_ok-read_places.ensures.blocks l n f of),
      some-blocks _ l n f c.args.file.now of,
    ))
    (rw c.deref.ensures.0 at c.index-deref-len.is)
    (c.in_ok-read-2.ensures.sector ∙ ap (λ img. sector img c.index-deref-len.result) second)
    (c.in_ok-read.ensures.sector ∙ ap (λ img. sector img c.args.file.now.sector) first)

pub read_places-requires : goal.read_places-requires
read_places-requires g c = record {
  of = c.requires.of;
  no_sides = c.new-sides.ensures;
  no_blocks = c.new-blocks.ensures;
}

pub returns-in_err-read_places-clause-reads : goal.returns-in_err-read_places-clause-reads
returns-in_err-read_places-clause-reads g c = reads_weaker g.D.Sectors.history _ _ 6 8 (omega arith)
    c.in_err-read_places.ensures.reads
