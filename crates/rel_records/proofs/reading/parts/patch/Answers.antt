-- The text is put into the block, and zeros behind it.
use Rattle.std.proofs.Common.{arith, ◌+◌, ◌-◌}
use Rattle.rel_records.proofs.lemmas.reading.Lent.{put-patched}
use Rattle.rel_records.proofs.reading.parts.patch.Goals as goal

pub returns : goal.returns
returns c =
    let fits = c.min-fits.result in
    put-patched c.args.start c.args.end (2 + c.args.start + fits - (2 + c.args.start))
    (2 + c.args.end - (2 + c.args.start + fits)) fits c.args.text.now c.args.block.now c.copy_from_slice.new.self
    c.fill.new.self c.told-block c.requires.inside c.requires.order c.min-fits.ensures (omega arith)
    (omega (arith, c.min-fits.ensures, c.requires.order)) c.copy_from_slice.ensures.after
    (c.fill.ensures.after (λ y e. e))

pub overflow_add-start-3 : goal.overflow_add-start-3
overflow_add-start-3 c = omega (arith, c.requires.order, c.requires.inside, c.min-fits.ensures)

pub overflow_add-start-5 : goal.overflow_add-start-5
overflow_add-start-5 c = omega (arith, c.requires.order, c.requires.inside, c.min-fits.ensures)

pub slice_bounds-fill-count : goal.slice_bounds-fill-count
slice_bounds-fill-count c = omega (arith, c.requires.order, c.requires.inside, c.min-fits.ensures)
