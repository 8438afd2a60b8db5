-- One sector more, and all of them.
use Rattle.std.proofs.Common.{arith}
use Rattle.d64_image.proofs.Places.{track_fits}
use Rattle.disk_pictures.proofs.lemmas.sheets.Shaded.{all-shades, shade-more}
use Rattle.disk_pictures.specs.Held.{drawn_in}
use Rattle.disk_pictures.proofs.sheets.shades.Shades.of.Goals as goal

pub loop-index-init : goal.loop-index-init
loop-index-init c = λ p lt. absurd (omega (arith, lt))

pub insert-requires : goal.insert-requires
insert-requires c = record {
  track = omega (arith, c.track.ensures, track_fits c.nth-place.result);
  small = c.shade.ensures.small;
}

pub loop-index-preserved : goal.loop-index-preserved
loop-index-preserved c =
    let d = c.args.drawing.now in
    shade-more c.args.found d.map (drawn_in d) c.loop-index.shades c.insert.new.self c.loop-index.index c.nth-place.result
    _ c.shade.result c.nth-place.ensures c.track.ensures c.shade.ensures.value c.loop-index.invariant
    c.insert.ensures.kept c.insert.ensures.now

pub returns : goal.returns
returns c =
    let d = c.args.drawing.now in
    all-shades c.args.found d.map (drawn_in d) c.loop-index.shades c.loop-index.index c.loop-index-test.false
    c.loop-index.invariant
