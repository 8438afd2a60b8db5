-- The sectors of a shade, track by track.
use Rattle.std.proofs.Common.{◌+◌, arith}
use Rattle.std.proofs.lemmas.Result.{on_ok_weaker}
use Rattle.d64_image.specs.Places.{place_at}
use Rattle.disk_pictures.proofs.Printing.{begun, begun-more, ended}
use Rattle.disk_pictures.specs.Held.{drawn_in}
use Rattle.disk_pictures.specs.Pictures.{each_place}
use Rattle.disk_pictures.specs.Sheets.{own_stroke, shade_head, shade_path}
use Rattle.disk_pictures.specs.Texts.{at_place, each_below}
use Rattle.disk_pictures.proofs.sheets.tiles.print_shade.Goals as goal

pub loop-below-init : goal.loop-below-init
loop-below-init g c = begun _ _ _ _ c.in_ok-print_text.ensures.ok

pub loop-below-preserved : goal.loop-below-preserved
loop-below-preserved g c =
    let d = c.args.drawing.now in
    begun-more _ _ _ (shade_head c.args.number) c.loop-below.below
    (λ b. each_below 21 (λ s. at_place (own_stroke c.args.found d.map (drawn_in d) c.args.number) (place_at (b + 1) s)))
    c.loop-below.invariant c.in_ok-print_track.ensures.ok

pub returns-clause-ok : goal.returns-clause-ok
unfolding shade_path each_place
returns-clause-ok g c =
    let d = c.args.drawing.now in
    on_ok_weaker c.print_text-2.result
    (λ end. ended _ _ _ (shade_head c.args.number) _ c.loop-below.below 35
    (λ b. each_below 21 (λ s. at_place (own_stroke c.args.found d.map (drawn_in d) c.args.number) (place_at (b + 1) s)))
    (omega (arith, c.loop-below-test.false, c.loop-below.auto.below-end)) c.loop-below.invariant end)
    c.print_text-2.ensures.ok
