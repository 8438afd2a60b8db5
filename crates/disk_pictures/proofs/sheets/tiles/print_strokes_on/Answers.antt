-- One sector more was printed, where the track has it.
use Rattle.std.proofs.Common.{sym, ◌∙◌}
use Rattle.d64_image.specs.Places.{place_at}
use Rattle.disk_pictures.proofs.Printing.{no-place-more, none-below, place-more}
use Rattle.disk_pictures.specs.Held.{drawn_in}
use Rattle.disk_pictures.specs.Sheets.{own_stroke}
use Rattle.disk_pictures.proofs.sheets.tiles.print_strokes_on.Goals.{in-Some+in_ok-print_stroke, in_default}
use Rattle.disk_pictures.proofs.sheets.tiles.print_strokes_on.Goals as goal

pub loop-sector-init : goal.loop-sector-init
loop-sector-init g c = none-below _ _

pub loop-sector-preserved : goal.loop-sector-preserved
loop-sector-preserved g c =
    let d = c.args.drawing.now in
    let told = g.W.Write.contents in
    let all = c.loop-sector.invariant in
    elim c.match-new.branch [
      | in-Some+in_ok-print_stroke w ↦
          let p = w.in-Some.place in
          place-more told (own_stroke c.args.found d.map (drawn_in d) c.args.number) (place_at c.args.track) (told c.args.out.now) c.loop-sector.out
          w.print_stroke.new.out c.match-new.out c.loop-sector.sector p w.out-is (sym c.new.ensures.value ∙ w.in-Some.is)
          all w.in_ok-print_stroke.ensures.ok
      | in_default w ↦ no-place-more told (own_stroke c.args.found d.map (drawn_in d) c.args.number) (place_at c.args.track) (told c.args.out.now)
          c.loop-sector.out c.match-new.out c.loop-sector.sector w.out-is (sym c.new.ensures.value ∙ w.in_default.is)
          all
    ]
