-- The number, the sectors and the end of the line.
use Rattle.std.proofs.Common.{arith, sym, ◌∙◌}
use Rattle.std.proofs.lemmas.Result.{on_ok_weaker}
use Rattle.d64_image.specs.Places.{place_at}
use Rattle.disk_pictures.proofs.Printing.{begun, begun-no-place, begun-place-more, ended}
use Rattle.disk_pictures.specs.Held.{drawn_in}
use Rattle.disk_pictures.specs.Maps.{cell_text, track_number, wide_line}
use Rattle.disk_pictures.specs.Texts.{at_place}
use Rattle.disk_pictures.proofs.map_tracks.print_wide_track.Goals.{in-Some+in_ok-print_text-2, in_default}
use Rattle.disk_pictures.proofs.map_tracks.print_wide_track.Goals as goal

pub loop-sector-init : goal.loop-sector-init
loop-sector-init g c = begun _ _ _ _ c.in_ok-print_text.ensures.ok

pub loop-sector-preserved : goal.loop-sector-preserved
loop-sector-preserved g c =
    let d = c.args.drawing.now in
    let one = cell_text c.args.found d.map (drawn_in d) in
    let told = g.W.Write.contents in
    let number = track_number c.args.track in
    let all = c.loop-sector.invariant in
    elim c.match-new.branch [
      | in-Some+in_ok-print_text-2 w ↦
          begun-place-more told one (place_at c.args.track) (told c.args.out.now) number c.loop-sector.out
          w.print_text-in-Some.new.out c.match-new.out c.loop-sector.sector w.in-Some.place w.out-is
          (sym c.new.ensures.value ∙ w.in-Some.is) all w.in_ok-print_text-2.ensures.ok
      | in_default w ↦ begun-no-place told one (place_at c.args.track) (told c.args.out.now) number
          c.loop-sector.out c.match-new.out c.loop-sector.sector w.out-is (sym c.new.ensures.value ∙ w.in_default.is)
          all
    ]

pub returns-clause-ok : goal.returns-clause-ok
unfolding wide_line
returns-clause-ok g c =
    let d = c.args.drawing.now in
    on_ok_weaker c.print_text-2.result
    (λ end. ended _ _ _ (track_number c.args.track) _ c.loop-sector.sector 21
    (λ s. at_place (cell_text c.args.found d.map (drawn_in d)) (place_at c.args.track s))
    (omega (arith, c.loop-sector-test.false, c.loop-sector.auto.sector-end)) c.loop-sector.invariant end)
    c.print_text-2.ensures.ok
