-- The number, the marks and the end of the line. A mark is a character of ASCII.
use Rattle.std.proofs.Common.{[], ◌∷◌, List, ap, arith, subst, sym, ℕ, ◌∙◌}
use Rattle.std.specs.Char.{encode_utf8}
use Rattle.std.specs.Io.KnownBytes.{Appends}
use Rattle.std.proofs.lemmas.Result.{on_ok_weaker}
use Rattle.d64_image.specs.Places.{place_at}
use Rattle.d64_image.specs.declared.place.Place.{Place}
use Rattle.disk_pictures.proofs.lemmas.views.Marks.{mark-small}
use Rattle.disk_pictures.proofs.Printing.{ascii, begun, begun-no-place, begun-place-more, ended}
use Rattle.disk_pictures.specs.Held.{drawn_in}
use Rattle.disk_pictures.specs.Maps.{mark_of, track_line, track_text}
use Rattle.disk_pictures.specs.Texts.{at_place}
use Rattle.disk_pictures.proofs.map_tracks.print_track.Goals.{in-Some+in_ok-print_text-2, in_default}
use Rattle.disk_pictures.proofs.map_tracks.print_track.Goals as goal

pub loop-sector-init : goal.loop-sector-init
loop-sector-init g c = begun _ _ _ _ c.in_ok-print_text.ensures.ok

pub loop-sector-preserved : goal.loop-sector-preserved
loop-sector-preserved g c =
    let d = c.args.drawing.now in
    let mark : Place → ℕ = mark_of c.args.found d.map (drawn_in d) in
    let one : Place → List ℕ = λ p. mark p ∷ [] in
    let told = g.W.Write.contents in
    let number = track_text c.args.track in
    let all = c.loop-sector.invariant in
    elim c.match-new.branch [
      | in-Some+in_ok-print_text-2 w ↦
          let p = w.in-Some.place in
          begun-place-more told one (place_at c.args.track) (told c.args.out.now) number c.loop-sector.out
          w.print_text-in-Some.new.out c.match-new.out c.loop-sector.sector p w.out-is (sym c.new.ensures.value ∙ w.in-Some.is) all
          (subst (Appends (told c.loop-sector.out) (told w.print_text-in-Some.new.out)) (ap encode_utf8 w.sign.ensures
          ∙ ascii (mark p) (mark-small c.args.found d.map (drawn_in d) p)) w.in_ok-print_text-2.ensures.ok)
      | in_default w ↦ begun-no-place told one (place_at c.args.track) (told c.args.out.now) number
          c.loop-sector.out c.match-new.out c.loop-sector.sector w.out-is (sym c.new.ensures.value ∙ w.in_default.is)
          all
    ]

pub returns-clause-ok : goal.returns-clause-ok
unfolding track_line
returns-clause-ok g c =
    let d = c.args.drawing.now in
    on_ok_weaker c.print_text-2.result
    (λ end. ended _ _ _ (track_text c.args.track) _ c.loop-sector.sector 21
    (λ s. at_place (λ p. mark_of c.args.found d.map (drawn_in d) p ∷ []) (place_at c.args.track s))
    (omega (arith, c.loop-sector-test.false, c.loop-sector.auto.sector-end)) c.loop-sector.invariant end)
    c.print_text-2.ensures.ok
