-- One dash more was printed, where the track has the sector.
use Rattle.std.proofs.Common.{List, ap, arith, subst, sym, ℕ, ◌∙◌}
use Rattle.std.specs.Io.KnownBytes.{Appends}
use Rattle.d64_image.specs.Places.{place_at}
use Rattle.d64_image.specs.declared.place.Place.{Place}
use Rattle.disk_pictures.proofs.Printing.{all-below, no-place-more, none-below, place-more}
use Rattle.disk_pictures.specs.Held.{drawn_in}
use Rattle.disk_pictures.specs.Pictures.{dash_text, is_open, track_dashes}
use Rattle.disk_pictures.proofs.pages.white_lines.print_dashes.Goals.{in-Some+in_ok-print_text, in_default}
use Rattle.disk_pictures.proofs.pages.white_lines.print_dashes.Goals as goal

pub loop-sector-init : goal.loop-sector-init
loop-sector-init g c = none-below _ _

pub loop-sector-preserved : goal.loop-sector-preserved
loop-sector-preserved g c =
    let d = c.args.drawing.now in
    let dash : Place → List ℕ = λ p. dash_text (is_open d.map (drawn_in d) p) p in
    let told = g.W.Write.contents in
    let all = c.loop-sector.invariant in
    elim c.match-new.branch [
      | in-Some+in_ok-print_text w ↦
          let p = w.in-Some.place in
          place-more told dash (place_at c.args.track) (told c.args.out.now) c.loop-sector.out
          w.print_text.new.out c.match-new.out c.loop-sector.sector p w.out-is (sym c.new.ensures.value ∙ w.in-Some.is) all
          (subst (Appends (told c.loop-sector.out) (told w.print_text.new.out))
          (ap (λ white. dash_text white p) w.is_open-white.ensures) w.in_ok-print_text.ensures.ok)
      | in_default w ↦ no-place-more told dash (place_at c.args.track) (told c.args.out.now)
          c.loop-sector.out c.match-new.out c.loop-sector.sector w.out-is (sym c.new.ensures.value ∙ w.in_default.is)
          all
    ]

pub returns-clause-ok : goal.returns-clause-ok
unfolding track_dashes
returns-clause-ok g c = all-below _ _ _ 21 _ (omega (arith, c.loop-sector-test.false, c.loop-sector.auto.sector-end))
    c.loop-sector.invariant
