-- Sector by sector.
use Rattle.std.proofs.Common.{[], List, subst, ℕ}
use Rattle.std.proofs.KnownBytes.{Appends-nil}
use Rattle.std.specs.Prelude.{option_map}
use Rattle.std.specs.Io.KnownBytes.{Appends}
use Rattle.d64_image.specs.declared.place.Place.{Place}
use Rattle.damaged_files.specs.reached.Sizes.{error_of}
use Rattle.disk_pictures.proofs.InOrder.{place-more, places-all}
use Rattle.disk_pictures.specs.Held.{drawn_in}
use Rattle.disk_pictures.specs.Trims.{entry_at, error_line}
use Rattle.disk_pictures.proofs.views.reading_errors.print_errors.Goals as goal

pub loop-index-init : goal.loop-index-init
loop-index-init g c = Appends-nil _

pub loop-index-preserved : goal.loop-index-preserved
loop-index-preserved g c =
    let told = g.E.Write.contents in
    let drawn = option_map (λ drawn. drawn_in drawn.now) c.args.drawing in
    let line : Place → List ℕ = λ p. error_line p (entry_at drawn p) (error_of c.args.image.now p) in
    let place = c.nth-place.result in
    place-more line _ _ _ [] c.loop-index.index place c.nth-place.ensures c.loop-index.invariant
    (subst (λ s. Appends (told c.loop-index.err) (told c.print_text.new.out) (error_line place s (error_of c.args.image.now place)))
    c.entry_with-entry.ensures
    (subst (λ e. Appends (told c.loop-index.err) (told c.print_text.new.out)
    (error_line place (option_map (λ slot. slot.now) c.entry_with-entry.result) e))
    c.error_at-error.ensures c.in_ok-print_text.ensures.ok))

pub returns-clause-ok : goal.returns-clause-ok
returns-clause-ok g c =
    places-all (λ p. error_line p (entry_at (option_map (λ drawn. drawn_in drawn.now) c.args.drawing) p)
    (error_of c.args.image.now p)) _ _ c.loop-index.index c.loop-index-test.false
    c.loop-index.invariant
