-- One sector more.
use Rattle.std.proofs.Common.{◌≡◌, ◌++◌, List, Option, ap, map, subst, ℕ}
use Rattle.std.specs.Prelude.{option_map}
use Rattle.d64_image.specs.declared.place.Place.{Place}
use Rattle.damaged_files.specs.reached.Sizes.{error_of}
use Rattle.disk_layout.specs.declared.slot.Slot.{Slot}
use Rattle.disk_pictures.specs.Held.{drawn_in}
use Rattle.disk_pictures.specs.Trims.{entry_at}
use Rattle.json_looks.specs.Missing.{error_item}
use Rattle.serde_json.specs.Data.{Data}
use Rattle.serde_json.specs.View.{view}
use Rattle.json_looks.proofs.Gathered.{all-place-parts, next-place-part}
use Rattle.json_looks.proofs.missing.error_values.Goals as goal

pub loop-index-init : goal.loop-index-init
loop-index-init c = ap (map view) c.new-values.ensures.items

pub loop-index-preserved : goal.loop-index-preserved
loop-index-preserved c =
    let image = c.args.image.now in
    let drawn = option_map (λ drawn. drawn_in drawn.now) c.args.drawing in
    let part : Place → List Data = λ p. error_item p (entry_at drawn p) (error_of image p) in
    let place = c.nth-place.result in
    let old = c.loop-index.values.items in
    let new = c.add_error.new.values.items in
    next-place-part part c.loop-index.index place old new c.nth-place.ensures
    (subst (λ (s : Option Slot). map view new ≡ map view old ++ error_item place s (error_of image place)) c.entry_with-entry.ensures
    (subst (λ (e : Option ℕ). map view new ≡ map view old ++ error_item place (option_map (λ slot. slot.now) c.entry_with-entry.result) e)
    c.error_at-error.ensures c.in_ok-add_error.ensures)) c.loop-index.invariant

pub returns : goal.returns
returns c =
    let drawn = option_map (λ drawn. drawn_in drawn.now) c.args.drawing in
    all-place-parts (λ p. error_item p (entry_at drawn p) (error_of c.args.image.now p)) c.loop-index.index
    c.loop-index.values.items c.loop-index-test.false c.loop-index.invariant
