-- One sector more.
use Rattle.std.proofs.Common.{◌≡◌, ◌++◌, Option, ap, arith, get_or, map, subst, ℕ, ◌∙◌}
use Rattle.std.proofs.lemmas.List.{take_all}
use Rattle.std.specs.Prelude.{flat_map, option_map}
use Rattle.disk_layout.specs.declared.slot.Slot.{Slot}
use Rattle.disk_pictures.specs.Held.{drawn_in}
use Rattle.disk_pictures.specs.PastErrors.{entry_past}
use Rattle.json_looks.specs.Missing.{past_error_item}
use Rattle.json_looks.proofs.Gathered.{numbers-next}
use Rattle.long_chains.specs.Sectors.{error_in}
use Rattle.serde_json.specs.View.{view}
use Rattle.json_looks.proofs.missing.add_errors_at.Goals as goal

pub loop-number-preserved : goal.loop-number-preserved
loop-number-preserved c =
    let image = c.args.image.now in
    let drawn = option_map (λ drawn. drawn_in drawn.now) c.args.drawing in
    let numbers = c.args.numbers.now in
    let n = get_or numbers c.loop-number.number-index 0 in
    let old = c.loop-number.values.items in
    let new = c.add_past_error.new.values.items in
    numbers-next (λ n. past_error_item n (entry_past image drawn n) (error_in image n)) numbers c.loop-number.number-index
    (map view c.args.values.now.items) (map view old) (map view new) (omega (arith, c.loop-number-test.true))
    (subst (λ (s : Option Slot). map view new ≡ map view old ++ past_error_item n s (error_in image n)) c.entry_past-entry.ensures
    (subst (λ (e : Option ℕ). map view new ≡ map view old ++ past_error_item n (option_map (λ slot. slot.now) c.entry_past-entry.result) e)
    c.error_in-error.ensures c.in_ok-add_past_error.ensures)) c.loop-number.invariant

pub returns : goal.returns
returns c =
    let image = c.args.image.now in
    let drawn = option_map (λ drawn. drawn_in drawn.now) c.args.drawing in
    c.loop-number.invariant
    ∙ ap (λ ns. map view c.args.values.now.items
    ++ flat_map (λ n. past_error_item n (entry_past image drawn n) (error_in image n)) ns)
    (take_all c.loop-number.number-index c.args.numbers.now c.loop-number-test.false)
