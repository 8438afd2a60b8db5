-- The first side sector, which the slot names, lists the one that is meant.
use Rattle.std.proofs.Common.{ap, sym, ◌∙◌}
use Rattle.std.specs.Prelude.{Some}
use Rattle.d64_image.specs.Images.{sector}
use Rattle.d64_image.specs.Memory.{disk_image}
use Rattle.d64_image.specs.declared.place.Place.{Place}
use Rattle.damaged_files.proofs.lemmas.cut.Chains.{as-read}
use Rattle.damaged_files.proofs.lemmas.cut.Sides.{first-named, listed-is, none-listed, same-place}
use Rattle.damaged_files.proofs.cut.listed.side_at.Goals as goal

pub returns-in_err-first : goal.returns-in_err-first
returns-in_err-first c f q r same at =
    absurd (first-named (disk_image c.args.disk.now) f r c.args.number q at (sym c.in_err-first.was
    ∙ as-read f c.args.slot.now c.new.result.bytes.now c.first_side.result 21 same c.new.ensures
    c.first_side.ensures))

pub returns-in_err-place : goal.returns-in_err-place
returns-in_err-place c f q r same at =
    absurd (none-listed q (sym (listed-is (disk_image c.args.disk.now) f r c.args.number q at c.in_ok-first.first
    c.new-2.result.bytes.now c.side.result (sym c.in_ok-first.was
    ∙ as-read f c.args.slot.now c.new.result.bytes.now c.first_side.result 21 same c.new.ensures
    c.first_side.ensures) (c.new-2.ensures ∙ c.sector.ensures) c.side.ensures) ∙ c.in_err-place.was))

pub returns : goal.returns
returns c f q r same at =
    let img = disk_image c.args.disk.now in
    let is = same-place q c.in_ok-place.place (sym (listed-is img f r c.args.number q at c.in_ok-first.first
    c.new-2.result.bytes.now c.side.result (sym c.in_ok-first.was
    ∙ as-read f c.args.slot.now c.new.result.bytes.now c.first_side.result 21 same c.new.ensures
    c.first_side.ensures) (c.new-2.ensures ∙ c.sector.ensures) c.side.ensures) ∙ c.in_ok-place.was) in
    ap Some (c.sector-2.ensures ∙ ap (λ (p : Place). sector img p) (sym is))
