-- The chain that is walked is the file's.
use Rattle.std.proofs.Common.{List, ap, length, sym, ◌-◌, ◌∙◌, ◌≡◌}
use Rattle.std.specs.Prelude.{slice_get}
use Rattle.d64_image.specs.Memory.{disk_image}
use Rattle.d64_image.specs.declared.place.Place.{Place}
use Rattle.damaged_files.proofs.lemmas.cut.Chains.{as-read, last-there, no-refusal, none-named, walked-blocks}
use Rattle.damaged_files.proofs.cut.tails.tail_of.Goals as goal

pub returns-in_err-first-clause-told : goal.returns-in_err-first-clause-told
returns-in_err-first-clause-told c f is same =
    rw c.from_residual.ensures (none-named (disk_image c.args.disk.now) f is (sym c.in_err-first.was
    ∙ as-read f c.args.slot.now c.new.result.bytes.now c.first_block.result 3 same c.new.ensures
    c.first_block.ensures))

pub returns-then-is_err-clause-told : goal.returns-then-is_err-clause-told
returns-then-is_err-clause-told c f is same =
    absurd (no-refusal (disk_image c.args.disk.now) f is c.in_ok-first.first (sym c.in_ok-first.was
    ∙ as-read f c.args.slot.now c.new.result.bytes.now c.first_block.result 3 same c.new.ensures
    c.first_block.ensures) c.walk_chain.result (sym c.is_err.ensures.value ∙ c.if-is_err.true)
    c.walk_chain.ensures.fault)

pub returns-in_err-place-clause-told : goal.returns-in_err-place-clause-told
returns-in_err-place-clause-told c f is same =
    let named = sym c.in_ok-first.was
    ∙ as-read f c.args.slot.now c.new.result.bytes.now c.first_block.result 3 same c.new.ensures
    c.first_block.ensures in
    let blocks = walked-blocks (disk_image c.args.disk.now) f is c.in_ok-first.first named c.walk_chain.result
    c.walk_chain.new.places.items (sym c.is_err.ensures.value ∙ c.if-is_err.false) c.walk_chain.ensures.chain in
    absurd (last-there (disk_image c.args.disk.now) f is c.in_ok-first.first named c.as_slice-blocks.result.now
    (c.as_slice-blocks.ensures.value ∙ blocks) c.in_err-place.ensures.value)

pub returns-clause-told : goal.returns-clause-told
returns-clause-told c f is same =
    let named = sym c.in_ok-first.was
    ∙ as-read f c.args.slot.now c.new.result.bytes.now c.first_block.result 3 same c.new.ensures
    c.first_block.ensures in
    let blocks : c.as_slice-blocks.result.now ≡ f.blocks = c.as_slice-blocks.ensures.value
    ∙ walked-blocks (disk_image c.args.disk.now) f is c.in_ok-first.first named c.walk_chain.result
    c.walk_chain.new.places.items (sym c.is_err.ensures.value ∙ c.if-is_err.false) c.walk_chain.ensures.chain in (
      ap (λ (ps : List Place). length ps) (sym blocks),
      ap (λ (ps : List Place). slice_get ps (length c.as_slice-blocks.result.now - 1)) (sym blocks)
          ∙ sym c.in_ok-place.ensures.value,
    )
