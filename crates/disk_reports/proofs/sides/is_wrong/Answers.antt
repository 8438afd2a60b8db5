-- The bytes are the exact ones of the only list that the side sector can have, or aren't, or there is no such list.
use Rattle.std.proofs.Common.{ap, arith, length, refl, sym, ◌∙◌, ◌≡◌, ◌++◌, List}
use Rattle.std.specs.Prelude.{IsTrue}
use Rattle.std.proofs.lemmas.Bool.{false≢true}
use Rattle.d64_image.specs.Memory.{disk_image}
use Rattle.d64_image.specs.declared.place.Place.{Place}
use Rattle.disk_layout.specs.Layout.{record_length, sides_for}
use Rattle.disk_layout.specs.Side.{side_sector}
use Rattle.damaged_files.proofs.lemmas.reached.Walked.{at-answer}
use Rattle.disk_reports.proofs.Found.{judged, only-list}
use Rattle.disk_reports.proofs.sides.is_wrong.Goals as goal

pub returns-then-not-add_listed : goal.returns-then-not-add_listed
returns-then-not-add_listed c =
    let known : c.try_extend_from_slice.new.self.items ≡ c.args.sides.now =
    at-answer c.try_extend_from_slice.result (c.try_extend_from_slice.ensures.variant.1
    (omega (arith, ap length c.new-all.ensures, c.requires.fits, c.requires.few))) c.try_extend_from_slice.ensures.ok
    ∙ ap (λ (xs : List Place). xs ++ c.args.sides.now) c.new-all.ensures in
    let count : c.div_ceil.result ≡ sides_for (length c.args.blocks.now) = omega (arith, c.div_ceil.ensures) in
    let read = c.sector-bytes.ensures in (
      λ on h. false≢true (sym c.if-not-add_listed.true ∙ (only-list (disk_image c.args.disk.now) c.args.slot.now
          c.args.blocks.now c.args.sides.now c.try_extend_from_slice.new.self.items c.add_listed.new.all.items c.args.number
          c.args.side c.sector-bytes.result.now c.div_ceil.result (IsTrue c.add_listed.result) c.requires.few read known count
          c.add_listed.ensures.only h).0),
      λ none. refl,
    )

pub returns : goal.returns
returns c =
    let known : c.try_extend_from_slice.new.self.items ≡ c.args.sides.now =
    at-answer c.try_extend_from_slice.result (c.try_extend_from_slice.ensures.variant.1
    (omega (arith, ap length c.new-all.ensures, c.requires.fits, c.requires.few))) c.try_extend_from_slice.ensures.ok
    ∙ ap (λ (xs : List Place). xs ++ c.args.sides.now) c.new-all.ensures in
    let count : c.div_ceil.result ≡ sides_for (length c.args.blocks.now) = omega (arith, c.div_ceil.ensures) in
    let read = c.sector-bytes.ensures in
    let length_byte : c.record_length-length.result ≡ record_length c.args.slot.now =
    rw (c.record_length-length.ensures, c.new.ensures) refl in
    let made : c.side_bytes.result ≡ side_sector c.args.number c.args.blocks.now c.add_listed.new.all.items
    (record_length c.args.slot.now) =
    rw (← c.as_slice.ensures.value, ← length_byte) c.side_bytes.ensures in
    let (more, long, grown) = c.add_listed.ensures.right c.if-not-add_listed.false in
    judged (disk_image c.args.disk.now) c.args.slot.now c.args.blocks.now c.args.sides.now c.add_listed.new.all.items more
    c.args.number c.args.side c.sector-bytes.result.now c.side_bytes.result c.ne.result read c.ne.ensures made
    (grown ∙ ap (λ (xs : List Place). xs ++ more) known) (long ∙ count)
    (λ h. (only-list (disk_image c.args.disk.now) c.args.slot.now c.args.blocks.now c.args.sides.now
    c.try_extend_from_slice.new.self.items c.add_listed.new.all.items c.args.number c.args.side c.sector-bytes.result.now
    c.div_ceil.result (IsTrue c.add_listed.result) c.requires.few read known count c.add_listed.ensures.only h).1)
