-- There is room for one sector more.
use Rattle.std.proofs.Common.{ap, lit<, sym, ◌∙◌}
use Rattle.file_rescues.proofs.lemmas.rescue.Scanned.{few-next}
use Rattle.file_rescues.specs.rescue.Scanned.{is_among}
use Rattle.file_rescues.proofs.rescue.scanning.add_next.Goals as goal

pub push-requires : goal.push-requires
push-requires c = (
  lit< tt,
  few-next c.args.sectors.now.items c.args.number c.in-Some.place c.requires.low (sym c.in-Some.ensures.value)
      c.requires.once c.requires.on_track
      (ap (is_among c.in-Some.place) (sym c.as_slice.ensures.value) ∙ sym c.is_among.ensures ∙ c.if-is_among.false),
)
