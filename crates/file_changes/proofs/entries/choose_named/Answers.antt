-- The entry that was found is the one that is read.
use Rattle.std.proofs.Common.{length, refl, subst}
use Rattle.std.proofs.lemmas.Option.{slice_get_read, slice_get_within}
use Rattle.disk_layout.specs.declared.slot.Slot.{Slot}
use Rattle.rel_records.proofs.lemmas.reading.Found.{same-slot}
use Rattle.file_changes.specs.Entries.{IsFirstNamed}
use Rattle.file_changes.proofs.entries.choose_named.Goals as goal

pub returns-in-Some-clause-ok : goal.returns-in-Some-clause-ok
returns-in-Some-clause-ok c =
    let (s, first) = c.in-Some.ensures in
    let there = slice_get_read c.args.entries.now (length c.args.entries.now) c.in-Some.number
    c.index-entries-number.result refl (slice_get_within c.args.entries.now c.in-Some.number s first.there)
    c.index-entries-number.is in
    let same = same-slot c.args.entries.now c.in-Some.number s c.index-entries-number.result first.there there in
    let P : Slot → Type 0 = λ x. IsFirstNamed c.args.entries.now c.args.padded.now c.in-Some.number x in
    (c.in-Some.number, subst P same first)
