-- One record more, of those that there are.
use Rattle.std.proofs.Common.{arith, subst, sym, ◌∙◌}
use Rattle.std.specs.Io.KnownBytes.{Appends}
use Rattle.std.proofs.KnownBytes.{Appends-nil}
use Rattle.disk_pictures.proofs.lemmas.comparison.ChangedRows.{all-records, no-records}
use Rattle.disk_pictures.proofs.Printing.{all-below, below-more, none-below}
use Rattle.disk_pictures.specs.ComparedPages.{record_text}
use Rattle.disk_pictures.specs.Drawings.{file_in}
use Rattle.disk_pictures.proofs.comparison.changed_records.print_records.Goals as goal

pub returns-in_default-clause-ok : goal.returns-in_default-clause-ok
returns-in_default-clause-ok g c =
    let v = c.args.file.now in
    let told = g.W.Write.contents in
    subst (Appends (told c.args.out.now) (told c.args.out.now))
    (sym (no-records v.before.now.sectors.now v.after.now.sectors.now (file_in v.former.now) (file_in v.file.now)
    (sym c.in_default.is ∙ c.records.ensures.value)))
    (Appends-nil (told c.args.out.now))

pub loop-number-init : goal.loop-number-init
loop-number-init g c = none-below _ _

pub loop-number-preserved : goal.loop-number-preserved
loop-number-preserved g c =
    let v = c.args.file.now in
    below-more _ _ _ c.loop-number.number
    (record_text v.before.now.sectors.now v.after.now.sectors.now (file_in v.former.now) (file_in v.file.now))
    c.loop-number.invariant c.in_ok-print_record.ensures.ok

pub returns-clause-ok : goal.returns-clause-ok
returns-clause-ok g c =
    let v = c.args.file.now in
    let told = g.W.Write.contents in
    subst (Appends (told c.args.out.now) (told c.loop-number.out))
    (all-records v.before.now.sectors.now v.after.now.sectors.now (file_in v.former.now) (file_in v.file.now) c.in-Some.count
    (sym c.in-Some.is ∙ c.records.ensures.value))
    (all-below _ _ c.loop-number.number c.in-Some.count
    (record_text v.before.now.sectors.now v.after.now.sectors.now (file_in v.former.now) (file_in v.file.now))
    (omega (arith, c.loop-number-test.false, c.loop-number.auto.number-end)) c.loop-number.invariant)
