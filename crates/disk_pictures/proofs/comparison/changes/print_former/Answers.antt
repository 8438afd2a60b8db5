-- A row, if no counterpart was found.
use Rattle.std.proofs.Common.{None, Some, ap, map, subst, sym, ◌∙◌}
use Rattle.std.specs.Prelude.{option_map}
use Rattle.std.specs.Io.KnownBytes.{Appends}
use Rattle.std.proofs.KnownBytes.{Appends-nil}
use Rattle.std.proofs.lemmas.Result.{on_ok_weaker}
use Rattle.disk_pictures.proofs.lemmas.comparison.ChangedRows.{former-by}
use Rattle.disk_pictures.specs.ComparedOutcomes.{disk_in}
use Rattle.disk_pictures.specs.ComparedPages.{gone_row}
use Rattle.disk_pictures.specs.Drawings.{file_in}
use Rattle.disk_pictures.specs.Html.{html_of}
use Rattle.disk_pictures.specs.Petscii.{petscii_of}
use Rattle.disk_pictures.proofs.comparison.changes.print_former.Goals as goal

pub returns-in-None-clause-ok : goal.returns-in-None-clause-ok
returns-in-None-clause-ok g c =
    let told = g.W.Write.contents in
    on_ok_weaker c.print_text.result
    (λ done. subst (Appends (told c.args.out.now) (told c.print_text.new.out))
    (ap (gone_row html_of petscii_of) c.entry_name.ensures.name
    ∙ former-by (disk_in c.args.before.now) (disk_in c.args.after.now) c.args.number (file_in c.args.file.now) None
    (map file_in c.as_slice-others.result.now) (map file_in c.as_slice.result.now)
    (ap (option_map (λ o. file_in o.now)) (sym c.in-None.is) ∙ c.counterpart.ensures)
    (ap (map file_in) c.as_slice-others.ensures.value) (ap (map file_in) c.as_slice.ensures.value)) done)
    c.print_text.ensures.ok

pub returns-in-Some-clause-ok : goal.returns-in-Some-clause-ok
returns-in-Some-clause-ok g c =
    let told = g.W.Write.contents in
    subst (Appends (told c.args.out.now) (told c.args.out.now))
    (former-by (disk_in c.args.before.now) (disk_in c.args.after.now) c.args.number (file_in c.args.file.now)
    (Some (file_in c.in-Some.field-0.now))
    (map file_in c.as_slice-others.result.now) (map file_in c.as_slice.result.now)
    (ap (option_map (λ o. file_in o.now)) (sym c.in-Some.is) ∙ c.counterpart.ensures)
    (ap (map file_in) c.as_slice-others.ensures.value) (ap (map file_in) c.as_slice.ensures.value))
    (Appends-nil (told c.args.out.now))
