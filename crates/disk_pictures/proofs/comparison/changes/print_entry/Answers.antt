-- The row by the counterpart that was found.
use Rattle.std.proofs.Common.{None, Some, ap, map, subst, sym, ◌∙◌}
use Rattle.std.specs.Prelude.{option_map}
use Rattle.std.specs.Io.KnownBytes.{Appends}
use Rattle.std.proofs.lemmas.Result.{on_ok_weaker}
use Rattle.disk_pictures.proofs.lemmas.comparison.ChangedRows.{entry-by}
use Rattle.disk_pictures.specs.ComparedOutcomes.{disk_in}
use Rattle.disk_pictures.specs.Drawings.{file_in}
use Rattle.disk_pictures.proofs.comparison.changes.print_entry.Goals as goal

pub returns-in-None-clause-ok : goal.returns-in-None-clause-ok
returns-in-None-clause-ok g c =
    let told = g.W.Write.contents in
    on_ok_weaker c.print_new.result
    (λ done. subst (Appends (told c.args.out.now) (told c.print_new.new.out))
    (entry-by (disk_in c.args.before.now) (disk_in c.args.after.now) c.args.number (file_in c.args.file.now) None
    (map file_in c.as_slice-others.result.now) (map file_in c.as_slice.result.now)
    (ap (option_map (λ o. file_in o.now)) (sym c.in-None.is) ∙ c.counterpart.ensures)
    (ap (map file_in) c.as_slice-others.ensures.value) (ap (map file_in) c.as_slice.ensures.value)) done)
    c.print_new.ensures.ok

pub returns-in-Some-clause-ok : goal.returns-in-Some-clause-ok
returns-in-Some-clause-ok g c =
    let told = g.W.Write.contents in
    on_ok_weaker c.print_changed.result
    (λ done. subst (Appends (told c.args.out.now) (told c.print_changed.new.out))
    (entry-by (disk_in c.args.before.now) (disk_in c.args.after.now) c.args.number (file_in c.args.file.now)
    (Some (file_in c.in-Some.former.now))
    (map file_in c.as_slice-others.result.now) (map file_in c.as_slice.result.now)
    (ap (option_map (λ o. file_in o.now)) (sym c.in-Some.is) ∙ c.counterpart.ensures)
    (ap (map file_in) c.as_slice-others.ensures.value) (ap (map file_in) c.as_slice.ensures.value)) done)
    c.print_changed.ensures.ok
