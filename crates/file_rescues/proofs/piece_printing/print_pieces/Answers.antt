-- The lines are those of the form.
use Rattle.std.proofs.Common.{subst}
use Rattle.std.proofs.lemmas.Result.{on_err_weaker, on_ok_weaker}
use Rattle.std.specs.Io.KnownBytes.{Appends}
use Rattle.command_faults.specs.Outputs.{HandsPart}
use Rattle.file_rescues.proofs.Beginnings.{columns-as, text-as}
use Rattle.file_rescues.proofs.piece_printing.print_pieces.Goals as goal

pub returns-in-Lines-clause-ok : goal.returns-in-Lines-clause-ok
returns-in-Lines-clause-ok g c = rw c.in-Lines.is c.print_gathered.ensures.ok

pub returns-in-Lines-clause-part : goal.returns-in-Lines-clause-part
returns-in-Lines-clause-part g c = rw c.in-Lines.is c.print_gathered.ensures.part

pub returns-in-Text-clause-ok : goal.returns-in-Text-clause-ok
returns-in-Text-clause-ok g c = on_ok_weaker c.print_each.result
    (λ printed. subst (Appends (g.W.Write.contents c.args.out.now) (g.W.Write.contents c.print_each.new.out))
    (text-as c.args.form c.in-Text.field-0 _ c.in-Text.is) printed)
    c.print_each.ensures.ok

pub returns-in-Text-clause-part : goal.returns-in-Text-clause-part
returns-in-Text-clause-part g c = on_err_weaker c.print_each.result
    (λ printed. subst (HandsPart (g.W.Write.contents c.args.out.now) (g.W.Write.contents c.print_each.new.out))
    (text-as c.args.form c.in-Text.field-0 _ c.in-Text.is) printed)
    c.print_each.ensures.part

pub returns-in-Columns-clause-ok : goal.returns-in-Columns-clause-ok
returns-in-Columns-clause-ok g c = on_ok_weaker c.print_each-in-Columns.result
    (λ printed. subst (Appends (g.W.Write.contents c.args.out.now) (g.W.Write.contents c.print_each-in-Columns.new.out))
    (columns-as c.args.form c.in-Columns.field-0 _ c.in-Columns.is) printed)
    c.print_each-in-Columns.ensures.ok

pub returns-in-Columns-clause-part : goal.returns-in-Columns-clause-part
returns-in-Columns-clause-part g c = on_err_weaker c.print_each-in-Columns.result
    (λ printed. subst (HandsPart (g.W.Write.contents c.args.out.now) (g.W.Write.contents c.print_each-in-Columns.new.out))
    (columns-as c.args.form c.in-Columns.field-0 _ c.in-Columns.is) printed)
    c.print_each-in-Columns.ensures.part
