-- The line of a sector that became free.
use Rattle.std.proofs.Common.{List, subst, sym, ℕ, ◌∙◌}
use Rattle.std.specs.Io.KnownBytes.{Appends}
use Rattle.std.specs.Prelude.{OnErr, OnOk}
use Rattle.command_faults.specs.Outputs.{HandsPart}
use Rattle.disk_changes.proofs.lemmas.mended.Mendings.{freed-line}
use Rattle.disk_changes.proofs.mended.mending.print_freed.Goals as goal

pub returns-clause-ok : goal.returns-clause-ok
returns-clause-ok g c = subst (λ (bs : List ℕ). OnOk c.print_about.result
    (Appends (g.W.Write.contents c.args.out.now) (g.W.Write.contents c.print_about.new.out) bs))
    (freed-line c.args.maps.now.had c.args.maps.now.has c.args.place (sym c.if-not-is_freed.false ∙ c.is_freed.ensures)) c.print_about.ensures.ok

pub returns-clause-part : goal.returns-clause-part
returns-clause-part g c = subst (λ (bs : List ℕ). OnErr c.print_about.result
    (HandsPart (g.W.Write.contents c.args.out.now) (g.W.Write.contents c.print_about.new.out) bs))
    (freed-line c.args.maps.now.had c.args.maps.now.has c.args.place (sym c.if-not-is_freed.false ∙ c.is_freed.ensures)) c.print_about.ensures.part
