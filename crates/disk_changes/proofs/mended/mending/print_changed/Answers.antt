-- The lines of the sectors are all that is printed of two disks, and these are read alone.
use Rattle.std.proofs.Common.{Err, List, ap, subst, ℕ, ◌∙◌}
use Rattle.std.proofs.lemmas.Result.{err_from_is_err_and}
use Rattle.std.specs.Io.KnownBytes.{Appends}
use Rattle.std.specs.Prelude.{OnErr, OnOk}
use Rattle.d64_image.proofs.Moments.{no_write_then}
use Rattle.disk_changes.proofs.lemmas.mended.Mendings.{changed-is}
use Rattle.command_faults.proofs.Parts.{part-none}
use Rattle.command_faults.specs.Outputs.{HandsPart}
use Rattle.disk_changes.proofs.mended.mending.print_changed.Goals as goal

pub returns-in_err-maps-clause-part : goal.returns-in_err-maps-clause-part
returns-in_err-maps-clause-part g c =
    let p = err_from_is_err_and c.from_residual.result c.from_residual.ensures.1 in
    rw (p.1 ∙ ap Err p.2) (part-none _ _)

pub returns-clause-ok : goal.returns-clause-ok
returns-clause-ok g c = subst (λ (bs : List ℕ). OnOk c.print_places.result
    (Appends (g.W.Write.contents c.args.out.now) (g.W.Write.contents c.print_places.new.out) bs))
    (changed-is _ _ _ _ _ c.in_ok-maps.ensures.quiet.image c.in_ok-maps.ensures.ok.0
    c.in_ok-maps.ensures.ok.1) c.print_places.ensures.ok

pub returns-clause-part : goal.returns-clause-part
returns-clause-part g c = subst (λ (bs : List ℕ). OnErr c.print_places.result
    (HandsPart (g.W.Write.contents c.args.out.now) (g.W.Write.contents c.print_places.new.out) bs))
    (changed-is _ _ _ _ _ c.in_ok-maps.ensures.quiet.image c.in_ok-maps.ensures.ok.0
    c.in_ok-maps.ensures.ok.1) c.print_places.ensures.part

pub returns-clause-quiet : goal.returns-clause-quiet
returns-clause-quiet g c = no_write_then g.D.Sectors.history _ _ _ c.in_ok-maps.ensures.quiet
    c.print_places.ensures.quiet
