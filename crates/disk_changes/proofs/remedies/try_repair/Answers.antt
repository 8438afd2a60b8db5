-- The change that the way asks for, and what came of it.
use Rattle.std.proofs.Common.{[], refl, subst, sym}
use Rattle.command_faults.specs.declared.faults.CommandFault.{CommandFault}
use Rattle.damaged_files.specs.declared.sides.planning.Loss.{Loss}
use Rattle.disk_changes.specs.Changes.{IsChangedBy, IsUnchangedBy}
use Rattle.disk_changes.specs.Remedies.{kind_by, loss_by}
use Rattle.disk_changes.specs.declared.changes.ChangeKind.{ChangeKind}
use Rattle.disk_changes.proofs.remedies.try_repair.Goals as goal

pub returns-in-Ok-clause-ok : goal.returns-in-Ok-clause-ok
returns-in-Ok-clause-ok c =
    let K : ChangeKind → Type 0 = λ kind. IsChangedBy kind c.loss_by.result [] c.args.image.now c.in-Ok.made in
    let L : Loss → Type 0 = λ loss. IsChangedBy (kind_by c.args.way) loss [] c.args.image.now c.in-Ok.made in
    ((c.in-Ok.made, subst L c.loss_by.ensures (subst K c.kind_by-kind.ensures c.in-Ok.ensures.ok), refl), tt)

pub returns-in_ok-why-in-Err-clause-ok : goal.returns-in_ok-why-in-Err-clause-ok
returns-in_ok-why-in-Err-clause-ok c =
    let K : ChangeKind → Type 0 = λ kind. IsUnchangedBy kind c.loss_by.result [] c.args.image.now c.in-Err.fault in
    let L : Loss → Type 0 = λ loss. IsUnchangedBy (kind_by c.args.way) loss [] c.args.image.now c.in-Err.fault in
    let F : CommandFault → Type 0 = λ why. IsUnchangedBy (kind_by c.args.way) (loss_by c.args.way) [] c.args.image.now why in
    let known = c.in_ok-why-in-Err.ensures.ok in (
      tt,
      record {
        refused = subst F (sym known.0) (subst L c.loss_by.ensures (subst K c.kind_by-kind.ensures c.in-Err.ensures.err));
        tried = known.1;
      },
    )
