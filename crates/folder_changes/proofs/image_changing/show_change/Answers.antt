-- The change is printed.
use Rattle.std.proofs.Common.{◌∙◌, Err, Result, ap, subst, ℕ}
use Rattle.std.proofs.lemmas.Result.{err_from_is_err_and}
use Rattle.std.specs.Prelude.{IfErr}
use Rattle.command_faults.specs.declared.faults.CommandFault.{CommandFault}
use Rattle.disk_changes.specs.Changes.{IsChanged, IsRefused}
use Rattle.folder_changes.proofs.Changed.{in-memory, no-device, printed, refused}
use Rattle.folder_changes.proofs.image_changing.show_change.Goals as goal

pub returns-in_err-made : goal.returns-in_err-made
returns-in_err-made g c =
    let Refuses = IsRefused c.args.what.now c.args.image.now in
    let never = in-memory c.args.what.now c.args.image.now in
    let p = err_from_is_err_and c.from_residual.result c.from_residual.ensures.1 in
    rw (p.1 ∙ ap Err p.2) (
      refused g.W.Write.contents (IsChanged c.args.what.now c.args.image.now) Refuses ⊥ c.args.out.now _ never.0
          c.in_err-made.ensures.err,
      λ device. never.1 (subst (λ (r : Result ℕ CommandFault). IfErr r Refuses) device c.in_err-made.ensures.err),
    )

pub returns : goal.returns
returns g c = (
  printed g.W.Write.contents (IsChanged c.args.what.now c.args.image.now) (IsRefused c.args.what.now c.args.image.now) ⊥
      c.args.out.now c.print.new.out c.in_ok-made.made c.in_ok-made.ensures.ok
      c.print.result c.print.ensures.ok c.print.ensures.part c.print.ensures.err,
  no-device c.print.result c.print.ensures.err,
)
