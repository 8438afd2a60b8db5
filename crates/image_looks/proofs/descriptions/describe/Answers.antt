-- A refusal was described.
use Rattle.std.proofs.Common.{◌≡◌, inr, rules, subst}
use Rattle.std.specs.Prelude.{◌≢◌}
use Rattle.std.proofs.lemmas.Result.{IfOk-weaker}
use Rattle.command_faults.specs.declared.faults.CommandFault.TheVariants as faults
use Rattle.image_looks.specs.Descriptions.{IsImageDescribed, IsRefusalDescribed}
use Rattle.image_looks.proofs.descriptions.describe.Goals as goal

pub returns-in-Err-clause-ok : goal.returns-in-Err-clause-ok
returns-in-Err-clause-ok g c =
    let told = g.W.Write.contents in
    let other : c.in-Err.fault ≢ faults.File = search rules in
    IfOk-weaker c.print_refusal.result (IsRefusalDescribed told c.args.form c.args.path.now c.in-Err.fault c.describe_one.new.out
    c.print_refusal.new.out) (IsImageDescribed told c.args.form c.args.path.now c.args.image.now c.args.out.now c.print_refusal.new.out)
    (λ status done. inr (
      c.in-Err.fault,
      c.in-Err.ensures.err,
      subst (λ w. IsRefusalDescribed told c.args.form c.args.path.now c.in-Err.fault w c.print_refusal.new.out status)
          (c.in-Err.ensures.untouched other) done,
    )) c.print_refusal.ensures.ok
