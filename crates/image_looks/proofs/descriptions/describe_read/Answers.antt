-- The description is of the bytes that were read.
use Rattle.std.proofs.Common.{List, ℕ, IfOk, subst}
use Rattle.image_looks.specs.Descriptions.{IsImageDescribed}
use Rattle.image_looks.proofs.descriptions.describe_read.Goals as goal

pub returns-in-Ok : goal.returns-in-Ok
returns-in-Ok g c = record {
  ok = rw c.in-Ok.is (subst (λ (image : List ℕ). IfOk c.describe.result
      (IsImageDescribed g.W.Write.contents c.args.form c.args.path.now image c.args.out.now c.describe.new.out)) c.as_slice.ensures.value
      c.describe.ensures.ok);
  err = c.describe.ensures.err;
}
