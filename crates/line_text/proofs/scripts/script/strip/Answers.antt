-- One CR is dropped, where there is one.
use Rattle.std.proofs.Common.{◌-◌, eq-eqb, get_or, length, refl}
use Rattle.line_text.proofs.scripts.script.strip.Goals as goal

pub returns-then-line-eq13 : goal.returns-then-line-eq13
returns-then-line-eq13 c = rw (eq-eqb (get_or c.args.line.now (length c.args.line.now - 1) 0) 13 c.if-line-eq13.true)
    refl
