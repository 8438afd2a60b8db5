-- The name was written as it is, or between two marks.
use Rattle.std.proofs.Common.{◌∙◌, sym}
use Rattle.image_looks.proofs.plans.print_quoted_name.Goals as goal

pub returns-then-is_plain_name : goal.returns-then-is_plain_name
returns-then-is_plain_name g c = rw (sym c.is_plain_name.ensures ∙ c.if-is_plain_name.true) c.write_all.ensures.bytes

pub returns : goal.returns
returns g c = rw (sym c.is_plain_name.ensures ∙ c.if-is_plain_name.false) c.print_quoted.ensures
