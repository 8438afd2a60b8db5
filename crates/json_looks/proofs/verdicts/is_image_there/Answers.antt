-- Both are there, or one isn't.
use Rattle.json_looks.proofs.verdicts.is_image_there.Goals as goal

pub returns-then-there : goal.returns-then-there
returns-then-there c = (
  λ t. (c.is_all_there-there.ensures.0 c.if-there.true, c.is_read_past-read.ensures.0 t),
  λ all. c.is_read_past-read.ensures.1 all.1,
)

pub returns-else-there : goal.returns-else-there
returns-else-there c =
    let gone = c.if-there.false in
    (λ t. absurd (cc (t, gone)), λ all. c.is_all_there-there.ensures.1 all.0)
