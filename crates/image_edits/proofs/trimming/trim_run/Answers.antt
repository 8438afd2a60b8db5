-- What the command says.
use Rattle.image_edits.proofs.trimming.trim_run.Goals as goal

pub returns : goal.returns
returns g c = (
  c.trim_image.result,
  c.trimmed_end.ensures,
  record { done = c.trim_image.ensures.ok; fault = c.trim_image.ensures.err },
)
