-- The table tells what the map, the directory and the files own.
use Rattle.disk_layout.specs.Layout.{owners}
use Rattle.layout_check.proofs.survey_outcome.Survey.is_owned.Goals as goal

pub returns : goal.returns
unfolding owners
returns c l h = (
  λ t. (h.table.owned c.args.place).0 (c.is_owned.ensures.0 t),
  λ d. c.is_owned.ensures.1 ((h.table.owned c.args.place).1 d),
)
