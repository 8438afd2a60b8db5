-- The law is a lemma.
use Rattle.disk_layout.proofs.blank_laws.blank_is_clean.Goals as goal
use Rattle.disk_layout.proofs.lemmas.blank.BlankClean.{blank-clean}

pub returns : goal.returns
returns c = blank-clean
