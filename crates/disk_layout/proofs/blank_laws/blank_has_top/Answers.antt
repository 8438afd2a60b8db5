-- The law is a lemma.
use Rattle.disk_layout.proofs.blank_laws.blank_has_top.Goals as goal
use Rattle.disk_layout.proofs.lemmas.blank.BlankTop.{blank-has_top}

pub returns-clause-top : goal.returns-clause-top
returns-clause-top c = blank-has_top
