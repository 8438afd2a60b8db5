-- The law is a lemma.
use Rattle.disk_layout.proofs.blank_laws.blank_is_whole.Goals as goal
use Rattle.disk_layout.proofs.lemmas.blank.BlankWhole.{blank-files-whole}

pub returns : goal.returns
returns c = blank-files-whole
