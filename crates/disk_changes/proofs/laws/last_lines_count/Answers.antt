-- Of two lines of one record the last counts.
use Rattle.disk_changes.proofs.lemmas.lines.LastOnes.{apart-ones, lines-numbers, ones-apart, stored-ones}
use Rattle.disk_changes.proofs.laws.last_lines_count.Goals as goal

pub returns-clause-apart : goal.returns-clause-apart
returns-clause-apart c = ones-apart

pub returns-clause-all : goal.returns-clause-all
returns-clause-all c = apart-ones

pub returns-clause-stored : goal.returns-clause-stored
returns-clause-stored c = λ L had ls xs rs are. stored-ones L xs rs (lines-numbers L had ls xs are)
