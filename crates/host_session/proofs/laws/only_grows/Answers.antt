-- Beginnings only grow.
use Rattle.host_session.proofs.laws.only_grows.Goals as goal
use Rattle.host_session.proofs.lemmas.runs.CutChains.{run_grows}

pub returns : goal.returns
returns g c = λ s ms ns xs ys old new same run. run_grows g.D.Sectors.history s ms ns xs ys old new same run
