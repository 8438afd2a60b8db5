-- The law is a lemma.
use Rattle.shop_commands.proofs.FreshShops.{run-tells}
use Rattle.shop_commands.proofs.laws.run_tells_dry.Goals as goal

pub returns : goal.returns
returns g c = run-tells g.D.Sectors.history
