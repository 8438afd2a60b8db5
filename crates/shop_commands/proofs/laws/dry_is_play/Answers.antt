-- The laws are lemmas.
use Rattle.shop_commands.proofs.FreshShops.{dry-begins, dry-tells, same-scripts}
use Rattle.shop_commands.proofs.laws.dry_is_play.Goals as goal

pub returns : goal.returns
returns c = record { start = dry-begins; replies = dry-tells; scripts = same-scripts }
