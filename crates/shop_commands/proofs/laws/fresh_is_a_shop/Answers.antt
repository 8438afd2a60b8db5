-- The laws are lemmas.
use Rattle.shop_commands.proofs.FreshShops.{bytes-disk, fresh-shop, fresh-shown}
use Rattle.shop_commands.proofs.laws.fresh_is_a_shop.Goals as goal

pub returns : goal.returns
returns c = record { bytes = bytes-disk; shop = fresh-shop; shown = fresh-shown }
