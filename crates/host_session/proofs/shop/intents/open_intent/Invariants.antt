use Rattle.std.proofs.Common.{take}
use Rattle.host_session.specs.shop.LoadedShop.{IsIntentAmong}
use Rattle.host_session.specs.shop.Shop.{intents}
use Rattle.host_session.proofs.shop.intents.open_intent.Given as goal

abbrev pub invariant-loop-place : goal.invariant-loop-place
invariant-loop-place l = IsIntentAmong l.requests (intents (take l.place l.requests)) l.found
