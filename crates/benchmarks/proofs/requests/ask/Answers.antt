use Rattle.benchmarks.proofs.Asked.{asked, unasked}
use Rattle.benchmarks.proofs.requests.ask.Goals as goal

-- no wish is open
pub returns-in_default : goal.returns-in_default
returns-in_default g c = record { stays = unasked g.D.Sectors.history c.args.session.now c.requires.shop }

-- the message was handled
pub returns : goal.returns
returns g c =
    let told = c.handle-reply.ensures in
    let shop = c.requires.shop in
    record {
      stays = asked g.D.Sectors.history c.args.session.now c.handle-reply.new.self shop.0 _ 3618 _ shop.1
          (told.moments shop.0 shop.1) (λ e. (told.dead e).1) (λ e not. (told.reply shop.0 shop.1 e not).2)
          told.failures;
    }
