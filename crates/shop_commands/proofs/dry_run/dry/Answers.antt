-- The replies from an empty state on are the replies over the requests before each line; they stay when they are
-- handed on.
use Rattle.std.proofs.Common.{[], arith}
use Rattle.request_cards.specs.Ledgers.{nothing}
use Rattle.std.proofs.KnownBytes.{Appends-kept}
use Rattle.request_cards.proofs.Plain.{replies_by_ledger, plain_nil}
use Rattle.request_cards.proofs.Tables.{state-nothing, within-nothing}
use Rattle.line_text.specs.scripts.Lines.{lines}
use Rattle.d64_image.proofs.Told.{at-ok}
use Rattle.shop_commands.specs.DryRuns.{dry_start}
use Rattle.shop_commands.proofs.dry_run.dry.Goals as goal

pub returns-clause-ok : goal.returns-clause-ok
returns-clause-ok g c =
    rw (replies_by_ledger dry_start [] (lines c.args.script.now), plain_nil dry_start, ← state-nothing c.new-ledger.result c.new-ledger.ensures.cards c.new-ledger.ensures.requests)
    (at-ok c.hand_on.result (Appends-kept (g.W.Write.contents c.args.out.now) (g.W.Write.contents c.play.new.out)
    (g.W.Write.contents c.hand_on.new.out) _ c.in_ok-play.ensures.ok c.hand_on.ensures.kept))

pub play-requires-clause-limits : goal.play-requires-clause-limits
play-requires-clause-limits g c = λ i. record {
  state = nothing;
  tills = c.new-ledger.ensures.tills i;
  top = c.new-ledger.ensures.top i;
}

pub play-requires-clause-within : goal.play-requires-clause-within
play-requires-clause-within g c =
    within-nothing c.new-ledger.result c.new-ledger.ensures.cards (omega (arith, c.new-ledger.ensures.top))
