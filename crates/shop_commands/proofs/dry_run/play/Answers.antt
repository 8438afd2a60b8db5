-- A reply is written after the others, and the lines after it are left.
use Rattle.std.proofs.Common.{◌++◌, ◌∙◌, ap}
use Rattle.std.specs.Prelude.{codes, not}
use Rattle.request_cards.specs.Ledgers.{Start, after_message, reply_in}
use Rattle.request_cards.specs.Reading.{request_of}
use Rattle.request_cards.specs.Tables.{held_by}
use Rattle.std.proofs.KnownBytes.{Appends-trans}
use Rattle.request_cards.specs.Texts.{reply_text}
use Rattle.line_text.specs.scripts.Lines.{lines}
use Rattle.shop_commands.specs.DryRuns.{dry_start}
use Rattle.shop_commands.proofs.Replies.{report_more}
use Rattle.layout_check.proofs.lemmas.mending.MapMends.{ok-holds}
use Rattle.shop_commands.proofs.dry_run.play.Goals as goal

pub loop-line-preserved : goal.loop-line-preserved
loop-line-preserved g c =
    let kept = c.loop-line.invariant in
    let start = kept.3 in
    let old = held_by c.loop-line.ledger in
    let asked = request_of c.in-Some.line.now in (
      kept.0 ++ (reply_text c.reply.result ++ codes "\n"),
      Appends-trans _ _ _ _ _ kept.1 (ok-holds c.write_line.result _ (c.is_err.ensures.negation
          ∙ ap not c.if-is_err.false) c.write_line.ensures),
      report_more dry_start old (held_by c.reply.new.self) c.in-Some.line.now (lines c.in-Some.more.now)
          (lines c.loop-line.rest.now) c.reply.result kept.0 _ c.in-Some.ensures.0
          (c.reply.ensures.reply ∙ ap (λ (s : Start). reply_in s old asked) start)
          (c.reply.ensures.after ∙ ap (λ (s : Start). after_message s old asked) start) kept.2,
      c.reply.ensures.limits ∙ start,
      c.reply.ensures.within,
    )
