-- Reply by reply.
use Rattle.std.proofs.Common.{◌∙◌, ◌++◌, ◌∷◌, [], ap, arith, get_or, sym, take}
use Rattle.std.proofs.lemmas.List.{take_more}
use Rattle.request_cards.specs.Ledgers.{report}
use Rattle.request_cards.specs.declared.reply.Reply.TheVariants.{Syntax}
use Rattle.served_lines.proofs.Printed.{report_more}
use Rattle.served_lines.proofs.printing.write_replies.Goals as goal

pub loop-reply-preserved : goal.loop-reply-preserved
loop-reply-preserved c = record {
  few = omega (arith, c.loop-reply.invariant.few, c.write_reply-at.ensures.more);
  within = omega (arith, c.loop-reply.invariant.within, c.write_reply-at.ensures.more, c.loop-reply.invariant.sized, c.if-text-at-lt-LINE_BYTES.false);
  sized = c.write_reply-at.ensures.sized ∙ c.loop-reply.invariant.sized;
  report_is =
      let i = c.loop-reply.reply-index in
      let replies = c.args.replies.now in
      c.write_reply-at.ensures.line
      ∙ ap (λ l. l ++ report (get_or replies i Syntax ∷ [])) c.loop-reply.invariant.report_is
      ∙ sym (report_more (take i replies) (get_or replies i Syntax))
      ∙ ap report (sym (take_more replies i Syntax c.loop-reply-test.true));
}
