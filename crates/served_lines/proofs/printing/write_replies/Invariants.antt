-- So many replies were written.
use Rattle.std.proofs.Common.{◌≡◌, ◌≤◌, ◌*◌, length, take}
use Rattle.request_cards.specs.Ledgers.{report}
use Rattle.served_lines.proofs.printing.write_replies.Given as goal

abbrev pub invariant-loop-reply : goal.invariant-loop-reply
invariant-loop-reply l = record {
  few : l.at ≤ 44 * l.reply-index;
  within : l.at ≤ 22528;
  sized : length l.text ≡ 22528;
  report_is : take l.at l.text ≡ report (take l.reply-index l.replies);
}
