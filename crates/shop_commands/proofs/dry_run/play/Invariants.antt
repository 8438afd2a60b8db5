-- What was written, and the replies to the lines that are left, are all replies.
use Rattle.std.proofs.Common.{◌≡◌, ℕ, List, ◌++◌, length}
use Rattle.std.specs.Io.KnownBytes.{Appends}
use Rattle.request_cards.specs.Ledgers.{replies_from, report}
use Rattle.request_cards.specs.Tables.{IsWithin, held_by, limits_of}
use Rattle.line_text.specs.scripts.Lines.{lines}
use Rattle.shop_commands.specs.DryRuns.{dry_start}
use Rattle.shop_commands.proofs.dry_run.play.Given as goal

abbrev pub invariant-loop-line : goal.invariant-loop-line
invariant-loop-line g l =
    (written : List ℕ) × Appends (g.W.Write.contents l.fn.out) (g.W.Write.contents l.out) written
    × (written ++ report (replies_from dry_start (held_by l.ledger) (lines l.rest)) ≡ report
    (replies_from dry_start (held_by l.fn.ledger) (lines l.script)))
    × (limits_of l.ledger ≡ dry_start) × IsWithin l.ledger

abbrev pub decreases-loop-line : goal.decreases-loop-line
decreases-loop-line g l = length l.rest
