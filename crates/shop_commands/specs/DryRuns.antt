-- A script run without a disk. All of it is our own.
use Rattle.std.specs.Prelude.{ℕ, List, []}
use Rattle.request_cards.specs.Ledgers.{Start, nothing, replies, report}
use Rattle.line_text.specs.scripts.Lines.{lines}

-- a fresh disk with 64 tills, whose last item with room is 8819
abbrev pub dry_start : Start
dry_start = record { state = nothing; tills = 64; top = 8819 }

-- the replies to a script on that disk, each over the lines before it and on a line of its own
abbrev pub dry_report : List ℕ → List ℕ
dry_report script = report (replies dry_start [] (lines script))
