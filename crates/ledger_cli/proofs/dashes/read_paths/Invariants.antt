use Rattle.std.proofs.Common.{◌≡◌, ◌<◌, ◌≤◌, ℕ, get_or, length}
use Rattle.std.specs.Borrow.{Bor}
use Rattle.clap.specs.Words.{Text}
use Rattle.ledger_cli.specs.Dashes.{IsReadAs}
use Rattle.ledger_cli.proofs.dashes.read_paths.Given as goal

abbrev pub invariant-loop-path : goal.invariant-loop-path
invariant-loop-path l = (k : ℕ) (none : Bor Text) → k < length l.fn.paths.items
    → (k < l.path-index → IsReadAs (get_or l.fn.paths.items k none) (get_or l.path-items k none))
    × (l.path-index ≤ k → get_or l.path-items k none ≡ get_or l.fn.paths.items k none)
