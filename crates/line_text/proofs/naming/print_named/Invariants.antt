-- What was written, and the rest with its names, are the text with its names.
use Rattle.std.proofs.Common.{◌≡◌, ◌++◌, List, length, ℕ}
use Rattle.std.specs.Io.KnownBytes.{Appends}
use Rattle.line_text.specs.Named.{named, rest_named}
use Rattle.line_text.proofs.naming.print_named.Given as goal

abbrev pub invariant-loop-rest : goal.invariant-loop-rest
invariant-loop-rest g l = (written : List ℕ)
    × Appends (g.W.Write.contents l.fn.out) (g.W.Write.contents l.out) written
    × (written ++ rest_named l.name l.begins l.rest ≡ named l.name l.text)

abbrev pub decreases-loop-rest : goal.decreases-loop-rest
decreases-loop-rest g l = length l.rest
