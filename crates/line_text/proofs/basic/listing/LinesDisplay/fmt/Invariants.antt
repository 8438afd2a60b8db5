-- What was written, with the text of the bytes that are left, is the text of all.
use Rattle.std.proofs.Common.{◌≡◌, ◌++◌, ℕ, List, drop}
use Rattle.std.specs.Fmt.{HasWritten, IsPlainFormatter}
use Rattle.line_text.proofs.lemmas.basic.Walked.{text_from}
use Rattle.line_text.specs.basic.Listings.{lines}
use Rattle.line_text.proofs.basic.listing.LinesDisplay.fmt.Given as goal

abbrev pub invariant-loop-byte : goal.invariant-loop-byte
invariant-loop-byte g l =
    IsPlainFormatter l.initial.f
    → (done : List ℕ) × HasWritten g.W.Write.write_str_gives l.initial.f done l.f
    × (done ++ text_from l.at (drop l.byte-index l.byte-items) ≡ lines l.byte-items)
