-- Whether the program ends within the bytes that are left is whether it ends.
use Rattle.std.proofs.Common.{◌≡◌, drop}
use Rattle.line_text.proofs.lemmas.basic.Walked.{ends_from}
use Rattle.line_text.specs.basic.Listings.{has_end}
use Rattle.line_text.proofs.basic.listing.have_end.Given as goal

abbrev pub invariant-loop-byte : goal.invariant-loop-byte
invariant-loop-byte l = ends_from l.at (drop l.byte-index l.bytes) ≡ has_end l.bytes
