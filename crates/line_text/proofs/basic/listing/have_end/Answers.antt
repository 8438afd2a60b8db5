-- The program is walked byte by byte.
use Rattle.std.proofs.Common.{arith}
use Rattle.line_text.proofs.lemmas.basic.Walked.{ends-more}
use Rattle.line_text.specs.basic.Listings.{has_end}
use Rattle.line_text.proofs.basic.listing.have_end.Goals as goal

pub loop-byte-preserved : goal.loop-byte-preserved
loop-byte-preserved c = rw c.after-at.ensures (ends-more (has_end c.args.bytes.now) c.loop-byte.at c.args.bytes.now
    c.loop-byte.byte-index (omega arith) c.loop-byte.invariant)
