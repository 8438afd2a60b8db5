-- The text has room for 512 replies, and the image for its sectors.
use Rattle.std.proofs.Common.{◌∙◌, sym}
use Rattle.served_lines.proofs.room.ServiceRoom.new.Goals as goal

pub invariant_of-result-clause-text_fits : goal.invariant_of-result-clause-text_fits
invariant_of-result-clause-text_fits c = sym c.resize.new.self.ok.0 ∙ c.in_ok-resize.ensures.len

pub invariant_of-result-clause-image_fits : goal.invariant_of-result-clause-image_fits
invariant_of-result-clause-image_fits c = sym c.resize-2.new.self.ok.0 ∙ c.in_ok-resize-2.ensures.len
