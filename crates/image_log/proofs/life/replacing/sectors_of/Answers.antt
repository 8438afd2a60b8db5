-- The chunks of an image's bytes are its sectors.
use Rattle.std.proofs.Common.{◌∙◌, arith}
use Rattle.d64_image.specs.Chunks.{chunks_are_sectors}
use Rattle.image_log.proofs.life.replacing.sectors_of.Goals as goal

pub returns-clause-value : goal.returns-clause-value
returns-clause-value c = c.as_chunks.ensures.front ∙ chunks_are_sectors c.args.image.now _ (omega (arith, c.requires))
