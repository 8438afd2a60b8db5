-- The sectors of the image, and what is drawn of it and reported.
use Rattle.std.proofs.Common.{◌∙◌, arith, refl}
use Rattle.d64_image.specs.Chunks.{chunks_are_sectors}
use Rattle.disk_pictures.proofs.comparison.compared.Compared.of.Goals as goal

pub returns-clause-ok : goal.returns-clause-ok
returns-clause-ok c = record {
  path_is = refl;
  image_is = c.as_chunks.ensures.front
      ∙ chunks_are_sectors c.args.image.now _ (omega (arith, c.in_ok-drawing.ensures.ok.judged.size));
  map_is = c.in_ok-drawing.ensures.ok.map;
  judged = c.in_ok-drawing.ensures.ok.judged;
}
