-- The chunks of an image's bytes are its sectors.
use Rattle.std.proofs.Common.{◌≡◌, ◌∙◌, ◌↔◌, IsTrue, [], arith, length, slice_index_or, subst}
use Rattle.d64_image.specs.Chunks.{chunks_are_sectors}
use Rattle.d64_image.specs.Images.{Image}
use Rattle.image_log.specs.life.Tags.{IsTagged}
use Rattle.image_log.proofs.life.tags.is_log_away.Goals as goal

pub returns : goal.returns
returns c =
    let size : length c.args.image.now ≡ 174848 = c.if-image-ne-IMAGE_BYTES.false in
    let same = c.as_chunks.ensures.front ∙ chunks_are_sectors c.args.image.now _ (omega (arith, size)) in
    let told = subst (λ (sectors : Image). IsTrue c.is_tagged.result ↔ IsTagged (slice_index_or sectors 357 [])) same
    c.is_tagged.ensures in
    (λ tagged. (size, told.0 tagged), λ away. told.1 away.1)
