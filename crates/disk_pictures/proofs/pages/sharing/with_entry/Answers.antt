-- The entry's blocks, then its side sectors.
use Rattle.std.proofs.Common.{◌++◌, ◌∙◌, ap}
use Rattle.disk_pictures.proofs.Shared.{two-added}
use Rattle.disk_pictures.specs.Drawings.{has}
use Rattle.disk_pictures.specs.Sentences.{own_if}
use Rattle.disk_pictures.specs.declared.owners.Owner.TheVariants as owner
use Rattle.disk_pictures.proofs.pages.sharing.with_entry.Goals as goal

pub returns : goal.returns
returns c =
    let p = c.args.place in
    let blocks = c.is_among-blocks.ensures ∙ ap (λ ps. has ps p) c.as_slice.ensures.value in
    let sides = c.is_among-sides.ensures ∙ ap (λ ps. has ps p) c.as_slice-2.ensures.value in
    λ os before. two-added _ os _ _ _ _ (owner.Blocks c.args.number) (owner.Sides c.args.number) blocks sides
    (c.with-2.ensures (os ++ own_if c.is_among-blocks.result (owner.Blocks c.args.number)) (c.with.ensures os before))
