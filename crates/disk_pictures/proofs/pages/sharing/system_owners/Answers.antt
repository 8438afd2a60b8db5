-- The map, then the directory.
use Rattle.std.proofs.Common.{[], ◌∷◌, ◌++◌, ◌∙◌, ap, refl}
use Rattle.disk_pictures.proofs.Shared.{two-added}
use Rattle.disk_pictures.specs.Drawings.{has}
use Rattle.disk_pictures.specs.Sentences.{own_if}
use Rattle.disk_pictures.specs.declared.owners.Owner.TheVariants as owner
use Rattle.disk_pictures.proofs.pages.sharing.system_owners.Goals as goal

pub returns : goal.returns
returns c =
    let p = c.args.place in
    let map = c.is_among-map.ensures ∙ ap (λ q. has (q ∷ []) p) c.map_place.ensures in
    let directory = c.is_among-directory.ensures ∙ ap (λ ps. has ps p) c.as_slice.ensures.value in
    two-added _ [] _ _ _ _ owner.Map owner.Directory map directory
    (c.with-2.ensures ([] ++ own_if c.is_among-map.result owner.Map) (c.with.ensures [] (refl, refl)))
