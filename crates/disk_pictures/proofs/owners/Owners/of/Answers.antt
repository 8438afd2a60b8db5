-- The entries, the directory and the map, each over those before.
use Rattle.std.proofs.Common.{[], ◌∷◌, ap, if◌then◌else◌, ◌∙◌}
use Rattle.disk_pictures.proofs.Owning.{all-given}
use Rattle.disk_pictures.specs.Drawings.{has}
use Rattle.disk_pictures.specs.Owners.{owner_in}
use Rattle.disk_pictures.specs.declared.owners.Owner.TheVariants as owners
use Rattle.disk_pictures.proofs.owners.Owners.of.Goals as goal

pub returns : goal.returns
returns c = λ p. all-given c.args.directory.now c.args.files.now p _ _ _ (c.give_entries.ensures p) (c.give.ensures p)
    (c.give-2.ensures p ∙ ap (λ m. if has (m ∷ []) p then owners.Map else owner_in c.give.new.self p)
    c.map_place.ensures)
