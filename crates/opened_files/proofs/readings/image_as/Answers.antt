-- Either way it is what such a command takes.
use Rattle.std.proofs.Common.{◌≡◌, subst, sym}
use Rattle.std.specs.Prelude.{IfOk, vec_items}
use Rattle.opened_files.specs.Extents.{taken_as}
use Rattle.opened_files.specs.declared.extents.Extent.{Extent}
use Rattle.opened_files.proofs.readings.image_as.Goals as goal

pub returns-in-Disk-clause-read : goal.returns-in-Disk-clause-read
returns-in-Disk-clause-read g c = λ other none all holds.
    subst (λ (e : Extent). IfOk c.image_at.result (λ image. vec_items image ≡ taken_as e all)) (sym c.in-Disk.is)
    (c.image_at.ensures.read other none all holds)

pub returns-in-FirstTracks-clause-read : goal.returns-in-FirstTracks-clause-read
returns-in-FirstTracks-clause-read g c = λ other none all holds.
    subst (λ (e : Extent). IfOk c.first_tracks_at.result (λ image. vec_items image ≡ taken_as e all)) (sym c.in-FirstTracks.is)
    (c.first_tracks_at.ensures.read other none all holds)

pub returns-in-Whole-clause-read : goal.returns-in-Whole-clause-read
returns-in-Whole-clause-read g c = λ other none all holds.
    subst (λ (e : Extent). IfOk c.long_image_at.result (λ image. vec_items image ≡ taken_as e all)) (sym c.in-Whole.is)
    (c.long_image_at.ensures.read other none all holds)
