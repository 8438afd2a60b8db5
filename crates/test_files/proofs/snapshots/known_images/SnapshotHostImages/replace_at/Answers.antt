-- The folder rests with the image of before, so that it rests with the one that took its place.
use Rattle.std.proofs.Common.{◌≡◌, ◌∙◌, ap, refl}
use Rattle.test_files.proofs.KnownImages.{replaced}
use Rattle.test_files.proofs.snapshots.known_images.SnapshotHostImages.replace_at.Goals as goal

pub returns : goal.returns
returns c =
    replaced (λ d. d.at) (λ d. d.checks.failed) (λ d. d.image.folder) (λ d. d.at.image ≡ c.in_folder.result) c.in_ok-known.known
    (λ d at. ap (λ file. file.folder) at ∙ c.in_folder.ensures.folder) c.args.self.now.image.now (c.in_ok-known.ensures.there refl) c.in_ok-known.ensures.rests
    c.args.image.now c.if-is_none.ensures (c.in_ok-known.ensures.some.0 c.if-is_none.ensures) c.replace_in.result c.replace_in.ensures
