-- The folder rests with the image, so that it rests with what was made of it.
use Rattle.std.proofs.Common.{◌≡◌, ◌∙◌, ap, refl}
use Rattle.test_files.proofs.KnownImages.{changed}
use Rattle.test_files.proofs.snapshots.known_images.SnapshotHostImages.change_at.Goals as goal

pub returns-clause-run : goal.returns-clause-run
returns-clause-run g c =
    changed (λ d. d.at) (λ d. d.checks.failed) (λ d. d.image.folder) (λ d. d.at.image ≡ c.in_folder.result) c.in_ok-known.known
    (λ d at. ap (λ file. file.folder) at ∙ c.in_folder.ensures.folder) c.args.image.now (c.in_ok-known.ensures.there refl) c.in_ok-known.ensures.rests
    g.W.Write.contents c.args.what.now c.args.out.now c.change_in.new.out c.in_ok-known.ensures.some.1 c.change_in.result
    c.change_in.ensures.run
