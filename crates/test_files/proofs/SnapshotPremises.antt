-- The premises of what is told of a snapshot's bytes.
use Rattle.std.proofs.Common.{List, ap, refl, subst, ◌≡◌, ◌∙◌, ℕ}
use Rattle.std.specs.Prelude.{bytes_eq, true}
use Rattle.std.proofs.lemmas.Bool.{false≢true}
use Rattle.std.proofs.lemmas.Slice.Eq.{bytes_eq-Decides}
use Rattle.image_file.specs.paths.Standing.{IsMissing}
use Rattle.opened_files.specs.HostFiles.{OfImage, OfText, OfWritten}
use Rattle.opened_files.specs.Rights.{standard_input}
use Rattle.image_log.specs.life.LogRights.{log_of}
use Rattle.test_files.specs.Snapshots.{image_path, log_stands, snapshot_rights, snapshot_stands, text_path}
use Rattle.test_files.specs.declared.snapshots.host.Snapshot.{Snapshot}

-- no path of a snapshot's files is that of standard input
image-other : image_path ≡ standard_input → ⊥
image-other e = false≢true (ap (bytes_eq standard_input) e ∙ refl)

pub text-other : text_path ≡ standard_input → ⊥
text-other e = false≢true (ap (bytes_eq standard_input) e ∙ refl)

no-log : (host : Snapshot) → host.quiet ≡ true → (image : List ℕ) → bytes_eq image_path image ≡ true
    → IsMissing snapshot_stands host (log_of image)
no-log host quiet image leads =
    subst (λ (path : List ℕ). IsMissing snapshot_stands host (log_of path)) ((bytes_eq-Decides image_path image).0 leads)
    (ap (λ said. log_stands said (log_of image_path)) quiet)

pub of-image : (host : Snapshot) (bytes : List ℕ) → host.quiet ≡ true
    → OfImage snapshot_rights snapshot_stands host image_path (λ all. bytes ≡ all) → bytes ≡ host.image.now
of-image host bytes quiet given = given image-other (no-log host quiet) host.image.now refl

pub of-written : (host : Snapshot) (bytes : List ℕ)
    → OfWritten snapshot_stands host image_path (λ all. bytes ≡ all) → bytes ≡ host.image.now
of-written host bytes given = given host.image.now refl

pub of-text : (host : Snapshot) (bytes : List ℕ)
    → OfText snapshot_stands host text_path (λ all. bytes ≡ all) → bytes ≡ host.text.now
of-text host bytes given = given text-other host.text.now refl
