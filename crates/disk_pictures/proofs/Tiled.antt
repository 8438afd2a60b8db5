-- The tile of an image, and why it shows no drawing.
use Rattle.std.proofs.Common.{◌≡◌, ◌≢◌, ◌++◌, ◌∙◌, ℕ, Bool, true, false, List, Option, ap, inl, inr, length, refl, subst, sym, take}
use Rattle.std.specs.Prelude.{if◌then◌else◌}
use Rattle.std.specs.Io.KnownBytes.{Appends}
use Rattle.command_faults.specs.Faults.{command_status, command_text}
use Rattle.command_faults.specs.declared.faults.CommandFault.{CommandFault}
use Rattle.command_faults.specs.declared.faults.CommandFault.TheVariants as faults
use Rattle.d64_image.specs.Images.{Sector}
use Rattle.damaged_files.proofs.lemmas.reached.Sized.{length-tracks}
use Rattle.damaged_files.specs.reached.Sizes.{IsImageSize, disk_of, is_image_size}
use Rattle.disk_pictures.specs.Held.{drawn_in}
use Rattle.disk_pictures.specs.Html.{html_of}
use Rattle.disk_pictures.specs.Missing.{IsMissing, IsMissingFault}
use Rattle.disk_pictures.specs.Outcomes.{IsJudged, IsPictureFault}
use Rattle.disk_pictures.specs.Petscii.{petscii_of}
use Rattle.disk_pictures.specs.Sheets.{refused_tile, tile_end, tile_text}
use Rattle.disk_pictures.specs.Tiles.{IsTilePrinted, found_status}
use Rattle.disk_pictures.specs.declared.drawing.Drawing.{Drawing}
use Rattle.disk_pictures.specs.declared.verdicts.Verdict.{Verdict}

disk-size : (image : List ℕ) → IsImageSize (length image) → length (disk_of image) ≡ 174848
disk-size image is =
    ap (λ (b : Bool). length (if b then take 174848 image else image)) is ∙ length-tracks image is

other-size : (image : List ℕ) (b : Bool) → is_image_size (length image) ≡ b → ¬ (IsImageSize (length image))
    → length (if b then take 174848 image else image) ≢ 174848
other-size image true is none = absurd (none is)
other-size image false is none = λ eq. none (subst IsImageSize (sym eq) refl)

-- why it isn't known what isn't on the disk is why it isn't drawn
pub missing-holds : (image : List ℕ) (fault : CommandFault) → IsMissingFault image fault → IsPictureFault (disk_of image) fault
missing-holds image faults.ImageSize why = other-size image _ refl why
missing-holds image faults.NoMemory why = disk-size image why
missing-holds image _ why = absurd why

pub missing-other : (image : List ℕ) (fault : CommandFault) → IsMissingFault image fault → fault ≢ faults.File
missing-other image faults.File why = absurd why
missing-other image faults.ImageSize why = λ is. absurd (cc is)
missing-other image faults.NoMemory why = λ is. absurd (cc is)
missing-other image _ why = absurd why

module _ {W : Type 0} (contents : W → Option (List ℕ)) (path image : List ℕ) (old new : W) (status : ℕ) where
  -- the tile of a disk that is drawn
  pub drawn-tile : (lines : List ℕ) (drawing : Drawing) (v : Verdict) → IsJudged (disk_of image) drawing v → IsMissing image lines
      → Appends (contents old) (contents new)
      (tile_text html_of petscii_of path v drawing.map (drawn_in drawing) ++ tile_end lines)
      → status ≡ found_status v.found lines → IsTilePrinted contents path image old new status
  drawn-tile lines drawing v judged missing printed is = inl (record {
    layout = drawn_in drawing;
    verdict = v;
    lines = lines;
    judged = judged.judged;
    missing = missing;
    printed = subst (λ (map : Sector). Appends (contents old) (contents new)
        (tile_text html_of petscii_of path v map (drawn_in drawing) ++ tile_end lines)) judged.map printed;
    status_is = is;
  })

  -- and of one that isn't
  pub fault-tile : (fault : CommandFault) → IsPictureFault (disk_of image) fault → fault ≢ faults.File
      → Appends (contents old) (contents new) (refused_tile html_of path (command_text fault))
      → status ≡ command_status fault → IsTilePrinted contents path image old new status
  fault-tile fault holds other printed is =
      inr (record { fault = fault; holds = holds; other = other; printed = printed; status_is = is })
