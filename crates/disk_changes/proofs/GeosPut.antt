-- A file of GEOS that is made of a file with one chain.
use Rattle.std.proofs.Common.{◌∙◌, ℕ, List, inl, inr, subst, sym}
use Rattle.std.specs.Prelude.{Contains}
use Rattle.command_faults.specs.declared.faults.CommandFault.TheVariants as faults
use Rattle.d64_image.specs.Images.{Image, Sector, put}
use Rattle.d64_image.specs.declared.place.Place.{Place}
use Rattle.damaged_files.specs.declared.sides.planning.Loss.{Loss}
use Rattle.disk_changes.specs.GeosPuts.{IsGeosPutRefusal}
use Rattle.disk_layout.proofs.lemmas.layouts.Frames.{unless-same}
use Rattle.file_changes.specs.PutWrites.{SameBeside}

-- a write to one of these sectors
pub beside-put : (img : Image) (ps : List Place) (p : Place) (b : Sector) → Contains ps p → SameBeside img ps (put img p b)
beside-put img ps p b on q not = sym (unless-same img p q b (λ s. not (subst (Contains ps) s on)))

pub beside-then : (a b c : Image) (ps : List Place) → SameBeside a ps b → SameBeside b ps c → SameBeside a ps c
beside-then a b c ps first second q not = second q not ∙ first q not

pub beside-wider : (a b : Image) (qs ps : List Place) → ((q : Place) → Contains qs q → Contains ps q) → SameBeside a qs b
    → SameBeside a ps b
beside-wider a b qs ps sub same q not = same q (λ on. not (sub q on))

-- what refuses the change in memory is neither the output nor the device
module _ (image name cvt : List ℕ) (cut : Loss) where
  no-output : IsGeosPutRefusal image name cvt cut faults.File → ⊥
  no-output (inl (is, none)) = cc
  no-output (inr (content, at, inl refused)) = refused
  no-output (inr (content, at, inr (first, was, inl is))) = cc
  no-output (inr (content, at, inr (first, was, inr (inl is)))) = cc
  no-output (inr (content, at, inr (first, was, inr (inr (bytes, unsound))))) = unsound

  no-device : IsGeosPutRefusal image name cvt cut faults.Device → ⊥
  no-device (inl (is, none)) = cc
  no-device (inr (content, at, inl refused)) = refused
  no-device (inr (content, at, inr (first, was, inl is))) = cc
  no-device (inr (content, at, inr (first, was, inr (inl is)))) = cc
  no-device (inr (content, at, inr (first, was, inr (inr (bytes, unsound))))) = unsound

  pub geos-put-in-memory : (IsGeosPutRefusal image name cvt cut faults.File → ⊥)
      × (IsGeosPutRefusal image name cvt cut faults.Device → ⊥)
  geos-put-in-memory = (no-output, no-device)
