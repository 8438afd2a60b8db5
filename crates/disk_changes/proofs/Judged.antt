-- An image that was judged.
use Rattle.std.proofs.Common.{◌≡◌, ◌<◌, List, arith, length, subst, sym, ℕ}
use Rattle.std.specs.Prelude.{None, Some}
use Rattle.command_faults.specs.declared.faults.CommandFault.TheVariants as faults
use Rattle.d64_image.specs.History.{Failed}
use Rattle.d64_image.specs.Images.{Image}
use Rattle.d64_image.specs.Memory.{memory, sectors_in}
use Rattle.d64_image.specs.declared.mem_disk.MemDisk.{MemDisk}
use Rattle.d64_image.specs.declared.place.Place.{Place}
use Rattle.damaged_files.specs.cut.Told.{HasNoCut, IsCutShort, IsToldOf}
use Rattle.damaged_files.specs.declared.sides.planning.Loss.{Loss}
use Rattle.damaged_files.specs.declared.sides.planning.Loss.TheVariants.{Refused}
use Rattle.disk_changes.specs.Judged.{IsOfGeos, IsPlainCut, IsUntaken}
use Rattle.disk_changes.specs.mended.Kinds.{IsCutRefusal, IsGeosDisk}
use Rattle.command_faults.specs.declared.faults.CommandFault.{CommandFault}
use Rattle.disk_layout.specs.Layout.{IsLayout, IsSound, Layout}

-- a disk in memory doesn't fail
pub never-fails : (a b : MemDisk) → Failed memory a b → ⊥
never-fails a b failed = low (failed.rose (omega arith))
  where
    low : 0 < 0 → ⊥
    low lt = absurd (omega (arith, lt))

module _ (image : List ℕ) (img : Image) (is : img ≡ sectors_in image) (size : length image ≡ 174848) (sound : IsSound img) where
  pub is-short : (p : Place) → ((l : Layout) → IsLayout img l → IsToldOf img l None (Some p)) → IsCutShort image p
  is-short p told =
      let first = subst (λ (i : Image). IsToldOf i sound.0 None (Some p)) is (told sound.0 sound.1) in
      record {
        size = size;
        layout = sound.0;
        sound = subst (λ (i : Image). IsLayout i sound.0) is sound.1;
        number = first.number;
        file = first.file;
        there = first.there;
        cut = first.cut;
      }

-- a file is cut short, and this is why the disk isn't changed
module _ (image : List ℕ) (img : Image) (is : img ≡ sectors_in image) (p : Place) (cut : IsCutShort image p) where
  at : IsGeosDisk img → IsOfGeos image
  at = subst IsGeosDisk is

  back : IsOfGeos image → IsGeosDisk img
  back = subst IsGeosDisk (sym is)

  plain : (q : Place) → q ≡ p → ¬ (IsGeosDisk img) → IsPlainCut image q
  plain q same other = (subst (IsCutShort image) (sym same) cut, λ geos. other (back geos))

  pub cut-untaken : (loss : Loss) → loss ≡ Refused → (why : CommandFault) → IsCutRefusal img p why → IsUntaken image loss why
  cut-untaken loss asked faults.Geos geos = (asked, (at geos, (p, cut)))
  cut-untaken loss asked (faults.Short q) (same, other) = (asked, plain q same other)
  cut-untaken loss asked _ none = absurd none

-- of a sound disk no file is cut short
pub uncut-is : (image : List ℕ) (img : Image) → img ≡ sectors_in image
    → ((l : Layout) → IsLayout img l → HasNoCut img l None) → (p : Place) → IsCutShort image p → ⊥
uncut-is image img is uncut p short =
    let there : IsLayout img short.layout = subst (λ (i : Image). IsLayout i short.layout) (sym is) short.sound in
    subst (λ (i : Image). HasNoCut i short.layout None) is (uncut short.layout there) short.number short.file p short.there tt
    short.cut

-- and another one has none
pub unsound-is : (image : List ℕ) (img : Image) → img ≡ sectors_in image → (IsSound img → ⊥) → (p : Place)
    → IsCutShort image p → ⊥
unsound-is image img is unsound p short =
    unsound (short.layout, subst (λ (i : Image). IsLayout i short.layout) (sym is) short.sound)
