-- Disks that can be used: nothing is wrong but that the map calls sectors taken that nobody owns.
use Rattle.std.proofs.Common.{◌≡◌, ◌↔◌, ◌∙◌, ℕ, Bool, List, IsTrue, [], Err, Ok, ap, arith, length, refl, subst, sym}
use Rattle.std.proofs.lemmas.Bool.{false≢true}
use Rattle.std.proofs.lemmas.Slice.Eq.{bytes_eq-Decides}
use Rattle.std.specs.Prelude.{bytes_eq}
use Rattle.d64_image.specs.Images.{Image}
use Rattle.d64_image.specs.Memory.{bytes_of, disk_bytes, disk_image, memory, sectors_in}
use Rattle.d64_image.specs.declared.mem_disk.MemDisk.{MemDisk}
use Rattle.d64_image.specs.declared.place.Place.{Place}
use Rattle.damaged_files.specs.declared.sides.planning.Loss.{Loss}
use Rattle.command_faults.specs.Faults.{IsLoadFault}
use Rattle.command_faults.specs.declared.faults.CommandFault.{CommandFault}
use Rattle.command_faults.specs.declared.faults.CommandFault.TheVariants as faults
use Rattle.disk_changes.specs.Judged.{HasStraysAlone, IsCleanWith, IsTaken, IsUntaken, IsUnusable, IsUsableDisk}
use Rattle.disk_changes.specs.Judged.{IsUsableFault}
use Rattle.disk_layout.proofs.lemmas.layouts.Layouts.{IsLayout-one}
use Rattle.disk_layout.proofs.lemmas.lists.Once.{Contains-nil}
use Rattle.disk_layout.specs.Clean.{IsCleanLayout}
use Rattle.disk_layout.specs.Fault.{HoldsOfClean, nowhere}
use Rattle.disk_layout.specs.Layout.{Layout}
use Rattle.disk_layout.specs.declared.faults.Fault.{Fault}
use Rattle.layout_check.specs.Keeping.{AreStray, IsCleanBut, IsRepairedKeeping, RepairsKeeping}
use Rattle.rel_records.proofs.lemmas.Usable.{but-none}
use Rattle.rel_records.specs.Usable.{IsUsable}

-- a clean disk has no such sectors
pub clean-with : (img : Image) (l : Layout) → IsCleanLayout img l → IsCleanWith [] img l
clean-with img l k = record {
  are = record {
    once = tt;
    those = λ p. (λ c. absurd (Contains-nil p c), λ stray. absurd (stray.taken ((k.map.marked p).1 stray.unowned)));
  };
  clean = but-none img l k;
}

-- the image that is taken is so
pub is-usable : (image : List ℕ) (cut : Loss) → IsTaken image cut → HasStraysAlone (sectors_in image)
    → IsUsableDisk image cut
is-usable image cut taken (l, strays, alone) =
    record { taken = taken; layout = l; strays = strays; usable = alone }

abbrev pub is-usable-disk : (image : List ℕ) (cut : Loss) (img : Image) → img ≡ sectors_in image → IsTaken image cut
    → (l : Layout) (strays : List Place) → IsCleanWith strays img l → IsUsableDisk image cut
is-usable-disk image cut img is taken l strays alone = record {
  taken = taken;
  layout = l;
  strays = strays;
  usable = subst (λ (i : Image). IsCleanWith strays i l) is alone;
}

pub clean-alone : (image : List ℕ) (img : Image) → img ≡ sectors_in image → (l : Layout) → IsCleanLayout img l
    → HasStraysAlone (sectors_in image)
clean-alone image img is l k = subst HasStraysAlone is (l, [], clean-with img l k)

-- a repair that leaves such sectors taken changes nothing, and the other way round
pub alone-of : (a b : Image) (n : ℕ) → IsRepairedKeeping a b n → b ≡ a → HasStraysAlone a
alone-of a b n repaired same =
    let now : IsCleanBut repaired.strays a repaired.after =
    (let P : Image → Type 0 = λ i. IsCleanBut repaired.strays i repaired.after in subst P same repaired.clean) in
    let one = IsLayout-one a repaired.before repaired.after repaired.sound now.layout in (
      repaired.after,
      repaired.strays,
      record { are = subst (λ (l : Layout). AreStray a l repaired.strays) one repaired.are; clean = now },
    )

module _ (a b : MemDisk) where
  pub unchanged : (n : ℕ) → RepairsKeeping memory a b (Ok n) → HasStraysAlone (disk_image a)
      → disk_image b ≡ disk_image a
  unchanged n repairs (l, strays, alone) = (repairs.quiet l strays alone.are alone.clean).image

  pub not-alone : (fault : Fault) → RepairsKeeping memory a b (Err fault) → HasStraysAlone (disk_image a) → ⊥
  not-alone fault repairs (l, strays, alone) =
      false≢true ((repairs.sound (record { same = refl; not_spent = omega arith })).1 (l, alone.clean.layout))

-- what is told of such a repair, by the bytes of the two disks
pub told-alone : (image : List ℕ) (a b d : MemDisk) (n : ℕ) → RepairsKeeping memory a b (Ok n)
    → disk_image a ≡ sectors_in image → disk_image d ≡ sectors_in image → (xs ys : List ℕ) → xs ≡ disk_bytes b
    → ys ≡ disk_bytes d → sectors_in xs ≡ disk_image b → sectors_in ys ≡ disk_image d → (same : Bool)
    → same ≡ bytes_eq xs ys → IsTrue same ↔ HasStraysAlone (sectors_in image)
told-alone image a b d n repairs is held xs ys bytes bytes_held img img_held same compared = (
  λ t.
      let equal : xs ≡ ys = (bytes_eq-Decides xs ys).0 (sym compared ∙ t) in
      let now : disk_image b ≡ disk_image a = sym img ∙ ap sectors_in equal ∙ img_held ∙ held ∙ sym is in
      subst HasStraysAlone is (alone-of (disk_image a) (disk_image b) n repairs.ok now),
  λ h.
      let now : disk_image b ≡ disk_image a = unchanged a b n repairs (subst HasStraysAlone (sym is) h) in
      let equal : xs ≡ ys = bytes ∙ ap bytes_of (now ∙ is ∙ sym held) ∙ sym bytes_held in
      compared ∙ (bytes_eq-Decides xs ys).1 equal,
)

-- a disk that can be used
pub usable-image : (image : List ℕ) (cut : Loss) (img : Image) → img ≡ sectors_in image → IsUsableDisk image cut
    → IsUsable img
usable-image image cut img is disk = subst IsUsable (sym is) (disk.layout, (disk.strays, disk.usable.clean))

-- why an image isn't taken is why it can't be used
pub untaken-unusable : (image : List ℕ) (cut : Loss) (why : CommandFault) → IsUntaken image cut why → IsUnusable image cut why
untaken-unusable image cut faults.ImageSize c = c
untaken-unusable image cut faults.NoMemory c = c
untaken-unusable image cut (faults.Short p) c = c
untaken-unusable image cut faults.Geos c = c
untaken-unusable image cut _ c = absurd c

-- nor is one that isn't judged so
pub usable-fault : (image : List ℕ) (cut : Loss) (why : CommandFault) → IsUsableFault image why → IsUnusable image cut why
usable-fault image cut faults.ImageSize c = c
usable-fault image cut faults.NoMemory c = c
usable-fault image cut (faults.Layout fault) c = c
usable-fault image cut _ c = absurd c

pub load-unusable : (image : List ℕ) (why : CommandFault) → IsLoadFault image why → IsUsableFault image why
load-unusable image faults.ImageSize c = c
load-unusable image faults.NoMemory c = c
load-unusable image _ c = absurd c

-- so is a fault, if more is wrong than such sectors
pub fault-unusable : (image : List ℕ) (img : Image) → img ≡ sectors_in image → length image ≡ 174848 → (fault : Fault)
    → HoldsOfClean nowhere img fault → ¬ (HasStraysAlone (sectors_in image)) → IsUsableFault image (faults.Layout fault)
fault-unusable image img is size fault holds more =
    ((size, subst (λ (i : Image). HoldsOfClean nowhere i fault) is holds), more)
