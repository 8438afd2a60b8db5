-- Directory art at 18/0, which is put aside.
use Rattle.std.proofs.Common.{◌≡◌, ◌∙◌, ◌<◌, List, ap, subst, ℕ}
use Rattle.std.specs.Prelude.{Contains}
use Rattle.d64_image.specs.Images.{Image}
use Rattle.d64_image.specs.Memory.{disk_image, sectors_in}
use Rattle.d64_image.specs.declared.mem_disk.MemDisk.{MemDisk}
use Rattle.disk_changes.specs.Art.{HasArt, IsAside, with_tracks}
use Rattle.disk_layout.proofs.lemmas.counts.Recount.{slot-there}
use Rattle.disk_layout.specs.declared.slot.Slot.{Slot}

module _ (image : List ℕ) (entries now : List Slot) where
  -- each entry is one of the eight slots of its sector
  pub art-low : HasArt image entries → now ≡ entries → (s : Slot) → Contains now s → s.number < 8
  art-low art is s there = (slot-there (sectors_in image) art.sectors s
      (subst (λ (xs : List Slot). Contains xs s) art.directory.slots
      (subst (λ (xs : List Slot). Contains xs s) is there))).1

  -- the bytes of the disk on which it was put aside
  abbrev pub aside-is : (bytes : List ℕ) (disk put : MemDisk) → HasArt image entries → disk_image disk ≡ sectors_in image → now ≡ entries
      → disk_image put ≡ with_tracks 0 (disk_image disk) now → sectors_in bytes ≡ disk_image put → IsAside image bytes
  aside-is bytes disk put art same is written held = record {
    entries = entries;
    art = art;
    is = held ∙ written ∙ ap (λ (i : Image). with_tracks 0 i now) same ∙ ap (with_tracks 0 (sectors_in image)) is;
  }
