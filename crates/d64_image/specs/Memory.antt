-- A disk in memory: a flat image, sector after sector as in the D64 layout.
use Rattle.std.specs.Prelude.{ℕ, ◌≡◌, List, refl}
use Rattle.std.specs.List.{flat_map}
use Rattle.std.specs.Simd.{first_chunks}
use Rattle.std.proofs.Common.{lit≤}
use Rattle.d64_image.specs.declared.mem_disk.MemDisk.{MemDisk}
use Rattle.d64_image.specs.Images.{Image}
use Rattle.d64_image.specs.History.{History}

-- the sectors of 174,848 bytes
unfoldable pub sectors_in : List ℕ → Image
sectors_in bytes = first_chunks 256 683 bytes

-- the bytes of the sectors, one sector after another
abbrev pub bytes_of : Image → List ℕ
bytes_of img = flat_map (λ bytes. bytes) img

-- what a disk in memory holds, as an image
abbrev pub disk_image : MemDisk → Image
disk_image disk = disk.sectors.items

-- what a disk in memory holds, as bytes
abbrev pub disk_bytes : MemDisk → List ℕ
disk_bytes disk = bytes_of (disk_image disk)

-- The history names what the disk holds now and nothing of the past. The disk never fails.
abbrev pub memory : History MemDisk
memory = record {
  image = disk_image;
  moment = λ _. 0;
  held = λ disk _ c. c ≡ disk_image disk;
  reads = λ _. 0;
  writes = λ _. 0;
  failures = λ _. 0;
  last = 1;
  whole = λ disk. disk.whole;
  now = λ disk t le. refl;
  only_now = λ disk c h. h;
  up_to_last = λ _. lit≤ tt;
  reached = λ _ _. Unit {0};
  reached_same = λ _. tt;
  reached_then = λ _ _ _ _ _. tt;
  failed_at = λ _ _. ⊥;
  failed_stays = λ _ _ _ _ never. never;
}
