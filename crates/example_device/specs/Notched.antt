-- A disk in memory, with a notch that protects it: what it holds, and what it says of its past. Our own.
use Rattle.std.specs.Prelude.{◌≡◌, Bool, refl}
use Rattle.std.proofs.Common.{lit≤}
use Rattle.d64_image.specs.History.{History}
use Rattle.d64_image.specs.Images.{Image}
use Rattle.example_device.specs.declared.notched_disk.NotchedDisk.{NotchedDisk}

-- what the disk holds
abbrev pub notched_image : NotchedDisk → Image
notched_image disk = disk.sectors.items

-- whether its notch is closed
abbrev pub is_closed : NotchedDisk → Bool
is_closed disk = disk.closed

-- It names what it holds now and nothing of the past. It may fail anywhere, and counts no failure: the count is spent
-- from the start.
abbrev pub notched : History NotchedDisk
notched = record {
  image = notched_image;
  moment = λ _. 0;
  held = λ disk _ c. c ≡ notched_image disk;
  reads = λ _. 0;
  writes = λ _. 0;
  failures = λ _. 0;
  last = 0;
  whole = λ disk. disk.whole;
  now = λ disk t le. refl;
  only_now = λ disk c h. h;
  up_to_last = λ _. lit≤ tt;
  reached = λ _ _. Unit {0};
  reached_same = λ _. tt;
  reached_then = λ _ _ _ _ _. tt;
  failed_at = λ _ _. Unit {0};
  failed_stays = λ _ _ _ _ _. tt;
}
