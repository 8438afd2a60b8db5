-- Which sectors of a disk were written since a moment. Our own.
use Rattle.std.specs.Prelude.{Bool, List}
use Rattle.d64_image.specs.History.{History, through}
use Rattle.d64_image.specs.Images.{Image}
use Rattle.image_log.specs.Marks.{Covers}
use Rattle.image_log.specs.declared.touched_disk.TouchedDisk.{TouchedDisk}

-- the disk beneath
abbrev pub touched_disk : {D : Type 0} → TouchedDisk D → D
touched_disk d = d.disk

-- for each sector, by its index, whether it was written
abbrev pub touched_of : {D : Type 0} → TouchedDisk D → List Bool
touched_of d = d.touched

-- From old to new no sector changed that isn't marked in new, whatever image the marks of old are counted from.
abbrev pub KeepsCover : {D : Type 0} → History D → TouchedDisk D → TouchedDisk D → Type 0
KeepsCover h old new = (before : Image) → Covers (touched_of old) before (h.image (touched_disk old))
    → Covers (touched_of new) before (h.image (touched_disk new))

-- all is as beneath, and each call keeps the marks right
abbrev pub touching : {D : Type 0} → History D → History (TouchedDisk D)
touching h = record (through touched_disk h) {
  reached = λ a b. h.reached (touched_disk a) (touched_disk b) × KeepsCover h a b;
  reached_same = λ d. (h.reached_same (touched_disk d), λ before covers. covers);
  reached_then = λ a b c x y. (
    h.reached_then (touched_disk a) (touched_disk b) (touched_disk c) x.0 y.0,
    λ before covers. y.1 before (x.1 before covers),
  );
  failed_stays = λ a b p x failed. h.failed_stays (touched_disk a) (touched_disk b) p x.0 failed;
}
