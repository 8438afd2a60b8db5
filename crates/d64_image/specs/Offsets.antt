-- Where a sector is in a file of sectors, and bytes that are written over others. The order is that of the D64 layout.
use Rattle.std.specs.Prelude.{ℕ, ◌+◌, ◌*◌, ◌++◌, List, take, drop, length}
use Rattle.d64_image.specs.declared.place.Place.{Place}
use Rattle.d64_image.specs.Places.{index_of}

-- where a sector begins in the file
abbrev pub offset_of : Place → ℕ
offset_of p = 256 * index_of p

-- the bytes with these in place of those from n on
abbrev pub overwritten : List ℕ → ℕ → List ℕ → List ℕ
overwritten bytes n new = take n bytes ++ new ++ drop (n + length new) bytes
