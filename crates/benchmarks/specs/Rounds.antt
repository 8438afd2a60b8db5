-- What a round does to a sector. Our own.
use Rattle.std.specs.Prelude.{ℕ, ◌+◌, ◌%◌, slice_index, slice_set}
use Rattle.d64_image.specs.Images.{Sector}

-- the sector with 1 added to one of its bytes
abbrev pub raised : ℕ → Sector → Sector
raised at bytes = slice_set bytes at ((slice_index bytes at + 1) % 256)
