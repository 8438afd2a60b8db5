-- A file of GEOS with sectors past track 35 as a CVT (GEOS: VLIR).
use Rattle.std.specs.Prelude.{ℕ, suc, ◌+◌, ◌*◌, ◌-◌, ◌++◌, List, [], None, Option, Some, drop}
use Rattle.std.specs.Prelude.{flat_map, length, replicate, slice_get, slice_range, take}
use Rattle.disk_layout.specs.declared.slot.Slot.{Slot}
use Rattle.geos_files.specs.Cvt.{signature}
use Rattle.long_chains.specs.Chains.{data_in}
use Rattle.geos_files.specs.Long.{are_records_named}
use Rattle.file_rescues.specs.rescue.Geos.{leading}

-- all bytes of a sector but its link
abbrev pub body_in : (image : List ℕ) → (number : ℕ) → List ℕ
body_in image n = slice_range image (256 * n + 2) (256 * n + 256)

-- what a last sector has of its file
abbrev pub last_data : (image : List ℕ) → Option ℕ → List ℕ
last_data image None = []
last_data image (Some n) = data_in image n

-- the bytes of the data of a file with these sectors: each whole, but the last one up to its last index
abbrev pub bodies : (image : List ℕ) → List ℕ → List ℕ
bodies image ns = flat_map (body_in image) (take (length ns - 1) ns) ++ last_data image (slice_get ns (length ns - 1))

-- the info block
abbrev pub info_in : (image : List ℕ) → Option ℕ → List ℕ
info_in image None = []
info_in image (Some n) = body_in image n

-- such a file as a CVT
unfoldable pub long_cvt : (image : List ℕ) → Slot → (sectors pairs : List ℕ) → List ℕ
long_cvt image s ns pairs =
    slice_range s.bytes 2 32 ++ (signature (are_records_named s) ++ (replicate 196 0
    ++ (info_in image (slice_get ns 0) ++ (pairs ++ bodies image (drop (leading (are_records_named s)) ns)))))
