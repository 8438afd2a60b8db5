-- A file of GEOS as one file of bytes: CVT.
use Rattle.std.specs.Prelude.{ℕ, Bool, List, ◌++◌, drop, false, replicate, slice_range, true}
use Rattle.d64_image.specs.Images.{Image, sector}
use Rattle.geos_files.specs.Cvt.{signature}
use Rattle.geos_files.specs.declared.entries.GeosEntry.{GeosEntry}
use Rattle.file_rescues.specs.Bytes.{file_bytes}
use Rattle.file_rescues.specs.declared.rescue.rescuing.Rescued.{Rescued}

-- how many blocks come before the data: the info block, and the record block if there is one
abbrev pub leading : (has_records : Bool) → ℕ
leading false = 1
leading true = 2

-- The entry from its type on, the signature and zeros, 254 bytes together; the info block; two bytes for each record, if the
-- file has records; and the blocks of its data, each whole, but the last one up to its last index.
unfoldable pub cvt_bytes : Image → GeosEntry → Rescued → List ℕ
cvt_bytes img entry f =
    slice_range f.slot.bytes 2 32 ++ (signature entry.has_records ++ (replicate 196 0
    ++ (slice_range (sector img entry.info) 2 256 ++ (f.pairs.items
    ++ file_bytes img (drop (leading entry.has_records) f.blocks.items) f.last))))
