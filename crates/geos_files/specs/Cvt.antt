-- A file of GEOS as one file of bytes (CVT, the form of the program Convert). The places in the entry stay, as c1541 leaves them.
use Rattle.std.specs.Prelude.{ℕ, Bool, List, ◌++◌, codes, drop, if◌then◌else◌, replicate}
use Rattle.disk_layout.specs.declared.slot.Slot.{Slot}
use Rattle.geos_files.specs.declared.entries.GeosEntry.{GeosEntry}

-- what the file calls itself, by whether it has records: 28 bytes
abbrev pub signature : (has_records : Bool) → List ℕ
signature has_records =
    if has_records then codes "PRG formatted GEOS file V1.0" else codes "SEQ formatted GEOS file V1.0"

-- its first 254 bytes: the entry from its type on, the signature, and zeros
unfoldable pub cvt_header : Slot → GeosEntry → List ℕ
cvt_header s entry = drop 2 s.bytes ++ (signature entry.has_records ++ replicate 196 0)
