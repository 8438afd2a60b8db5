-- The files of emulators that hold a file of a disk or a tape after a header: P00 (PC64) and T64 (C64S).
use Rattle.std.specs.Prelude.{ℕ, ◌+◌, ◌*◌, ◌-◌, ◌++◌, ◌||◌, ◌&&◌, ◌∷◌, Bool, List, None, Option, Some, [], codes, drop, if◌then◌else◌, length, nat_eq, nat_le, nat_lt, not, slice_index, slice_range, take}
use Rattle.std.specs.List.{starts_with}
use Rattle.image_edits.specs.declared.containers.CutFile.{CutFile}

-- they begin with this text
abbrev pub begins : List ℕ → List ℕ → Bool
begins text bytes = starts_with nat_eq bytes text

-- the number in two bytes from this one on, the low one first
abbrev pub two_bytes : List ℕ → ℕ → ℕ
two_bytes bytes at = slice_index bytes at + 256 * slice_index bytes (at + 1)

-- it is a P00: the file is after a header of 26 bytes, with its name
abbrev pub is_p00 : List ℕ → Bool
is_p00 bytes = begins (codes "C64File" ++ 0 ∷ []) bytes

-- it is a T64
abbrev pub is_tape : List ℕ → Bool
is_tape bytes = begins (codes "C64S tape file") bytes
    || (begins (codes "C64S tape image file") bytes || begins (codes "C64 tape image file") bytes)

-- a T64 has one program: its first entry, of 32 bytes from byte 64 on, is used, and it says of no other
abbrev pub has_one : List ℕ → Bool
has_one tape = nat_le 96 (length tape) && (not (nat_eq (slice_index tape 64) 0) && nat_le (two_bytes tape 36) 1)

-- how many bytes its first entry counts: as many as from its address up to its end address
abbrev pub counted_in : List ℕ → ℕ
counted_in tape = two_bytes tape 68 - two_bytes tape 66

-- Those of them that are there, from where the entry says. Where the end address lies past the T64's end, as some programs wrote it,
-- those up to that.
abbrev pub data_of : List ℕ → List ℕ
data_of tape = take (counted_in tape) (drop (two_bytes tape 72 + 65536 * two_bytes tape 74) tape)

-- the only program of a T64: its address, and its bytes
abbrev pub tape_file : List ℕ → Option (List ℕ)
tape_file tape = if has_one tape then Some (slice_range tape 66 68 ++ data_of tape) else None

-- the file that a host's file holds: without the header of a P00, the only program of a T64, or all of any other
abbrev pub file_in : List ℕ → Option (List ℕ)
file_in bytes = if is_p00 bytes then Some (drop 26 bytes) else (if is_tape bytes then tape_file bytes else Some bytes)

-- so many bytes are there of those that are counted, if that is less
abbrev pub lack_of : (there counted : ℕ) → Option CutFile
lack_of there counted = if nat_lt there counted then Some (record { there = there; counted = counted }) else None

-- what a host's file lacks: a P00 of its header, a T64 of its only program
abbrev pub cut_of : List ℕ → Option CutFile
cut_of bytes = if is_p00 bytes then lack_of (length bytes) 26 else (if is_tape bytes && has_one bytes
    then lack_of (length (data_of bytes)) (counted_in bytes) else None)
