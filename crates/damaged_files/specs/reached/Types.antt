-- Types of entries (1541 User's Guide, directory format).
use Rattle.std.specs.Int.{bit_at}
use Rattle.std.specs.Prelude.{ℕ, ◌%◌, ◌++◌, List, [], codes, if◌then◌else◌, nat_eq, nat_lt}

-- the types by their numbers, the low bits of a type byte
abbrev pub type_name : ℕ → List ℕ
type_name kind =
    if nat_eq kind 0 then codes "DEL"
    else if nat_eq kind 1 then codes "SEQ"
    else if nat_eq kind 2 then codes "PRG"
    else if nat_eq kind 3 then codes "USR"
    else if nat_eq kind 4 then codes "REL"
    else codes "???"

-- a type byte: a star stands before the type if the file isn't closed, and this mark after it if it is locked
abbrev pub type_text : List ℕ → ℕ → List ℕ
type_text mark byte =
    (if nat_lt byte 128 then codes "*" else [])
    ++ (type_name (byte % 64)
    ++ (if nat_eq (bit_at byte 6) 1 then mark else []))
