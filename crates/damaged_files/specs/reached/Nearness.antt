-- Names that are near to one that was asked for: a person may have meant them. Our own.
use Rattle.std.specs.Prelude.{ℕ, ◌-◌, ◌&&◌, Bool, List, bytes_eq, if◌then◌else◌, length, map, nat_eq, nat_le}
use Rattle.disk_layout.specs.declared.slot.Slot.{Slot}
use Rattle.damaged_files.specs.reached.Names.{name_of, unpadded}

-- a byte of a name without its case: the letters from C1 on and those from 61 on are those from 41 on, and a space is a
-- shifted space
abbrev pub folded_byte : ℕ → ℕ
folded_byte b =
    if nat_eq b 32 then 160
    else (if nat_le 97 b && nat_le b 122 then b - 32 else (if nat_le 193 b && nat_le b 218 then b - 128 else b))

-- a name without its case, and without the spaces at its end. 61 42 20 and 41 C2 A0 are both 41 42
abbrev pub folded : List ℕ → List ℕ
folded name = unpadded (map folded_byte name)

-- the entry's name is the same but for that, whatever its type is. A name of more than sixteen bytes is near to none
abbrev pub is_near : List ℕ → Slot → Bool
is_near name s = nat_le (length name) 16 && bytes_eq (folded (name_of s)) (folded name)
