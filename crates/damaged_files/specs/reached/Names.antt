-- Names without their padding (1541 User's Guide, directory format: names are padded with shifted spaces, $A0).
use Rattle.std.specs.Prelude.{ℕ, List, [], ◌∷◌, if◌then◌else◌, nat_eq, slice_range}
use Rattle.d64_image.specs.Images.{Sector}
use Rattle.disk_layout.specs.declared.slot.Slot.{Slot}

-- a byte before these; a shifted space at the end is dropped
abbrev pub name_before : ℕ → List ℕ → List ℕ
name_before b [] = if nat_eq b 160 then [] else (b ∷ [])
name_before b (x ∷ xs) = b ∷ x ∷ xs

-- the bytes up to the last one that isn't a shifted space: an A0 within a name counts
unfoldable pub unpadded : List ℕ → List ℕ
unpadded [] = []
unpadded (b ∷ bs) = name_before b (unpadded bs)

-- the name of an entry
abbrev pub name_of : Slot → List ℕ
name_of s = unpadded (slice_range s.bytes 5 21)

-- the name of the disk, in 18/0
abbrev pub disk_name : Sector → List ℕ
disk_name map = unpadded (slice_range map 144 160)
