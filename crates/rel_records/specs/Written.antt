-- A record that is written in part: what becomes of its bytes, and what the disk holds on the way. Our own, after the
-- 1541 User's Guide, relative files.
use Rattle.std.specs.Prelude.{ℕ, ◌+◌, ◌-◌, ◌*◌, ◌/◌, ◌%◌, ◌≡◌, ◌≤◌, ◌<◌, ◌⊎◌, ◌++◌, List, [], Some, Result, Ok, Err}
use Rattle.std.specs.Prelude.{get_or, drop, length, replicate, set, slice_get, take}
use Rattle.d64_image.specs.Images.{Image, Sector}
use Rattle.disk_layout.specs.Layout.{File, Layout, record_length}
use Rattle.disk_layout.specs.Records.{empty_record, records}
use Rattle.rel_records.specs.Others.{HasRecords}
use Rattle.disk_layout.specs.Whole.{KeepsWhole}
use Rattle.rel_records.specs.declared.faults.RelFault.{RelFault}
use Rattle.rel_records.specs.declared.faults.RelFault.TheVariants.{Overflow}
use Rattle.rel_records.specs.growth.Growth.{added, records_had}

-- the L bytes of a record into which a text is written from a position on, counted from 1: the old bytes before it, the
-- text as far as it fits, then zeros
abbrev pub written : ℕ → ℕ → List ℕ → List ℕ → List ℕ
written L pos text old = take L (take (pos - 1) old ++ (text ++ replicate L 0))

-- how many bytes of record r of L bytes are in the data block in which it begins, if they are fewer than L; otherwise L
-- or more
abbrev pub room_in_first : ℕ → ℕ → ℕ
room_in_first L r = 254 - (r - 1) * L % 254

-- the record with its part in that block new, and the rest old
abbrev pub half_written : ℕ → ℕ → List ℕ → List ℕ → List ℕ
half_written L r new old = take (room_in_first L r) new ++ drop (room_in_first L r) old

-- record r is among these, and has these bytes
pub record IsRecord (rs : List (List ℕ)) (r : ℕ) (bytes : List ℕ) : Type 0 where
  pub low : 1 ≤ r
  pub there : slice_get rs (r - 1) ≡ Some bytes

-- record r is among these
abbrev pub IsThere : List (List ℕ) → ℕ → Type 0
IsThere rs r = (1 ≤ r) × (r ≤ length rs)

-- record r is not among these
abbrev pub IsAbsent : List (List ℕ) → ℕ → Type 0
IsAbsent rs r = (r ≡ 0) ⊎ (length rs < r)

-- these records, with this text written into record r from the position on
abbrev pub with_written : ℕ → ℕ → ℕ → List ℕ → List (List ℕ) → List (List ℕ)
with_written L r pos text rs = set rs (r - 1) (written L pos text (get_or rs (r - 1) []))

-- these records, with only the first part of this text written into record r
abbrev pub with_half : ℕ → ℕ → ℕ → List ℕ → List (List ℕ) → List (List ℕ)
with_half L r pos text rs =
    set rs (r - 1) (half_written L r (written L pos text (get_or rs (r - 1) [])) (get_or rs (r - 1) []))

-- how many data blocks the bytes from the position on of record r lie in: 1 or 2
abbrev pub touched : ℕ → ℕ → ℕ → ℕ
touched L r pos = (r * L - 1) / 254 - ((r - 1) * L + (pos - 1)) / 254 + 1

-- these records, and then m empty ones
abbrev pub grown_by : ℕ → ℕ → List (List ℕ) → List (List ℕ)
grown_by L m rs = rs ++ replicate m (empty_record L)

-- the records of the file when it has grown to record r
abbrev pub grown_to : Image → File → ℕ → List (List ℕ)
grown_to img f r = grown_by (record_length f.slot) (added (record_length f.slot) (records_had f) r) (records img f)

-- an image held while up to m empty records are added to the file f at place n
abbrev pub IsGrowingBy : Image → Layout → ℕ → File → ℕ → Image → Type 0
IsGrowingBy old l n f m c = (k : ℕ) × (k ≤ m)
    × HasRecords old c l n (grown_by (record_length f.slot) k (records old f)) × KeepsWhole old l f m c

-- an image held while the file grows to record r
abbrev pub IsGrowingTo : Image → Layout → ℕ → File → ℕ → Image → Type 0
IsGrowingTo old l n f r = IsGrowingBy old l n f (added (record_length f.slot) (records_had f) r)

-- an image held while a text is written into record r, after m empty ones were added: the first part of the record is
-- new,
-- or all of it is
abbrev pub IsWriting : Image → Layout → ℕ → File → ℕ → ℕ → ℕ → List ℕ → Image → Type 0
IsWriting old l n f m r pos text c =
    IsGrowingBy old l n f m c
    ⊎ ((HasRecords old c l n (with_half (record_length f.slot) r pos text
    (grown_by (record_length f.slot) m (records old f))) × KeepsWhole old l f m c)
    ⊎ (HasRecords old c l n (with_written (record_length f.slot) r pos text
    (grown_by (record_length f.slot) m (records old f))) × KeepsWhole old l f m c))

-- record r of L bytes lies in one data block
abbrev pub IsInOneBlock : ℕ → ℕ → Type 0
IsInOneBlock L r = (r - 1) * L % 254 + L ≤ 254

-- a write is done if it returns Ok, or Overflow
abbrev pub IsDone : {T : Type 0} → Result T RelFault → Type 0
IsDone (Ok _) = Unit {0}
IsDone (Err Overflow) = Unit {0}
IsDone (Err _) = ⊥

-- a block with the text over its data bytes from start to below end, and zeros if the text is shorter
abbrev pub patched : ℕ → ℕ → List ℕ → Sector → Sector
patched start end text bytes = take (2 + start) bytes ++ (take (end - start) (text ++ replicate (end - start) 0)
    ++ drop (2 + end) bytes)
