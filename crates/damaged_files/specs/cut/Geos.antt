-- Which entries are those of files of GEOS, by their own bytes (Inside GEOS, directory entries).
use Rattle.std.specs.Prelude.{◌≡◌, ◌≢◌, ◌⊎◌, ℕ, IsSome, IsTrue, Some, slice_get, slice_index}
use Rattle.d64_image.specs.Images.{Image}
use Rattle.disk_layout.specs.Chain.{named_at}
use Rattle.disk_layout.specs.Layout.{File, IsLayout, Layout}
use Rattle.disk_layout.specs.Listed.{is_plain}
use Rattle.disk_layout.specs.declared.slot.Slot.{Slot}

-- a closed SEQ, PRG or USR whose bytes 21 and 22 name an info block, and that has several records (byte 23 is 1), or a type of
-- GEOS (byte 24)
abbrev pub IsGeosEntry : Slot → Type 0
IsGeosEntry s = IsTrue (is_plain s) × IsSome (named_at s.bytes 21)
    × ((slice_index s.bytes 23 ≡ 1) ⊎ (slice_index s.bytes 24 ≢ 0))

-- a file of a sound disk has such an entry
abbrev pub HasGeosEntry : Image → Type 0
HasGeosEntry img = (l : Layout) × IsLayout img l × (k : ℕ) × (f : File) × (slice_get l.files k ≡ Some f)
    × IsGeosEntry f.slot
