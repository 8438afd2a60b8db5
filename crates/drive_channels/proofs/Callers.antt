-- What the words of a write's contract say of a text that isn't empty, for callers.
use Rattle.std.proofs.Common.{ℕ, ◌≡◌, ◌≤◌, false, List, [], ◌∷◌, length, refl, arith}
use Rattle.d64_image.specs.Images.{Image}
use Rattle.disk_layout.specs.Layout.{File, Layout, record_length}
use Rattle.drive_channels.specs.Moments.{IsOnTheWay, is_nil}
use Rattle.drive_channels.specs.State.{Channel}
use Rattle.rel_records.specs.Written.{IsWriting}
use Rattle.rel_records.specs.growth.Growth.{added, records_had}

pub some-text : (text : List ℕ) → 1 ≤ length text → is_nil text ≡ false
some-text [] some = absurd (omega (arith, some))
some-text (t ∷ ts) some = refl

-- every image on the way is one of the writing of the record
pub on-the-way : (old : Image) (text : List ℕ) (c : Channel) (l : Layout) (f : File) → 1 ≤ length text → (img : Image)
    → IsOnTheWay old text c l f img
    → IsWriting old l c.entry f (added (record_length f.slot) (records_had f) c.record_number) c.record_number
    c.position text img
on-the-way old [] c l f some img way = absurd (omega (arith, some))
on-the-way old (t ∷ ts) c l f some img way = way
