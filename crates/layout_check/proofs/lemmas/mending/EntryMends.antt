-- Side sectors mended entry by entry.
use Rattle.std.proofs.Common.{map, subst}
use Rattle.d64_image.specs.Images.{Image}
use Rattle.disk_layout.specs.declared.slot.Slot.{Slot}
use Rattle.layout_check.proofs.lemmas.finding.Listed.{entry-listed}
use Rattle.layout_check.proofs.lemmas.finding.Progress.{slot-in}
use Rattle.layout_check.specs.Entry.{IsEntry}
use Rattle.layout_check.specs.Exact.{IsFiled}
use Rattle.layout_check.specs.Mended.{KeepsLayouts}

-- a file of the old image is one of the new
pub filed-kept : (a c : Image) (s : Slot) → KeepsLayouts a c → IsFiled a s → IsFiled c s
filed-kept a c s keeps h = record {
  layout = h.layout;
  sound = keeps h.layout h.sound;
  file = h.file;
  own = h.own;
  slot = h.slot;
}

pub entry-filed : (c : Image) (s : Slot) → IsFiled c s → IsEntry c s
entry-filed c s h =
    let listed = entry-listed c h.layout.directory (map (λ f. f.slot) h.layout.files) h.file.slot h.sound.directory
    (slot-in h.layout.files h.file h.own) in
    let P : Slot → Type 0 = IsEntry c in
    subst P h.slot listed
