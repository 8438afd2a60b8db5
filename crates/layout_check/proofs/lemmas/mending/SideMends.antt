-- Side sectors rewritten one by one.
use Rattle.std.proofs.Common.{ℕ, ◌≡◌, List, sym, ◌∙◌, ap, subst}
use Rattle.std.specs.Prelude.{Contains, Err, IsTrue}
use Rattle.d64_image.specs.History.{History}
use Rattle.d64_image.specs.Images.{Image}
use Rattle.d64_image.specs.declared.place.Place.{Place}
use Rattle.disk_layout.proofs.lemmas.layouts.Layouts.{IsLayout-one}
use Rattle.disk_layout.proofs.lemmas.layouts.Twice.{told-sound}
use Rattle.disk_layout.specs.Fault.{TellsFault}
use Rattle.disk_layout.specs.Layout.{File, IsLayout, IsSound, Layout, is_rel, record_length}
use Rattle.disk_layout.specs.Side.{side_sector}
use Rattle.disk_layout.specs.declared.faults.Fault.{Fault}
use Rattle.disk_layout.specs.declared.slot.Slot.{Slot}
use Rattle.layout_check.proofs.lemmas.judging.Inexact.{parts-of}
use Rattle.layout_check.specs.Exact.{IsFiled}
use Rattle.layout_check.specs.Mended.{IsPartsOf, TellsDevice}
use Rattle.layout_check.specs.Calls.{TellsUnsound}
use Rattle.layout_check.specs.Sides.{HasParts}

-- the parts in another layout of the same image
pub parts-in : (img : Image) (s : Slot) (blocks sides : List Place) (l : Layout) → (h : IsPartsOf img s blocks sides)
    → IsLayout img l → Contains l.files h.file
parts-in img s blocks sides l h is = let P : Layout → Type 0 = λ x. Contains x.files h.file in
    subst P (IsLayout-one img h.layout l h.sound is) h.own

-- the parts as the layout's file has them
pub file-sector : (img : Image) (s : Slot) (bs ss : List Place) (n : ℕ) → (h : IsPartsOf img s bs ss)
    → side_sector n h.file.blocks h.file.sides (record_length h.file.slot) ≡ side_sector n bs ss (record_length s)
file-sector img s bs ss n h =
    ap (λ (xs : List Place). side_sector n xs h.file.sides (record_length h.file.slot)) h.blocks_are
    ∙ ap (λ (xs : List Place). side_sector n bs xs (record_length h.file.slot)) h.sides_are
    ∙ ap (λ (x : Slot). side_sector n bs ss (record_length x)) h.slot

-- on a sound image nothing but a failure of the device is told
pub sound-device : {D : Type 0} (S : History D) (T : Type 0) (a b : D) (n : ℕ) (f : Fault) → IsSound (S.image a)
    → TellsUnsound S a b n f → TellsDevice {T = T} S a b (Err f)
sound-device S T a b n f sound h =
    let (p, is, there) = told-sound (S.failed_at b) (S.image a) f h.holds sound in
    let P : Fault → Type 0 = λ x. TellsFault {T = ℕ} S a b (Err x) in
    (subst P is h.failures, (p, is, there))

-- the parts that were found
pub parts-here : (img : Image) (s : Slot) (blocks sides : List Place) → IsFiled img s → IsTrue (is_rel s)
    → HasParts img s blocks sides → IsPartsOf img s blocks sides
parts-here img s blocks sides filed rel h =
    let one = parts-of img filed.layout filed.file s blocks sides filed.sound filed.own filed.slot rel h in
    record {
      layout = filed.layout;
      sound = filed.sound;
      file = filed.file;
      own = filed.own;
      rel = rw filed.slot rel;
      slot = filed.slot;
      blocks_are = ap (λ (f : File). f.blocks) one;
      sides_are = ap (λ (f : File). f.sides) one;
    }

pub parts-at : (img now : Image) (s : Slot) (bs ss cs ts : List Place) → now ≡ img → cs ≡ bs → ts ≡ ss
    → IsPartsOf img s bs ss → IsPartsOf now s cs ts
parts-at img now s bs ss cs ts same eb es h =
    let P : Image → Type 0 = λ i. IsPartsOf i s cs ts in
    let Q : List Place → Type 0 = λ xs. IsPartsOf img s xs ts in
    let R : List Place → Type 0 = λ xs. IsPartsOf img s bs xs in
    subst P (sym same) (subst Q (sym eb) (subst R (sym es) h))
