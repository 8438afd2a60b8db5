-- The name of an entry written over: what the disk has then.
use Rattle.std.proofs.Common.{◌≡◌, ℕ, ◌<◌, ◌≤◌, ◌+◌, ◌-◌, ◌*◌, ◌⊎◌, inl, inr, List, ◌∷◌, ◌++◌, ap, ap₂, arith}
use Rattle.std.proofs.Common.{drop, length, length-append, slice_index, subst, suc, sym, take, ◌∙◌}
use Rattle.std.proofs.lemmas.List.{length-replicate, set_split}
use Rattle.std.specs.Prelude.{Contains, Some, nat_eq, replicate, slice_get, slice_range, slice_set, ◌||◌}
use Rattle.d64_image.proofs.Images.{is_sector}
use Rattle.d64_image.specs.Images.{Image, IsImage, Sector, sector}
use Rattle.d64_image.specs.Offsets.{overwritten}
use Rattle.d64_image.specs.declared.place.Place.{Place}
use Rattle.disk_layout.proofs.lemmas.counts.CountWrites.{count-byte, slot-byte}
use Rattle.disk_layout.proofs.lemmas.counts.Faces.{SameFace, with_slot}
use Rattle.disk_layout.proofs.lemmas.layouts.Exact.{get-lt}
use Rattle.disk_layout.specs.Directory.{slot_in, type_byte}
use Rattle.disk_layout.specs.Layout.{File, IsLayout, Layout, count_field, file_owns, is_rel, record_length}
use Rattle.disk_layout.specs.Rest.{slot_name}
use Rattle.disk_layout.specs.declared.slot.Slot.{Slot}
use Rattle.file_changes.proofs.Overwritten.{over-before, over-behind, over-other, over-slot, over-slots}
use Rattle.file_changes.proofs.Reslotted.{owned-stays, place, reslotted}
use Rattle.file_changes.specs.Entries.{renamed, with_file}
use Rattle.file_changes.specs.Patches.{patched}

-- a padded name has sixteen bytes
pub length-name : (name : List ℕ) → length name ≤ 16 → length (slot_name name) ≡ 16
length-name name few = omega (
  arith,
  few,
  length-append name (replicate (16 - length name) 160),
  length-replicate {A = ℕ} (16 - length name) 160,
)

module _ (a : Image) (l : Layout) (n : ℕ) (f : File) (to : List ℕ) (h : IsLayout a l)
    (at : slice_get l.files n ≡ Some f) (image : IsImage a) (few : length to ≤ 16) where
  abbrev p : Place
  p = f.slot.sector

  abbrev k : ℕ
  k = f.slot.number

  abbrev x : Sector
  x = sector a f.slot.sector

  abbrev name : List ℕ
  name = slot_name to

  abbrev b : Sector
  b = overwritten (sector a f.slot.sector) (32 * f.slot.number + 5) (slot_name to)

  abbrev c : Image
  c = patched a f.slot.sector (32 * f.slot.number + 5) (slot_name to)

  abbrev g : File
  g = renamed f to

  low : f.slot.number < 8
  low = (place a l n f h at).1

  long : length (sector a f.slot.sector) ≡ 256
  long = (is_sector a f.slot.sector image).size

  sixteen : length (slot_name to) ≡ 16
  sixteen = length-name to few

  fits : 5 + length (slot_name to) ≤ 32
  fits = omega (arith, sixteen)

  all : 32 * f.slot.number + 5 + length (slot_name to) ≤ length (sector a f.slot.sector)
  all = omega (arith, sixteen, long, low)

  was : f.slot.bytes ≡ slice_range (sector a f.slot.sector) (32 * f.slot.number) (32 * f.slot.number + 32)
  was = ap (λ (s : Slot). s.bytes) (place a l n f h at).2

  -- the entry as it is written
  entry-now : slot_in p b k ≡ g.slot
  entry-now = ap (λ (bs : List ℕ). record { sector = f.slot.sector; number = f.slot.number; bytes = bs })
      (over-slot x name k 5 long low fits ∙ ap (λ (z : List ℕ). overwritten z 5 name) (sym was))

  same-byte : (i : ℕ) → i < 32 → (i < 5) ⊎ (21 ≤ i) → slice_index f.slot.bytes i ≡ slice_index (slot_in p b k).bytes i
  same-byte i lt out = ap (λ (z : List ℕ). slice_index z i) was ∙ slot-byte x k i lt
      ∙ sym (over-other x name (32 * k + 5) all (32 * k + i) (elim out [
        | inl c ↦ inl (omega (arith, c))
        | inr c ↦ inr (omega (arith, c, sixteen))
      ])) ∙ sym (slot-byte b k i lt)

  face : SameFace f.slot (slot_in p b k)
  face = record {
    kind = same-byte 2 (omega arith) (inl (omega arith));
    first_track = same-byte 3 (omega arith) (inl (omega arith));
    first_sector = same-byte 4 (omega arith) (inl (omega arith));
    side_track = same-byte 21 (omega arith) (inr (omega arith));
    side_sector = same-byte 22 (omega arith) (inr (omega arith));
    length = same-byte 23 (omega arith) (inr (omega arith));
  }

  count-part : (j : ℕ) → j < 2 → slice_index (slice_range (slot_in p b k).bytes 30 32) j
      ≡ slice_index (slice_range (slot_in p x k).bytes 30 32) j
  count-part j lt = count-byte b k j lt ∙ over-behind x name (32 * k + 5) all (32 * k + 30 + j) (omega (arith, sixteen))
      ∙ sym (count-byte x k j lt)

  pub count-same : count_field g.slot ≡ count_field f.slot
  count-same = ap count_field (sym entry-now)
      ∙ ap₂ (λ i j. i + 256 * (j + 256 * 0)) (count-part 0 (omega arith)) (count-part 1 (omega arith))
      ∙ ap count_field (sym (place a l n f h at).2)

  pub kind-same : type_byte g.slot ≡ type_byte f.slot
  kind-same = ap type_byte (sym entry-now) ∙ sym face.kind

  pub length-same : record_length g.slot ≡ record_length f.slot
  length-same = ap record_length (sym entry-now) ∙ sym face.length

  pub rel-same : is_rel g.slot ≡ is_rel f.slot
  rel-same = ap (λ t. nat_eq t 132 || nat_eq t 196) kind-same

  pub files-now : slice_set l.files n g ≡ take n l.files ++ g ∷ drop (suc n) l.files
  files-now = set_split l.files n g (get-lt l.files n f at)

  pub renamed-layout : IsLayout c (with_file l n g)
  renamed-layout =
      let P : List File → Type 0 = λ fs. IsLayout c (record { directory = l.directory; files = fs }) in
      subst P (ap (λ (s : Slot). take n l.files ++ with_slot f s ∷ drop (suc n) l.files) entry-now ∙ sym files-now)
      (reslotted a l n f h at b image.size
      (λ j lt ne. ap (λ (bs : List ℕ). record { sector = f.slot.sector; number = j; bytes = bs })
      (over-slots x name k 5 long low fits j lt ne))
      (sym (over-before x name (32 * k + 5) all 0 (omega arith)), sym (over-before x name (32 * k + 5) all 1 (omega arith)))
      face)

  pub stays : (y : File) (q : Place) → Contains l.files y → Contains (file_owns y) q → sector c q ≡ sector a q
  stays y q on there = owned-stays a l n f h at b y q on there
