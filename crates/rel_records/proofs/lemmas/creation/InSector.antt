-- The directory's last sector gets a link to a new one: each entry of the directory says what it said.
use Rattle.std.proofs.Common.{◌≡◌, ◌+◌, ℕ, List, ap, drop, get_or, length, refl, slice_index, sym, take, ◌∙◌}
use Rattle.std.specs.Prelude.{Contains, flat_map}
use Rattle.std.proofs.lemmas.List.{drop-drop, get_or-drop}
use Rattle.byteorder.specs.Endian.{little_number}
use Rattle.d64_image.specs.Images.{Image, Sector, put, sector}
use Rattle.d64_image.specs.declared.place.Place.{Place}
use Rattle.disk_layout.proofs.lemmas.counts.Recount.{filter-out}
use Rattle.disk_layout.proofs.lemmas.counts.Recounts.{reslot, slot-of}
use Rattle.disk_layout.proofs.lemmas.growth.LongerDirectory.{IsRelinked, slot-relinked}
use Rattle.disk_layout.specs.Directory.{is_used, slots_in, used_slots}
use Rattle.disk_layout.specs.Layout.{File, IsLayout, Layout, count_field}
use Rattle.disk_layout.specs.declared.slot.Slot.{Slot}
use Rattle.rel_records.proofs.lemmas.creation.Creating.{SameEntry}

tail-entry : (s t : Slot) → t.sector ≡ s.sector → t.number ≡ s.number → drop 2 t.bytes ≡ drop 2 s.bytes → SameEntry s t
tail-entry s t one two e = record {
  face = record {
    kind = byte 0;
    first_track = byte 1;
    first_sector = byte 2;
    side_track = byte 19;
    side_sector = byte 20;
    length = byte 21;
  };
  sector_same = one;
  number_same = two;
  entry = ap (take 28) e;
}
  where
    byte : (k : ℕ) → slice_index s.bytes (2 + k) ≡ slice_index t.bytes (2 + k)
    byte k = sym (get_or-drop 2 s.bytes k 0) ∙ ap (λ xs. get_or xs k 0) (sym e) ∙ get_or-drop 2 t.bytes k 0

pub linked-stays : (c : Image) (l : Layout) (p : Place) (bytes : Sector) → length c ≡ 683 → IsRelinked (sector c p) bytes
    → IsLayout c l → (f : File) → Contains l.files f → SameEntry f.slot (reslot (put c p bytes) f.slot)
    × (count_field (reslot (put c p bytes) f.slot) ≡ count_field f.slot)
unfolding used_slots
linked-stays c l p bytes full relinked is f d =
    let t : Slot = reslot (put c p bytes) f.slot in
    let e = slot-relinked c p bytes full relinked l.directory f.slot
    (filter-out is_used (flat_map (λ q. slots_in q (sector c q)) l.directory) f.slot (slot-of c l f is d)).0 in (
      tail-entry f.slot t refl refl e,
      ap (λ (xs : List ℕ). little_number 2 (take 2 xs)) (sym (drop-drop 28 2 t.bytes) ∙ ap (drop 28) e
          ∙ drop-drop 28 2 f.slot.bytes),
    )
