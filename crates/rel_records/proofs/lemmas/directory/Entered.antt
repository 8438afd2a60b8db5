-- An entry that was put into a slot of a directory sector: what the slot says, and that all others stay.
use Rattle.std.proofs.Common.{ℕ, zero, suc, ◌≡◌, ◌≢◌, ◌<◌, ◌≤◌, ◌+◌, ◌-◌, ◌*◌, inr, List, [], ◌∷◌, ◌++◌, ap, arith}
use Rattle.std.proofs.Common.{get_or, length, refl, replicate, slice_index, ◌∙◌, set}
use Rattle.std.proofs.lemmas.List.{get_or-append_right, get_or-replicate, get_or-set_other, get_or_append_left}
use Rattle.std.specs.Prelude.{slice_range}
use Rattle.byteorder.specs.Endian.{little_bytes, little_number}
use Rattle.d64_image.specs.Images.{Sector}
use Rattle.d64_image.specs.declared.place.Place.{Place}
use Rattle.disk_layout.specs.Entries.{rel_entry}
use Rattle.disk_layout.specs.Chain.{Names}
use Rattle.disk_layout.specs.Directory.{slot_in, type_byte}
use Rattle.disk_layout.specs.Layout.{count_field, record_length}
use Rattle.disk_layout.specs.Rest.{slot_name}
use Rattle.disk_layout.specs.Side.{place_bytes}
use Rattle.disk_layout.specs.declared.slot.Slot.{Slot}
use Rattle.rel_records.proofs.lemmas.directory.AnyEntry.{entry-byte, entry-counted, entry-named, name-long}
use Rattle.rel_records.specs.creation.NewFile.{IsEntered}

-- the slot of a relative file of this name and record length, which owns these two sectors
pub record IsEntry (s : Slot) (name : List ℕ) (block side : Place) (L : ℕ) : Type 0 where
  pub kind : type_byte s ≡ 132
  pub first : Names s.bytes 3 block
  pub first_side : Names s.bytes 21 side
  pub size : record_length s ≡ L
  pub count : count_field s ≡ 2
  pub named : slice_range s.bytes 5 21 ≡ slot_name name

-- what follows the name of an entry
abbrev rest_of : Place → ℕ → List ℕ
rest_of side L = place_bytes side ++ ((L ∷ replicate 6 0) ++ little_bytes 2 2)

module _ (old new : Sector) (n : ℕ) (name : List ℕ) (block side : Place) (L : ℕ) (low : n < 8) (few : length name ≤ 16)
    (h : IsEntered old new n (rel_entry name block side L 2)) where
  past-name : (k : ℕ) → get_or (slot_name name ++ rest_of side L) (16 + k) 0 ≡ get_or (rest_of side L) k 0
  past-name k =
      let long = name-long name few in
      let at : 16 + k - 16 ≡ k = omega arith in
      get_or-append_right (slot_name name) (rest_of side L) 16 (16 + k) 0 long (omega arith)
      ∙ ap (λ m. get_or (rest_of side L) m 0) at

  name-byte : (k : ℕ) → k < 16 → slice_index (rel_entry name block side L 2) (3 + k) ≡ slice_index (slot_name name) k
  unfolding rel_entry
  name-byte k lt =
      let long = name-long name few in
      let at : 3 + k - 3 ≡ k = omega arith in
      get_or-append_right (132 ∷ place_bytes block) (slot_name name ++ rest_of side L) 3 (3 + k) 0 refl (omega arith)
      ∙ ap (λ m. get_or (slot_name name ++ rest_of side L) m 0) at
      ∙ get_or_append_left (slot_name name) (rest_of side L) 0 k (omega (arith, lt, long))

  counted : slice_range (slice_range new (32 * n) (32 * n + 32)) 30 32 ≡ 2 ∷ 0 ∷ []
  unfolding rel_entry
  counted = entry-counted old new n (rel_entry name block side L 2) low h (2 ∷ 0 ∷ []) refl byte
    where
      byte : (k : ℕ) → k < 2 → slice_index (rel_entry name block side L 2) (28 + k) ≡ get_or (2 ∷ 0 ∷ []) k 0
      byte zero lt = past-name 9
      byte (suc zero) lt = past-name 10
      byte (suc (suc k)) lt = absurd (omega (arith, lt))

  abbrev byte-of : (j : ℕ) → j < 30
      → slice_index (slice_range new (32 * n) (32 * n + 32)) (2 + j) ≡ slice_index (rel_entry name block side L 2) j
  byte-of j lt = entry-byte old new n (rel_entry name block side L 2) low h j lt

  pub is-entry : (p : Place) → IsEntry (slot_in p new n) name block side L
  unfolding rel_entry
  is-entry p = record {
    kind = byte-of 0 (omega arith);
    first = (byte-of 1 (omega arith), byte-of 2 (omega arith));
    first_side = (byte-of 19 (omega arith) ∙ past-name 0, byte-of 20 (omega arith) ∙ past-name 1);
    size = byte-of 21 (omega arith) ∙ past-name 2;
    count = ap (little_number 2) counted;
    named = entry-named old new n (rel_entry name block side L 2) low h name few name-byte;
  }

-- its type isn't 0
pub rel-used : (name : List ℕ) (block side : Place) (L : ℕ) → slice_index (rel_entry name block side L 2) 0 ≢ 0
unfolding rel_entry
rel-used name block side L z = cc

-- a new sector has zeros behind its first slot
pub new-zeros : (new : Sector) (entry : List ℕ) → IsEntered (set (replicate 256 0) 1 255) new 0 entry
    → (i : ℕ) → 32 ≤ i → i < 256 → slice_index new i ≡ 0
new-zeros new entry h i low lt =
    h.rest i (inr (omega (arith, low))) ∙ get_or-set_other (replicate 256 0) 1 i 255 0 (omega (arith, low))
    ∙ get_or-replicate 256 i 0 0 lt
