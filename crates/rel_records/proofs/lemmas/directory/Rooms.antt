-- The directory's room for an entry: slot by slot, and sector by sector.
use Rattle.std.proofs.Common.{ℕ, suc, ◌≡◌, ◌≢◌, ◌<◌, ◌+◌, ◌*◌, ◌++◌, ◌∷◌, List, Some, IsTrue, true, inl, inr, ap, arith}
use Rattle.std.proofs.Common.{drop, length, sym, slice_index, subst, take, ◌∙◌}
use Rattle.std.proofs.lemmas.Bool.{cases_eq, ne_eqb}
use Rattle.std.proofs.lemmas.List.{drop_all, get_or-take, length-take}
use Rattle.std.proofs.lemmas.Option.{slice_get-get_or, slice_get_within}
use Rattle.std.specs.Prelude.{Contains, slice_get, not, nat_eq}
use Rattle.d64_image.specs.Images.{Image, Sector, sector}
use Rattle.d64_image.specs.declared.place.Place.{Place}
use Rattle.disk_layout.proofs.lemmas.counts.CountWrites.{slot-byte}
use Rattle.disk_layout.proofs.lemmas.counts.Recount.{around}
use Rattle.disk_layout.specs.Directory.{is_used, slot_in, type_byte}
use Rattle.rel_records.specs.creation.Room.{IsFullDirectory, IsFirstRoom, IsFirstSlot, IsFullSector}

slot-used : (p : Place) (bytes : Sector) (k : ℕ) → slice_index bytes (32 * k + 2) ≢ 0
    → IsTrue (is_used (slot_in p bytes k))
slot-used p bytes k h =
    let same = slot-byte bytes k 2 (omega arith) in
    let n : type_byte (slot_in p bytes k) ≢ 0 = λ z. h (sym same ∙ z) in
    let e : is_used (slot_in p bytes k) ≡ true = ap not (ne_eqb (type_byte (slot_in p bytes k)) 0 n) in
    e

pub used-more : (bytes : Sector) (n : ℕ) → ((k : ℕ) → k < n → slice_index bytes (32 * k + 2) ≢ 0)
    → slice_index bytes (32 * n + 2) ≢ 0 → (k : ℕ) → k < n + 1 → slice_index bytes (32 * k + 2) ≢ 0
used-more bytes n used here k lt = elim (cases_eq k n) [
  | inl e ↦ λ z. here (ap (λ m. slice_index bytes (32 * m + 2)) (sym e) ∙ z)
  | inr ne ↦ used k (omega (arith, ne, lt))
]

-- the types of a sector's slots say which is the first free one
pub first-slot : (bytes : Sector) (n : ℕ) → n < 8 → slice_index bytes (32 * n + 2) ≡ 0
    → ((k : ℕ) → k < n → slice_index bytes (32 * k + 2) ≢ 0) → (p : Place) → IsFirstSlot p bytes n
first-slot bytes n few zero used p = record {
  number = few;
  free = ap (λ t. not (nat_eq t 0)) (slot-byte bytes n 2 (omega arith) ∙ zero);
  used = λ k lt. slot-used p bytes k (used k lt);
}

-- or that none is
pub full-sector : (bytes : Sector) → ((k : ℕ) → k < 8 → slice_index bytes (32 * k + 2) ≢ 0) → (p : Place)
    → IsFullSector p bytes
full-sector bytes used p k lt = slot-used p bytes k (used k lt)

-- a value of a list stands at a place of it
pub contains-get : {X : Type 0} (xs : List X) (x : X) → Contains xs x → (k : ℕ) × (k < length xs)
    × (slice_get xs k ≡ Some x)
contains-get xs x (k, lt, at) = (k, lt, slice_get-get_or xs k x lt ∙ ap Some at)

-- the first k sectors are full
abbrev pub AreFullTo : Image → List Place → ℕ → Type 0
AreFullTo img ps n = (k : ℕ) → k < n → (p : Place) → slice_get ps k ≡ Some p → IsFullSector p (sector img p)

pub first-room : (img : Image) (ps : List Place) (n : ℕ) (p : Place) (bytes : Sector) (k : ℕ) → slice_get ps n ≡ Some p
    → AreFullTo img ps n → bytes ≡ sector img p → IsFirstSlot p bytes k → IsFirstRoom img ps p k
first-room img ps n p bytes k at full read first = record {
  front = take n ps;
  back = drop (suc n) ps;
  split = around ps n p at;
  full = λ q on.
      let (j, lt, there) = on in
      let few : j < n = omega (arith, lt, length-take n ps) in
      let inside : j < length ps = omega (arith, few, slice_get_within ps n p at) in
      full j few q (slice_get-get_or ps j q inside ∙ ap Some (sym (get_or-take n ps j q few) ∙ there));
  slot = let P : Sector → Type 0 = λ b. IsFirstSlot p b k in subst P read first;
}

-- all are
pub no-room : (img : Image) (ps : List Place) (n : ℕ) (p : Place) → n + 1 ≡ length ps → slice_get ps n ≡ Some p
    → AreFullTo img ps (length ps) → IsFullDirectory img ps p
no-room img ps n p last at full = record {
  front = take n ps;
  split = around ps n p at ∙ ap (λ xs. take n ps ++ p ∷ xs) (drop_all (suc n) ps (omega (arith, last)));
  full = λ q on. let (k, lt, there) = contains-get ps q on in full k lt q there;
}

-- one place of a list has one value
pub same-get : (ps : List Place) (n : ℕ) (p q : Place) → slice_get ps n ≡ Some p → slice_get ps n ≡ Some q → p ≡ q
same-get ps n p q at to = cc
