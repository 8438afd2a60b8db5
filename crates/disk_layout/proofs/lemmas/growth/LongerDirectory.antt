-- A sector of the directory that links to another: all entries stay.
use Rattle.std.proofs.Common.{
  ◌≡◌,
  ℕ,
  ◌*◌,
  ◌+◌,
  ◌<◌,
  ◌≤◌,
  inl,
  inr,
  List,
  map,
  length,
  sym,
  ◌∙◌,
  ap,
  arith,
  subst,
  slice_index,
  drop,
  get_or,
}
use Rattle.std.specs.Prelude.{Contains, flat_map, filter, slice_range, nat_eq, not}
use Rattle.std.proofs.lemmas.Grind.{same_number_lists}
use Rattle.std.proofs.lemmas.List.{get_or-drop, length-drop}
use Rattle.d64_image.proofs.Images.{sector-put_other, sector-put_same}
use Rattle.d64_image.proofs.Places.{same_or_other}
use Rattle.d64_image.specs.Images.{Image, Sector, put, sector}
use Rattle.d64_image.specs.declared.place.Place.{Place}
use Rattle.disk_layout.proofs.lemmas.counts.Counts.{range-piece}
use Rattle.disk_layout.proofs.lemmas.counts.Recounts.{all_slots-reslot, filter-map, reslot, slot-any}
use Rattle.disk_layout.proofs.lemmas.records.Pieces.{length-piece, piece, piece-byte}
use Rattle.disk_layout.specs.Directory.{is_used, slot_in, slots_in, used_slots}
use Rattle.disk_layout.specs.declared.slot.Slot.{Slot}

-- the bytes of a directory sector differ in its link alone
pub record IsRelinked (x y : Sector) : Type 0 where
  pub old_long : length x ≡ 256
  pub long : length y ≡ 256
  pub same : (i : ℕ) → 2 ≤ i → slice_index y i ≡ slice_index x i

-- then each slot stays from its byte 2 on
pub slot-tail : (x y : Sector) (n : ℕ) → IsRelinked x y → n < 8 → drop 2 (slice_range y (32 * n) (32 * n + 32))
    ≡ drop 2 (slice_range x (32 * n) (32 * n + 32))
slot-tail x y n h low =
    let lx = length-piece 32 n x (omega (arith, h.old_long)) in
    let ly = length-piece 32 n y (omega (arith, h.long)) in
    ap (drop 2) (range-piece y n)
    ∙ same_number_lists (drop 2 (piece 32 n y)) (drop 2 (piece 32 n x)) (length-drop 2 (piece 32 n y) ∙ cc (lx, ly)
    ∙ sym (length-drop 2 (piece 32 n x)))
    (λ j d. let below : j < 30 = omega (arith, length-drop 2 (piece 32 n y), ly, d) in
    get_or-drop 2 (piece 32 n y) j 0 ∙ piece-byte 32 n y (2 + j) (omega arith) ∙ h.same (n * 32 + (2 + j)) (omega arith)
    ∙ sym (get_or-drop 2 (piece 32 n x) j 0 ∙ piece-byte 32 n x (2 + j) (omega arith)))
    ∙ sym (ap (drop 2) (range-piece x n))

module _ (c : Image) (p : Place) (bytes : Sector) (full : length c ≡ 683) (relinked : IsRelinked (sector c p) bytes)
  where
    abbrev b : Image
    b = put c p bytes

    tail : (q : Place) (n : ℕ) → n < 8
        → drop 2 (slot_in q (sector b q) n).bytes ≡ drop 2 (slot_in q (sector c q) n).bytes
    tail q n low = elim (same_or_other p q) [
      | inl one ↦
          let P : Place → Type 0 = λ x. drop 2 (slot_in x (sector b x) n).bytes
          ≡ drop 2 (slot_in x (sector c x) n).bytes in
          subst P one (ap (λ x. drop 2 (slot_in p x n).bytes) (sector-put_same c p bytes full)
          ∙ slot-tail (sector c p) bytes n relinked low)
      | inr off ↦ ap (λ x. drop 2 (slot_in q x n).bytes) (sector-put_other c p q bytes off)
    ]

    -- so does each slot of the directory, as the new image has it
    pub slot-relinked : (ps : List Place) (s : Slot) → Contains (flat_map (λ q. slots_in q (sector c q)) ps) s
        → drop 2 (reslot b s).bytes ≡ drop 2 s.bytes
    slot-relinked ps s d = let (on, low, e) = slot-any c ps s d in tail s.sector s.number low
        ∙ ap (λ x. drop 2 x.bytes) (sym e)

    used-same : (ps : List Place) (s : Slot) → Contains (flat_map (λ q. slots_in q (sector c q)) ps) s
        → is_used (reslot b s) ≡ is_used s
    used-same ps s d = ap (λ n. not (nat_eq n 0))
        (sym (get_or-drop 2 (reslot b s).bytes 0 0) ∙ ap (λ xs. get_or xs 0 0) (slot-relinked ps s d)
        ∙ get_or-drop 2 s.bytes 0 0)

    pub used_slots-relinked : (ps : List Place) → used_slots b ps ≡ map (reslot b) (used_slots c ps)
    unfolding used_slots
    used_slots-relinked ps = ap (filter is_used) (all_slots-reslot c b ps)
        ∙ filter-map is_used (reslot b) (flat_map (λ q. slots_in q (sector c q)) ps) (used-same ps)
