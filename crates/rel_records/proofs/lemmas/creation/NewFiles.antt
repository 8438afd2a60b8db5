-- The new file itself: one block, one side sector, empty records; and who owns what then.
use Rattle.std.proofs.Common.{◌≡◌, ℕ, zero, suc, ◌+◌, ◌*◌, ◌<◌, ◌≤◌, inl, true, false, [], ◌∷◌, refl, sym, ◌∙◌, ap, arith, subst, slice_index, get_or, IsFalse}
use Rattle.std.specs.Prelude.{Some, replicate, slice_get}
use Rattle.d64_image.specs.Images.{Image, IsImage, sector}
use Rattle.d64_image.specs.declared.place.Place.{Place}
use Rattle.disk_layout.proofs.lemmas.layouts.Exact.{exact-side}
use Rattle.disk_layout.proofs.lemmas.lists.Once.{Contains-nil}
use Rattle.disk_layout.proofs.lemmas.records.Fillers.{pieces-fill}
use Rattle.disk_layout.proofs.lemmas.records.Joined.{joined-at, length-joined}
use Rattle.disk_layout.specs.Chain.{Names}
use Rattle.disk_layout.specs.Clean.{IsExactFile}
use Rattle.disk_layout.specs.Directory.{type_byte}
use Rattle.disk_layout.specs.Layout.{File, IsFile, IsRelFile, count_field, is_rel, record_length}
use Rattle.disk_layout.specs.Records.{empty_record, filler, joined, pieces, record_count, records}
use Rattle.disk_layout.specs.Side.{side_sector}
use Rattle.disk_layout.specs.declared.slot.Slot.{Slot}

-- the file of a slot that names these two sectors
abbrev pub new_file : Slot → Place → Place → ℕ → File
new_file s block side u = record { slot = s; blocks = block ∷ []; last = u; sides = side ∷ [] }

-- what its entry and its two sectors say
pub record IsNewFile (b : Image) (s : Slot) (block side : Place) (u : ℕ) : Type 0 where
  pub kind : type_byte s ≡ 132
  pub first : Names s.bytes 3 block
  pub first_side : Names s.bytes 21 side
  pub low : 1 ≤ record_length s
  pub high : record_length s ≤ 254
  pub ends : slice_index (sector b block) 0 ≡ 0
  pub last : slice_index (sector b block) 1 ≡ u
  pub side_bytes : sector b side ≡ side_sector 0 (block ∷ []) (side ∷ []) (record_length s)

module _ (b : Image) (s : Slot) (block side : Place) (u : ℕ) (h : IsNewFile b s block side u) where
  only-side : (j : ℕ) (q : Place) → slice_get (side ∷ []) j ≡ Some q → (j ≡ 0) × (side ≡ q)
  only-side zero q e = (refl, cc)
  only-side (suc j) q e = cc

  new-rel : IsRelFile b (new_file s block side u)
  new-rel = record {
    chain = (
      block,
      h.first,
      record {
        front = [];
        last = block;
        places = refl;
        leads = refl;
        ends = (h.ends, h.last);
        once = (Contains-nil block, tt);
      },
    );
    length_low = h.low;
    length_high = h.high;
    count = refl;
    first_side = λ q e. let P : Place → Type 0 = Names s.bytes 21 in subst P (only-side 0 q e).1 h.first_side;
    sides = λ j q e. exact-side b (new_file s block side u) j q (omega arith) (exact j q e);
  }
    where
      exact : (j : ℕ) (q : Place) → slice_get (side ∷ []) j ≡ Some q
          → sector b q ≡ side_sector j (block ∷ []) (side ∷ []) (record_length s)
      exact j q e =
          let (zero_is, one) = only-side j q e in
          ap (sector b) (sym one) ∙ h.side_bytes ∙ ap (λ k. side_sector k (block ∷ []) (side ∷ []) (record_length s))
          (sym zero_is)

  rel-here : is_rel s ≡ true
  rel-here = rw h.kind refl

  pub new-is_file : IsFile b (new_file s block side u)
  new-is_file = record {
    closed = inl (omega (arith, h.kind), omega (arith, h.kind));
    rel = λ t. new-rel;
    empty = λ t z. absurd (differ t);
    plain = λ t z. absurd (differ t);
  }
    where
      differ : IsFalse (is_rel s) → ⊥
      differ n = let e : true ≡ false = sym rel-here ∙ n in cc

  pub new-exact : count_field s ≡ 2 → IsExactFile b (new_file s block side u)
  new-exact two = record {
    sides = λ j q e. let (zero_is, one) = only-side j q e in
        ap (sector b) (sym one) ∙ h.side_bytes ∙ ap (λ k. side_sector k (block ∷ []) (side ∷ []) (record_length s))
        (sym zero_is);
    count = two;
  }

  -- all its records are empty
  pub new-records : (m : ℕ) → IsImage b → record_count 1 u (record_length s) ≡ m → m * record_length s ≤ 254
      → ((j : ℕ) → j < 254 → slice_index (sector b block) (2 + j) ≡ filler (record_length s) m j)
      → records b (new_file s block side u) ≡ replicate m (empty_record (record_length s))
  unfolding records
  new-records m w count fits filled =
      let L : ℕ = record_length s in
      let zm : 0 + m ≡ m = omega arith in
      let P : ℕ → Type 0 = λ k. pieces (record_length s) k (joined b (block ∷ [])) ≡ replicate m
      (empty_record (record_length s)) in
      let Q : ℕ → Type 0 = λ k. k * record_length s ≤ 254 in
      ap (λ k. pieces (record_length s) k (joined b (block ∷ []))) count
      ∙ subst P zm (pieces-fill (record_length s) 0 m [] (joined b (block ∷ [])) (omega (arith, h.low)) (omega arith)
      (let fit = subst Q (sym zm) fits in omega (arith, length-joined b (block ∷ []) w, fit))
      (λ i low. absurd (omega (arith, low)))
      (λ i low lt. byte i (let fit = subst Q (sym zm) fits in omega (arith, lt, fit))
      ∙ ap (λ k. filler (record_length s) k i) (sym zm)))
    where
      byte : (i : ℕ) → i < 254 → get_or (joined b (block ∷ [])) i 0 ≡ filler (record_length s) m i
      byte i lt =
          let at : 254 * 0 + i ≡ i = omega arith in
          ap (λ k. get_or (joined b (block ∷ [])) k 0) (sym at) ∙ joined-at b (block ∷ []) 0 i block w refl lt
          ∙ filled i lt
