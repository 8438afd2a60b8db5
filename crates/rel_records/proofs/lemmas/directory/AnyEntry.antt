-- An entry of any type that was put into a slot of a directory sector: what the slot says, and that all others stay.
use Rattle.std.proofs.Common.{ℕ, ◌≡◌, ◌≢◌, ◌<◌, ◌≤◌, ◌+◌, ◌-◌, ◌*◌, ◌⊎◌, inl, inr, true, List, ap, arith, drop, get_or}
use Rattle.std.proofs.Common.{length, replicate, sym, slice_index, ◌∙◌}
use Rattle.std.proofs.lemmas.Bool.{cases_lt, ne_eqb}
use Rattle.std.proofs.lemmas.Grind.{same_number_lists}
use Rattle.std.proofs.lemmas.List.{get_or-drop, get_or-take, length-append, length-drop, length-replicate, length-take}
use Rattle.std.specs.Prelude.{not, slice_range}
use Rattle.d64_image.specs.Images.{Sector}
use Rattle.d64_image.specs.declared.place.Place.{Place}
use Rattle.disk_layout.proofs.lemmas.counts.Counts.{range-piece}
use Rattle.disk_layout.proofs.lemmas.counts.CountWrites.{slot-byte}
use Rattle.disk_layout.proofs.lemmas.records.Pieces.{length-piece, piece-same}
use Rattle.disk_layout.specs.Directory.{is_used, slot_in}
use Rattle.disk_layout.specs.Rest.{slot_name}
use Rattle.rel_records.specs.creation.NewFile.{IsEntered}

pub name-long : (name : List ℕ) → length name ≤ 16 → length (slot_name name) ≡ 16
name-long name le = omega
    (arith, le, length-append name (replicate (16 - length name) 160), length-replicate {A = ℕ} (16 - length name) 160)

module _ (old new : Sector) (n : ℕ) (entry : List ℕ) (low : n < 8) (h : IsEntered old new n entry) where
  -- byte j of the entry is byte 2 + j of the slot
  pub entry-byte : (j : ℕ) → j < 30
      → slice_index (slice_range new (32 * n) (32 * n + 32)) (2 + j) ≡ slice_index entry j
  entry-byte j lt =
      let at : 32 * n + (2 + j) ≡ 32 * n + 2 + j = omega arith in
      slot-byte new n (2 + j) (omega (arith, lt)) ∙ ap (slice_index new) at
      ∙ sym (get_or-take (32 * n + 32 - (32 * n + 2)) (drop (32 * n + 2) new) j 0 (omega (arith, lt))
      ∙ get_or-drop (32 * n + 2) new j 0)
      ∙ ap (λ (xs : List ℕ). slice_index xs j) h.here

  pub slot-long : length (slice_range new (32 * n) (32 * n + 32)) ≡ 32
  slot-long = ap length (range-piece new n) ∙ length-piece 32 n new (omega (arith, h.long, low))

  pub entry-named : (name : List ℕ) → length name ≤ 16
      → ((k : ℕ) → k < 16 → slice_index entry (3 + k) ≡ slice_index (slot_name name) k)
      → slice_range (slice_range new (32 * n) (32 * n + 32)) 5 21 ≡ slot_name name
  entry-named name few name-byte =
      let s : List ℕ = slice_range new (32 * n) (32 * n + 32) in
      let long = name-long name few in
      let sixteen : length (slice_range s 5 21) ≡ 16 = omega
      (arith, length-take 16 (drop 5 s), length-drop 5 s, slot-long) in
      same_number_lists (slice_range s 5 21) (slot_name name) (sixteen ∙ sym long) (λ k lt.
      let small : k < 16 = omega (arith, lt, sixteen) in
      let at : 5 + k ≡ 2 + (3 + k) = omega arith in
      get_or-take 16 (drop 5 s) k 0 small ∙ get_or-drop 5 s k 0 ∙ ap (slice_index s) at
      ∙ entry-byte (3 + k) (omega (arith, small)) ∙ name-byte k small)

  pub entry-counted : (two : List ℕ) → length two ≡ 2
      → ((k : ℕ) → k < 2 → slice_index entry (28 + k) ≡ get_or two k 0)
      → slice_range (slice_range new (32 * n) (32 * n + 32)) 30 32 ≡ two
  entry-counted two is byte =
      let s : List ℕ = slice_range new (32 * n) (32 * n + 32) in
      let here : length (slice_range s 30 32) ≡ 2 = omega (arith, length-take 2 (drop 30 s), length-drop 30 s, slot-long)
      in
      same_number_lists (slice_range s 30 32) two (here ∙ sym is)
      (λ k lt. let small : k < 2 = omega (arith, lt, here) in
      let at : 30 + k ≡ 2 + (28 + k) = omega arith in
      get_or-take 2 (drop 30 s) k 0 small ∙ get_or-drop 30 s k 0 ∙ ap (slice_index s) at
      ∙ entry-byte (28 + k) (omega (arith, small)) ∙ byte k small)

  pub entry-used : slice_index entry 0 ≢ 0 → (p : Place) → is_used (slot_in p new n) ≡ true
  entry-used some p = ap not (ne_eqb (slice_index (slice_range new (32 * n) (32 * n + 32)) 2) 0
      (λ z. some (sym (entry-byte 0 (omega arith)) ∙ z)))

  -- the other slots stay
  pub entry-apart : (p : Place) (k : ℕ) → k < 8 → k ≢ n → slot_in p old k ≡ slot_in p new k
  entry-apart p k lt ne = ap (λ (bs : List ℕ). record { sector = p; number = k; bytes = bs })
      (range-piece old k ∙ piece-same 32 k old new (omega (arith, h.old_long, lt)) (omega (arith, h.long, lt))
      (λ i a b. sym (h.rest i (outside i a b))) ∙ sym (range-piece new k))
    where
      outside : (i : ℕ) → k * 32 ≤ i → i < k * 32 + 32 → (i < 32 * n) ⊎ (32 * n + 32 ≤ i)
      outside i a b = elim (cases_lt k n)
          [ inl less ↦ inl (omega (arith, a, b, less)) | inr more ↦ inr (omega (arith, a, b, more, ne)) ]

  pub entry-links : (slice_index old 0 ≡ slice_index new 0) × (slice_index old 1 ≡ slice_index new 1)
  entry-links = (sym (h.link 0 (omega arith)), sym (h.link 1 (omega arith)))
