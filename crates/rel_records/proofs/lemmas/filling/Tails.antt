-- A data block whose bytes behind the records become empty records: the joined data of the file.
use Rattle.std.proofs.Common.{◌≡◌, ℕ, ◌+◌, ◌-◌, ◌*◌, ◌<◌, ◌≤◌, ◌⊎◌, inl, inr, List, get_or, length, slice_index, sym}
use Rattle.std.proofs.Common.{◌∙◌, ap, arith, subst}
use Rattle.std.specs.Prelude.{Bool, Some, false, if◌then◌else◌, nat_eq, nat_lt, slice_get, true, ◌%◌, ◌&&◌}
use Rattle.std.proofs.lemmas.Bool.{cases_lt}
use Rattle.std.proofs.lemmas.List.{get_or_past}
use Rattle.d64_image.proofs.Images.{sector-put_same}
use Rattle.d64_image.specs.Images.{Image, IsImage, IsSector, Sector, put}
use Rattle.d64_image.specs.declared.place.Place.{Place}
use Rattle.disk_layout.proofs.lemmas.records.Joined.{joined-at, joined-block}
use Rattle.disk_layout.specs.Chain.{EachOnce, byte}
use Rattle.disk_layout.specs.Records.{filler, joined}

module _ (x : Image) (ps : List Place) (r from L total : ℕ) (p : Place) (b : Sector) (w : IsImage x)
    (v : IsImage (put x p b)) (once : EachOnce ps) (at : slice_get ps r ≡ Some p)
    (kept : (j : ℕ) → j < 254 → 254 * r + j < from → slice_index b (2 + j) ≡ byte x p (2 + j))
    (filled : (j : ℕ) → j < 254 → from ≤ 254 * r + j → slice_index b (2 + j) ≡ filler L total (254 * r + j)) where
  here : (i : ℕ) → 254 * r ≤ i → i < 254 * r + 254
      → get_or (joined (put x p b) ps) i 0 ≡ slice_index b (2 + (i - 254 * r))
  here i lo hi =
      let e : 254 * r + (i - 254 * r) ≡ i = omega arith in
      ap (λ k. get_or (joined (put x p b) ps) k 0) (sym e)
      ∙ joined-at (put x p b) ps r (i - 254 * r) p v at (omega arith)
      ∙ ap (λ s. slice_index s (2 + (i - 254 * r))) (sector-put_same x p b w.size)

  -- other blocks keep their bytes
  pub tail-other : (i : ℕ) → (i < 254 * r) ⊎ (254 * r + 254 ≤ i)
      → get_or (joined (put x p b) ps) i 0 ≡ get_or (joined x ps) i 0
  tail-other i out = joined-block x ps r p b w v once at i out

  -- the bytes before stay
  pub tail-before : (i : ℕ) → i < from → get_or (joined (put x p b) ps) i 0 ≡ get_or (joined x ps) i 0
  tail-before i low = elim (cases_lt i (254 * r)) [
    | inl lt ↦ tail-other i (inl lt)
    | inr ge ↦ elim (cases_lt i (254 * r + 254)) [
      | inr past ↦ tail-other i (inr past)
      | inl lt ↦
          let e : 254 * r + (i - 254 * r) ≡ i = omega arith in
          here i ge lt
          ∙ kept (i - 254 * r) (omega arith) (omega arith)
          ∙ sym (joined-at x ps r (i - 254 * r) p w at (omega arith))
          ∙ ap (λ k. get_or (joined x ps) k 0) e
    ]
  ]

  -- and those of this block from there on are the filler's
  pub tail-new : (i : ℕ) → from ≤ i → 254 * r ≤ i → i < 254 * r + 254
      → get_or (joined (put x p b) ps) i 0 ≡ filler L total i
  tail-new i high lo hi =
      let e : 254 * r + (i - 254 * r) ≡ i = omega arith in
      here i lo hi ∙ filled (i - 254 * r) (omega arith) (omega arith) ∙ ap (filler L total) e

-- a filled block is one of 256 bytes
pub filled-sector : (old new : Sector) (at from L total : ℕ) → ((i : ℕ) → slice_index old i < 256) → length new ≡ 256
    → ((j : ℕ) → j < 2 → slice_index new j ≡ slice_index old j)
    → ((j : ℕ) → j < 254 → at + j < from → slice_index new (2 + j) ≡ slice_index old (2 + j))
    → ((j : ℕ) → j < 254 → from ≤ at + j → slice_index new (2 + j) ≡ filler L total (at + j)) → IsSector new
filled-sector old new at from L total small long link kept filled = record { size = long; small = each }
  where
    filler-small : (k : ℕ) → filler L total k < 256
    filler-small k = by (nat_eq (k % L) 0 && nat_lt k (total * L))
      where
        by : (b : Bool) → (if b then 255 else 0) < 256
        by true = omega arith
        by false = omega arith

    behind : (j : ℕ) → j < 254 → slice_index new (2 + j) < 256
    behind j lt = elim (cases_lt (at + j) from) [
      | inl low ↦ omega (arith, kept j lt low, small (2 + j))
      | inr high ↦ omega (arith, filled j lt high, filler-small (at + j))
    ]

    each : (i : ℕ) → slice_index new i < 256
    each i = elim (cases_lt i 2) [
      | inl lt ↦ omega (arith, link i lt, small i)
      | inr ge ↦ elim (cases_lt i 256) [
        | inl below ↦
            let e : 2 + (i - 2) ≡ i = omega arith in
            let P : ℕ → Type 0 = λ k. slice_index new k < 256 in
            subst P e (behind (i - 2) (omega arith))
        | inr past ↦ omega (arith, get_or_past new i 0 (omega (arith, long)))
      ]
    ]
