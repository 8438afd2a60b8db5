-- A text written over bytes of one block, seen in the joined data of a file.
use Rattle.std.proofs.Common.{List, Some, ap, arith, get_or, inl, inr, slice_index, subst, sym, ℕ, ◌*◌, ◌+◌, ◌-◌, ◌<◌}
use Rattle.std.proofs.Common.{◌∙◌, ◌≡◌, ◌≤◌, ◌⊎◌}
use Rattle.std.proofs.lemmas.Bool.{cases_lt}
use Rattle.std.specs.Prelude.{slice_get}
use Rattle.d64_image.proofs.Images.{sector-put_same}
use Rattle.d64_image.specs.Images.{Image, IsImage, put, sector}
use Rattle.d64_image.specs.declared.place.Place.{Place}
use Rattle.disk_layout.proofs.lemmas.records.Joined.{joined-at, joined-block, sector-long}
use Rattle.disk_layout.proofs.lemmas.records.RecordWrites.{ChangesRecord}
use Rattle.disk_layout.specs.Chain.{EachOnce}
use Rattle.disk_layout.specs.Layout.{File, record_length}
use Rattle.disk_layout.specs.Records.{joined}
use Rattle.rel_records.proofs.lemmas.writing.Bytes.{patched-high, patched-in, patched-low}
use Rattle.rel_records.specs.Written.{patched}

module _ (img : Image) (ps : List Place) (r s e : ℕ) (p : Place) (text : List ℕ) (w : IsImage img)
    (v : IsImage (put img p (patched s e text (sector img p)))) (once : EachOnce ps) (at : slice_get ps r ≡ Some p)
    (order : s ≤ e) (room : e ≤ 254) where
  abbrev new : Image
  new = put img p (patched s e text (sector img p))

  -- byte j of the block
  here : (j : ℕ) → j < 254 → get_or (joined new ps) (254 * r + j) 0 ≡ slice_index (patched s e text (sector img p))
      (2 + j)
  here j h = joined-at new ps r j p v at h
      ∙ ap (λ (b : List ℕ). slice_index b (2 + j)) (sector-put_same img p (patched s e text (sector img p)) w.size)

  same-here : (j : ℕ) → j < 254 → (j < s) ⊎ (e ≤ j) → get_or (joined new ps) (254 * r + j) 0 ≡ get_or (joined img ps)
      (254 * r + j) 0
  same-here j h (inl low) = here j h ∙ patched-low s e text (sector img p) (2 + j) (sector-long img p w) order room
      (omega (arith, low)) ∙ sym (joined-at img ps r j p w at h)
  same-here j h (inr high) = here j h ∙ patched-high s e text (sector img p) j (sector-long img p w) order room high
      ∙ sym (joined-at img ps r j p w at h)

  pub joined-outside : (x : ℕ) → (x < 254 * r + s) ⊎ (254 * r + e ≤ x)
      → get_or (joined new ps) x 0 ≡ get_or (joined img ps) x 0
  joined-outside x out = elim (cases_lt x (254 * r)) [
    | inl a ↦ joined-block img ps r p (patched s e text (sector img p)) w v once at x (inl a)
    | inr a ↦ elim (cases_lt x (254 * r + 254)) [
      | inl c ↦
          let eq : 254 * r + (x - 254 * r) ≡ x = omega (arith, a) in
          subst (λ (n : ℕ). get_or (joined new ps) n 0 ≡ get_or (joined img ps) n 0) eq
          (same-here (x - 254 * r) (omega (arith, a, c)) (shift out a))
      | inr c ↦ joined-block img ps r p (patched s e text (sector img p)) w v once at x (inr c)
    ]
  ]
    where
      shift : (x < 254 * r + s) ⊎ (254 * r + e ≤ x) → 254 * r ≤ x → (x - 254 * r < s) ⊎ (e ≤ x - 254 * r)
      shift (inl h) a = inl (omega (arith, h, a))
      shift (inr h) a = inr (omega (arith, h, a))

  pub joined-inside : (x : ℕ) → 254 * r + s ≤ x → x < 254 * r + e
      → get_or (joined new ps) x 0 ≡ get_or text (x - (254 * r + s)) 0
  joined-inside x lo hi =
      let eq : 254 * r + (x - 254 * r) ≡ x = omega (arith, lo) in
      let n : (x - 254 * r) - s ≡ x - (254 * r + s) = omega (arith, lo) in
      subst (λ (m : ℕ). get_or (joined new ps) m 0 ≡ get_or text (x - (254 * r + s)) 0) eq
      (here (x - 254 * r) (omega (arith, lo, hi, room))
      ∙ patched-in s e text (sector img p) (x - 254 * r) (sector-long img p w) room (omega (arith, lo))
      (omega (arith, lo, hi))
      ∙ ap (λ (m : ℕ). get_or text m 0) n)

-- only bytes of record k change, where the patched ones lie in it
pub patched-changes : (img : Image) (f : File) (r s e k : ℕ) (p : Place) (text : List ℕ) → IsImage img → s ≤ e → e ≤ 254
    → k * record_length f.slot ≤ 254 * r + s → 254 * r + e ≤ k * record_length f.slot + record_length f.slot
    → ChangesRecord f r k (sector img p) (patched s e text (sector img p))
patched-changes img f r s e k p text w order room low high j h (inl out) = patched-low s e text (sector img p) (2 + j)
    (sector-long img p w) order room (omega (arith, low, out))
patched-changes img f r s e k p text w order room low high j h (inr out) =
    patched-high s e text (sector img p) j (sector-long img p w) order room (omega (arith, high, out))
