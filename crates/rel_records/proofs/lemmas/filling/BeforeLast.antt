-- The block before the last is filled, where the first new record begins there.
use Rattle.std.proofs.Common.{◌≡◌, ℕ, ◌-◌, ◌*◌, ◌<◌, ◌≤◌, ◌⊎◌, inl, inr, List, length, refl, sym, ◌∙◌, ap, ap₂, arith}
use Rattle.std.proofs.Common.{subst, append-nil}
use Rattle.std.specs.Prelude.{Some, slice_get}
use Rattle.d64_image.proofs.Images.{put_is_image}
use Rattle.d64_image.specs.Images.{Image, IsImage, Sector}
use Rattle.d64_image.specs.declared.place.Place.{Place}
use Rattle.disk_layout.specs.Layout.{File, Layout, file_owns, record_length}
use Rattle.disk_layout.specs.Records.{records}
use Rattle.rel_records.specs.Others.{HasRecords, KeepsPlaces}
use Rattle.rel_records.specs.Written.{IsGrowingBy, grown_by}
use Rattle.rel_records.specs.declared.growth.step_parts.Growing.{Growing}
use Rattle.rel_records.specs.growth.Growth.{full, records_had}
use Rattle.rel_records.specs.growth.Steps.{FillsBefore, HasFilled, IsAt, IsTailOf}
use Rattle.rel_records.proofs.lemmas.filling.ReadyToEnd.{IsReadyToEnd, from, ready-at-once, ready-has}
use Rattle.rel_records.proofs.lemmas.filling.ReadyToEnd.{ready-with-tail, total}
use Rattle.rel_records.proofs.lemmas.whole.Filled.{ready-whole}

-- the image before the last block is written is ready for that
module _ (a : Image) (l : Layout) (n : ℕ) (f : File) (p : Growing) (w : IsImage a) (at : IsAt a l n f p) where
  size-tail : (start sum : ℕ) (q : Place) (bytes : Sector) → start ≡ records_had f * record_length f.slot
      → sum ≡ full (record_length f.slot) (length f.blocks)
      → IsTailOf a q (254 * (length p.blocks.items - 2)) start p.size sum bytes
      → IsTailOf a q (254 * (length f.blocks - 2)) (records_had f * record_length f.slot) (record_length f.slot)
      (full (record_length f.slot) (length f.blocks)) bytes
  size-tail start sum q bytes ef et t =
      let P : ℕ → Type 0 = λ k. IsTailOf a q (254 * (k - 2)) (records_had f * record_length f.slot)
      (record_length f.slot) (full (record_length f.slot) (length f.blocks)) bytes in
      let Q : ℕ → Type 0 = λ L. IsTailOf a q (254 * (length p.blocks.items - 2)) (records_had f * record_length f.slot)
      L (full (record_length f.slot) (length f.blocks)) bytes in
      let R : ℕ → Type 0 = λ k. IsTailOf a q (254 * (length p.blocks.items - 2)) k p.size
      (full (record_length f.slot) (length f.blocks)) bytes in
      let T : ℕ → Type 0 = λ k. IsTailOf a q (254 * (length p.blocks.items - 2)) start p.size k bytes in
      subst P (ap length at.blocks) (subst Q at.size (subst R ef (subst T et t)))

  pub ready-then : (from total : ℕ) (c : Image) → from ≡ records_had f * record_length f.slot
      → total ≡ full (record_length f.slot) (length f.blocks) → FillsBefore a p from total c → IsReadyToEnd a c l n f p
  ready-then from total c ef et (inl (le, e)) =
      let P : Image → Type 0 = λ i. IsReadyToEnd a i l n f p in
      subst P (sym e) (ready-at-once a l n f p w at (omega (arith, le, ef, ap length at.blocks)))
  ready-then from total c ef et (inr (lt, (q, bytes, here, tail, e))) =
      let P : Image → Type 0 = λ i. IsReadyToEnd a i l n f p in
      let there : slice_get f.blocks (length f.blocks - 2) ≡ Some q = ap₂ (λ xs k. slice_get xs (k - 2)) (sym at.blocks)
      (sym (ap length at.blocks)) ∙ here in
      subst P (sym e) (ready-with-tail a l n f p w at q bytes there (omega (arith, lt, ef, ap length at.blocks))
      (size-tail from total q bytes ef et tail) (put_is_image a q bytes w tail.is_sector))

  -- and an image of growth, as the old one is
  pub ready-grows : (m : ℕ) (c : Image) → IsReadyToEnd a c l n f p → IsGrowingBy a l n f m c
  ready-grows m c r =
      let P : List (List ℕ) → Type 0 = HasRecords a c l n in (
        0,
        omega arith,
        subst P (sym (append-nil (records a f))) (ready-has a c l n f p at.there r),
        λ never. ready-whole a c l n f p at r,
      )

  pub old-grows : (m : ℕ) → IsGrowingBy a l n f m a
  old-grows m =
      let P : List (List ℕ) → Type 0 = HasRecords a a l n in (
        0,
        omega arith,
        subst P (sym (append-nil (records a f))) (record {
          layout = l;
          is_layout = at.clean.layout;
          others = record {
            directory = refl;
            entries = refl;
            files = λ k g ne h. h;
            bytes = λ k g ne h. refl;
            header = refl;
          };
          file = f;
          there = at.there;
          records = refl;
          places = λ y e. let same : f ≡ y = cc in
              (let Q : File → Type 0 = λ z. (length (records a z) ≤ length (records a f))
              × ((file_owns f ≡ file_owns z) ⊎ (length (records a z) < length (records a f))) in
              subst Q same (omega arith, inl refl));
        }),
        λ never w. w,
      )

  -- nothing was to be filled
  pub filled-already : records_had f ≡ full (record_length f.slot) (length f.blocks) → HasFilled a a l n f p p
  filled-already e = record {
    run = record {
      layout = l;
      file = f;
      at = at;
      stays = λ strays clean. clean;
      others = record {
        directory = refl;
        entries = refl;
        files = λ k g ne h. h;
        bytes = λ k g ne h. refl;
        header = refl;
      };
      records_are =
          let z : full (record_length f.slot) (length f.blocks) - records_had f ≡ 0 = omega (arith, e) in
          sym (ap (λ k. grown_by (record_length f.slot) k (records a f)) z ∙ append-nil (records a f));
      same_size = refl;
      places =
          let z : full (record_length f.slot) (length f.blocks) - records_had f ≡ 0 = omega (arith, e) in
          let P : List (List ℕ) → Type 0 = KeepsPlaces a f f in
          subst P (sym (ap (λ k. grown_by (record_length f.slot) k (records a f)) z ∙ append-nil (records a f)))
          (omega arith, inl refl);
      count = refl;
      filled = e;
    };
    blocks = refl;
    map = refl;
  }
