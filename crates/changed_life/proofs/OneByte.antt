-- A slot of a directory sector whose type is written over.
use Rattle.std.proofs.Common.{◌≡◌, ◌≢◌, ◌<◌, ◌≤◌, ◌+◌, ◌*◌, ◌∙◌, ℕ, zero, suc, List, [], ◌∷◌, ap, arith, drop, get_or, inr, length, length-drop, length-take, refl, slice_index, sym}
use Rattle.std.specs.Prelude.{slice_range}
use Rattle.std.specs.Simd.{first_chunks}
use Rattle.d64_image.proofs.Places.{index_below}
use Rattle.d64_image.specs.Images.{Image, Sector, sector}
use Rattle.d64_image.specs.Memory.{sectors_in}
use Rattle.d64_image.specs.Offsets.{overwritten}
use Rattle.d64_image.specs.Places.{index_of}
use Rattle.d64_image.specs.declared.place.Place.{Place}
use Rattle.disk_layout.proofs.lemmas.counts.Counts.{range-piece}
use Rattle.disk_layout.proofs.lemmas.records.Pieces.{length-piece}
use Rattle.disk_layout.specs.Directory.{slot_in, type_byte}
use Rattle.disk_layout.specs.declared.slot.Slot.{Slot}
use Rattle.file_changes.proofs.Overwritten.{over-before, over-in, over-other, over-slot, over-slots}

-- the sectors of an image of 174,848 bytes
chunk-count : (k : ℕ) (bs : List ℕ) → length (first_chunks 256 k bs) ≡ k
chunk-count zero bs = refl
chunk-count (suc k) bs = ap suc (chunk-count k (drop 256 bs))

chunk-size : (k i : ℕ) (bs : List ℕ) → i < k → 256 * k ≤ length bs → length (get_or (first_chunks 256 k bs) i []) ≡ 256
chunk-size zero i bs lt long = absurd (omega (arith, lt))
chunk-size (suc k) zero bs lt long = omega (arith, long, length-take 256 bs)
chunk-size (suc k) (suc i) bs lt long = chunk-size k i (drop 256 bs) (omega (arith, lt))
    (omega (arith, long, length-drop 256 bs))

pub sectors-full : (image : List ℕ) → length (sectors_in image) ≡ 683
unfolding sectors_in
sectors-full image = chunk-count 683 image

pub sector-size : (image : List ℕ) (p : Place) → length image ≡ 174848 → length (sector (sectors_in image) p) ≡ 256
unfolding sectors_in sector
sector-size image p size = chunk-size 683 (index_of p) image (index_below p) (omega (arith, size))

-- the name of a slot whose type is written over
name-kept : (bs : List ℕ) (t : ℕ) → 3 ≤ length bs → slice_range (overwritten bs 2 (t ∷ [])) 5 21 ≡ slice_range bs 5 21
name-kept [] t long = absurd (omega (arith, long))
name-kept (x ∷ []) t long = absurd (omega (arith, long))
name-kept (x ∷ y ∷ []) t long = absurd (omega (arith, long))
name-kept (x ∷ y ∷ z ∷ zs) t long = refl

module _ (a : Image) (p : Place) (k t : ℕ) (size : length (sector a p) ≡ 256) (low : k < 8) where
  -- the sector as it is written
  abbrev pub retyped : Sector
  retyped = overwritten (sector a p) (32 * k + 2) (t ∷ [])

  inside : 32 * k + 2 + 1 ≤ length (sector a p)
  inside = omega (arith, size, low)

  pub others-stay : (j : ℕ) → j < 8 → j ≢ k → slot_in p (sector a p) j ≡ slot_in p retyped j
  others-stay j lt ne = ap (λ (bs : List ℕ). record { sector = p; number = j; bytes = bs })
      (over-slots (sector a p) (t ∷ []) k 2 size low (omega arith) j lt ne)

  pub links-stay : (slice_index (sector a p) 0 ≡ slice_index retyped 0) × (slice_index (sector a p) 1 ≡ slice_index retyped 1)
  links-stay = (
    sym (over-before (sector a p) (t ∷ []) (32 * k + 2) inside 0 (omega arith)),
    sym (over-before (sector a p) (t ∷ []) (32 * k + 2) inside 1 (omega arith)),
  )

  abbrev old : Slot
  old = slot_in p (sector a p) k

  abbrev new : Slot
  new = slot_in p retyped k

  long : length old.bytes ≡ 32
  long = ap length (range-piece (sector a p) k) ∙ length-piece 32 k (sector a p) (omega (arith, size, low))

  entry-now : new.bytes ≡ overwritten old.bytes 2 (t ∷ [])
  entry-now = over-slot (sector a p) (t ∷ []) k 2 size low (omega arith)

  pub type-now : type_byte new ≡ t
  type-now = ap (λ (bs : List ℕ). slice_index bs 2) entry-now
      ∙ over-in old.bytes (t ∷ []) 2 (omega (arith, long)) 2 (omega arith) (omega arith)

  -- a byte behind its type
  pub byte-stays : (i : ℕ) → 3 ≤ i → slice_index old.bytes i ≡ slice_index new.bytes i
  byte-stays i le = sym (ap (λ (bs : List ℕ). slice_index bs i) entry-now
      ∙ over-other old.bytes (t ∷ []) 2 (omega (arith, long)) i (inr (omega (arith, le))))

  pub name-stays : slice_range new.bytes 5 21 ≡ slice_range old.bytes 5 21
  name-stays = ap (λ (bs : List ℕ). slice_range bs 5 21) entry-now ∙ name-kept old.bytes t (omega (arith, long))
