-- A record written in place leaves its file whole.
use Rattle.std.proofs.Common.{◌≡◌, ℕ, ◌+◌, ◌-◌, ◌*◌, ◌/◌, ◌<◌, ◌≤◌, inl, inr, List, [], ◌∷◌, ◌++◌, length, max, refl, sym}
use Rattle.std.proofs.Common.{◌∙◌, ap, arith, subst, slice_index, length-append}
use Rattle.std.proofs.Math.Nat.{div-mul-le_self}
use Rattle.std.specs.Prelude.{Some, drop, min, slice_get, ◌||◌}
use Rattle.d64_image.proofs.Images.{is_sector, put_is_image, sector-put_other, sector-put_same}
use Rattle.d64_image.proofs.Places.{same_or_other}
use Rattle.d64_image.specs.Images.{Image, IsImage, Sector, put, sector}
use Rattle.d64_image.specs.declared.place.Place.{Place}
use Rattle.disk_layout.proofs.lemmas.growth.GrowthRecords.{get-seam}
use Rattle.disk_layout.proofs.lemmas.layouts.Layouts.{get-contains}
use Rattle.disk_layout.proofs.lemmas.records.Joined.{sector-long}
use Rattle.disk_layout.proofs.lemmas.records.Pieces.{row-le}
use Rattle.disk_layout.specs.Chain.{byte}
use Rattle.layout_check.specs.Keeping.{IsCleanBut}
use Rattle.disk_layout.specs.Layout.{File, IsRelFile, Layout, record_length}
use Rattle.disk_layout.specs.Records.{record_count}
use Rattle.rel_records.proofs.lemmas.steps.Sided.{get-once}
use Rattle.rel_records.proofs.lemmas.reading.Opened.{file-rel}
use Rattle.rel_records.proofs.lemmas.writing.Bytes.{patched-low}
use Rattle.rel_records.proofs.lemmas.writing.OneBlock.{one-more, patched-sector, same-count}
use Rattle.rel_records.proofs.lemmas.writing.Writings.{block-of, block-stays, keeps-block}
use Rattle.disk_layout.proofs.lemmas.whole.Files.{HasEnd, not-zeros}
use Rattle.rel_records.proofs.lemmas.whole.Files.{clean-whole}
use Rattle.rel_records.specs.File.{IsFileOf, length_of, records_in}
use Rattle.disk_layout.specs.Listed.{is_plain}
use Rattle.disk_layout.specs.Whole.{IsWhole}
use Rattle.rel_records.specs.Written.{patched}
use Rattle.rel_records.specs.declared.rel_file.RelFile.{RelFile}

-- where the last block has no byte of a record none is there that reaches into it
pub none-reaches : (n L r : ℕ) → 1 ≤ r → r ≤ record_count n 0 L → r * L ≤ 254 * (n - 1)
unfolding record_count
none-reaches n L r low high =
    let count : ℕ = (254 * (n - 1) + max 0 1 - 1) / L in
    let within : count * L ≤ 254 * (n - 1) + max 0 1 - 1 = div-mul-le_self (254 * (n - 1) + max 0 1 - 1) L in
    let one : max 0 1 ≡ 1 = refl in
    omega (arith, within, one, row-le (r - 1) count L (omega (arith, low, high)), one-more r L low)

-- a write to block i, into which a record reaches, keeps the last block from being a sector of zeros
pub end-stays : (img : Image) (f : File) (i r : ℕ) (p : Place) (bytes : Sector) → IsImage img → IsRelFile img f
    → slice_get f.blocks i ≡ Some p → slice_index bytes 1 ≡ byte img p 1 → 1 ≤ r
    → r ≤ record_count (length f.blocks) f.last (record_length f.slot) → 254 * i < r * record_length f.slot
    → HasEnd img f → HasEnd (put img p bytes) f
end-stays img f i r p bytes w rel at link low high reach end q last = elim (same_or_other p q) [
  | inl e ↦ not-zeros (sector (put img p bytes) q) 1 (λ z. absurd (none (zero-last e z)))
  | inr ne ↦ λ z. end q last (sym (sector-put_other img p q bytes ne) ∙ z)
]
  where
    N : ℕ
    N = length f.blocks

    -- the block is the last, and the file's last index 0
    zero-last : p ≡ q → slice_index (sector (put img p bytes) q) 1 ≡ 0 → (i ≡ N - 1) × (f.last ≡ 0)
    zero-last e z =
        let c = rel.chain.2 in
        let here : slice_get f.blocks (N - 1) ≡ Some p = last ∙ ap Some (sym e) in
        let number : i ≡ N - 1 = get-once f.blocks i (N - 1) p c.once at here in
        let front : N - 1 ≡ length c.front = omega (arith, ap length c.places, length-append c.front (c.last ∷ [])) in
        let end-at : slice_get f.blocks (N - 1) ≡ Some c.last =
        ap (λ xs. slice_get xs (N - 1)) c.places ∙ ap (slice_get (c.front ++ c.last ∷ [])) front
        ∙ get-seam c.front [] c.last in
        let both : Some c.last ≡ Some p = sym end-at ∙ here in
        let same : c.last ≡ p = cc in
        let new : sector (put img p bytes) q ≡ bytes = ap (sector (put img p bytes)) (sym e)
        ∙ sector-put_same img p bytes w.size in
        (number, sym c.ends.1 ∙ ap (λ x. byte img x 1) same ∙ sym link ∙ sym (ap (λ (b : Sector). slice_index b 1) new) ∙ z)

    none : (i ≡ N - 1) × (f.last ≡ 0) → ⊥
    none (number, zero') =
        let P : ℕ → Type 0 = λ u. r ≤ record_count N u (record_length f.slot) in
        omega (arith, none-reaches N (record_length f.slot) r low (subst P zero' high), reach, ap (λ k. 254 * k) number)

-- so the files stay whole, where the write keeps the block's link
pub block-whole : {strays : List Place} (img : Image) (l : Layout) (n : ℕ) (f : File) (v : RelFile) (i r : ℕ) (p : Place) (bytes : Sector)
    → IsImage img → IsFileOf img l n f v → IsCleanBut strays img l → slice_get f.blocks i ≡ Some p
    → slice_index bytes 0 ≡ byte img p 0 → slice_index bytes 1 ≡ byte img p 1 → 1 ≤ r → r ≤ records_in v
    → 254 * i < r * length_of v → IsWhole img → IsWhole (put img p bytes)
block-whole img l n f v i r p bytes w of clean at link index low high reach is =
    clean-whole img (put img p bytes) l l n f of.layout (block-stays img l n f v i p bytes w of at link index _ clean)
    (keeps-block img l n f p bytes of.layout of.there (get-contains f.blocks i p at)) of.there of.rel
    (end-stays img f i r p bytes w (file-rel img l n f v of) at index low
    (omega (arith, high, same-count img l n f v of)) (rw (← of.shows.size) reach)
    (λ q last. (is l of.layout n f of.there).ended (ap (λ b. b || is_plain f.slot) of.rel) q last)) is

module _ (img : Image) (l : Layout) (n : ℕ) (f : File) (v : RelFile) (of : IsFileOf img l n f v) (w : IsImage img) where
  -- a text is written into a record, all of it in one block
  pub one-whole : {strays : List Place} (block r pos : ℕ) (p : Place) (text : List ℕ) → ((i : ℕ) → slice_index text i < 256)
      → IsCleanBut strays img l → slice_get f.blocks block ≡ Some p → 1 ≤ r → r ≤ records_in v → 1 ≤ pos → pos ≤ length_of v
      → 254 * block ≤ (r - 1) * length_of v + (pos - 1) → r * length_of v ≤ 254 * block + 254 → IsWhole img → IsWhole
      (put img p (patched ((r - 1) * length_of v + (pos - 1) - 254 * block) (r * length_of v - 254 * block) text
      (sector img p)))
  one-whole block r pos p text small clean at low high pos_low pos_high from to =
      let s : ℕ = (r - 1) * length_of v + (pos - 1) - 254 * block in
      let e : ℕ = r * length_of v - 254 * block in
      let more = one-more r (length_of v) low in
      let order : s ≤ e = omega (arith, more, pos_high, from) in
      let room : e ≤ 254 = omega (arith, to) in
      let long = sector-long img p w in
      block-whole img l n f v block r p (patched s e text (sector img p)) w of clean at
      (patched-low s e text (sector img p) 0 long order room (omega arith))
      (patched-low s e text (sector img p) 1 long order room (omega arith)) low high
      (omega (arith, more, pos_low, pos_high, from))

-- a text is written into record r, which begins in the block at p and goes on in the next, at q
module _ (img : Image) (l : Layout) (n : ℕ) (f : File) (v : RelFile) (w : IsImage img) (of : IsFileOf img l n f v)
    {strays : List Place} (clean : IsCleanBut strays img l)
    (block r pos : ℕ) (p q : Place) (text : List ℕ) (small : (i : ℕ) → slice_index text i < 256)
    (at : slice_get f.blocks block ≡ Some p) (to : slice_get f.blocks (block + 1) ≡ Some q)
    (low : 1 ≤ r) (high : r ≤ records_in v) (pos_low : 1 ≤ pos) (pos_high : pos ≤ length_of v)
    (from : 254 * block ≤ (r - 1) * length_of v + (pos - 1)) (inside : (r - 1) * length_of v + (pos - 1) < 254 * block
    + 254)
    (over : 254 * block + 254 < r * length_of v) where
  abbrev s : ℕ
  s = (r - 1) * length_of v + (pos - 1) - 254 * block

  abbrev bytes : Sector
  bytes = patched s 254 text (sector img p)

  order : s ≤ 254
  order = omega (arith, inside, from)

  link : slice_index bytes 0 ≡ byte img p 0
  link = patched-low s 254 text (sector img p) 0 (sector-long img p w) order (omega arith) (omega arith)

  index : slice_index bytes 1 ≡ byte img p 1
  index = patched-low s 254 text (sector img p) 1 (sector-long img p w) order (omega arith) (omega arith)

  pub half-whole : IsWhole img → IsWhole (put img p bytes)
  half-whole = block-whole img l n f v block r p bytes w of clean at link index low high (omega (arith, over))

  -- in both of them
  pub both-whole : IsWhole img → IsWhole (put (put img p bytes) q (patched 0 (r * length_of v - 254 * block - 254)
      (drop (min (length text) (254 - s)) text) (sector (put img p bytes) q)))
  both-whole whole =
      let i : Image = put img p bytes in
      let u : IsImage i = put_is_image img p bytes w (patched-sector s 254 text (sector img p) (is_sector img p w) small
      order (omega arith)) in
      let still = block-stays img l n f v block p bytes w of at link index strays clean in
      let now = block-of img l n f v block p bytes w of at link index in
      let e : ℕ = r * length_of v - 254 * block - 254 in
      let rest : List ℕ = drop (min (length text) (254 - s)) text in
      let short : e ≤ 254 = omega (arith, inside, one-more r (length_of v) low, v.size_high) in
      let long = sector-long i q u in
      block-whole i l n f v (block + 1) r q (patched 0 e rest (sector i q)) u now still to
      (patched-low 0 e rest (sector i q) 0 long (omega arith) short (omega arith))
      (patched-low 0 e rest (sector i q) 1 long (omega arith) short (omega arith)) low high (omega (arith, over))
      (half-whole whole)
