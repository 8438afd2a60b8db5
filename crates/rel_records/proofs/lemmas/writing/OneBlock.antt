-- A record that is written in one block: what is left, and what was held.
use Rattle.std.proofs.Common.{append-nil, List, Some, ap, ap₂, arith, inl, inr, length, slice_index, subst, sym, ℕ, suc}
use Rattle.std.proofs.Common.{zero, ◌*◌, ◌+◌, ◌-◌, ◌<◌, ◌∙◌, ◌≡◌, ◌≤◌}
use Rattle.std.proofs.lemmas.Bool.{cases_lt}
use Rattle.std.specs.Prelude.{slice_get}
use Rattle.d64_image.proofs.Images.{is_sector, put_is_image}
use Rattle.d64_image.specs.Images.{Image, IsImage, IsSector, put, sector}
use Rattle.d64_image.specs.Places.{place_at}
use Rattle.d64_image.specs.declared.place.Place.{Place}
use Rattle.disk_layout.proofs.lemmas.records.Pieces.{row-le}
use Rattle.disk_layout.specs.Chain.{named_at}
use Rattle.disk_layout.specs.Layout.{File, Layout, record_length}
use Rattle.disk_layout.specs.Records.{record_count, records}
use Rattle.rel_records.proofs.lemmas.Kept.{growing_same, leaves_has}
use Rattle.rel_records.proofs.lemmas.reading.Opened.{records-fit}
use Rattle.rel_records.proofs.lemmas.writing.Bytes.{length-patched, patched-high, patched-in, patched-low}
use Rattle.rel_records.proofs.lemmas.writing.Writings.{leaves-written}
use Rattle.rel_records.specs.File.{IsFileOf, length_of, records_in}
use Rattle.rel_records.specs.Others.{HasRecords, LeavesRecords}
use Rattle.disk_layout.specs.Whole.{IsWhole}
use Rattle.rel_records.specs.Written.{IsWriting, patched, with_half, with_written}
use Rattle.rel_records.specs.declared.rel_file.RelFile.{RelFile}

-- a record more
pub one-more : (r L : ℕ) → 1 ≤ r → r * L ≡ (r - 1) * L + L
one-more zero L h = absurd (omega (arith, h))
one-more (suc k) L h = let e : suc k - 1 ≡ k = omega arith in rw e (omega arith)

pub le-rows : (r L : ℕ) → 1 ≤ L → r ≤ r * L
le-rows zero L h = omega arith
le-rows (suc k) L h = omega (arith, h, le-rows k L h)

-- a patched sector is one of 256 bytes
pub patched-sector : (s e : ℕ) (text bytes : List ℕ) → IsSector bytes → ((i : ℕ) → slice_index text i < 256) → s ≤ e
    → e ≤ 254 → IsSector (patched s e text bytes)
patched-sector s e text bytes is small order room = record {
  size = length-patched s e text bytes is.size order room;
  small = λ i. elim (cases_lt i (2 + s)) [
    | inl low ↦ subst Small (sym (patched-low s e text bytes i is.size order room low)) (is.small i)
    | inr rest ↦ elim (cases_lt i (2 + e)) [
      | inl mid ↦ subst At (at i rest)
          (subst Small (sym (patched-in s e text bytes (i - 2) is.size room (omega (arith, rest))
          (omega (arith, rest, mid)))) (small ((i - 2) - s)))
      | inr high ↦ subst At (at i rest)
          (subst Small (sym (patched-high s e text bytes (i - 2) is.size order room (omega (arith, high))))
          (is.small (2 + (i - 2))))
    ]
  ];
}
  where
    Small : ℕ → Type 0
    Small x = x < 256

    At : ℕ → Type 0
    At i = slice_index (patched s e text bytes) i < 256

    at : (i : ℕ) → 2 + s ≤ i → 2 + (i - 2) ≡ i
    at i le = omega (arith, le)

pub same-count : (img : Image) (l : Layout) (n : ℕ) (f : File) (v : RelFile) → IsFileOf img l n f v
    → records_in v ≡ record_count (length f.blocks) f.last (record_length f.slot)
same-count img l n f v of = ap (λ (b : ℕ). record_count b v.last v.size) of.shows.blocks
    ∙ ap (λ (u : ℕ). record_count (length f.blocks) u v.size) of.shows.last
    ∙ ap (record_count (length f.blocks) f.last) of.shows.size

module _ (img : Image) (l : Layout) (n : ℕ) (f : File) (v : RelFile) (of : IsFileOf img l n f v) (w : IsImage img) where
  -- records that are there lie in the blocks
  pub inside-blocks : (r : ℕ) → 1 ≤ r → r ≤ records_in v → r * length_of v ≤ 254 * length f.blocks
  inside-blocks r low high =
      let fit : records_in v * length_of v ≤ 254 * length f.blocks = rw (same-count img l n f v of, of.shows.size)
      (records-fit img l n f v of w) in
      omega (
        arith,
        fit,
        row-le (r - 1) (records_in v) (length_of v) (omega (arith, low, high)),
        one-more r (length_of v) low,
      )

  pub leaves-one : (block r pos : ℕ) (p : Place) (text : List ℕ) → ((i : ℕ) → slice_index text i < 256)
      → slice_get f.blocks block ≡ Some p → 1 ≤ r → r ≤ records_in v → 1 ≤ pos → pos ≤ length_of v
      → 254 * block ≤ (r - 1) * length_of v + (pos - 1) → r * length_of v ≤ 254 * block + 254
      → LeavesRecords img
      (put img p (patched ((r - 1) * length_of v + (pos - 1) - 254 * block) (r * length_of v - 254 * block) text
      (sector img p))) l n (with_written (record_length f.slot) r pos text (records img f)) v
  leaves-one block r pos p text small at low high pos_low pos_high from to =
      let s : ℕ = (r - 1) * length_of v + (pos - 1) - 254 * block in
      let e : ℕ = r * length_of v - 254 * block in
      let more = one-more r (length_of v) low in
      let order : s ≤ e = omega (arith, more, pos_high, from) in
      let room : e ≤ 254 = omega (arith, to) in
      let u : IsImage (put img p (patched s e text (sector img p))) =
      put_is_image img p (patched s e text (sector img p)) w
      (patched-sector s e text (sector img p) (is_sector img p w) small order room) in
      let index : (r - 1) + 1 ≡ r = omega (arith, low) in
      let Q : ℕ → Type 0 = λ i. LeavesRecords img (put img p (patched s e text (sector img p))) l n
      (with_written (record_length f.slot) i pos text (records img f)) v in
      subst Q index (leaves-written img l n f v block s e (r - 1) pos p text w u of at room pos_low
      (omega (arith, pos_high, of.shows.size))
      (rw (← of.shows.size) (omega (arith, from)))
      (rw (← of.shows.size) (omega (arith, more, from, pos_high)))
      (omega (arith, same-count img l n f v of, low, high)))

-- the images that are held while a text is written into a record that is there: the old one, and those with it in part
-- or whole
module _ (img after : Image) (l : Layout) (n : ℕ) (f : File) (v : RelFile) (r pos : ℕ) (text : List ℕ) where
  pub old-moment : IsFileOf img l n f v → IsWriting img l n f 0 r pos text img
  old-moment of = inl (growing_same img l n f v 0 of)

  pub half-moment : LeavesRecords img after l n (with_half (record_length f.slot) r pos text (records img f)) v
      → (IsWhole img → IsWhole after) → IsWriting img l n f 0 r pos text after
  half-moment h kept =
      let P : List (List ℕ)
      → Type 0 = λ rs. HasRecords img after l n (with_half (record_length f.slot) r pos text rs) in
      inr (inl (subst P (sym (append-nil (records img f))) (leaves_has img after l n _ v h), λ never. kept))

  pub whole-moment : LeavesRecords img after l n (with_written (record_length f.slot) r pos text (records img f)) v
      → (IsWhole img → IsWhole after) → IsWriting img l n f 0 r pos text after
  whole-moment h kept =
      let P : List (List ℕ)
      → Type 0 = λ rs. HasRecords img after l n (with_written (record_length f.slot) r pos text rs) in
      inr (inr (subst P (sym (append-nil (records img f))) (leaves_has img after l n _ v h), λ never. kept))

-- the link of a patched block is that of the block that was read
pub patched-next : (s e : ℕ) (text read new bytes : List ℕ) → s ≤ e → e ≤ 254 → length read ≡ 256
    → new ≡ patched s e text read → read ≡ bytes → place_at (slice_index new 0) (slice_index new 1) ≡ named_at bytes 0
patched-next s e text read new bytes le room long is same =
    let low = ap (λ (b : List ℕ). slice_index b 0) is ∙ patched-low s e text read 0 long le room (omega arith) in
    let high = ap (λ (b : List ℕ). slice_index b 1) is ∙ patched-low s e text read 1 long le room (omega arith) in
    ap₂ place_at low high ∙ ap (λ (b : List ℕ). named_at b 0) same
