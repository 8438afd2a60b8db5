-- A record across two blocks, by its number: what each of the two writes leaves, and what is held.
use Rattle.std.proofs.Common.{List, [], Some, ap, ap₂, refl, arith, drop, get_or, length, set, slice_index, subst, sym, take, ℕ, ◌*◌, ◌++◌, ◌+◌, ◌-◌, ◌<◌, ◌≡◌, ◌≤◌}
use Rattle.std.proofs.lemmas.List.{get_or-drop}
use Rattle.std.specs.Prelude.{min, slice_get}
use Rattle.d64_image.specs.Images.{Image, IsImage, put, sector}
use Rattle.d64_image.specs.declared.place.Place.{Place}
use Rattle.disk_layout.proofs.lemmas.records.Pieces.{piece}
use Rattle.disk_layout.proofs.lemmas.records.RecordWrites.{record-at}
use Rattle.disk_layout.specs.Layout.{File, Layout, record_length}
use Rattle.disk_layout.specs.Records.{joined, record_count, records}
use Rattle.rel_records.proofs.lemmas.writing.OneBlock.{one-more, same-count}
use Rattle.rel_records.proofs.lemmas.writing.TwoBlocks.{leaves-first, leaves-second}
use Rattle.rel_records.specs.File.{IsFileOf, length_of, records_in}
use Rattle.rel_records.specs.Others.{LeavesRecords}
use Rattle.rel_records.specs.Written.{patched, room_in_first, with_half, with_written, written}
use Rattle.rel_records.specs.declared.rel_file.RelFile.{RelFile}

-- record r begins in the block at p, and goes on in the next, at q; the text goes over its bytes from the position on
module _ (img : Image) (l : Layout) (n : ℕ) (f : File) (v : RelFile) (w : IsImage img) (of : IsFileOf img l n f v)
    (block r pos : ℕ) (p q : Place) (text : List ℕ) (small : (i : ℕ) → slice_index text i < 256)
    (at : slice_get f.blocks block ≡ Some p) (to : slice_get f.blocks (block + 1) ≡ Some q)
    (low : 1 ≤ r) (high : r ≤ records_in v) (pos_low : 1 ≤ pos) (pos_high : pos ≤ length_of v)
    (from : 254 * block ≤ (r - 1) * length_of v + (pos - 1)) (inside : (r - 1) * length_of v + (pos - 1) < 254 * block
    + 254)
    (over : 254 * block + 254 < r * length_of v) where
  abbrev pub first : Image
  first = put img p (patched ((r - 1) * length_of v + (pos - 1) - 254 * block) 254 text (sector img p))

  begin : 254 * block + ((r - 1) * length_of v + (pos - 1) - 254 * block) ≡ (r - 1) * record_length f.slot + (pos - 1)
  begin = rw (← of.shows.size) (omega (arith, from))

  past : 254 * block + 254 < (r - 1) * record_length f.slot + record_length f.slot
  past = rw (← of.shows.size) (omega (arith, over, one-more r (length_of v) low))

  reach : pos ≤ record_length f.slot
  reach = rw (← of.shows.size) pos_high

  below : r - 1 < record_count (length f.blocks) f.last (record_length f.slot)
  below = omega (arith, same-count img l n f v of, low, high)

  room-is : 254 * block + 254 - (r - 1) * record_length f.slot ≡ room_in_first (record_length f.slot) r
  room-is =
      let short : record_length f.slot ≤ 254 = rw (← of.shows.size) v.size_high in
      let begins : (r - 1) * record_length f.slot < 254 * block + 254 = rw (← of.shows.size) (omega (arith, inside)) in
      omega (arith, short, begins, past)

  old-is : get_or (records img f) (r - 1) [] ≡ piece (record_length f.slot) (r - 1) (joined img f.blocks)
  old-is = record-at img f (r - 1) [] below

  -- the first part is new
  pub leaves-half : LeavesRecords img first l n (with_half (record_length f.slot) r pos text (records img f)) v
  leaves-half =
      let H : ℕ → List ℕ → List (List ℕ) =
      λ k old. set (records img f) (r - 1) (take k (written (record_length f.slot) pos text old) ++ drop k old) in
      let P : List (List ℕ) → Type 0 = λ rs. LeavesRecords img first l n rs v in
      subst P (ap₂ H room-is (sym old-is))
      (leaves-first img l n f v w of block (r - 1) pos _ p q text small at to pos_low reach begin
      (omega (arith, inside, from)) past below)

  -- and then the rest
  pub leaves-both : LeavesRecords img
      (put first q (patched 0 (r * length_of v - 254 * block - 254)
      (drop (min (length text) (254 - ((r - 1) * length_of v + (pos - 1) - 254 * block))) text) (sector first q))) l n
      (with_written (record_length f.slot) r pos text (records img f)) v
  leaves-both =
      let m : ℕ = min (length text) (254 - ((r - 1) * length_of v + (pos - 1) - 254 * block)) in
      let more : (i : ℕ) → slice_index (drop m text) i < 256 =
      λ i. subst (λ (x : ℕ). x < 256) (sym (get_or-drop m text i 0)) (small (m + i)) in
      let e : ℕ = r * length_of v - 254 * block - 254 in
      let end : 254 * block + 254 + e ≡ (r - 1) * record_length f.slot + record_length f.slot =
      rw (← of.shows.size) (omega (arith, over, one-more r (length_of v) low)) in
      let W : List ℕ → List (List ℕ) =
      λ old. set (records img f) (r - 1) (written (record_length f.slot) pos text old) in
      let P : List (List ℕ)
      → Type 0 = λ rs. LeavesRecords img (put first q (patched 0 e (drop m text) (sector first q))) l n rs v in
      subst P (ap W (sym old-is))
      (leaves-second img l n f v w of block (r - 1) pos _ p q text small at to pos_low reach begin
      (omega (arith, inside, from)) past below e m end refl more)
