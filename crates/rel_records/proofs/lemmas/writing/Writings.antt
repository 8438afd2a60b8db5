-- A record that is there is written: in one block, or across two.
use Rattle.std.proofs.Common.{[], List, Some, ap, arith, get_or, inl, length, refl, set, slice_index, subst, sym, ℕ}
use Rattle.std.proofs.Common.{◌*◌, ◌+◌, ◌-◌, ◌<◌, ◌∙◌, ◌≡◌, ◌≤◌}
use Rattle.std.specs.Prelude.{Contains, slice_get}
use Rattle.std.proofs.lemmas.List.{length-set}
use Rattle.std.proofs.lemmas.List.Elements.{Contains-append_left}
use Rattle.d64_image.proofs.Images.{sector-put_other}
use Rattle.d64_image.specs.Images.{Image, IsImage, Sector, put, sector}
use Rattle.d64_image.specs.declared.place.Place.{Place}
use Rattle.disk_layout.proofs.lemmas.layouts.Agree.{map-unowned, owned-block, sectors-agree}
use Rattle.disk_layout.proofs.lemmas.layouts.Layouts.{get-contains}
use Rattle.disk_layout.proofs.lemmas.layouts.Frames.{IsLayout-put_block, unless-same}
use Rattle.disk_layout.proofs.lemmas.records.Joined.{length-joined, records-write, sector-long}
use Rattle.disk_layout.proofs.lemmas.records.Pieces.{length-piece, piece, piece-byte, row-le}
use Rattle.disk_layout.proofs.lemmas.records.RecordWrites.{ChangesRecord, record-at}
use Rattle.disk_layout.specs.Chain.{EachOnce, byte}
use Rattle.disk_layout.specs.Directory.{map_place}
use Rattle.disk_layout.specs.Layout.{File, IsLayout, Layout, record_length}
use Rattle.disk_layout.specs.Records.{joined, record_count, records}
use Rattle.rel_records.proofs.lemmas.Kept.{places-stay}
use Rattle.rel_records.proofs.lemmas.Usable.{put_block-stays}
use Rattle.rel_records.proofs.lemmas.reading.Opened.{block-in, blocks-once, records-fit}
use Rattle.rel_records.proofs.lemmas.writing.Bytes.{is-written, patched-low}
use Rattle.rel_records.proofs.lemmas.writing.Patches.{joined-inside, joined-outside, patched-changes}
use Rattle.rel_records.proofs.lemmas.writing.Places.{apart}
use Rattle.rel_records.specs.File.{IsFileOf}
use Rattle.rel_records.specs.Others.{KeepsOthers, LeavesRecords}
use Rattle.rel_records.specs.Usable.{StaysClean}
use Rattle.rel_records.specs.Written.{patched, with_written, written}
use Rattle.rel_records.specs.declared.rel_file.RelFile.{RelFile}

-- a write to a block of one file keeps all that is asked of the others
pub keeps-block : (img : Image) (l : Layout) (n : ℕ) (f : File) (p : Place) (b : Sector) → IsLayout img l
    → slice_get l.files n ≡ Some f → Contains f.blocks p → KeepsOthers img (put img p b) l l n
keeps-block img l n f p b h at c = record {
  directory = refl;
  entries = refl;
  files = λ k g ne there. there;
  bytes = λ k g ne there. sym (sectors-agree img (put img p b) g.blocks
      (λ q d. unless-same img p q b (λ e. apart img l n k f g p h at there ne (Contains-append_left f.blocks f.sides p
      c) (Contains-append_left g.blocks g.sides p (rw e d)))));
  header = let same : sector (put img p b) map_place ≡ sector img map_place =
      sector-put_other img p map_place b
      (λ e. map-unowned img l h (rw (← e) (owned-block l f p (get-contains l.files n f at) c))) in cc;
}

-- it leaves an image as clean as it was, where it keeps the block's link
pub block-stays : (img : Image) (l : Layout) (n : ℕ) (f : File) (v : RelFile) (r : ℕ) (p : Place) (b : Sector)
    → IsImage img → IsFileOf img l n f v → slice_get f.blocks r ≡ Some p
    → slice_index b 0 ≡ byte img p 0 → slice_index b 1 ≡ byte img p 1 → StaysClean img l (put img p b) l
block-stays img l n f v r p b w of at e0 e1 = put_block-stays img l p b w.size
    (block-in img l n f v of p (get-contains f.blocks r p at)) e0 e1

-- and what is kept of the file is of the new image
pub block-of : (img : Image) (l : Layout) (n : ℕ) (f : File) (v : RelFile) (r : ℕ) (p : Place) (b : Sector)
    → IsImage img → IsFileOf img l n f v → slice_get f.blocks r ≡ Some p
    → slice_index b 0 ≡ byte img p 0 → slice_index b 1 ≡ byte img p 1 → IsFileOf (put img p b) l n f v
block-of img l n f v r p b w of at e0 e1 = record {
  layout = IsLayout-put_block img l p b w.size (block-in img l n f v of p (get-contains f.blocks r p at)) e0 e1
      of.layout;
  there = of.there;
  rel = of.rel;
  shows = of.shows;
}

-- a write to a block that keeps its link and changes record k alone, counted from 0
pub leaves-block : (img : Image) (l : Layout) (n : ℕ) (f : File) (v : RelFile) (r k : ℕ) (p : Place) (b : Sector)
    → IsImage img → IsImage (put img p b) → IsFileOf img l n f v → slice_get f.blocks r ≡ Some p
    → slice_index b 0 ≡ byte img p 0 → slice_index b 1 ≡ byte img p 1
    → k < record_count (length f.blocks) f.last (record_length f.slot) → ChangesRecord f r k (sector img p) b
    → LeavesRecords img (put img p b) l n
    (set (records img f) k (piece (record_length f.slot) k (joined (put img p b) f.blocks))) v
leaves-block img l n f v r k p b w u of at e0 e1 below changes =
    let c : Contains f.blocks p = get-contains f.blocks r p at in
    record {
      layout = l;
      clean = block-stays img l n f v r p b w of at e0 e1;
      others = keeps-block img l n f p b of.layout of.there c;
      file = f;
      of = block-of img l n f v r p b w of at e0 e1;
      records = records-write img f r k p b w u (blocks-once img l n f v of) at below (records-fit img l n f v of w)
          changes;
      places = places-stay img l n f
          (set (records img f) k (piece (record_length f.slot) k (joined (put img p b) f.blocks))) of.there
          (omega (
            arith,
            length-set (records img f) k
                (piece (record_length f.slot) k (joined (put img p b) f.blocks)),
          ));
    }

-- the record's new bytes, where a text was written over those from the position on, all in one block
pub piece-written : (img : Image) (l : Layout) (n : ℕ) (f : File) (v : RelFile) (r s e k pos : ℕ) (p : Place)
    (text : List ℕ) → IsImage img → IsImage (put img p (patched s e text (sector img p))) → IsFileOf img l n f v
    → slice_get f.blocks r ≡ Some p → e ≤ 254 → 1 ≤ pos → pos ≤ record_length f.slot
    → 254 * r + s ≡ k * record_length f.slot + (pos - 1) → 254 * r + e ≡ k * record_length f.slot + record_length f.slot
    → k < record_count (length f.blocks) f.last (record_length f.slot)
    → piece (record_length f.slot) k (joined (put img p (patched s e text (sector img p))) f.blocks)
    ≡ written (record_length f.slot) pos text (piece (record_length f.slot) k (joined img f.blocks))
piece-written img l n f v r s e k pos p text w u of at room low high start end below =
    is-written L pos text (piece L k (joined img f.blocks)) (piece L k (joined new f.blocks))
    (length-piece L k (joined img f.blocks) (rw (length-joined img f.blocks w) inside))
    (length-piece L k (joined new f.blocks) (rw (length-joined new f.blocks u) inside))
    high
    (λ i h. piece-byte L k (joined new f.blocks) i (omega (arith, h, high))
    ∙ joined-outside img f.blocks r s e p text w u once at order room (k * L + i) (inl (omega (arith, start, h)))
    ∙ sym (piece-byte L k (joined img f.blocks) i (omega (arith, h, high))))
    (λ i lo hi.
    let m : (k * L + i) - (254 * r + s) ≡ i - (pos - 1) = omega (arith, start, lo) in
    piece-byte L k (joined new f.blocks) i hi ∙ joined-inside img f.blocks r s e p text w u once at order room
    (k * L + i) (omega (arith, start, lo)) (omega (arith, end, hi)) ∙ ap (λ (x : ℕ). get_or text x 0) m)
  where
    L : ℕ
    L = record_length f.slot

    new : Image
    new = put img p (patched s e text (sector img p))

    once : EachOnce f.blocks
    once = blocks-once img l n f v of

    order : s ≤ e
    order = omega (arith, start, end, low, high)

    inside : k * record_length f.slot + record_length f.slot ≤ 254 * length f.blocks
    inside = omega (
      arith,
      row-le k (record_count (length f.blocks) f.last (record_length f.slot))
          (record_length f.slot) below,
      records-fit img l n f v of w,
    )

-- the whole write in one block
pub leaves-written : (img : Image) (l : Layout) (n : ℕ) (f : File) (v : RelFile) (r s e k pos : ℕ) (p : Place)
    (text : List ℕ) → IsImage img → IsImage (put img p (patched s e text (sector img p))) → IsFileOf img l n f v
    → slice_get f.blocks r ≡ Some p → e ≤ 254 → 1 ≤ pos → pos ≤ record_length f.slot
    → 254 * r + s ≡ k * record_length f.slot + (pos - 1) → 254 * r + e ≡ k * record_length f.slot + record_length f.slot
    → k < record_count (length f.blocks) f.last (record_length f.slot)
    → LeavesRecords img (put img p (patched s e text (sector img p))) l n (with_written (record_length f.slot) (k + 1)
    pos text (records img f)) v
leaves-written img l n f v r s e k pos p text w u of at room low high start end below =
    let L : ℕ = record_length f.slot in
    let order : s ≤ e = omega (arith, start, end, low, high) in
    let long = sector-long img p w in
    let P : List (List ℕ) → Type 0 = λ rs. LeavesRecords img (put img p (patched s e text (sector img p))) l n rs v in
    let index : (k + 1) - 1 ≡ k = omega arith in
    let same : set (records img f) k (piece L k (joined (put img p (patched s e text (sector img p))) f.blocks))
    ≡ with_written L (k + 1) pos text (records img f)
    = ap (set (records img f) k) (piece-written img l n f v r s e k pos p text w u of at room low high start end below
    ∙ ap (written L pos text) (sym (record-at img f k [] below)))
    ∙ ap (λ (i : ℕ). set (records img f) i (written L pos text (get_or (records img f) i []))) (sym index) in
    subst P same (leaves-block img l n f v r k p (patched s e text (sector img p)) w u of at
    (patched-low s e text (sector img p) 0 long order room (omega arith)) (patched-low s e text (sector img p) 1 long
    order room (omega arith)) below
    (patched-changes img f r s e k p text w order room (omega (arith, start)) (omega (arith, end))))
