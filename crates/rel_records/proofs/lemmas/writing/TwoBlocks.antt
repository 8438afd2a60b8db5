-- A record that goes on in the next block is written: its first part, then the second.
use Rattle.std.proofs.Common.{List, Some, ap, arith, drop, get_or, inl, inr, length, length-append, length-drop, set}
use Rattle.std.proofs.Common.{slice_index, subst, sym, take, ℕ, ◌*◌, ◌++◌, ◌+◌, ◌-◌, ◌<◌, ◌∙◌, ◌≡◌, ◌≤◌}
use Rattle.std.proofs.Math.ListN.{get_or-append}
use Rattle.std.proofs.lemmas.Bool.{cases_lt}
use Rattle.std.proofs.lemmas.List.{get_or-append_right, get_or-drop, get_or-take, get_or_past, length-set}
use Rattle.std.proofs.lemmas.List.{length-take-le, set-set}
use Rattle.std.specs.Prelude.{min, slice_get}
use Rattle.d64_image.proofs.Images.{is_sector, put_is_image}
use Rattle.d64_image.specs.Images.{Image, IsImage, put, sector}
use Rattle.d64_image.specs.declared.place.Place.{Place}
use Rattle.disk_layout.proofs.lemmas.layouts.Layouts.{get-contains}
use Rattle.disk_layout.proofs.lemmas.records.Joined.{length-joined, records-write, sector-long}
use Rattle.disk_layout.proofs.lemmas.records.Pieces.{length-piece, piece, piece-byte, row-le}
use Rattle.disk_layout.proofs.lemmas.records.RecordWrites.{ChangesRecord}
use Rattle.disk_layout.specs.Chain.{EachOnce}
use Rattle.disk_layout.specs.Layout.{File, Layout, record_length}
use Rattle.disk_layout.specs.Records.{joined, record_count, records}
use Rattle.rel_records.proofs.lemmas.Kept.{keeps_then, places-stay}
use Rattle.rel_records.proofs.lemmas.reading.Lent.{same_bytes}
use Rattle.rel_records.proofs.lemmas.reading.Opened.{blocks-once, file-rel, records-fit}
use Rattle.rel_records.proofs.lemmas.writing.Bytes.{length-written, patched-low, written-in, written-low}
use Rattle.rel_records.proofs.lemmas.writing.OneBlock.{patched-sector}
use Rattle.rel_records.proofs.lemmas.writing.Patches.{joined-inside, joined-outside, patched-changes}
use Rattle.rel_records.proofs.lemmas.writing.Writings.{block-of, block-stays, keeps-block, leaves-block}
use Rattle.rel_records.specs.File.{IsFileOf}
use Rattle.rel_records.specs.Others.{LeavesRecords}
use Rattle.rel_records.specs.Usable.{StaysClean}
use Rattle.rel_records.specs.Written.{patched, written}
use Rattle.rel_records.specs.declared.rel_file.RelFile.{RelFile}

-- what is left of a text behind its first bytes, of which there may be fewer
pub rest-byte : (text : List ℕ) (m h j : ℕ) → m ≡ min (length text) h → get_or (drop m text) j 0 ≡ get_or text (h + j) 0
rest-byte text m h j is = get_or-drop m text j 0 ∙ elim (cases_lt (length text) h) [
  | inl short ↦ get_or_past text (m + j) 0 (omega (arith, is, short))
      ∙ sym (get_or_past text (h + j) 0 (omega (arith, short)))
  | inr long ↦ ap (λ (n : ℕ). get_or text (n + j) 0) (omega (arith, is, long))
]

-- the bytes of a list whose first part is of one list and the rest of another, of the same length
half-low : (room i : ℕ) (xs ys : List ℕ) → room ≤ length xs → i < room
    → get_or (take room xs ++ drop room ys) i 0 ≡ get_or xs i 0
half-low room i xs ys le low = get_or-append (take room xs) (drop room ys) 0 i
    (omega (arith, low, length-take-le room xs le)) ∙ get_or-take room xs i 0 low

half-high : (room i : ℕ) (xs ys : List ℕ) → room ≤ length xs → room ≤ i
    → get_or (take room xs ++ drop room ys) i 0 ≡ get_or ys i 0
half-high room i xs ys le high =
    get_or-append_right (take room xs) (drop room ys) room i 0 (length-take-le room xs le) high
    ∙ get_or-drop room ys (i - room) 0 ∙ ap (λ (n : ℕ). get_or ys n 0) (omega (arith, high))

half-long : (room : ℕ) (xs ys : List ℕ) → room ≤ length xs → length ys ≡ length xs
    → length (take room xs ++ drop room ys) ≡ length xs
half-long room xs ys le same = omega (
  arith,
  length-append (take room xs) (drop room ys),
  length-take-le room xs le,
  length-drop room ys,
  same,
  le,
)

-- record k, counted from 0, of L bytes begins in block r, at p, and goes on in the next, at q; the text goes over its
-- bytes
-- from the position on
module _ (img : Image) (l : Layout) (n : ℕ) (f : File) (v : RelFile) (w : IsImage img) (of : IsFileOf img l n f v)
    (r k pos s : ℕ) (p q : Place) (text : List ℕ) (small : (i : ℕ) → slice_index text i < 256)
    (at : slice_get f.blocks r ≡ Some p) (to : slice_get f.blocks (r + 1) ≡ Some q)
    (low : 1 ≤ pos) (high : pos ≤ record_length f.slot) (start : 254 * r + s ≡ k * record_length f.slot + (pos - 1))
    (inside : s < 254)
    (over : 254 * r + 254 < k * record_length f.slot + record_length f.slot)
    (below : k < record_count (length f.blocks) f.last (record_length f.slot)) where
  abbrev pub L : ℕ
  L = record_length f.slot

  -- how many bytes of the record lie in block r
  abbrev pub room : ℕ
  room = 254 * r + 254 - k * L

  abbrev pub first : Image
  first = put img p (patched s 254 text (sector img p))

  abbrev pub old : List ℕ
  old = piece L k (joined img f.blocks)

  short : L ≤ 254
  short = (file-rel img l n f v of).length_high

  fits : k * L + L ≤ 254 * length f.blocks
  fits = omega (arith, row-le k (record_count (length f.blocks) f.last L) L below, records-fit img l n f v of w)

  once : EachOnce f.blocks
  once = blocks-once img l n f v of

  first-image : IsImage first
  first-image = put_is_image img p (patched s 254 text (sector img p)) w (patched-sector s 254 text (sector img p)
      (is_sector img p w) small (omega (arith, inside)) (omega arith))

  old-long : length old ≡ L
  old-long = length-piece L k (joined img f.blocks) (rw (length-joined img f.blocks w) fits)

  new-long : length (written L pos text old) ≡ L
  new-long = length-written L pos text old old-long high

  first-low : (i : ℕ) → i < room → get_or (piece L k (joined first f.blocks)) i 0 ≡ get_or (written L pos text old) i 0
  first-low i lt = elim (cases_lt i (pos - 1)) [
    | inl a ↦
        piece-byte L k (joined first f.blocks) i (omega (arith, a, high))
        ∙ joined-outside img f.blocks r s 254 p text w first-image once at (omega (arith, inside)) (omega arith)
        (k * L + i) (inl (omega (arith, start, a)))
        ∙ sym (piece-byte L k (joined img f.blocks) i (omega (arith, a, high)))
        ∙ sym (written-low L pos text old i old-long high a)
    | inr a ↦
        let m : (k * L + i) - (254 * r + s) ≡ i - (pos - 1) = omega (arith, start, a) in
        piece-byte L k (joined first f.blocks) i (omega (arith, lt, over))
        ∙ joined-inside img f.blocks r s 254 p text w first-image once at (omega (arith, inside)) (omega arith)
        (k * L + i) (omega (arith, start, a)) (omega (arith, lt))
        ∙ ap (λ (x : ℕ). get_or text x 0) m
        ∙ sym (written-in L pos text old i old-long high a (omega (arith, lt, over)))
  ]

  first-high : (i : ℕ) → room ≤ i → i < L → get_or (piece L k (joined first f.blocks)) i 0 ≡ get_or old i 0
  first-high i le lt =
      piece-byte L k (joined first f.blocks) i lt
      ∙ joined-outside img f.blocks r s 254 p text w first-image once at (omega (arith, inside)) (omega arith)
      (k * L + i) (inr (omega (arith, le)))
      ∙ sym (piece-byte L k (joined img f.blocks) i lt)

  -- after the first write the first part is new, and the rest old
  first-piece : piece L k (joined first f.blocks) ≡ take room (written L pos text old) ++ drop room old
  first-piece =
      let long : length (piece L k (joined first f.blocks)) ≡ L = length-piece L k (joined first f.blocks)
      (rw (length-joined first f.blocks first-image) fits) in
      let le : room ≤ length (written L pos text old) = omega (arith, new-long, over) in
      same_bytes _ _ (long ∙ sym (half-long room (written L pos text old) old le (old-long ∙ sym new-long) ∙ new-long))
      (λ i lt.
      elim (cases_lt i room) [
        | inl a ↦ first-low i a ∙ sym (half-low room i (written L pos text old) old le a)
        | inr a ↦ first-high i a (omega (arith, lt, long)) ∙ sym (half-high room i (written L pos text old) old le a)
      ])

  first-link : (i : ℕ) → i < 2 → slice_index (patched s 254 text (sector img p)) i ≡ slice_index (sector img p) i
  first-link i lt = patched-low s 254 text (sector img p) i (sector-long img p w) (omega (arith, inside)) (omega arith)
      (omega (arith, lt))

  first-changes : ChangesRecord f r k (sector img p) (patched s 254 text (sector img p))
  first-changes = patched-changes img f r s 254 k p text w (omega (arith, inside)) (omega arith) (omega (arith, start))
      (omega (arith, over))

  -- what is left by the first write
  pub leaves-first : LeavesRecords img first l n
      (set (records img f) k (take room (written L pos text old) ++ drop room old)) v
  leaves-first =
      let P : List ℕ → Type 0 = λ x. LeavesRecords img first l n (set (records img f) k x) v in
      subst P first-piece (leaves-block img l n f v r k p (patched s 254 text (sector img p)) w first-image of at
      (first-link 0 (omega arith)) (first-link 1 (omega arith)) below first-changes)

  -- the rest of the text goes over the first bytes of the second block
  module _ (e m : ℕ) (end : 254 * r + 254 + e ≡ k * record_length f.slot + record_length f.slot)
      (cut : m ≡ min (length text) (254 - s)) (more : (i : ℕ) → slice_index (drop m text) i < 256) where
    abbrev pub second : Image
    second = put first q (patched 0 e (drop m text) (sector first q))

    e-small : e ≤ 254
    e-small = omega (arith, end, start, short, inside, low)

    of-first : IsFileOf first l n f v
    of-first = block-of img l n f v r p (patched s 254 text (sector img p)) w of at (first-link 0 (omega arith))
        (first-link 1 (omega arith))

    second-image : IsImage second
    second-image = put_is_image first q (patched 0 e (drop m text) (sector first q)) first-image
        (patched-sector 0 e (drop m text) (sector first q) (is_sector first q first-image) more (omega arith) e-small)

    second-low : (i : ℕ) → i < room → get_or (piece L k (joined second f.blocks)) i 0 ≡ get_or (written L pos text old)
        i 0
    second-low i lt =
        piece-byte L k (joined second f.blocks) i (omega (arith, lt, over))
        ∙ joined-outside first f.blocks (r + 1) 0 e q (drop m text) first-image second-image once to (omega arith)
        e-small (k * L + i) (inl (omega (arith, lt)))
        ∙ sym (piece-byte L k (joined first f.blocks) i (omega (arith, lt, over)))
        ∙ first-low i lt

    second-high : (i : ℕ) → room ≤ i → i < L → get_or (piece L k (joined second f.blocks)) i 0
        ≡ get_or (written L pos text old) i 0
    second-high i le lt =
        let x : (254 - s) + ((k * L + i) - (254 * (r + 1) + 0)) ≡ i - (pos - 1) = omega (arith, start, le, inside) in
        piece-byte L k (joined second f.blocks) i lt
        ∙ joined-inside first f.blocks (r + 1) 0 e q (drop m text) first-image second-image once to (omega arith)
        e-small (k * L + i) (omega (arith, le)) (omega (arith, lt, end))
        ∙ rest-byte text m (254 - s) ((k * L + i) - (254 * (r + 1) + 0)) cut
        ∙ ap (λ (y : ℕ). get_or text y 0) x
        ∙ sym (written-in L pos text old i old-long high (omega (arith, le, start, inside)) lt)

    -- after the second write the whole record is new
    second-piece : piece L k (joined second f.blocks) ≡ written L pos text old
    second-piece =
        let long : length (piece L k (joined second f.blocks)) ≡ L = length-piece L k (joined second f.blocks)
        (rw (length-joined second f.blocks second-image) fits) in
        same_bytes _ _ (long ∙ sym new-long) (λ i lt. elim (cases_lt i room) [
          | inl a ↦ second-low i a
          | inr a ↦ second-high i a (omega (arith, lt, long))
        ])

    second-link : (i : ℕ) → i < 2 → slice_index (patched 0 e (drop m text) (sector first q)) i ≡ slice_index
        (sector first q) i
    second-link i lt = patched-low 0 e (drop m text) (sector first q) i (sector-long first q first-image) (omega arith)
        e-small lt

    both-stay : StaysClean img l second l
    both-stay strays clean = block-stays first l n f v (r + 1) q (patched 0 e (drop m text) (sector first q)) first-image
        of-first to (second-link 0 (omega arith)) (second-link 1 (omega arith)) strays
        (block-stays img l n f v r p (patched s 254 text (sector img p)) w of at (first-link 0 (omega arith))
        (first-link 1 (omega arith)) strays clean)

    second-changes : ChangesRecord f (r + 1) k (sector first q) (patched 0 e (drop m text) (sector first q))
    second-changes = patched-changes first f (r + 1) 0 e k q (drop m text) first-image (omega arith) e-small
        (omega (arith, over, short)) (omega (arith, end))

    second-records : records second f ≡ set (records img f) k (written L pos text old)
    second-records =
        records-write first f (r + 1) k q (patched 0 e (drop m text) (sector first q)) first-image second-image once to
        below (records-fit first l n f v of-first first-image) second-changes
        ∙ ap (set (records first f) k) second-piece
        ∙ ap (λ (rs : List (List ℕ)). set rs k (written L pos text old))
        (records-write img f r k p (patched s 254 text (sector img p)) w first-image once at below
        (records-fit img l n f v of w) first-changes)
        ∙ set-set (records img f) k (piece L k (joined first f.blocks)) (written L pos text old)

    -- what is left by both
    pub leaves-second : LeavesRecords img second l n (set (records img f) k (written L pos text old)) v
    leaves-second = record {
      layout = l;
      clean = both-stay;
      others = keeps_then img first second l l l n (keeps-block img l n f p _ of.layout of.there
          (get-contains f.blocks r p at)) (keeps-block first l n f q _ of-first.layout of.there
          (get-contains f.blocks (r + 1) q to));
      file = f;
      of = block-of first l n f v (r + 1) q (patched 0 e (drop m text) (sector first q)) first-image of-first to
          (second-link 0 (omega arith)) (second-link 1 (omega arith));
      records = second-records;
      places = places-stay img l n f (set (records img f) k (written L pos text old)) of.there
          (omega (arith, length-set (records img f) k (written L pos text old)));
    }
