-- A record read from the one or two blocks where it lies.
use Rattle.disk_layout.proofs.lemmas.records.Pieces.{length-pieces, length-piece, piece, piece-byte, row-le}
use Rattle.disk_layout.proofs.lemmas.records.RecordWrites.{record-at}
use Rattle.disk_layout.specs.Layout.{record_length, File, Layout}
use Rattle.disk_layout.specs.Records.{record_count, records, joined}
use Rattle.rel_records.proofs.lemmas.writing.OneBlock.{inside-blocks, le-rows, one-more, same-count}
use Rattle.rel_records.specs.Calls.{HasRead}
use Rattle.rel_records.specs.File.{length_of, records_in, IsFileOf, IsOf, OfItsFile, blocks_of}
use Rattle.rel_records.specs.reading.Block.{IsBlock}
use Rattle.rel_records.specs.reading.Kept.{IsKept, number_kept}
use Rattle.rel_records.specs.Written.{IsRecord}
use Rattle.rel_records.specs.declared.reading.record_order.LastBlock.{LastBlock}
use Rattle.std.proofs.Common.{◌%◌, ◌/◌, IsSome, Option, List, [], Some, ap, arith, drop, get_or, inl, inr, length}
use Rattle.std.proofs.Common.{length-drop, length-append, refl, subst, sym, take, ℕ, suc, zero, ◌*◌, ◌++◌, ◌+◌, ◌-◌}
use Rattle.std.proofs.Common.{◌<◌, ◌∙◌, ◌∷◌, ◌≡◌, ◌≤◌}
use Rattle.std.proofs.lemmas.Option.{get_or_from_slice_get, slice_get-get_or, slice_get_within}
use Rattle.disk_layout.proofs.lemmas.chains.Names.{named-is}
use Rattle.disk_layout.specs.Chain.{named_at, IsChain, Leads, LinksTo}
use Rattle.rel_records.proofs.lemmas.reading.Lookups.{some-is}
use Rattle.rel_records.proofs.lemmas.reading.Opened.{file-rel, records-fit}
use Rattle.rel_records.specs.declared.rel_file.RelFile.{RelFile}
use Rattle.std.proofs.Math.ListN.{get_or-append}
use Rattle.std.proofs.lemmas.Bool.{cases_lt}
use Rattle.std.proofs.lemmas.List.{get_or-append_right, get_or-drop, get_or-take, length-take-le}
use Rattle.std.specs.Prelude.{slice_get, IfSome}
use Rattle.d64_image.specs.Images.{Image, IsImage, Sector, sector}
use Rattle.d64_image.specs.declared.place.Place.{Place}
use Rattle.disk_layout.proofs.lemmas.records.Joined.{joined-at, length-joined, sector-long}
use Rattle.rel_records.proofs.lemmas.reading.Lent.{same_bytes}

-- the first place of what leads from p
leads-first : (img : Image) (p q y : Place) (vs : List Place) → Leads img p vs q → slice_get (vs ++ q ∷ []) 0 ≡ Some y
    → p ≡ y
leads-first img p q y [] leads at = let e : q ≡ y = cc in leads ∙ e
leads-first img p q y (v ∷ vs) (next, e, link, rest) at = let f : v ≡ y = cc in sym e ∙ f

-- each block but the last links to the next
pub leads-next : (img : Image) (p q x y : Place) (vs : List Place) (r : ℕ) → Leads img p vs q
    → slice_get (vs ++ q ∷ []) r ≡ Some x → slice_get (vs ++ q ∷ []) (suc r) ≡ Some y → LinksTo img x y
leads-next img p q x y [] r leads at to = cc
leads-next img p q x y (v ∷ vs) zero (next, e, link, rest) at to =
    let here : v ≡ x = cc in
    let there : next ≡ y = leads-first img next q y vs rest to in
    rw (← here, ← there) link
leads-next img p q x y (v ∷ vs) (suc r) (next, e, link, rest) at to = leads-next img next q x y vs r rest at to

pub chain-next : (img : Image) (p x y : Place) (ps : List Place) (u r : ℕ) → IsChain img p ps u
    → slice_get ps r ≡ Some x → slice_get ps (r + 1) ≡ Some y → LinksTo img x y
chain-next img p x y ps u r c at to =
    let n : suc r ≡ r + 1 = omega arith in
    leads-next img p c.last x y c.front r c.leads (ap (λ (qs : List Place). slice_get qs r) (sym c.places) ∙ at)
    (ap (slice_get (c.front ++ c.last ∷ [])) n ∙ ap (λ (qs : List Place). slice_get qs (r + 1)) (sym c.places) ∙ to)

-- the bytes of a record, as they are lent
pub piece-read : (img : Image) (ps : List Place) (L k r s : ℕ) (p : Place) (a b : Sector) → IsImage img
    → slice_get ps r ≡ Some p → a ≡ sector img p → length b ≡ 256
    → (254 < s + L → (q : Place) × (slice_get ps (r + 1) ≡ Some q) × (b ≡ sector img q)) → 254 * r + s ≡ k * L → s < 254
    → L ≤ 254 → k * L + L ≤ 254 * length ps → take L (drop s (drop 2 a ++ drop 2 b)) ≡ piece L k (joined img ps)
piece-read img ps L k r s p a b w at first long second start low high inside =
    same_bytes _ _ (left ∙ sym (length-piece L k (joined img ps) (rw (length-joined img ps w) inside)))
    (λ i h. get_or-take L _ i 0 (omega (arith, h, left)) ∙ get_or-drop s (drop 2 a ++ drop 2 b) i 0
    ∙ each i (omega (arith, h, left)) ∙ sym (piece-byte L k (joined img ps) i (omega (arith, h, left))))
  where
    la : length (drop 2 a) ≡ 254
    la = length-drop 2 a ∙ omega (arith, ap length first ∙ sector-long img p w)

    lb : length (drop 2 b) ≡ 254
    lb = length-drop 2 b ∙ omega (arith, long)

    left : length (take L (drop s (drop 2 a ++ drop 2 b))) ≡ L
    left = length-take-le L _
        (omega (arith, length-drop s (drop 2 a ++ drop 2 b), length-append (drop 2 a) (drop 2 b), la, lb, low, high))

    each : (i : ℕ) → i < L → get_or (drop 2 a ++ drop 2 b) (s + i) 0 ≡ get_or (joined img ps) (k * L + i) 0
    each i h = elim (cases_lt (s + i) 254) [
      | inl here ↦
          let n : 254 * r + (s + i) ≡ k * L + i = omega (arith, start) in
          get_or-append (drop 2 a) (drop 2 b) 0 (s + i) (omega (arith, la, here)) ∙ get_or-drop 2 a (s + i) 0
          ∙ ap (λ (x : Sector). get_or x (2 + (s + i)) 0) first ∙ sym (joined-at img ps r (s + i) p w at here)
          ∙ ap (λ (m : ℕ). get_or (joined img ps) m 0) n
      | inr there ↦
          let (q, to, read) = second (omega (arith, there, h)) in
          let n : 254 * (r + 1) + (s + i - 254) ≡ k * L + i = omega (arith, start, there) in
          get_or-append_right (drop 2 a) (drop 2 b) 254 (s + i) 0 la there ∙ get_or-drop 2 b (s + i - 254) 0
          ∙ ap (λ (x : Sector). get_or x (2 + (s + i - 254)) 0) read
          ∙ sym (joined-at img ps (r + 1) (s + i - 254) q w to (omega (arith, low, high, h)))
          ∙ ap (λ (m : ℕ). get_or (joined img ps) m 0) n
    ]

module _ (img : Image) (l : Layout) (n : ℕ) (f : File) (v : RelFile) (of : IsFileOf img l n f v) where
  -- the link of a block that isn't the last
  pub link-named : (r : ℕ) (p q : Place) (a : Sector) → slice_get f.blocks r ≡ Some p
      → slice_get f.blocks (r + 1) ≡ Some q → a ≡ sector img p → named_at a 0 ≡ Some q
  link-named r p q a at to read =
      let c = (file-rel img l n f v of).chain in
      ap (λ (x : Sector). named_at x 0) read
      ∙ named-is (sector img p) 0 q (chain-next img c.0 p q f.blocks f.last r c.2 at to)

  pub block-there : (r : ℕ) (d : Place) → r < length f.blocks → (q : Place) × (slice_get f.blocks r ≡ Some q)
  block-there r d h = (get_or f.blocks r d, slice_get-get_or f.blocks r d h)

  pub next-is : (r : ℕ) (p : Place) (a : Sector) (o : Option Place) → slice_get f.blocks r ≡ Some p
      → r + 1 < length f.blocks → a ≡ sector img p → o ≡ named_at a 0 → slice_get f.blocks (r + 1) ≡ o
  next-is r p a o at more read is =
      let (q, to) = block-there (r + 1) p more in
      to ∙ sym (is ∙ link-named r p q a at to read)

pub next-some : (img : Image) (v : RelFile) (r : ℕ) (p : Place) (a : Sector) (o : Option Place) → IsOf img v
    → ((l : Layout) → (n : ℕ) → (f : File) → IsFileOf img l n f v → slice_get f.blocks r ≡ Some p) → r + 1 < blocks_of v
    → a ≡ sector img p → o ≡ named_at a 0 → IsSome o
next-some img v r p a o (l, n, f, of) at more read is =
    let low : r + 1 < length f.blocks = omega (arith, more, of.shows.blocks) in
    some-is o f.blocks (r + 1) p low (next-is img l n f v of r p a o (at l n f of) low read is)

-- a block that isn't the last names the next one
pub behind-there : (img : Image) (v : RelFile) (r : ℕ) (a : Sector) → IsOf img v
    → OfItsFile img v (λ l n f. IsBlock img f.blocks r a) → r + 1 < blocks_of v → IsSome (named_at a 0)
behind-there img v r a (l, n, f, of) at more =
    let here = at l n f of in
    let low : r + 1 < length f.blocks = omega (arith, more, of.shows.blocks) in
    some-is (named_at a 0) f.blocks (r + 1) here.place low
    (next-is img l n f v of r here.place a (named_at a 0) here.at low here.read refl)

-- the bytes of the place that it names are the next block
pub behind-is : (img : Image) (l : Layout) (n : ℕ) (f : File) (v : RelFile) → IsFileOf img l n f v
    → (r : ℕ) (a b : Sector) → IsBlock img f.blocks r a → r + 1 < blocks_of v
    → ((p : Place) → named_at a 0 ≡ Some p → b ≡ sector img p) → IsBlock img f.blocks (r + 1) b
behind-is img l n f v of r a b here more read =
    let low : r + 1 < length f.blocks = omega (arith, more, of.shows.blocks) in
    let (p, at) = block-there img l n f v of (r + 1) here.place low in
    record { place = p; at = at; read = read p (link-named img l n f v of r here.place p a here.at at here.read) }

-- the block that is kept
pub kept-is : (img : Image) (v : RelFile) (x : LastBlock) (r : ℕ) → number_kept x ≡ Some r → IsKept img v x
    → OfItsFile img v (λ l n f. IsBlock img f.blocks r x.bytes)
kept-is img v x r number kept l n f of = subst (λ (o : Option ℕ). IfSome o (λ k. IsBlock img f.blocks k x.bytes)) number
    (kept l n f of)

pub length-records : (img : Image) (f : File)
    → length (records img f) ≡ record_count (length f.blocks) f.last (record_length f.slot)
unfolding records
length-records img f = length-pieces (record_length f.slot)
    (record_count (length f.blocks) f.last (record_length f.slot)) (joined img f.blocks)

pub count-is : (img : Image) (l : Layout) (n : ℕ) (f : File) (v : RelFile) → IsFileOf img l n f v
    → length (records img f) ≡ records_in v
count-is img l n f v of = length-records img f ∙ sym (same-count img l n f v of)

module _ (img : Image) (l : Layout) (n : ℕ) (f : File) (v : RelFile) (of : IsFileOf img l n f v) (w : IsImage img) where
  -- a record, as it is read
  pub record-read : (r : ℕ) (a b : Sector) (text : List ℕ) → 1 ≤ r → r ≤ records_in v
      → IsBlock img f.blocks ((r - 1) * length_of v / 254) a
      → (254 < (r - 1) * length_of v % 254 + length_of v → IsBlock img f.blocks ((r - 1) * length_of v / 254 + 1) b)
      → length b ≡ 256 → text ≡ take (length_of v) (drop ((r - 1) * length_of v % 254) (drop 2 a ++ drop 2 b))
      → IsRecord (records img f) r text
  record-read r a b text low high first second long is = record { low = low; there = there }
    where
      L : ℕ
      L = length_of v

      below : r - 1 < length (records img f)
      below = omega (arith, low, high, count-is img l n f v of)

      below' : r - 1 < record_count (length f.blocks) f.last (record_length f.slot)
      below' = omega (arith, below, length-records img f)

      room : (r - 1) * L + L ≤ 254 * length f.blocks
      room = omega (arith, inside-blocks img l n f v of w r low high, one-more r L low)

      same : text ≡ piece L (r - 1) (joined img f.blocks)
      same = is ∙ piece-read img f.blocks L (r - 1) ((r - 1) * L / 254) ((r - 1) * L % 254) first.place a b w first.at
          first.read long (λ over. let b = second over in (b.place, b.at, b.read)) (omega arith) (omega arith)
          (omega (arith, v.size_high)) room

      there : slice_get (records img f) (r - 1) ≡ Some text
      there = slice_get-get_or (records img f) (r - 1) [] below
          ∙ ap Some
          (record-at img f (r - 1) [] below' ∙ ap (λ (k : ℕ). piece k (r - 1) (joined img f.blocks)) (sym of.shows.size)
          ∙ sym same)

  -- and where it goes on in the block that the first one names
  pub across-read : (r : ℕ) (a : Sector) (text : List ℕ) → 1 ≤ r → r ≤ records_in v
      → IsBlock img f.blocks ((r - 1) * length_of v / 254) a → (r - 1) * length_of v / 254 + 1 < blocks_of v
      → ((p : Place) → named_at a 0 ≡ Some p → text
      ≡ take (length_of v) (drop ((r - 1) * length_of v % 254) (drop 2 a ++ drop 2 (sector img p))))
      → IsRecord (records img f) r text
  across-read r a text low high here more is =
      let k : ℕ = (r - 1) * length_of v / 254 in
      let few : k + 1 < length f.blocks = omega (arith, more, of.shows.blocks) in
      let (q, to) = block-there img l n f v of (k + 1) here.place few in
      record-read r a (sector img q) text low high here (λ over. record { place = q; at = to; read = refl })
      (sector-long img q w) (is q (link-named img l n f v of k here.place q a here.at to here.read))

  -- each record has the length of the file's records
  pub record-long : (r : ℕ) (bytes : List ℕ) → IsRecord (records img f) r bytes → length bytes ≡ length_of v
  record-long r bytes is =
      let L : ℕ = record_length f.slot in
      let lt : r - 1 < record_count (length f.blocks) f.last L = omega
      (arith, slice_get_within (records img f) (r - 1) bytes is.there, length-records img f) in
      let room : (r - 1) * L + L ≤ 254 * length f.blocks = omega
      (arith, row-le (r - 1) (record_count (length f.blocks) f.last L) L lt, records-fit img l n f v of w) in
      let same : bytes ≡ piece L (r - 1) (joined img f.blocks) = sym
      (get_or_from_slice_get (records img f) (r - 1) bytes [] is.there) ∙ record-at img f (r - 1) [] lt in
      ap (λ (xs : List ℕ). length xs) same
      ∙ length-piece L (r - 1) (joined img f.blocks) (rw (length-joined img f.blocks w) room) ∙ sym of.shows.size

pub inside-of : (img : Image) (v : RelFile) (r : ℕ) → IsOf img v → IsImage img → 1 ≤ r → r ≤ records_in v
    → (r - 1) * length_of v + length_of v ≤ 254 * blocks_of v
inside-of img v r (l, n, f, of) w low high = omega
    (arith, inside-blocks img l n f v of w r low high, one-more r (length_of v) low, of.shows.blocks)

-- and so it ends in the blocks
pub there-fits : (img : Image) (v : RelFile) (r : ℕ) → IsOf img v → IsImage img → 1 ≤ r → r ≤ records_in v
    → r * length_of v ≤ 254 * blocks_of v
there-fits img v r of w low high = omega (arith, inside-of img v r of w low high, one-more r (length_of v) low)

-- the number of a record that is there
pub placed : (img : Image) (v : RelFile) (r : ℕ) → IsOf img v → IsImage img → 1 ≤ r → r ≤ records_in v → r ≤ 182880
placed img v r of w low high = omega
    (arith, there-fits img v r of w low high, v.few, le-rows r (length_of v) v.size_low)

-- and they are as long as the file's records
pub has-read : (img : Image) (v : RelFile) (r : ℕ) (bytes : List ℕ) → IsOf img v → IsImage img
    → OfItsFile img v (λ l n f. IsRecord (records img f) r bytes) → HasRead img v r bytes
has-read img v r bytes (l, n, f, of) w are = record
    { bytes = are; size = record-long img l n f v of w r bytes (are l n f of) }
