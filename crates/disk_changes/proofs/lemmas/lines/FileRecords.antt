-- The records of a file of an image: of one length, of bytes, and no more than a disk can have.
use Rattle.std.proofs.Common.{◌≡◌, ◌≤◌, ◌<◌, inl, inr, ℕ, zero, suc, ◌+◌, ◌*◌, List, [], ◌∷◌, ◌++◌, length, take, drop}
use Rattle.std.proofs.Common.{get_or, length-append, refl, subst, sym, ap, arith}
use Rattle.std.specs.List.{AllByRecursion}
use Rattle.std.proofs.Math.Nat.{suc-mul}
use Rattle.std.proofs.lemmas.Bool.{cases_lt}
use Rattle.std.proofs.lemmas.List.{get_or_past, length-drop, length-take-le}
use Rattle.std.proofs.lemmas.List.Elements.{All-from_get_or, All-from_recursion, recursion_from_All}
use Rattle.line_text.specs.bytes.Texts.{AreBytes}
use Rattle.d64_image.specs.Chunks.{chunks_are_image, chunks_are_sectors}
use Rattle.d64_image.proofs.Images.{is_sector}
use Rattle.d64_image.specs.Images.{Image, IsImage, sector}
use Rattle.d64_image.specs.Memory.{sectors_in}
use Rattle.d64_image.specs.declared.place.Place.{Place}
use Rattle.disk_layout.proofs.lemmas.lists.Count.{places-few}
use Rattle.disk_layout.proofs.lemmas.records.Joined.{joined-cons, joined-nil, length-joined, record_count-fit}
use Rattle.disk_layout.specs.Layout.{File, IsLayout, IsRelFile, Layout, record_length}
use Rattle.disk_layout.specs.Records.{joined, pieces, record_count, records}
use Rattle.disk_layout.specs.Rest.{IsFirst}
use Rattle.rel_records.proofs.lemmas.growth.Grows.{count-is}
use Rattle.rel_records.proofs.lemmas.reading.Opened.{rel-of}
use Rattle.rel_records.proofs.lemmas.writing.OneBlock.{le-rows}
use Rattle.disk_changes.specs.lines.Stores.{AreRecords}

-- bytes of a part, and of two parts
abbrev Small : List ℕ → Type 0
Small bs = AllByRecursion (λ b. b < 256) bs

small-both : (xs ys : List ℕ) → Small xs → Small ys → Small (xs ++ ys)
small-both [] ys a b = b
small-both (x ∷ xs) ys a b = (a.0, small-both xs ys a.1 b)

small-drop : (n : ℕ) (xs : List ℕ) → Small xs → Small (drop n xs)
small-drop zero xs all = all
small-drop (suc n) [] all = tt
small-drop (suc n) (x ∷ xs) all = small-drop n xs all.1

small-take : (n : ℕ) (xs : List ℕ) → Small xs → Small (take n xs)
small-take zero xs all = tt
small-take (suc n) [] all = tt
small-take (suc n) (x ∷ xs) all = (all.0, small-take n xs all.1)

small-joined : (img : Image) (ps : List Place) → IsImage img → Small (joined img ps)
small-joined img [] w = subst Small (sym (joined-nil img)) tt
small-joined img (p ∷ ps) w =
    let here : Small (sector img p) = recursion_from_All (λ b. b < 256) (sector img p)
    (All-from_get_or (λ b. b < 256) (sector img p) 0 (λ i lt. (is_sector img p w).small i)) in
    subst Small (sym (joined-cons img p ps))
    (small-both (drop 2 (sector img p)) (joined img ps) (small-drop 2 (sector img p) here) (small-joined img ps w))

-- each piece is a record
pieces-are : (L n : ℕ) (xs : List ℕ) → n * L ≤ length xs → Small xs → AreRecords L (pieces L n xs)
pieces-are L zero xs fit all = tt
pieces-are L (suc n) xs fit all =
    let row : suc n * L ≡ n * L + L = suc-mul n L in (
      (
        length-take-le L xs (omega (arith, fit, row)),
        All-from_recursion (λ b. b < 256) (take L xs) (small-take L xs all),
      ),
      pieces-are L n (drop L xs) (omega (arith, fit, row, length-drop L xs)) (small-drop L xs all),
    )

-- the bytes of an image are those of a disk
pub image-of : (image : List ℕ) → length image ≡ 174848 → AreBytes image → IsImage (sectors_in image)
image-of image size small =
    subst IsImage (chunks_are_sectors image 683 refl) (chunks_are_image image 683 refl size each)
  where
    each : (i : ℕ) → get_or image i 0 < 256
    each i = elim (cases_lt i (length image)) [
      | inl lt ↦ small i 0 lt
      | inr past ↦ omega (arith, get_or_past image i 0 past)
    ]

-- the records of a file, and how many it can have
module _ (img : Image) (l : Layout) (n : ℕ) (f : File) (name : List ℕ) (w : IsImage img) (layout : IsLayout img l)
    (first : IsFirst l name n f) where
  rel : IsRelFile img f
  rel = rel-of img l n f layout first.file first.named.0

  some : 0 < length f.blocks
  some = let c = rel.chain.2 in omega (arith, ap length c.places, length-append c.front (c.last ∷ []))

  fit : record_count (length f.blocks) f.last (record_length f.slot) * record_length f.slot ≤ 254 * length f.blocks
  fit =
      let c = rel.chain.2 in
      record_count-fit (length f.blocks) f.last (record_length f.slot) (omega (arith, rel.length_low)) some
      (omega (arith, c.ends.1, (is_sector img c.last w).small 1))

  pub file-records : AreRecords (record_length f.slot) (records img f)
  unfolding records
  file-records = pieces-are (record_length f.slot) (record_count (length f.blocks) f.last (record_length f.slot))
      (joined img f.blocks) (omega (arith, fit, length-joined img f.blocks w)) (small-joined img f.blocks w)

  pub file-few : length (records img f) ≤ 182880
  file-few =
      let count = count-is img f in
      let few = places-few f.blocks rel.chain.2.once in
      let row = le-rows (record_count (length f.blocks) f.last (record_length f.slot)) (record_length f.slot)
      rel.length_low in
      omega (arith, count, fit, few, row)

  pub file-low : 1 ≤ record_length f.slot
  file-low = rel.length_low
