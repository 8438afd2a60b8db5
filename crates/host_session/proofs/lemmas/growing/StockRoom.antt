-- An item up to the top is in reach of STOCK, and isn't refused.
use Rattle.std.proofs.Common.{◌≡◌, ℕ, ◌≤◌, ◌<◌, ◌+◌, ◌*◌, ◌/◌, ◌⊎◌, inl, inr, [], ◌∷◌, length, sym, ap, subst, arith}
use Rattle.std.specs.Prelude.{codes}
use Rattle.std.proofs.lemmas.List.{length-append}
use Rattle.d64_image.specs.Images.{Image, sector}
use Rattle.disk_layout.proofs.lemmas.layouts.Layouts.{IsLayout-one}
use Rattle.disk_layout.proofs.lemmas.blank.FreeAndOwned.{Fits-free}
use Rattle.disk_layout.proofs.lemmas.blank.Tops.{Fits-below}
use Rattle.disk_layout.proofs.lemmas.records.Pieces.{row-le}
use Rattle.disk_layout.specs.Clean.{IsClean, IsCleanLayout}
use Rattle.disk_layout.specs.Directory.{map_place}
use Rattle.disk_layout.specs.Layout.{Layout, record_length, sides_for}
use Rattle.disk_layout.specs.View.{blocks_free}
use Rattle.drive_channels.specs.Files.{IsRelAt}
use Rattle.rel_records.proofs.lemmas.filling.Standing.{count-low}
use Rattle.rel_records.specs.growth.Growth.{IsFull, IsTooLarge, blocks_for, needed, records_had}
use Rattle.host_session.specs.shop.Files.{Files, HasFiles}
use Rattle.host_session.specs.shop.Putting.{IsInReach}
use Rattle.host_session.proofs.lemmas.writing.Positions.{rel-file}

-- what is free and the file's own suffice for w blocks and their side sectors: so what is free suffices for those that
-- it lacks
needed-free : (n w free sides : ℕ) → n ≤ w → sides ≡ sides_for n → w + sides_for w ≤ free + (n + sides)
    → needed n w ≤ free
needed-free n w free sides le e room = omega (arith, le, e, room)

pub stock-rel : (img : Image) (f : Files) (h : HasFiles img f) → IsRelAt img h.layout h.stock_place h.stock_file
stock-rel img f h = record { layout = h.is_layout; there = h.stock_first.file; rel = h.stock_first.named.0 }

pub some-blocks : (img : Image) (f : Files) (h : HasFiles img f) → 0 < length h.stock_file.blocks
some-blocks img f h =
    let chain = (rel-file img h.layout h.stock_place h.stock_file (stock-rel img f h)).chain.2 in
    omega (arith, ap length chain.places, length-append chain.front (chain.last ∷ []))

-- STOCK, and an item up to the top
module _ (img : Image) (f : Files) (h : HasFiles img f) (r : ℕ) (le : r ≤ f.top) where
  few : blocks_for (record_length h.stock_file.slot) r ≤ 720
  few = subst (λ (L : ℕ). blocks_for L r ≤ 720) (sym h.stock_length) (omega (arith, le, h.top.fits.blocks))

  pub stock-reach : 1 ≤ r → IsInReach img (codes "STOCK") r h.layout h.stock_place h.stock_file
  stock-reach low = record {
    layout = h.is_layout;
    first = h.stock_first;
    low = low;
    some =
        omega (arith, h.stock_length);
    few = few;
  }

  -- a record that isn't there lies in a block behind the last one, or in it
  pub more : records_had h.stock_file < r → length h.stock_file.blocks ≤ blocks_for (record_length h.stock_file.slot) r
  more lt =
      let rel = rel-file img h.layout h.stock_place h.stock_file (stock-rel img f h) in
      let low = count-low (length h.stock_file.blocks) h.stock_file.last (record_length h.stock_file.slot)
      (omega (arith, rel.length_low)) in
      let row = row-le (records_had h.stock_file) r (record_length h.stock_file.slot) lt in
      omega (arith, low, row, some-blocks img f h)

  not-large : ¬ (IsTooLarge h.stock_file r)
  not-large (lt, inl x) = omega (arith, x, few)
  not-large (lt, inr x) = omega (arith, x, le, h.top.fits.number)

  not-full : IsClean img → ¬ (IsFull img h.stock_file r)
  not-full clean (lt, less) =
      let rel = rel-file img h.layout h.stock_place h.stock_file (stock-rel img f h) in
      let exact : IsCleanLayout img h.layout = subst (λ (l : Layout). IsCleanLayout img l)
      (IsLayout-one img clean.0 h.layout clean.1.layout h.is_layout) clean.1 in
      let free = Fits-free img h.layout h.stock_place r h.stock_file exact h.stock_first.file
      (Fits-below h.layout h.stock_place f.top r le h.top.fits) in
      let need : (18 * r + 253) / 254 ≡ blocks_for (record_length h.stock_file.slot) r
      = subst (λ (L : ℕ). (18 * r + 253) / 254 ≡ blocks_for L r) (sym h.stock_length) (omega arith) in
      let w = blocks_for (record_length h.stock_file.slot) r in
      let room : w + sides_for w ≤ blocks_free (sector img map_place) +
      (length h.stock_file.blocks + length h.stock_file.sides)
      = subst (λ (k : ℕ). k + sides_for k ≤ blocks_free (sector img map_place) +
      (length h.stock_file.blocks + length h.stock_file.sides)) need free in
      let enough = needed-free (length h.stock_file.blocks) w (blocks_free (sector img map_place))
      (length h.stock_file.sides) (more lt) rel.count room in
      omega (arith, less, enough)

  -- growth to such an item is never refused on a clean image
  pub not-refused : IsClean img → ¬ (IsTooLarge h.stock_file r ⊎ IsFull img h.stock_file r)
  not-refused clean (inl x) = not-large x
  not-refused clean (inr x) = not-full clean x
