-- A deleted file that is a file again: the shop's files are as they were.
use Rattle.std.proofs.Common.{◌≡◌, ◌<◌, ◌+◌, ◌*◌, ◌∙◌, ℕ, Bool, true, false, List, [], ◌∷◌, ap, length, option_map, refl, sym}
use Rattle.std.specs.Prelude.{Contains, IsTrue, codes, cond, slice_range}
use Rattle.std.proofs.lemmas.Option.{slice_get-map}
use Rattle.d64_image.specs.Images.{Image, Sector, sector}
use Rattle.d64_image.specs.Memory.{sectors_in}
use Rattle.d64_image.specs.declared.place.Place.{Place}
use Rattle.disk_changes.specs.Sorts.{all_slots}
use Rattle.disk_changes.specs.Undeletes.{IsUndeletable}
use Rattle.disk_layout.proofs.lemmas.counts.Faces.{with_slot}
use Rattle.disk_layout.proofs.lemmas.counts.Recount.{filter-out, flat_map-out, slot-number}
use Rattle.disk_layout.proofs.lemmas.layouts.Frames.{unless-same}
use Rattle.disk_layout.proofs.lemmas.layouts.Layouts.{get-contains}
use Rattle.disk_layout.specs.Directory.{is_used, slot_in, slots_in}
use Rattle.disk_layout.specs.Layout.{File, IsLayout, Layout, is_rel}
use Rattle.disk_layout.specs.Rest.{IsFirst}
use Rattle.disk_layout.specs.declared.slot.Slot.{Slot}
use Rattle.file_changes.specs.Patches.{patched}
use Rattle.file_rescues.specs.rescue.Deleted.{deleted_slots, is_deleted}
use Rattle.rel_records.proofs.lemmas.creation.InSlot.{put-links}
use Rattle.changed_life.proofs.Blocks.{AreSameBlocks, same-block}
use Rattle.changed_life.proofs.Entries.{keeps-entries, named-one, named_in, off-directory, slots-one, unused-no-entry}
use Rattle.changed_life.proofs.Firsts.{not-entry}
use Rattle.changed_life.proofs.OneByte.{links-stay, name-stays, others-stay, retyped, sector-size, sectors-full}
use Rattle.changed_life.specs.Changes.{KeepsShops}

not-true : (b u : Bool) → cond b false u ≡ true → b ≡ false
not-true true u e = sym e
not-true false u e = refl

module _ (image name : List ℕ) (l : Layout) (s : Slot) (t : ℕ) (size : length image ≡ 174848)
    (h : IsLayout (sectors_in image) l) (of : IsUndeletable (sectors_in image) l name s) where
  abbrev a : Image
  a = sectors_in image

  abbrev p : Place
  p = s.sector

  abbrev k : ℕ
  k = s.number

  abbrev pub now : Image
  now = patched (sectors_in image) s.sector (32 * s.number + 2) (t ∷ [])

  found : Contains (all_slots a l.directory) s × (is_deleted s ≡ true)
  found = filter-out is_deleted (all_slots a l.directory) s
      (get-contains (deleted_slots a l.directory) of.number s of.first.there)

  place : Contains l.directory s.sector × (s.number < 8) × (s ≡ slot_in s.sector (sector a s.sector) s.number)
  place =
      let (q, on, e) = flat_map-out (λ q. slots_in q (sector a q)) l.directory s found.0 in
      let (low, same) = slot-number q (sector a q) s e in
      let one : s.sector ≡ q = ap (λ x. x.sector) same in
      (rw one on, low, same ∙ ap (λ x. slot_in x (sector a x) s.number) (sym one))

  bytes : length (sector a p) ≡ 256
  bytes = sector-size image p size

  abbrev b : Sector
  b = retyped a p k t bytes place.1

  abbrev old : Slot
  old = slot_in p (sector a p) k

  abbrev new : Slot
  new = slot_in p b k

  free : is_used old ≡ false
  free = ap is_used (sym place.2) ∙ not-true (is_used s) _ found.1

  named-stays : (nm : List ℕ) (n : ℕ) (f : File) → IsFirst l nm n f
      → named_in nm (all_slots now l.directory) ≡ named_in nm (all_slots a l.directory)
  named-stays nm n f first =
      let (xs, ys, e, d) = slots-one a l.directory p k b (sectors-full image) h.directory.chain.once
      place.0 place.1 (others-stay a p k t bytes place.1) in
      ap (named_in nm) d
      ∙ named-one nm xs ys old new (unused-no-entry nm old free)
      (not-entry nm (with_slot f new) (λ named. of.free n f.slot
      (slice_get-map (λ (x : File). x.slot) l.files n ∙ ap (option_map (λ (x : File). x.slot)) first.file)
      (first.named.1 ∙ sym named.1 ∙ name-stays a p k t bytes place.1
      ∙ ap (λ (x : Slot). slice_range x.bytes 5 21) (sym place.2) ∙ of.first.named)))
      ∙ ap (named_in nm) (sym e)

  blocks-stay : (f : File) → Contains l.files f → IsTrue (is_rel f.slot) → AreSameBlocks a now f.blocks
  blocks-stay f own rel q there = same-block a now q (unless-same a p q b (off-directory a l p f q h place.0 own there))

  pub undeleted-keeps : (m : Layout) → IsLayout now m → KeepsShops a now
  undeleted-keeps m is = keeps-entries a now l m h is blocks-stay
      (put-links a p b (sectors-full image) (links-stay a p k t bytes place.1) l.directory)
      (λ n f first long. named-stays (codes "STOCK") n f first)
      (λ n f first long. named-stays (codes "REQUESTS") n f first)
