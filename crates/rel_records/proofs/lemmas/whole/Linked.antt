-- Once a file has its next block the files are whole.
use Rattle.std.proofs.Common.{◌≡◌, ◌≢◌, ℕ, suc, ◌-◌, List, [], ◌∷◌, ◌++◌, length, refl, sym, ◌∙◌, ap, arith, subst}
use Rattle.std.proofs.Common.{Bool, IsTrue, length-append, slice_index, take, drop}
use Rattle.std.proofs.lemmas.List.Elements.{Contains-append_left}
use Rattle.std.specs.Prelude.{Contains, Some, replicate, slice_get}
use Rattle.d64_image.proofs.Images.{sector-put_other}
use Rattle.d64_image.specs.Images.{Image, IsImage, IsSector, Sector, put, sector}
use Rattle.d64_image.specs.declared.place.Place.{Place}
use Rattle.disk_layout.proofs.lemmas.counts.Faces.{with_slot}
use Rattle.disk_layout.proofs.lemmas.growth.Commit.{grown}
use Rattle.disk_layout.proofs.lemmas.growth.GrowthRecords.{get-seam}
use Rattle.disk_layout.proofs.lemmas.layouts.Layouts.{get-contains}
use Rattle.disk_layout.proofs.lemmas.lists.Once.{EachOnce-apart}
use Rattle.disk_layout.specs.Directory.{slot_in}
use Rattle.disk_layout.specs.Layout.{File, Layout, exchanged, record_length}
use Rattle.disk_layout.specs.declared.slot.Slot.{Slot}
use Rattle.rel_records.proofs.lemmas.filling.Fulls.{full-last}
use Rattle.rel_records.proofs.lemmas.reading.Opened.{rel-of}
use Rattle.rel_records.proofs.lemmas.steps.Adding.{block-there, is_rel-same, kept, last-fresh, there, to_count, to_link}
use Rattle.rel_records.proofs.lemmas.steps.Committing.{commit-after, commit-before, commit-header, committed, last-in}
use Rattle.rel_records.proofs.lemmas.steps.Counting.{clean-again, same-entry}
use Rattle.rel_records.proofs.lemmas.steps.LaidOut.{IsStep, each, place, rel-file, split}
use Rattle.rel_records.proofs.lemmas.steps.LastBlocks.{made}
use Rattle.rel_records.proofs.lemmas.steps.Others.{others-kept}
use Rattle.disk_layout.proofs.lemmas.whole.Files.{AreExact, exact-whole, not-zeros}
use Rattle.rel_records.proofs.lemmas.whole.Files.{agree-exact, clean-whole, whole-now}
use Rattle.rel_records.specs.Others.{KeepsOthers}
use Rattle.disk_layout.specs.Whole.{IsWhole}
use Rattle.rel_records.specs.declared.growth.step_parts.Growing.{Growing}
use Rattle.rel_records.specs.growth.Preparing.{IsPrepared}
use Rattle.rel_records.specs.growth.Steps.{IsFilledUp}

module _ {a : Image} {l : Layout} {n : ℕ} {f : File} {p q : Growing} {fresh : Place} {block : Sector}
    (step : IsStep a l n f p q fresh block) (up : IsFilledUp f) (c : Image) (x : IsImage c) (v : IsSector q.last)
    (ready : IsPrepared a c l f (grown f fresh (slice_index block 1) q.sides.items) fresh q.map.bytes block) where
  open step use {at}

  abbrev before : List File
  before = take n l.files

  abbrev after : List File
  after = drop (suc n) l.files

  abbrev ss : List Place
  ss = q.sides.items

  abbrev g : File
  g = grown f fresh (slice_index block 1) ss

  abbrev m : Layout
  m = exchanged l before g after

  abbrev b : Image
  b = put c at.last_place q.last

  -- the last index of the fresh block isn't 0
  some-index : slice_index block 1 ≢ 0
  some-index z = omega (
    arith,
    z,
    (made step).index,
    full-last (record_length f.slot) (length f.blocks) (omega (arith, (rel-file step).length_low))
        (rel-file step).length_high,
  )

  -- which ends the longer file
  fresh-end : (i : Image) (y : Place) → slice_get g.blocks (length g.blocks - 1) ≡ Some y → sector i fresh ≡ block
      → sector i y ≢ replicate 256 0
  fresh-end i y last is =
      let long : length g.blocks - 1 ≡ length f.blocks = omega (arith, length-append f.blocks (fresh ∷ [])) in
      let both : Some fresh ≡ Some y = sym (get-seam f.blocks [] fresh) ∙ ap (slice_get g.blocks) (sym long) ∙ last in
      let same : fresh ≡ y = cc in
      not-zeros (sector i y) 1 (λ z. some-index (ap (λ (s : Sector). slice_index s 1) (sym (ap (sector i) (sym same) ∙ is))
      ∙ z))

  g-there : slice_get m.files n ≡ Some g
  g-there = let P : ℕ → Type 0 = λ k. slice_get (before ++ g ∷ after) k ≡ Some g in
      subst P (place step) (get-seam before after g)

  -- once it is linked
  pub linked-whole : IsWhole a → IsWhole b
  linked-whole w =
      let tl = to_link step up c x v ready in
      let P : ℕ → Type 0 = λ k. KeepsOthers a b l m k in
      let keeps : KeepsOthers a b l m n = subst P (place step) (others-kept a b l before after f g (split step) refl
      (commit-before tl) (commit-after tl) (commit-header tl)) in
      whole-now a b l m n at.clean.layout (committed tl) keeps
      (λ k y ne there'. agree-exact a b l before after f g at.clean (split step) (commit-before tl) (commit-after tl) k y
      (λ e. ne (e ∙ place step)) there') g g-there
      (exact-whole b m g at.rel (rel-of b m n g (committed tl) g-there at.rel) exact-g
      (λ y last. fresh-end b y last fresh-b)) w
    where
      fresh-b : sector b fresh ≡ block
      fresh-b = sector-put_other c at.last_place fresh q.last (last-fresh step up c x v ready) ∙ ready.block

      exact-g : AreExact b g
      exact-g j y there' =
          let apart : at.last_place ≢ y = λ same. EachOnce-apart g.blocks ss (each step) at.last_place
          (Contains-append_left f.blocks (fresh ∷ []) at.last_place (last-in (to_link step up c x v ready)))
          (let P : Place → Type 0 = Contains ss in subst P (sym same) (get-contains ss j y there')) in
          sector-put_other c at.last_place y q.last apart ∙ ready.sides j y there'

  abbrev t : Slot
  t = slot_in f.slot.sector q.directory f.slot.number

  -- and once it is counted
  pub counted-whole : IsWhole a → IsWhole (put b f.slot.sector q.directory)
  counted-whole w =
      let tc = to_count step up c x v ready in
      let P : Bool → Type 0 = IsTrue in
      clean-whole a (put b f.slot.sector q.directory) l (exchanged l before (with_slot g t) after) n (with_slot g t)
      at.clean.layout (clean-again tc at.strays at.clean) (kept step up c x v ready) (there step up c x v ready)
      (subst P (is_rel-same f.slot t (same-entry tc)) at.rel)
      (λ y last. fresh-end (put b f.slot.sector q.directory) y last (block-there step up c x v ready)) w
