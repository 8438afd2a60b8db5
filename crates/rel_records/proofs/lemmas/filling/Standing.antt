-- What is known of a file that is kept in memory while it grows.
use Rattle.std.proofs.Common.{◌≡◌, ℕ, suc, ◌+◌, ◌-◌, ◌*◌, ◌/◌, ◌<◌, ◌≤◌, [], ◌∷◌, ◌++◌, length, max, sym, ◌∙◌, ap}
use Rattle.std.proofs.Common.{arith, length-append, take, drop}
use Rattle.std.specs.Prelude.{Contains, Some, slice_get}
use Rattle.std.proofs.Math.Nat.{lt-div-mul-add}
use Rattle.std.proofs.lemmas.Bool.Decides.{nat_tests}
use Rattle.std.proofs.lemmas.List.{length-take}
use Rattle.std.proofs.lemmas.Nat.{le-div}
use Rattle.std.proofs.lemmas.Option.{slice_get_within}
use Rattle.d64_image.proofs.Images.{is_sector}
use Rattle.d64_image.specs.Images.{Image, IsImage}
use Rattle.disk_layout.proofs.lemmas.counts.Recount.{around, slot-there}
use Rattle.disk_layout.proofs.lemmas.counts.Recounts.{slot-of}
use Rattle.disk_layout.proofs.lemmas.growth.GrowthRecords.{get-seam}
use Rattle.disk_layout.proofs.lemmas.layouts.Layouts.{get-contains}
use Rattle.disk_layout.proofs.lemmas.lists.Lists.{snoc-last}
use Rattle.disk_layout.proofs.lemmas.records.Joined.{record_count-fit}
use Rattle.disk_layout.specs.Chain.{EachOnce}
use Rattle.disk_layout.specs.Layout.{File, IsRelFile, Layout, record_length}
use Rattle.disk_layout.specs.Records.{record_count}
use Rattle.rel_records.proofs.lemmas.reading.Opened.{rel-of}
use Rattle.rel_records.specs.declared.growth.step_parts.Growing.{Growing}
use Rattle.rel_records.specs.growth.Growth.{full, records_had}
use Rattle.rel_records.specs.growth.Steps.{IsAt}

-- the records reach into the last block, or end less than a record before it
pub count-low : (n u L : ℕ) → 0 < L → 254 * (n - 1) < record_count n u L * L + L
unfolding record_count
count-low n u L pos =
    let above : 254 * (n - 1) + max u 1 - 1 < (254 * (n - 1) + max u 1 - 1) / L * L + L = lt-div-mul-add pos in
    let one : 1 ≤ max u 1 = grind (arith, nat_tests) in
    omega arith

module _ (a : Image) (l : Layout) (n : ℕ) (f : File) (p : Growing) (at : IsAt a l n f p) where
  pub split : l.files ≡ take n l.files ++ f ∷ drop (suc n) l.files
  split = around l.files n f at.there

  pub place : length (take n l.files) ≡ n
  place = omega (arith, length-take n l.files, slice_get_within l.files n f at.there)

  pub file-rel : IsRelFile a f
  file-rel = rel-of a l n f at.clean.layout at.there at.rel

  pub blocks-some : length f.blocks ≡ length at.front + 1
  blocks-some = ap length at.last_is ∙ length-append at.front (at.last_place ∷ [])

  pub pos : 0 < record_length f.slot
  pos = omega (arith, file-rel.length_low)

  pub blocks-once : EachOnce f.blocks
  blocks-once = file-rel.chain.2.once

  pub last-at : slice_get f.blocks (length f.blocks - 1) ≡ Some at.last_place
  last-at =
      let e : length f.blocks - 1 ≡ length at.front = omega (arith, blocks-some) in
      ap (slice_get f.blocks) e ∙ ap (λ xs. slice_get xs (length at.front)) at.last_is
      ∙ get-seam at.front [] at.last_place

  pub last-in : Contains f.blocks at.last_place
  last-in = get-contains f.blocks (length f.blocks - 1) at.last_place last-at

  -- the chain ends there
  pub same-last : file-rel.chain.2.last ≡ at.last_place
  same-last = snoc-last file-rel.chain.2.front at.front file-rel.chain.2.last at.last_place (sym file-rel.chain.2.places
      ∙ at.last_is)

  -- the slot stands in the directory
  pub entry-in : Contains l.directory f.slot.sector
  entry-in = (slot-there a l.directory f.slot (slot-of a l f at.clean.layout (get-contains l.files n f at.there))).0

  -- the records fit into the blocks
  pub had-fit : IsImage a → records_had f * record_length f.slot ≤ 254 * length f.blocks
  had-fit w =
      let c = file-rel.chain.2 in
      record_count-fit (length f.blocks) f.last (record_length f.slot) pos (omega (arith, blocks-some))
      (omega (arith, c.ends.1, (is_sector a c.last w).small 1))

  pub had-low : 254 * (length f.blocks - 1) < records_had f * record_length f.slot + record_length f.slot
  had-low = count-low (length f.blocks) f.last (record_length f.slot) pos

  pub had-full : IsImage a → records_had f ≤ full (record_length f.slot) (length f.blocks)
  had-full w = le-div (records_had f) (254 * length f.blocks) (record_length f.slot) pos (had-fit w)
