-- A new file that isn't relative ends in a sector that isn't all zeros, and has as many sectors as its entry says.
use Rattle.std.proofs.Common.{◌≡◌, ◌≤◌, ◌-◌, ℕ, List, [], ◌∷◌, Some, ap, arith, length, length-append, slice_index, sym, ◌∙◌}
use Rattle.std.specs.Prelude.{slice_get}
use Rattle.d64_image.specs.Images.{Image, sector}
use Rattle.d64_image.specs.declared.place.Place.{Place}
use Rattle.disk_layout.proofs.lemmas.growth.GrowthRecords.{get-seam}
use Rattle.disk_layout.proofs.lemmas.whole.Files.{not-zeros}
use Rattle.disk_layout.specs.Chain.{IsChain}
use Rattle.disk_layout.specs.declared.slot.Slot.{Slot}
use Rattle.file_changes.proofs.PlainEntries.{IsPlainEntry, plain_file}
use Rattle.file_changes.specs.declared.file_type.FileType.{FileType}
use Rattle.rel_records.proofs.lemmas.whole.Created.{IsLong}

pub plain-long : (b : Image) (s : Slot) (kind : FileType) (name : List ℕ) (first : Place) (blocks : ℕ) (ps : List Place)
    (u : ℕ) → IsPlainEntry s kind name first blocks → blocks ≡ length ps → IsChain b first ps u → 2 ≤ u
    → IsLong b (plain_file s ps u)
plain-long b s kind name first blocks ps u entry same chain low = (
  λ t. omega (arith, entry.count, same),
  λ t q last.
      let at : slice_get ps (length chain.front) ≡ Some chain.last =
      ap (λ xs. slice_get xs (length chain.front)) chain.places ∙ get-seam chain.front [] chain.last in
      let n : length ps - 1 ≡ length chain.front = omega
      (arith, ap length chain.places, length-append chain.front (chain.last ∷ [])) in
      let both : Some chain.last ≡ Some q = sym at ∙ ap (slice_get ps) (sym n) ∙ last in
      let here : chain.last ≡ q = cc in
      not-zeros (sector b q) 1 (λ z.
      let none : slice_index (sector b chain.last) 1 ≡ 0 = ap (λ x. slice_index (sector b x) 1) here ∙ z in
      absurd (omega (arith, chain.ends.1, none, low))),
)
