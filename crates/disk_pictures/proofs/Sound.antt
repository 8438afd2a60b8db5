-- What is drawn of an image with a layout is that layout.
use Rattle.std.proofs.Common.{◌≡◌, ◌≢◌, ◌≤◌, ◌⊎◌, ℕ, inl, inr, Bool, true, false, List, [], ◌∷◌, map, length}
use Rattle.std.proofs.Common.{slice_index, refl, subst, sym, ap, ◌∙◌, arith, IsFalse}
use Rattle.std.specs.Prelude.{flat_map}
use Rattle.std.specs.List.{AllByRecursion}
use Rattle.std.proofs.lemmas.Bool.{cases_eq}
use Rattle.d64_image.proofs.Places.{track_from_1}
use Rattle.d64_image.specs.Images.{Image}
use Rattle.d64_image.specs.declared.place.Place.{Place}
use Rattle.disk_pictures.proofs.Walked.{walk-of_chain}
use Rattle.disk_layout.proofs.lemmas.chains.Chains.{Names-one}
use Rattle.disk_layout.proofs.lemmas.layouts.Layouts.{IsDirectory-one, File-ext}
use Rattle.disk_layout.proofs.lemmas.lists.Once.{EachOnce-left, EachOnce-right}
use Rattle.disk_pictures.specs.Walks.{IsWalk}
use Rattle.disk_layout.specs.Chain.{EachOnce}
use Rattle.disk_layout.specs.Directory.{map_place, type_byte}
use Rattle.disk_layout.specs.Layout.{File, HasChain, IsFile, IsLayout, Layout, file_owns, is_rel, owners}
use Rattle.disk_layout.specs.declared.slot.Slot.{Slot}
use Rattle.disk_pictures.proofs.Sides.{sides-own}
use Rattle.disk_pictures.specs.Drawings.{AreDrawnSides, GoesFrom, IsDrawn, IsDrawnFile}
use Rattle.layout_check.proofs.lemmas.owners.Clashes.{closed-high}

-- the blocks are those of the chain
blocks-own : (img : Image) (f : File) (ps : List Place) (u : ℕ) → HasChain img f → GoesFrom img f.slot.bytes 3 ps u
    → (ps ≡ f.blocks) × (u ≡ f.last)
blocks-own img f ps u (p, named, chain) goes = elim goes [
  | inl (q, names, walk) ↦ walk-of_chain img p f.blocks ps f.last u chain
      (subst (λ (x : Place). IsWalk img x ps u) (Names-one f.slot.bytes 3 q p names named) walk)
  | inr (none, empty, zero) ↦ absurd (none p named)
]

-- and none of an entry that names no first block
none-own : (img : Image) (bytes : List ℕ) (ps : List Place) (u : ℕ) → slice_index bytes 3 ≡ 0
    → GoesFrom img bytes 3 ps u
    → (ps ≡ []) × (u ≡ 0)
none-own img bytes ps u none goes = elim goes [
  | inl (q, names, walk) ↦ absurd (omega (arith, track_from_1 q, names.0, none))
  | inr (nowhere, empty, zero) ↦ (empty, zero)
]

-- the file that is drawn of an entry is the entry's own
module _ (img : Image) (f g : File) (same : g.slot ≡ f.slot) (is : IsFile img f) (drawn : IsDrawnFile img g) where
  goes : GoesFrom img f.slot.bytes 3 g.blocks g.last
  goes = subst (λ (s : Slot). GoesFrom img s.bytes 3 g.blocks g.last) same
      (drawn.blocks (subst (λ (s : Slot). 128 ≤ type_byte s) (sym same) (closed-high (type_byte f.slot) is.closed)))

  plain-own : IsFalse (is_rel f.slot) → (slice_index f.slot.bytes 3 ≡ 0) ⊎ (slice_index f.slot.bytes 3 ≢ 0) → g ≡ f
  plain-own n (inl z) =
      let own = is.empty n z in
      let blocks = none-own img f.slot.bytes g.blocks g.last z goes in
      File-ext g f same (blocks.0 ∙ sym own.0) (blocks.1 ∙ sym own.1) (drawn.plain (ap is_rel same ∙ n) ∙ sym own.2)
  plain-own n (inr z) =
      let own = is.plain n z in
      let blocks = blocks-own img f g.blocks g.last own.0 goes in
      File-ext g f same blocks.0 blocks.1 (drawn.plain (ap is_rel same ∙ n) ∙ sym own.1)

  pub file-own : EachOnce f.sides → g ≡ f
  file-own once = by (is_rel f.slot) refl
    where
      by : (b : Bool) → is_rel f.slot ≡ b → g ≡ f
      by true e =
          let own = is.rel e in
          let blocks = blocks-own img f g.blocks g.last own.chain goes in
          let sides = subst (λ (s : Slot). AreDrawnSides img s.bytes (length g.blocks) g.sides) same
          (drawn.relative (ap is_rel same ∙ e)) in
          File-ext g f same blocks.0 blocks.1 (sides-own img f g.sides own once
          (subst (λ (ps : List Place). AreDrawnSides img f.slot.bytes (length ps) g.sides) blocks.0 sides))
      by false e = plain-own e (cases_eq (slice_index f.slot.bytes 3) 0)

files-own : (img : Image) (fs gs : List File) → map (λ f. f.slot) gs ≡ map (λ f. f.slot) fs
    → AllByRecursion (IsFile img) fs
    → AllByRecursion (IsDrawnFile img) gs → EachOnce (flat_map file_owns fs) → gs ≡ fs
files-own img [] [] e a b once = refl
files-own img [] (g ∷ gs) e a b once = cc
files-own img (f ∷ fs) [] e a b once = cc
files-own img (f ∷ fs) (g ∷ gs) e a b once =
    let slot : g.slot ≡ f.slot = cc in
    let slots : map (λ f. f.slot) gs ≡ map (λ f. f.slot) fs = cc in
    let own = EachOnce-right f.blocks f.sides (EachOnce-left (file_owns f) (flat_map file_owns fs) once) in
    let here : g ≡ f = file-own img f g slot a.0 b.0 own in
    let rest : gs ≡ fs = files-own img fs gs slots a.1 b.1
    (EachOnce-right (file_owns f) (flat_map file_owns fs) once) in
    cc

pub drawn-own : (img : Image) (l d : Layout) → IsLayout img l → IsDrawn img d → d ≡ l
unfolding owners
drawn-own img l d is drawn =
    let directory = IsDirectory-one img d.directory l.directory _ _ drawn.directory is.directory in
    let files = files-own img l.files d.files directory.1 is.files drawn.files
    (EachOnce-right l.directory (flat_map file_owns l.files) is.once.1) in
    λ i. record { directory = directory.0 i; files = files i }

pub own-once : (img : Image) (l d : Layout) → IsLayout img l → IsDrawn img d → EachOnce (map_place ∷ owners d)
own-once img l d is drawn = subst (λ (m : Layout). EachOnce (map_place ∷ owners m))
    (sym (drawn-own img l d is drawn)) is.once
