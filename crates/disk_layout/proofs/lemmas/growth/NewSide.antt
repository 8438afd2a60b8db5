-- A file takes a block and a new side sector.
use Rattle.std.proofs.Common.{List, [], ap, append_assoc, inl, inr, refl, subst, sym, ℕ, ◌++◌, ◌∙◌, ◌∷◌, ◌≡◌, ◌≢◌}
use Rattle.std.proofs.lemmas.Grind.{flat_map-append}
use Rattle.std.specs.Prelude.{Contains, flat_map}
use Rattle.d64_image.specs.declared.place.Place.{Place}
use Rattle.disk_layout.proofs.lemmas.growth.Commit.{grown, once-grown, owners-grown}
use Rattle.disk_layout.proofs.lemmas.growth.SideWrites.{IsLonger, get-append}
use Rattle.disk_layout.proofs.lemmas.lists.Once.{EachOnce-insert, insert-out}
use Rattle.disk_layout.specs.Chain.{EachOnce}
use Rattle.disk_layout.specs.Directory.{map_place}
use Rattle.disk_layout.specs.Layout.{File, Layout, exchanged, file_owns, owners}

apart-shape : (dir B blocks sides A : List Place) (x : Place) → dir ++ (B ++ (((blocks ++ x ∷ []) ++ sides) ++ A))
    ≡ ((dir ++ (B ++ blocks)) ++ (x ∷ sides)) ++ A
apart-shape dir B blocks sides A x = simp append_assoc

side-shape : (dir B blocks sides A : List Place) (x y : Place)
    → dir ++ (B ++ (((blocks ++ x ∷ []) ++ (sides ++ y ∷ [])) ++ A)) ≡ ((dir ++ (B ++ blocks)) ++ (x ∷ sides))
    ++ (y ∷ A)
side-shape dir B blocks sides A x y = simp append_assoc

-- both places were free and differ: each place still has one owner
pub once-grown_side : (l : Layout) (before after : List File) (f : File) (fresh side : Place) (u : ℕ)
    → EachOnce (map_place ∷ owners l) → l.files ≡ before ++ f ∷ after → ¬ (Contains (map_place ∷ owners l) fresh)
    → ¬ (Contains (map_place ∷ owners l) side) → fresh ≢ side
    → EachOnce (map_place ∷ owners (exchanged l before (grown f fresh u (f.sides ++ side ∷ [])) after))
unfolding owners
once-grown_side l before after f fresh side u once split free none ne =
    let B = flat_map file_owns before in
    let A = flat_map file_owns after in
    let front : List Place = (l.directory ++ (B ++ f.blocks)) ++ (fresh ∷ f.sides) in
    let one : l.directory ++ flat_map file_owns (before ++ grown f fresh u f.sides ∷ after) ≡ front ++ A =
    ap (λ t. l.directory ++ t) (flat_map-append file_owns before (grown f fresh u f.sides ∷ after))
    ∙ apart-shape l.directory B f.blocks f.sides A fresh in
    let two : l.directory ++ flat_map file_owns (before ++ grown f fresh u (f.sides ++ side ∷ []) ∷ after) ≡ front
    ++ (side ∷ A) =
    ap (λ t. l.directory ++ t) (flat_map-append file_owns before (grown f fresh u (f.sides ++ side ∷ []) ∷ after))
    ∙ side-shape l.directory B f.blocks f.sides A fresh side in
    let P : List Place → Type 0 = λ ps. EachOnce (map_place ∷ ps) in
    let Q : List Place → Type 0 = λ ps. ¬ (Contains (map_place ∷ ps) side) in
    subst P (sym two) (EachOnce-insert (map_place ∷ front) A side
    (subst P one (once-grown l before after f fresh u once split free)) (subst Q one new))
  where
    new : ¬ (Contains (map_place ∷ (l.directory ++ flat_map file_owns (before ++ grown f fresh u f.sides ∷ after)))
        side)
    new c =
        let (xs, ys, old, now) = owners-grown l before after f fresh u split in
        let P : List Place → Type 0 = λ ps. Contains (map_place ∷ ps) side in
        elim (insert-out (map_place ∷ xs) ys fresh side (subst P now c)) [
          | inl e ↦ ne e
          | inr d ↦ none (subst P (sym old) d)
        ]

-- the longer file asks more of a side sector than the old one
pub longer_side : (f : File) (fresh side : Place) (u : ℕ) → IsLonger f (grown f fresh u (f.sides ++ side ∷ []))
longer_side f fresh side u = record {
  slot = refl;
  blocks = λ k q e. get-append f.blocks (fresh ∷ []) k q e;
  sides = λ k q e. get-append f.sides (side ∷ []) k q e;
}
