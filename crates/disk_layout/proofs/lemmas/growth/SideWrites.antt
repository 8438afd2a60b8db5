-- A side sector rewritten as a longer file asks.
use Rattle.std.proofs.Common.{◌≡◌, ℕ, zero, suc, ◌+◌, ◌*◌, List, [], ◌∷◌, ◌++◌, sym, ◌∙◌, ap, subst}
use Rattle.std.specs.Prelude.{slice_get, Some}
use Rattle.std.specs.List.{AllByRecursion}
use Rattle.d64_image.specs.Images.{Image}
use Rattle.d64_image.specs.declared.place.Place.{Place}
use Rattle.disk_layout.proofs.lemmas.growth.Commit.{all-right}
use Rattle.disk_layout.specs.Layout.{File, IsFile, IsLayout, IsSide, Layout, exchanged, record_length}

-- the second file has the blocks and the side sectors of the first, each at its number, and perhaps more
pub record IsLonger (f g : File) : Type 0 where
  pub slot : f.slot ≡ g.slot
  pub blocks : (k : ℕ) (q : Place) → slice_get f.blocks k ≡ Some q → slice_get g.blocks k ≡ Some q
  pub sides : (k : ℕ) (q : Place) → slice_get f.sides k ≡ Some q → slice_get g.sides k ≡ Some q

pub get-append : {X : Type 0} (xs ys : List X) (k : ℕ) (x : X) → slice_get xs k ≡ Some x
    → slice_get (xs ++ ys) k ≡ Some x
get-append [] ys k x e = cc
get-append (z ∷ xs) ys zero x e = e
get-append (z ∷ xs) ys (suc k) x e = get-append xs ys k x e

-- what a longer file asks of a side sector, the shorter one asks too
pub IsSide-shorter : (img : Image) (f g : File) (j : ℕ) (p : Place) → IsLonger f g → IsSide img g j p → IsSide img f j p
IsSide-shorter img f g j p long s = record {
  number = s.number;
  length_byte = s.length_byte ∙ ap record_length (sym long.slot);
  sides = λ k q e. s.sides k q (long.sides k q e);
  link = λ q e. s.link q (long.sides (j + 1) q e);
  pointers = λ k q h e. s.pointers k q h (long.blocks (120 * j + k) q e);
}

pub same-layout : (l : Layout) (before after : List File) (f : File) → l.files ≡ before ++ f ∷ after
    → exchanged l before f after ≡ l
same-layout l before after f split = λ i. record { directory = l.directory; files = sym split i }

pub file-there : (a : Image) (l : Layout) (before after : List File) (f : File) → IsLayout a l
    → l.files ≡ before ++ f ∷ after → IsFile a f
file-there a l before after f h split =
    (all-right (IsFile a) before (f ∷ after) (let P : List File → Type 0 = λ fs. AllByRecursion (IsFile a) fs in
    subst P split h.files)).0
