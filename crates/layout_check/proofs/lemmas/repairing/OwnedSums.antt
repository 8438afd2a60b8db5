-- How many sectors files own, file by file.
use Rattle.std.proofs.Common.{ℕ, ◌≡◌, ◌≤◌, ◌+◌, List, [], ◌∷◌, length, take, ◌∙◌, ap, arith, subst, length-append}
use Rattle.std.specs.Prelude.{Some, flat_map, slice_get}
use Rattle.std.proofs.lemmas.Grind.{flat_map-append}
use Rattle.std.proofs.lemmas.List.{append-nil}
use Rattle.std.proofs.lemmas.List.Concat.{length-flat_map}
use Rattle.std.proofs.lemmas.List.Sums.{sum_by-take-le}
use Rattle.d64_image.specs.Images.{Image}
use Rattle.disk_layout.proofs.lemmas.lists.Count.{places-few}
use Rattle.disk_layout.proofs.lemmas.lists.Lists.{take-get, take-take}
use Rattle.disk_layout.specs.Directory.{map_place}
use Rattle.disk_layout.specs.Layout.{File, IsLayout, Layout, file_owns, owners}
use Rattle.layout_check.specs.Reads.{owned_by}

-- the first files, and one more
pub owned-next : (fs : List File) (n : ℕ) (f : File) → slice_get fs n ≡ Some f
    → owned_by (take (n + 1) fs) ≡ owned_by (take n fs) + length (file_owns f)
owned-next fs n f there =
    ap owned_by (take-get fs n f there) ∙ ap length (flat_map-append file_owns (take n fs) (f ∷ []))
    ∙ length-append (flat_map file_owns (take n fs)) (flat_map file_owns (f ∷ []))
    ∙ ap (λ xs. owned_by (take n fs) + length xs) (append-nil (file_owns f))

pub owned-first : (fs : List File) (n : ℕ) → owned_by (take n fs) ≤ owned_by fs
owned-first fs n = omega (
  arith,
  length-flat_map file_owns (take n fs),
  length-flat_map file_owns fs,
  sum_by-take-le (λ f. length (file_owns f)) fs n,
)

pub owned-more : (fs : List File) (n : ℕ) → owned_by (take n fs) ≤ owned_by (take (n + 1) fs)
owned-more fs n = let P : List File → Type 0 = λ xs. owned_by xs ≤ owned_by (take (n + 1) fs) in
    subst P (take-take n (n + 1) fs (omega arith)) (owned-first (take (n + 1) fs) n)

pub length-owners : (l : Layout) → length (owners l) ≡ length l.directory + owned_by l.files
unfolding owners
length-owners l = length-append l.directory (flat_map file_owns l.files)

pub owners-few : (img : Image) (l : Layout) → IsLayout img l → length (owners l) ≤ 682
owners-few img l is = omega (arith, places-few (map_place ∷ owners l) is.once)
