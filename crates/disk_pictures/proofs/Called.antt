-- The entries of a name, looked for one after another.
use Rattle.std.proofs.Common.{◌≡◌, ◌<◌, ◌+◌, ℕ, suc, Bool, true, false, List, [], ◌∷◌, ◌++◌, get_or, length, map, take, drop}
use Rattle.std.proofs.Common.{sym, ap, ◌∙◌, arith}
use Rattle.std.specs.Prelude.{Option, Some, if◌then◌else◌, slice_get}
use Rattle.std.proofs.lemmas.List.{drop_more, length-append, map_more, take-map}
use Rattle.std.proofs.lemmas.List.Elements.{filter-append}
use Rattle.disk_layout.specs.Layout.{File}
use Rattle.disk_pictures.specs.Comparisons.{called, is_called}
use Rattle.disk_pictures.specs.Drawings.{file_in}
use Rattle.disk_pictures.specs.declared.drawn_file.DrawnFile.{DrawnFile}

-- one entry more
pub counted-so : (name : List ℕ) (fs : List DrawnFile) (i : ℕ) (f : DrawnFile) (count here : ℕ)
    → i < length fs → get_or fs i f ≡ f → count ≡ length (called name (map file_in (take i fs)))
    → here ≡ length (called name (file_in f ∷ []))
    → count + here ≡ length (called name (map file_in (take (i + 1) fs)))
counted-so name fs i f count here inside there before now =
    let taken : map file_in (take (i + 1) fs) ≡ map file_in (take i fs) ++ file_in f ∷ [] =
    map_more file_in fs i f inside ∙ ap (λ g. map file_in (take i fs) ++ file_in g ∷ []) there in
    let both = filter-append (is_called name) (map file_in (take i fs)) (file_in f ∷ []) in
    let long = length-append (called name (map file_in (take i fs))) (called name (file_in f ∷ [])) in
    let all : count + here ≡ length (called name (map file_in (take i fs)) ++ called name (file_in f ∷ [])) =
    omega (arith, before, now, long) in
    all ∙ ap length (sym both) ∙ ap (λ gs. length (called name gs)) (sym taken)

-- the entries from the i-th on are it and those after it
from-here : (fs : List DrawnFile) (i : ℕ) (f : DrawnFile) → i < length fs → get_or fs i f ≡ f
    → map file_in (drop i fs) ≡ file_in f ∷ map file_in (drop (i + 1) fs)
from-here fs i f inside there =
    ap (map file_in) (drop_more fs i f inside) ∙ ap (λ g. file_in g ∷ map file_in (drop (i + 1) fs)) there

first-of : (name : List ℕ) (f : File) (fs : List File) (b : Bool) → is_called name f ≡ b
    → called name (f ∷ fs) ≡ (if b then f ∷ called name fs else called name fs)
first-of name f fs b e = ap (λ (t : Bool). if t then f ∷ called name fs else called name fs) e

-- it is the one that is looked for
pub found-here : (name : List ℕ) (fs : List DrawnFile) (i : ℕ) (f : DrawnFile) (all : Option File) (left : ℕ)
    → i < length fs → get_or fs i f ≡ f → is_called name (file_in f) ≡ true → left ≡ 0
    → all ≡ slice_get (called name (map file_in (drop i fs))) left → Some (file_in f) ≡ all
found-here name fs i f all left inside there named none so =
    sym (so ∙ ap (λ gs. slice_get (called name gs) left) (from-here fs i f inside there)
    ∙ ap (λ gs. slice_get gs left) (first-of name (file_in f) (map file_in (drop (i + 1) fs)) true named)
    ∙ ap (slice_get (file_in f ∷ called name (map file_in (drop (i + 1) fs)))) none)

-- it has the name, but others of it are left
pub passed : (name : List ℕ) (fs : List DrawnFile) (i : ℕ) (f : DrawnFile) (all : Option File) (left next : ℕ)
    → i < length fs → get_or fs i f ≡ f → is_called name (file_in f) ≡ true → left ≡ suc next
    → all ≡ slice_get (called name (map file_in (drop i fs))) left
    → all ≡ slice_get (called name (map file_in (drop (i + 1) fs))) next
passed name fs i f all left next inside there named more so =
    so ∙ ap (λ gs. slice_get (called name gs) left) (from-here fs i f inside there)
    ∙ ap (λ gs. slice_get gs left) (first-of name (file_in f) (map file_in (drop (i + 1) fs)) true named)
    ∙ ap (slice_get (file_in f ∷ called name (map file_in (drop (i + 1) fs)))) more

-- it has another name
pub left-out : (name : List ℕ) (fs : List DrawnFile) (i : ℕ) (f : DrawnFile) (all : Option File) (left : ℕ)
    → i < length fs → get_or fs i f ≡ f → is_called name (file_in f) ≡ false
    → all ≡ slice_get (called name (map file_in (drop i fs))) left
    → all ≡ slice_get (called name (map file_in (drop (i + 1) fs))) left
left-out name fs i f all left inside there other so =
    so ∙ ap (λ gs. slice_get (called name gs) left) (from-here fs i f inside there)
    ∙ ap (λ gs. slice_get gs left) (first-of name (file_in f) (map file_in (drop (i + 1) fs)) false other)

-- the one that is looked for by a name, after as many others of it as stand before an entry
pub by-name : (others : List File) (fs : List DrawnFile) (k n : ℕ) (name other : List ℕ) → name ≡ other
    → n ≡ length (called name (map file_in (take k fs)))
    → slice_get (called name others) n ≡ slice_get (called other others) (length (called other (take k (map file_in fs))))
by-name others fs k n name other e count =
    ap (slice_get (called name others)) (count ∙ ap (λ (gs : List File). length (called name gs)) (sym (take-map file_in k fs)))
    ∙ ap (λ (m : List ℕ). slice_get (called m others) (length (called m (take k (map file_in fs))))) e
