-- What is told of an image that is trimmed, part by part.
use Rattle.std.proofs.Common.{◌≡◌, ◌<◌, ◌+◌, ◌++◌, ℕ, Bool, false, List, [], ◌∷◌, take, get_or, length, map, ap}
use Rattle.std.proofs.Common.{subst, sym, ◌∙◌, inl, inr, arith}
use Rattle.std.specs.Prelude.{◌↔◌, IsTrue, None, Option, Some, flat_map, option_map, slice_get}
use Rattle.std.specs.Io.KnownBytes.{Appends, Keeps}
use Rattle.std.proofs.KnownBytes.{Appends-kept, Appends-trans}
use Rattle.std.proofs.lemmas.Bool.{cases_lt}
use Rattle.std.proofs.lemmas.List.{flat_map_more, length-map, map_more, take_all}
use Rattle.std.proofs.lemmas.Option.{slice_get-get_or, slice_get-map, slice_get_within}
use Rattle.d64_image.specs.Memory.{sectors_in}
use Rattle.disk_layout.specs.Fault.{HoldsOfDirectory, nowhere}
use Rattle.disk_layout.specs.Layout.{File, Layout}
use Rattle.disk_layout.specs.declared.faults.Fault.{Fault}
use Rattle.damaged_files.specs.reached.Sizes.{IsImageSize}
use Rattle.disk_pictures.specs.Drawings.{IsDrawn, file_in}
use Rattle.disk_pictures.specs.Trims.{AreFilesWhole, IsAllThere, IsFileWhole, IsTrimmed, errors_text, file_text, layout_line}
use Rattle.disk_pictures.specs.Trims.{trim_text}
use Rattle.disk_pictures.specs.declared.drawn_file.DrawnFile.{DrawnFile}

-- an entry as the code holds it, at its number
pub held-at : (fs : List DrawnFile) (i : ℕ) (f : DrawnFile) → i < length fs → get_or fs i f ≡ f
    → slice_get (map file_in fs) i ≡ Some (file_in f)
held-at fs i f inside here =
    slice_get-map file_in fs i ∙ ap (option_map file_in) (slice_get-get_or fs i f inside ∙ ap Some here)

-- the files before number i are whole
abbrev pub AreWholeBelow : List ℕ → List File → ℕ → Type 0
AreWholeBelow image fs i = (k : ℕ) → k < i → (f : File) → slice_get fs k ≡ Some f → IsFileWhole image f

pub whole-more : (image : List ℕ) (fs : List File) (i : ℕ) (g : File) → slice_get fs i ≡ Some g
    → AreWholeBelow image fs i → IsFileWhole image g → AreWholeBelow image fs (i + 1)
whole-more image fs i g here before this k below f at = elim (cases_lt k i) [
  | inl less ↦ before k less f at
  | inr more ↦
      let same : k ≡ i = omega (arith, below, more) in
      let both : Some g ≡ Some f = sym here ∙ subst (λ (j : ℕ). slice_get fs j ≡ Some f) same at in
      let one : g ≡ f = cc in
      subst (IsFileWhole image) one this
]

pub whole-all : (image : List ℕ) (fs : List DrawnFile) (i : ℕ) → i ≡ length fs
    → AreWholeBelow image (map file_in fs) i → AreFilesWhole image (map file_in fs)
whole-all image fs i all before k f at =
    let inside = slice_get_within (map file_in fs) k f at in
    before k (omega (arith, inside, all, length-map fs file_in)) f at

-- what is told of both is told
pub trim-told : (a b c d : Option (List ℕ)) (image : List ℕ) (l : Layout) → Appends a b (errors_text image (Some l))
    → Appends b c (flat_map (file_text image) l.files) → Keeps c d → Appends a d (trim_text image l)
unfolding trim_text
trim-told a b c d image l errors files kept =
    Appends-kept a c d _ (Appends-trans a b c _ _ errors files) kept

-- one file's lines more, and those of all
pub files-more : (a b c : Option (List ℕ)) (image : List ℕ) (fs : List DrawnFile) (i : ℕ) (f : DrawnFile)
    → i < length fs → f ≡ get_or fs i f
    → Appends a b (flat_map (file_text image) (map file_in (take i fs))) → Appends b c (file_text image (file_in f))
    → Appends a c (flat_map (file_text image) (map file_in (take (i + 1) fs)))
files-more a b c image fs i f inside here before more =
    let taken : map file_in (take (i + 1) fs) ≡ map file_in (take i fs) ++ file_in f ∷ [] =
    map_more file_in fs i f inside ∙ ap (λ (g : DrawnFile). map file_in (take i fs) ++ file_in g ∷ []) (sym here) in
    subst (Appends a c) (flat_map_more (file_text image) [] (map file_in (take i fs)) (file_in f)
    ∙ ap (flat_map (file_text image)) (sym taken)) (Appends-trans a b c _ _ before more)

pub all-files : (a b : Option (List ℕ)) (image : List ℕ) (fs : List DrawnFile) (i : ℕ) → i ≡ length fs
    → Appends a b (flat_map (file_text image) (map file_in (take i fs)))
    → Appends a b (flat_map (file_text image) (map file_in fs))
all-files a b image fs i all lines =
    subst (λ gs. Appends a b (flat_map (file_text image) (map file_in gs))) (take_all i fs (omega (arith, all))) lines

-- all was printed, and what isn't there told
module _ {W E : Type 0} (contents : W → Option (List ℕ)) (told : E → Option (List ℕ)) (image tracks : List ℕ)
    (old new : W) (err new_err : E) (size : IsImageSize (length image)) (front : tracks ≡ take 174848 image)
    (printed : Appends (contents old) (contents new) tracks) where
  pub trimmed-drawn : (l : Layout) (whole : Bool) → IsDrawn (sectors_in tracks) l
      → Appends (told err) (told new_err) (trim_text image l) → (IsTrue whole ↔ IsAllThere image l)
      → IsTrimmed contents told image old new err new_err whole
  trimmed-drawn l whole drawn text exact = record {
    size = size;
    printed = subst (Appends (contents old) (contents new)) front printed;
    reported = inl (l, subst (λ ts. IsDrawn (sectors_in ts) l) front drawn, text, exact);
  }

  pub trimmed-unread : (fault : Fault) (whole : Bool) → HoldsOfDirectory nowhere (sectors_in tracks) fault
      → Appends (told err) (told new_err) (errors_text image None ++ layout_line fault) → whole ≡ false
      → IsTrimmed contents told image old new err new_err whole
  trimmed-unread fault whole holds text is = record {
    size = size;
    printed = subst (Appends (contents old) (contents new)) front printed;
    reported = inr (fault, subst (λ ts. HoldsOfDirectory nowhere (sectors_in ts) fault) front holds, text, is);
  }
