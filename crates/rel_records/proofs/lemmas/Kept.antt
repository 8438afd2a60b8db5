-- What calls on one file leave of the others, from call to call.
use Rattle.std.proofs.Common.{List, Some, ap, append-nil, arith, inl, inr, length, refl, subst, sym, ℕ, ◌<◌, ◌≤◌, ◌∙◌}
use Rattle.std.proofs.Common.{◌≡◌, ◌≢◌, ◌⊎◌}
use Rattle.std.specs.Prelude.{slice_get}
use Rattle.d64_image.specs.Images.{Image}
use Rattle.disk_layout.specs.Layout.{File, IsLayout, Layout, file_owns}
use Rattle.disk_layout.specs.Records.{records}
use Rattle.rel_records.specs.File.{IsFileOf}
use Rattle.rel_records.specs.Others.{HasRecords, KeepsOthers, KeepsPlaces, KeepsRelFiles, LeavesRecords}
use Rattle.rel_records.specs.Written.{IsGrowingBy}
use Rattle.rel_records.specs.declared.rel_file.RelFile.{RelFile}

-- nothing changes
pub keeps_same : (img : Image) (l : Layout) (n : ℕ) → KeepsOthers img img l l n
keeps_same img l n = record {
  directory = refl;
  entries = refl;
  files = λ k f ne h. h;
  bytes = λ k f ne h. refl;
  header = refl;
}

-- one call after another
pub keeps_then : (a b c : Image) (l m k : Layout) (n : ℕ) → KeepsOthers a b l m n → KeepsOthers b c m k n
    → KeepsOthers a c l k n
keeps_then a b c l m k n x y = record {
  directory = y.directory ∙ x.directory;
  entries = y.entries ∙ x.entries;
  files = λ i f ne h. y.files i f ne (x.files i f ne h);
  bytes = λ i f ne h. y.bytes i f ne (x.files i f ne h) ∙ x.bytes i f ne h;
  header = y.header ∙ x.header;
}

-- a file that stays, with no fewer records
pub places-stay : (img : Image) (l : Layout) (n : ℕ) (f : File) (rs : List (List ℕ)) → slice_get l.files n ≡ Some f
    → length (records img f) ≤ length rs → (g : File) → slice_get l.files n ≡ Some g → KeepsPlaces img g f rs
places-stay img l n f rs at le g to =
    let e : f ≡ g = cc in
    let P : File → Type 0 = λ x. KeepsPlaces img x f rs in
    subst P e (le, inl refl)

pub places-then : (a b : Image) (f g h : File) (rs ts : List (List ℕ)) → records b g ≡ rs → KeepsPlaces a f g rs
    → KeepsPlaces b g h ts → KeepsPlaces a f h ts
places-then a b f g h rs ts e (le, same) (more, stays) = (omega (arith, le, more, count), both same stays)
  where
    count : length (records b g) ≡ length rs
    count = ap (λ (xs : List (List ℕ)). length xs) e

    both : (file_owns g ≡ file_owns f) ⊎ (length (records a f) < length rs) → (file_owns h ≡ file_owns g)
        ⊎ (length (records b g) < length ts) → (file_owns h ≡ file_owns f) ⊎ (length (records a f) < length ts)
    both (inl x) (inl y) = inl (y ∙ x)
    both (inl x) (inr y) = inr (omega (arith, le, y, count))
    both (inr x) y = inr (omega (arith, x, more, count))

-- what is kept of another file is of the new image
pub other-of : (a b : Image) (l m : Layout) (n k : ℕ) (f : File) (v : RelFile) → KeepsOthers a b l m n → IsLayout b m
    → k ≢ n → IsFileOf a l k f v → IsFileOf b m k f v
other-of a b l m n k f v keeps h ne of = record {
  layout = h;
  there = keeps.files k f ne of.there;
  rel = of.rel;
  shows = of.shows;
}

pub has-others : (a b : Image) (l : Layout) (n : ℕ) (rs : List (List ℕ)) → HasRecords a b l n rs → KeepsRelFiles a b l n
has-others a b l n rs h k g w ne of = (h.layout, other-of a b l h.layout n k g w h.others h.is_layout ne of)

pub has_same : (img : Image) (l : Layout) (n : ℕ) (f : File) (v : RelFile) → IsFileOf img l n f v
    → HasRecords img img l n (records img f)
has_same img l n f v of = record {
  layout = l;
  is_layout = of.layout;
  others = keeps_same img l n;
  file = f;
  there = of.there;
  records = refl;
  places = places-stay img l n f (records img f) of.there (omega arith);
}

pub has_then : (a b c : Image) (l : Layout) (n : ℕ) (rs ts : List (List ℕ)) (h : HasRecords a b l n rs)
    → HasRecords b c h.layout n ts → HasRecords a c l n ts
has_then a b c l n rs ts h k = record {
  layout = k.layout;
  is_layout = k.is_layout;
  others = keeps_then a b c l h.layout k.layout n h.others k.others;
  file = k.file;
  there = k.there;
  records = k.records;
  places = λ f at. places-then a b f h.file k.file rs ts h.records (h.places f at) (k.places h.file h.there);
}

-- what is done is a moment as well
pub leaves_has : (a b : Image) (l : Layout) (n : ℕ) (rs : List (List ℕ)) (v : RelFile) → LeavesRecords a b l n rs v
    → HasRecords a b l n rs
leaves_has a b l n rs v h = record {
  layout = h.layout;
  is_layout = h.of.layout;
  others = h.others;
  file = h.file;
  there = h.of.there;
  records = h.records;
  places = h.places;
}

-- after a call that is done, and then a moment of the next
pub leaves_then : (a b c : Image) (l : Layout) (n : ℕ) (rs ts : List (List ℕ)) (v : RelFile)
    (h : LeavesRecords a b l n rs v) → HasRecords b c h.layout n ts → HasRecords a c l n ts
unfolding leaves_has
leaves_then a b c l n rs ts v h k = has_then a b c l n rs ts (leaves_has a b l n rs v h) k

pub leaves_leaves : (a b c : Image) (l : Layout) (n : ℕ) (rs ts : List (List ℕ)) (v w : RelFile)
    (h : LeavesRecords a b l n rs v) → LeavesRecords b c h.layout n ts w → LeavesRecords a c l n ts w
leaves_leaves a b c l n rs ts v w h k = record {
  layout = k.layout;
  clean = λ strays was. k.clean strays (h.clean strays was);
  others = keeps_then a b c l h.layout k.layout n h.others k.others;
  file = k.file;
  of = k.of;
  records = k.records;
  places = λ f at. places-then a b f h.file k.file rs ts h.records (h.places f at) (k.places h.file h.of.there);
}

pub growing_same : (img : Image) (l : Layout) (n : ℕ) (f : File) (v : RelFile) (m : ℕ) → IsFileOf img l n f v
    → IsGrowingBy img l n f m img
growing_same img l n f v m of =
    let P : List (List ℕ) → Type 0 = HasRecords img img l n in
    (0, omega arith, subst P (sym (append-nil (records img f))) (has_same img l n f v of), λ never w. w)
