-- Rows of files that changed, as they are printed.
use Rattle.std.proofs.Common.{◌≡◌, ◌++◌, ◌∙◌, ℕ, Bool, true, false, List, [], ap, ap₂, refl}
use Rattle.std.specs.Prelude.{Option, None, Some, codes, if◌then◌else◌, unwrap_or}
use Rattle.std.specs.Io.KnownBytes.{Appends}
use Rattle.d64_image.specs.Images.{Image}
use Rattle.disk_layout.specs.Layout.{File}
use Rattle.disk_pictures.proofs.Printing.{three}
use Rattle.disk_pictures.specs.ComparedPages.{entry_head, entry_row, former_row, gone_by, parts_text, record_text}
use Rattle.disk_pictures.specs.ComparedPages.{records_cell, row_by, row_end}
use Rattle.disk_pictures.specs.Comparisons.{Disk, counterpart, have_same_records, most_records}
use Rattle.disk_pictures.specs.Html.{html_of}
use Rattle.disk_pictures.specs.Petscii.{petscii_of}
use Rattle.disk_pictures.specs.Texts.{each_below}

-- the beginning, by what was found to differ; the records; and the end
pub row-printed : (a b c d : Option (List ℕ)) (k : ℕ) (f : File) (e s t x y z : Bool) (records : List ℕ)
    → e ≡ x → s ≡ y → t ≡ z
    → Appends a b (entry_head html_of petscii_of k f (codes "changed") (parts_text e s t))
    → Appends b c records → Appends c d row_end
    → Appends a d (entry_head html_of petscii_of k f (codes "changed") (parts_text x y z) ++ (records ++ row_end))
row-printed a b c d k f e s t x y z records p q r head middle end =
    rw (← p, ← q, ← r) (three a b c d _ _ _ head middle end)

-- the row by the counterpart that was found
pub entry-by : (a b : Disk) (k : ℕ) (f : File) (o : Option File) (others fs : List File)
    → o ≡ counterpart others fs k f → others ≡ a.layout.files → fs ≡ b.layout.files
    → row_by html_of petscii_of a.image b.image k f o ≡ entry_row html_of petscii_of a b k f
unfolding entry_row
entry-by a b k f o others fs found is are =
    ap (row_by html_of petscii_of a.image b.image k f)
    (found ∙ ap₂ (λ (xs ys : List File). counterpart xs ys k f) is are)

pub former-by : (a b : Disk) (k : ℕ) (f : File) (o : Option File) (others fs : List File)
    → o ≡ counterpart others fs k f → others ≡ b.layout.files → fs ≡ a.layout.files
    → gone_by html_of petscii_of f o ≡ former_row html_of petscii_of a b k f
unfolding former_row
former-by a b k f o others fs found is are =
    ap (gone_by html_of petscii_of f)
    (found ∙ ap₂ (λ (xs ys : List File). counterpart xs ys k f) is are)

-- the records that were printed, of those that there are
pub no-records : (a b : Image) (g f : File) → None ≡ (if have_same_records g f then Some (most_records g f) else None)
    → records_cell a b g f ≡ []
unfolding records_cell
no-records a b g f none = by (have_same_records g f) none
  where
    by : (t : Bool) → None ≡ (if t then Some (most_records g f) else None)
        → (if t then each_below (most_records g f) (record_text a b g f) else []) ≡ []
    by true e = cc
    by false e = refl

pub all-records : (a b : Image) (g f : File) (n : ℕ)
    → Some n ≡ (if have_same_records g f then Some (most_records g f) else None)
    → each_below n (record_text a b g f) ≡ records_cell a b g f
unfolding records_cell
all-records a b g f n some = by (have_same_records g f) some
  where
    by : (t : Bool) → Some n ≡ (if t then Some (most_records g f) else None)
        → each_below n (record_text a b g f) ≡ (if t then each_below (most_records g f) (record_text a b g f) else [])
    by true e = ap (λ (o : Option ℕ). each_below (unwrap_or o 0) (record_text a b g f)) e
    by false e = cc
