-- Which sectors a comparison marks; and a disk that is compared with itself has no mark and no row.
use Rattle.std.proofs.Common.{◌≡◌, ◌≢◌, ◌+◌, ◌++◌, ◌∷◌, ◌∙◌, ℕ, zero, suc, Bool, true, false, List, [], length, take, drop}
use Rattle.std.proofs.Common.{ap, arith, refl, subst, sym}
use Rattle.std.specs.Prelude.{Option, Some, None, bytes_eq, filter, if◌then◌else◌, not, slice_get}
use Rattle.std.specs.List.{list_any}
use Rattle.std.proofs.lemmas.Bool.{false_from_ne_true}
use Rattle.std.proofs.lemmas.Slice.Eq.{bytes_eq-Decides}
use Rattle.d64_image.specs.Images.{Image, sector}
use Rattle.d64_image.specs.Places.{index_of, place_at}
use Rattle.d64_image.specs.declared.place.Place.{Place}
use Rattle.disk_layout.specs.Layout.{File}
use Rattle.disk_pictures.proofs.CountedDrawing.{no-place, one-place}
use Rattle.disk_pictures.specs.ComparedPages.{changed_row, changes_text, entry_row, former_row, gone_by, row_by}
use Rattle.disk_pictures.specs.Comparisons.{Disk, are_sectors_changed, counterpart, differs, each_difference}
use Rattle.disk_pictures.specs.Comparisons.{is_called, is_entry_changed, number_of}
use Rattle.disk_pictures.specs.Html.{Show}
use Rattle.damaged_files.specs.reached.Names.{name_of}
use Rattle.disk_pictures.specs.Pictures.{each_place}
use Rattle.disk_pictures.specs.Sectors.{times}
use Rattle.disk_pictures.specs.Texts.{at_place, each_below, numbered}

same-bytes : (xs ys : List ℕ) → xs ≡ ys → bytes_eq xs ys ≡ true
same-bytes xs ys e = (bytes_eq-Decides xs ys).1 e

other-bytes : (xs ys : List ℕ) → xs ≢ ys → bytes_eq xs ys ≡ false
other-bytes xs ys ne = false_from_ne_true (bytes_eq xs ys)
    (λ t. ne ((bytes_eq-Decides xs ys).0 t))

pub marked : (a b : Image) (p : Place) → sector a p ≢ sector b p → times (index_of p) (each_difference number_of a b) ≡ 1
unfolding each_difference
marked a b p ne = one-place p (differs a b) (ap not (other-bytes (sector a p) (sector b p) ne))

pub unmarked : (a b : Image) (p : Place) → sector a p ≡ sector b p
    → times (index_of p) (each_difference number_of a b) ≡ 0
unfolding each_difference
unmarked a b p e = no-place p (differs a b) (ap not (same-bytes (sector a p) (sector b p) e))

same-sector : (a : Image) (p : Place) → differs a a p ≡ false
same-sector a p = ap not (same-bytes (sector a p) (sector a p) refl)

-- lines of which each is empty
no-lines : (m : ℕ) (line : ℕ → List ℕ) → ((i : ℕ) → line i ≡ []) → each_below m line ≡ []
unfolding each_below
no-lines zero line none = refl
no-lines (suc m) line none = ap (λ (xs : List ℕ). xs ++ line m) (no-lines m line none) ∙ none m

no-mark : (a : Image) (o : Option Place) → at_place (λ p. if differs a a p then number_of p else []) o ≡ []
no-mark a None = refl
no-mark a (Some p) = ap (λ (b : Bool). if b then number_of p else []) (same-sector a p)

none-differs : (a : Image) → each_difference number_of a a ≡ []
unfolding each_difference each_place
none-differs a = no-lines 35 _ (λ b. no-lines 21 _ (λ s. no-mark a (place_at (b + 1) s)))

-- an entry that has a name is, among those of that name, after those before it
found : (P : File → Bool) (fs : List File) (k : ℕ) (f : File) → slice_get fs k ≡ Some f → P f ≡ true
    → slice_get (filter P fs) (length (filter P (take k fs))) ≡ Some f
found P [] k f at is = cc
found P (g ∷ gs) zero f at is =
    let e : f ≡ g = cc in
    let named : P g ≡ true = ap P (sym e) ∙ is in
    ap (λ (b : Bool). slice_get (if b then g ∷ filter P gs else filter P gs) 0) named ∙ ap Some (sym e)
found P (g ∷ gs) (suc k) f at is = by (P g) (found P gs k f at is)
  where
    by : (b : Bool) → slice_get (filter P gs) (length (filter P (take k gs))) ≡ Some f
        → slice_get (if b then g ∷ filter P gs else filter P gs)
        (length (if b then g ∷ filter P (take k gs) else filter P (take k gs))) ≡ Some f
    by true rest = rest
    by false rest = rest

own : (fs : List File) (k : ℕ) (f : File) → slice_get fs k ≡ Some f → counterpart fs fs k f ≡ Some f
unfolding counterpart
own fs k f at = found (is_called (name_of f.slot)) fs k f at (same-bytes (name_of f.slot) (name_of f.slot) refl)

none-changed : (a : Image) (ps : List Place) → list_any (differs a a) ps ≡ false
none-changed a [] = refl
none-changed a (p ∷ ps) = rw (same-sector a p) (none-changed a ps)

unchanged : (show signs : Show) (a : Image) (k : ℕ) (f : File) → changed_row show signs a a k f f ≡ []
unchanged show signs a k f =
    let entry : is_entry_changed f f ≡ false = ap not (same-bytes (drop 2 f.slot.bytes) (drop 2 f.slot.bytes) refl) in
    let sectors : are_sectors_changed a a f ≡ false =
    rw (none-changed a f.blocks, none-changed a f.sides) refl in
    rw (entry, sectors) refl

-- rows of which each is empty
no-rows : (line : ℕ → File → List ℕ) (k : ℕ) (fs : List File)
    → ((i : ℕ) (f : File) → slice_get fs i ≡ Some f → line (k + i) f ≡ []) → numbered line k fs ≡ []
unfolding numbered
no-rows line k [] none = refl
no-rows line k (f ∷ fs) none =
    let here : k + 0 ≡ k = omega arith in
    let first : line k f ≡ [] = subst (λ (m : ℕ). line m f ≡ []) here (none 0 f refl) in
    ap (λ (xs : List ℕ). xs ++ numbered line (k + 1) fs) first
    ∙ no-rows line (k + 1) fs (λ i g at.
    let next : k + suc i ≡ k + 1 + i = omega arith in
    subst (λ (m : ℕ). line m g ≡ []) next (none (suc i) g at))

pub alone : (d : Disk) (show signs : Show)
    → (each_difference number_of d.image d.image ≡ []) × (changes_text show signs d d ≡ [])
unfolding changes_text entry_row former_row
alone d show signs =
    let fs = d.layout.files in
    let entries : numbered (entry_row show signs d d) 0 fs ≡ [] =
    no-rows (entry_row show signs d d) 0 fs (λ i f at.
    let here : i ≡ 0 + i = omega arith in
    subst (λ (m : ℕ). entry_row show signs d d m f ≡ []) here
    (ap (row_by show signs d.image d.image i f) (own fs i f at) ∙ unchanged show signs d.image i f)) in
    let formers : numbered (former_row show signs d d) 0 fs ≡ [] =
    no-rows (former_row show signs d d) 0 fs (λ i f at.
    let here : i ≡ 0 + i = omega arith in
    subst (λ (m : ℕ). former_row show signs d d m f ≡ []) here (ap (gone_by show signs f) (own fs i f at))) in
    (none-differs d.image, ap (λ (xs : List ℕ). xs ++ numbered (former_row show signs d d) 0 fs) entries ∙ formers)
