-- Whose a block is: files of a layout share none.
use Rattle.std.proofs.Common.{refl, List, [], Some, ℕ, suc, zero, ap, ◌∷◌, ◌≡◌, ◌≢◌, flat_map}
use Rattle.std.specs.Prelude.{Contains, slice_get}
use Rattle.d64_image.specs.declared.place.Place.{Place}
use Rattle.d64_image.specs.Images.{Image}
use Rattle.disk_layout.proofs.lemmas.layouts.Layouts.{get-contains}
use Rattle.disk_layout.proofs.lemmas.lists.Once.{EachOnce-apart, EachOnce-right, flat_map-in}
use Rattle.disk_layout.specs.Chain.{EachOnce}
use Rattle.disk_layout.specs.Layout.{File, IsLayout, Layout, file_owns, owners}

pub files-apart : (fs : List File) (n k : ℕ) (f g : File) (p : Place) → EachOnce (flat_map file_owns fs)
    → slice_get fs n ≡ Some f → slice_get fs k ≡ Some g → k ≢ n → Contains (file_owns f) p
    → ¬ (Contains (file_owns g) p)
files-apart [] n k f g p once at to ne c d = cc
files-apart (h ∷ fs) zero zero f g p once at to ne c d = absurd (ne refl)
files-apart (h ∷ fs) zero (suc k) f g p once at to ne c d =
    let e : h ≡ f = cc in
    EachOnce-apart (file_owns h) (flat_map file_owns fs) once p (rw e c)
    (flat_map-in file_owns fs g p (get-contains fs k g to) d)
files-apart (h ∷ fs) (suc n) zero f g p once at to ne c d =
    let e : h ≡ g = cc in
    EachOnce-apart (file_owns h) (flat_map file_owns fs) once p (rw e d)
    (flat_map-in file_owns fs f p (get-contains fs n f at) c)
files-apart (h ∷ fs) (suc n) (suc k) f g p once at to ne c d =
    files-apart fs n k f g p (EachOnce-right (file_owns h) (flat_map file_owns fs) once) at to (λ e. ne (ap suc e)) c d

pub apart : (img : Image) (l : Layout) (n k : ℕ) (f g : File) (p : Place) → IsLayout img l
    → slice_get l.files n ≡ Some f → slice_get l.files k ≡ Some g → k ≢ n → Contains (file_owns f) p
    → ¬ (Contains (file_owns g) p)
unfolding owners
apart img l n k f g p h = files-apart l.files n k f g p (EachOnce-right l.directory (flat_map file_owns l.files)
    h.once.1)
