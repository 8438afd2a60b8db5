-- The entries of a directory and the files of its layout, one by one.
use Rattle.std.proofs.Common.{◌≡◌, List, ap, map, subst, sym, ◌∙◌, ℕ}
use Rattle.std.proofs.lemmas.Option.{slice_get-map}
use Rattle.std.specs.Prelude.{Some, option_map, slice_get}
use Rattle.d64_image.specs.Images.{Image}
use Rattle.disk_layout.proofs.lemmas.layouts.Layouts.{IsDirectory-one, get-contains}
use Rattle.disk_layout.proofs.lemmas.lists.Lists.{made-from}
use Rattle.disk_layout.proofs.lemmas.lists.Once.{all-in}
use Rattle.disk_layout.specs.Directory.{IsDirectory}
use Rattle.disk_layout.specs.Layout.{File, IsFile, IsLayout, Layout}
use Rattle.disk_layout.specs.declared.slot.Slot.{Slot}
use Rattle.disk_layout.specs.Listed.{HasStock, IsStock}

-- one place, one entry
pub one-entry : (slots : List Slot) (k n : ℕ) (s t : Slot) → k ≡ n → slice_get slots k ≡ Some s
    → slice_get slots n ≡ Some t → s ≡ t
one-entry slots k n s t same at to =
    let both : Some s ≡ Some t = sym at ∙ ap (λ m. slice_get slots m) same ∙ to in
    cc

module _ (img : Image) (l : Layout) (is : IsLayout img l) (slots : List Slot)
    (e : slots ≡ map (λ (f : File). f.slot) l.files) where
  -- the file of an entry
  pub file-at : (k : ℕ) (s : Slot) → slice_get slots k ≡ Some s → (f : File) × (slice_get l.files k ≡ Some f)
      × (f.slot ≡ s) × IsFile img f
  file-at k s at =
      let (f, there, same) = made-from (λ (f : File). f.slot) (slice_get l.files k) s
      (sym (slice_get-map (λ (f : File). f.slot) l.files k) ∙ ap (λ (xs : List Slot). slice_get xs k) (sym e) ∙ at) in
      (f, there, same, all-in (IsFile img) l.files f is.files (get-contains l.files k f there))

  -- and the entry of a file
  pub entry-at : (k : ℕ) (f : File) → slice_get l.files k ≡ Some f → (slice_get slots k ≡ Some f.slot) × IsFile img f
  entry-at k f there = (
    ap (λ (xs : List Slot). slice_get xs k) e ∙ slice_get-map (λ (f : File). f.slot) l.files k
        ∙ ap (option_map (λ (f : File). f.slot)) there,
    all-in (IsFile img) l.files f is.files (get-contains l.files k f there),
  )

  -- a shop's STOCK among the entries is one among the files
  pub stock-of : (k : ℕ) × (s : Slot) × (slice_get slots k ≡ Some s) × IsStock s → HasStock l
  stock-of (k, s, at, stock) =
      let (f, there, same, file) = file-at k s at in
      (k, f, there, subst IsStock (sym same) stock)

  pub stock-in : HasStock l → (k : ℕ) × (s : Slot) × (slice_get slots k ≡ Some s) × IsStock s
  stock-in (k, f, there, stock) = (k, f.slot, (entry-at k f there).0, stock)

-- the entries that are listed are those of the files
pub entries-listed : (img now : Image) (l : Layout) (slots : List Slot) → now ≡ img → IsLayout img l
    → (ps : List _) × IsDirectory now ps slots → slots ≡ map (λ (f : File). f.slot) l.files
entries-listed img now l slots same is (ps, d) =
    let P : Image → Type 0 = λ i. IsDirectory i ps slots in
    (IsDirectory-one img ps l.directory slots _ (subst P same d) is.directory).1
