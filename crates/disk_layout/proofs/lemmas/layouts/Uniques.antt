-- What a layout determines: its first file of a name.
use Rattle.std.proofs.Common.{◌≡◌, ℕ, ◌<◌, List, sym, ◌∙◌, ap, arith}
use Rattle.std.specs.Prelude.{slice_get, Some}
use Rattle.disk_layout.specs.Layout.{File, Layout}
use Rattle.disk_layout.specs.Rest.{IsFirst}

-- the first file of a name is one file, at one place of the list
pub IsFirst-one : (l : Layout) (name : List ℕ) (m n : ℕ) (f g : File) → IsFirst l name m f → IsFirst l name n g
    → (m ≡ n) × (f ≡ g)
IsFirst-one l name m n f g x y =
    let low : ¬ (m < n) = λ h. y.first m f h x.file x.named in
    let high : ¬ (n < m) = λ h. x.first n g h y.file y.named in
    let same : m ≡ n = omega (arith, low, high) in
    let both : Some f ≡ Some g = sym x.file ∙ ap (slice_get l.files) same ∙ y.file in
    (same, cc)
