-- Which record numbers fit, and the greatest of them.
use Rattle.std.proofs.Common.{◌≡◌, ℕ, suc, ◌<◌, ◌≤◌, arith}
use Rattle.disk_layout.specs.Layout.{Layout}
use Rattle.disk_layout.specs.Room.{Fits, IsTop}

pub Fits-below : (l : Layout) (n r s : ℕ) → s ≤ r → Fits l n r → Fits l n s
Fits-below l n r s le h = record {
  number = omega (arith, le, h.number);
  blocks = omega (arith, le, h.blocks);
  room = omega (arith, le, h.room);
}

-- so the last number that fits is the greatest, where the next doesn't
pub IsTop-last : (l : Layout) (n r : ℕ) → Fits l n r → ¬ (Fits l n (suc r)) → IsTop l n r
IsTop-last l n r h last =
    record { fits = h; greatest = λ s fits. omega (arith, λ (lt : r < s). last (Fits-below l n s (suc r) lt fits)) }

-- a layout has one greatest record number
pub IsTop-one : (l : Layout) (n r s : ℕ) → IsTop l n r → IsTop l n s → r ≡ s
IsTop-one l n r s x y = omega (arith, x.greatest s y.fits, y.greatest r x.fits)
