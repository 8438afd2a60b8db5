-- A deleted entry is no file.
use Rattle.std.proofs.Common.{[], inl, lit≤, refl, ℕ}
use Rattle.std.proofs.Common.{◌∷◌}
use Rattle.std.proofs.lemmas.Bool.{false≢true}
use Rattle.d64_image.specs.Images.{Image, Sector}
use Rattle.disk_layout.proofs.Examples.{block_0}
use Rattle.disk_layout.specs.Directory.{directory_start, slot_in}
use Rattle.disk_layout.specs.Layout.{IsFile, IsPlainFile}
use Rattle.disk_layout.proofs.ExampleDisk.{disk, entry_bytes, entry_slot, one-chain}

-- the same entry as a program has a chain and no side sectors, and a deleted entry that names no block owns nothing
pub program : (len n : ℕ) (rest s m : Sector) → IsPlainFile (disk (entry_bytes 130 0 len n) (0 ∷ 37 ∷ rest) s m)
    (record { slot = entry_slot 130 0 len n; blocks = block_0 ∷ []; last = 37; sides = [] })
unfolding entry_bytes
program len n rest s m = ((block_0, (refl, refl), one-chain (entry_bytes 130 0 len n) 37 rest s m), refl)

pub deleted : (img : Image) → IsFile img (record {
  slot = slot_in directory_start (0 ∷ 0 ∷ 128 ∷ 0 ∷ []) 0;
  blocks = [];
  last = 0;
  sides = [];
})
deleted img = record {
  closed = inl (lit≤ tt, lit≤ tt);
  rel = λ rel. absurd (false≢true rel);
  empty = λ _ _. (refl, refl, refl);
  plain = λ _ some. absurd (some refl);
}
