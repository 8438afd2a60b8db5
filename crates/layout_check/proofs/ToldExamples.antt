-- What the words for what isn't exact say: on files of the disk with the file STOCK, and of any two files.
use Rattle.std.proofs.Common.{◌≡◌, ◌≢◌, List, [], ◌∷◌, ◌++◌, None, Some, IsTrue, sym, ◌∙◌, ap, refl, arith, subst}
use Rattle.std.specs.List.{AllByRecursion}
use Rattle.d64_image.specs.Images.{Image, sector}
use Rattle.disk_layout.proofs.ExampleDisk.{entry_bytes, entry_slot, stock_file}
use Rattle.disk_layout.proofs.Examples.{block_0, block_1}
use Rattle.disk_layout.specs.Directory.{directory_start}
use Rattle.disk_layout.specs.Layout.{File, count_field, is_rel}
use Rattle.disk_layout.specs.Side.{side_sector}
use Rattle.disk_layout.specs.declared.faults.Fault.TheVariants.{BadSide, CountWrong}
use Rattle.layout_check.specs.Exact.{IsCleanFile, IsFirstInexact, IsFirstInexactFile, IsInexactFile, ToldOfEntry}
use Rattle.layout_check.specs.Recounted.{owned_count}

-- an entry that owns two sectors and counts three; with an inexact side sector that one is told, whatever it counts
pub counts-three : ToldOfEntry (entry_slot 132 1 18 3) None 2 (Some (CountWrong directory_start))
unfolding entry_bytes
counts-three = (refl, λ e. omega (arith, e))

pub counts-two : ToldOfEntry (entry_slot 132 1 18 2) None 2 None
unfolding entry_bytes
counts-two = refl

pub side-before_count : ToldOfEntry (entry_slot 132 1 18 3) (Some block_1) 2 (Some (BadSide block_1))
side-before_count = refl

-- the only side sector has other bytes than it is to have
pub side-wrong : (img : Image) → sector img block_1 ≢ side_sector 0 (block_0 ∷ []) (block_1 ∷ []) 18
    → IsFirstInexact img (entry_slot 132 1 18 2) (block_0 ∷ []) (block_1 ∷ []) block_1
unfolding entry_bytes
side-wrong img ne = record { number = 0; there = refl; other = ne; first = λ k p lt. absurd (omega (arith, lt)) }

-- STOCK counts three and not two
pub stock-first : (img : Image) → IsFirstInexactFile img (stock_file 37 3 ∷ []) (CountWrong directory_start)
unfolding entry_bytes
stock-first img = record {
  before = [];
  file = stock_file 37 3;
  after = [];
  split = refl;
  exact = tt;
  told = (refl, refl, λ e. omega (arith, e));
}

-- where the count of a first file is wrong, none is told of a second in another directory sector
pub second-silent : (img : Image) (f g : File) → IsTrue (is_rel f.slot) → count_field f.slot ≢ owned_count f
    → f.slot.sector ≢ g.slot.sector → ¬ (IsFirstInexactFile img (f ∷ g ∷ []) (CountWrong g.slot.sector))
second-silent img f g rel wrong apart h = by h.before h.file h.after h.split h.exact h.told
  where
    by : (fs : List File) (x : File) (gs : List File) → f ∷ g ∷ [] ≡ fs ++ x ∷ gs → AllByRecursion (IsCleanFile img) fs
        → IsInexactFile img x (CountWrong g.slot.sector) → ⊥
    by [] x gs split exact told = let one : f ≡ x = cc in apart (ap (λ (y : File). y.slot.sector) one ∙ sym told.1)
    by (y ∷ fs) x gs split exact told =
        let one : y ≡ f = cc in
        let P : File → Type 0 = IsCleanFile img in
        wrong (subst P one exact.0 rel).count
