-- The image of a disk in memory that is made at a path.
use Rattle.std.proofs.Common.{◌≡◌, ℕ, List, None, Option, Ok, Err, Some, inl, inr, length, subst, sym}
use Rattle.d64_image.specs.Images.{Image}
use Rattle.d64_image.specs.Memory.{sectors_in}
use Rattle.file_changes.specs.Formats.{IsNewDisk}
use Rattle.image_edits.specs.NewDisks.{IsNewImage}
use Rattle.opened_files.specs.Ends.{JobEnd}
use Rattle.opened_files.specs.Makings.{IsNewEnd}

-- the bytes of a disk in memory are the image of one
pub new-image : (name id bytes : List ℕ) (img : Image) → length bytes ≡ 174848 → sectors_in bytes ≡ img
    → IsNewDisk name id img → IsNewImage name id bytes
new-image name id bytes img size same is = record {
  size = size;
  new = subst (λ i. IsNewDisk name id i) (sym same) is;
}

-- what is known of what was made may be weakened
pub made-weaker : {W : Type 0} (contents : W → Option (List ℕ)) (Made Then : Type 0) (text : List ℕ) (old new : W) (end : JobEnd)
    → (Made → Then) → IsNewEnd contents Made text old new end → IsNewEnd contents Then text old new end
made-weaker contents Made Then text old new (Ok None) f told = (f told.0, told.1)
made-weaker contents Made Then text old new (Ok (Some found)) f told = told
made-weaker contents Made Then text old new (Err refusal) f (inl quiet) = inl quiet
made-weaker contents Made Then text old new (Err refusal) f (inr (file, made, part)) = inr (file, f made, part)
