-- The block that is kept while records are read in order.
use Rattle.std.proofs.Common.{None, Option, ℕ, ◌≡◌, subst, sym}
use Rattle.std.specs.Prelude.{IfSome}
use Rattle.d64_image.specs.Images.{Image}
use Rattle.rel_records.specs.declared.reading.record_order.LastBlock.{LastBlock}
use Rattle.rel_records.specs.declared.rel_file.RelFile.{RelFile}
use Rattle.rel_records.specs.reading.Block.{IsBlock}
use Rattle.rel_records.specs.reading.Kept.{IsKept, number_kept}

-- no block is one of any file
pub none-kept : (img : Image) (v : RelFile) (x : LastBlock) → number_kept x ≡ None → IsKept img v x
none-kept img v x is = λ l n f of. subst (λ (o : Option ℕ). IfSome o (λ r. IsBlock img f.blocks r x.bytes)) (sym is) tt
