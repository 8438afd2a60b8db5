-- The chunks of the bytes are an image, and joined again they are the bytes.
use Rattle.std.proofs.Common.{◌∙◌, ap, subst, sym, arith}
use Rattle.d64_image.specs.Images.{IsImage}
use Rattle.d64_image.specs.Memory.{bytes_of}
use Rattle.d64_image.specs.Chunks.{chunks_are_image, chunks_are_bytes, chunks_are_sectors}
use Rattle.d64_image.proofs.mem_disk.MemDisk.load.Goals as goal

pub invariant_of-result : goal.invariant_of-result
invariant_of-result c = record {
  whole = subst IsImage (sym (c.in-Ok.ensures.items ∙ c.as_chunks.ensures.front))
      (chunks_are_image c.args.bytes.now _ (omega arith) (omega arith) (λ i. omega (arith, c.type_inv.bytes i)));
}

pub returns-in-Ok-clause-ok : goal.returns-in-Ok-clause-ok
returns-in-Ok-clause-ok c =
    ap bytes_of (c.in-Ok.ensures.items ∙ c.as_chunks.ensures.front)
    ∙ chunks_are_bytes c.args.bytes.now _ (omega arith) (omega arith)

pub returns-in-Ok-clause-image : goal.returns-in-Ok-clause-image
returns-in-Ok-clause-image c =
    c.in-Ok.ensures.items ∙ c.as_chunks.ensures.front
    ∙ chunks_are_sectors c.args.bytes.now _ (omega arith)
