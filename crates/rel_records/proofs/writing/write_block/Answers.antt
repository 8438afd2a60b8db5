-- A block is read, patched and written.
use Rattle.std.proofs.Common.{ap, arith, subst, ◌∙◌, ◌∷◌, []}
use Rattle.d64_image.specs.Images.{Sector}
use Rattle.rel_records.proofs.lemmas.writing.Puts.{passes, puts-none, reads-puts}
use Rattle.rel_records.specs.Puts.{PutsEach, in_block}
use Rattle.rel_records.specs.Written.{patched}
use Rattle.rel_records.proofs.writing.write_block.Goals as goal

pub returns-clause-put : goal.returns-clause-put
returns-clause-put g c =
    let S = g.D.Sectors.history in
    let P : Sector → Type 0 = λ s. PutsEach S c.read.new.disk c.write.new.disk ((c.args.place, s) ∷ []) 0 c.write.result in
    reads-puts S c.args.disk.now c.read.new.disk c.write.new.disk _ 1 0 c.write.result c.in_ok-read.ensures.reads
    c.in_ok-read.ensures.failures
    (subst P (c.patch.ensures ∙ ap (λ (b : Sector). patched c.args.start c.args.end c.args.text.now b)
    c.in_ok-read.ensures.ok) c.write.ensures)

pub returns-in_err-read-clause-put : goal.returns-in_err-read-clause-put
returns-in_err-read-clause-put g c =
    let S = g.D.Sectors.history in
    let puts = in_block (S.image c.args.disk.now) c.args.place c.args.start c.args.end c.args.text.now ∷ [] in
    passes (PutsEach S c.args.disk.now c.read.new.disk puts 1) c.from_residual.result _ c.from_residual.ensures.1
    (puts-none S c.args.disk.now c.read.new.disk puts 1 1 _ _ (omega arith) c.in_err-read.ensures)
