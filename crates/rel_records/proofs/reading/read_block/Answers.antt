-- The block that its side sector names.
use Rattle.std.proofs.Common.{ap, ◌∙◌, refl, arith}
use Rattle.std.proofs.lemmas.Result.{IfOk-weaker}
use Rattle.d64_image.specs.Images.{Image, sector}
use Rattle.d64_image.proofs.Moments.{reads_then, reads_weaker}
use Rattle.rel_records.proofs.lemmas.Told.{fault-is, none-done, passed-on, tells-rel-after}
use Rattle.rel_records.proofs.reading.read_block.Goals as goal

pub returns : goal.returns
returns g c =
    let S = g.D.Sectors.history in
    record {
      ok = IfOk-weaker c.read.result _ _ (λ done e l n f of. record {
        place = c.in_ok-place.place;
        at = c.in_ok-place.ensures.ok l n f of;
        read = e ∙ ap (λ (i : Image). sector i c.in_ok-place.place) c.block_at.ensures.reads.image;
      }) c.read.ensures.ok;
      err = c.read.ensures.err;
      reads = reads_then S _ _ _ 1 1 2 (omega arith) c.block_at.ensures.reads c.read.ensures.reads;
      failures = tells-rel-after S _ _ _ c.in_ok-place.ensures.failures c.read.result c.read.ensures.failures;
    }

pub returns-in_err-place : goal.returns-in_err-place
returns-in_err-place g c =
    record {
      ok = none-done c.from_residual.result _ c.from_residual.ensures.1 _;
      err = fault-is c.from_residual.result _ c.from_residual.ensures.1 _ (λ e is. is ∙ c.in_err-place.ensures.err);
      reads = reads_weaker g.D.Sectors.history _ _ 1 2 (omega arith) c.block_at.ensures.reads;
      failures = passed-on g.D.Sectors.history _ _ _ refl c.from_residual.result _ c.from_residual.ensures.1
          c.in_err-place.ensures.failures;
    }
