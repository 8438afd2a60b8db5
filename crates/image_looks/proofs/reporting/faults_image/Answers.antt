-- They were printed and handed on, or the image is refused.
use Rattle.std.proofs.Common.{refl}
use Rattle.std.proofs.lemmas.Result.{err_from_is_err_and}
use Rattle.image_looks.proofs.Listed.{listed-kept}
use Rattle.image_looks.proofs.reporting.faults_image.Goals as goal

pub returns-in_err-found : goal.returns-in_err-found
returns-in_err-found g c =
    let p = err_from_is_err_and c.from_residual.result c.from_residual.ensures.1 in record {
      ok = rw p.1 tt;
      err = rw (p.1, p.2) c.in_err-found.ensures.err;
      untouched = rw (p.1, p.2) c.in_err-found.ensures.untouched;
    }

pub returns-in_err-flush : goal.returns-in_err-flush
returns-in_err-flush g c =
    let p = err_from_is_err_and c.from_residual-in_err-flush.result c.from_residual-in_err-flush.ensures.1 in record {
      ok = rw p.1 tt;
      err = rw (p.1, p.2, c.in_err-flush.ensures.err) c.in_ok-found.ensures.ok.size;
      untouched = rw (p.1, p.2, c.in_err-flush.ensures.err) (λ other. absurd (other refl));
    }

pub returns : goal.returns
returns g c = record {
  ok = listed-kept g.W.Write.contents c.args.image.now c.args.out.now c.list_faults.new.out c.flush.new.out
      c.in_ok-found.found c.in_ok-found.ensures.ok c.in_ok-flush.ensures.kept;
  err = tt;
  untouched = tt;
}
