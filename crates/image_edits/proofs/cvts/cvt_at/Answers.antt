-- The CVT is the bytes that were read.
use Rattle.std.proofs.lemmas.Result.{err_from_is_err_and}
use Rattle.image_edits.proofs.Held.{no-cvt, whole-cvt}
use Rattle.image_edits.proofs.cvts.cvt_at.Goals as goal

pub returns-in_err-bytes : goal.returns-in_err-bytes
returns-in_err-bytes g c =
    let p = err_from_is_err_and c.from_residual.result c.from_residual.ensures.1 in record {
      read = λ other all holds. rw p.1 tt;
      err = rw (p.1, p.2) c.in_err-bytes.ensures.err;
    }

pub returns : goal.returns
returns g c = record {
  read = λ other all holds. whole-cvt c.whole_cvt.result c.in_ok-bytes.bytes all (c.in_ok-bytes.ensures.read other all holds)
      c.whole_cvt.ensures.ok;
  err = no-cvt c.whole_cvt.result c.whole_cvt.ensures.err;
}
