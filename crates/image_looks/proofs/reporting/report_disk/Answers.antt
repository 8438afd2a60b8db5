-- What was printed of the disk is what its command says.
use Rattle.std.proofs.lemmas.Result.{IfErr-weaker}
use Rattle.image_looks.proofs.Looked.{if-all}
use Rattle.image_looks.proofs.Reported.{check-why}
use Rattle.image_looks.proofs.reporting.report_disk.Goals as goal

pub returns-in-Verdict : goal.returns-in-Verdict
returns-in-Verdict g c =
    let done = c.check_image in record {
      ok = rw c.in-Verdict.is (if-all _ _ _ done.result done.ensures.size done.ensures.verdict done.ensures.printed);
      err = rw c.in-Verdict.is (IfErr-weaker done.result _ _ (check-why c.args.disk.now) done.ensures.err);
      untouched = done.ensures.untouched;
    }

pub returns-in-Among : goal.returns-in-Among
returns-in-Among g c =
    let done = c.check_among in record {
      ok = rw c.in-Among.is done.ensures.ok;
      err = rw c.in-Among.is (IfErr-weaker done.result _ _ (check-why c.args.disk.now) done.ensures.err);
      untouched = done.ensures.untouched;
    }

pub returns-in-Faults : goal.returns-in-Faults
returns-in-Faults g c =
    let done = c.faults_image in record {
      ok = rw c.in-Faults.is done.ensures.ok;
      err = rw c.in-Faults.is done.ensures.err;
      untouched = done.ensures.untouched;
    }

pub returns-in-Map : goal.returns-in-Map
returns-in-Map g c =
    let done = c.map_image in record {
      ok = rw c.in-Map.is done.ensures.ok;
      err = rw c.in-Map.is done.ensures.err;
      untouched = done.ensures.untouched;
    }

pub returns-in-Picture : goal.returns-in-Picture
returns-in-Picture g c =
    let done = c.picture_image in record {
      ok = rw c.in-Picture.is done.ensures.ok;
      err = rw c.in-Picture.is done.ensures.err;
      untouched = done.ensures.untouched;
    }

pub returns-in-Poster : goal.returns-in-Poster
returns-in-Poster g c =
    let done = c.poster_image in record {
      ok = rw c.in-Poster.is done.ensures.ok;
      err = rw c.in-Poster.is done.ensures.err;
      untouched = done.ensures.untouched;
    }
