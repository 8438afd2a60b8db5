-- What was trimmed is the bytes that the host says.
use Rattle.std.specs.Prelude.{vec_items}
use Rattle.opened_files.specs.Ends.{EndsAs}
use Rattle.image_edits.specs.Trims.{IsTrimRun, as_trimmed}
use Rattle.opened_files.proofs.HostFiles.{over-long}
use Rattle.image_edits.proofs.trimming.do_trim.Goals as goal

pub returns : goal.returns
returns g c =
    over-long g.R.HostFiles.rights g.R.HostFiles.stands c.args.rt.now c.args.path.now c.args.out.now c.trim_run.new.out
    c.args.err.now c.trim_run.new.err c.trim_run.result (vec_items c.in_ok-image.image) c.as_slice.result.now
    (λ image. EndsAs as_trimmed c.trim_run.result
    (IsTrimRun g.W.Write.contents g.E.Write.contents image c.args.out.now c.trim_run.new.out c.args.err.now
    c.trim_run.new.err))
    c.in_ok-image.ensures.read c.as_slice.ensures.value c.trim_run.ensures
