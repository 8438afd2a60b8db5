-- The run's own word, and what bringing its file to the disk adds.
use Rattle.image_file.specs.ImageFile.{placed}
use Rattle.shop_jobs.proofs.Durables.{durable_run, played_alone, undone}
use Rattle.shop_jobs.proofs.durable_runs.play_durably.Goals as goal

pub returns : goal.returns
returns g c =
    let taken = c.of_image-placed in
    let run = c.play_run-left in
    let done = c.finished-end in
    record {
      run = durable_run c.args.image.now c.args.file c.into_inner.result taken.result run.result.0
          done.new.file run.result.1 done.result _ taken.ensures c.into_inner.ensures run.ensures.run done.ensures;
      untouched = played_alone c.args.file c.into_inner.result taken.result run.result.0 done.new.file run.result.1
          done.result taken.ensures.is_file c.into_inner.ensures done.ensures.told done.ensures.alone c.args.out.now
          run.new.out
          (undone placed g.T.Replies.output c.args.image.now c.args.script.now taken.result run.result.0 c.args.out.now
          run.new.out run.result.1 run.ensures.run.fault);
    }
