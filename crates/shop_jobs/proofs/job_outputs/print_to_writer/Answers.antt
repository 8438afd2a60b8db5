-- The line of the reply was written, or a beginning of it.
use Rattle.shop_jobs.proofs.ReplyTold.{is-printed}
use Rattle.shop_jobs.proofs.job_outputs.print_to_writer.Goals as goal

pub returns : goal.returns
returns g c =
    is-printed g.W.Write.contents c.args.out.now c.print_line.new.out c.args.reply.now c.args._log.now c.print_line.result
    c.print_line.ensures.ok c.print_line.ensures.err
