-- The line of the reply was written to the writer that is lent, or a beginning of it.
use Rattle.std.proofs.Common.{refl}
use Rattle.host_session.proofs.lemmas.events.Printed.{is_written}
use Rattle.shop_jobs.specs.declared.reply_lines.WatchedReplies.{WatchedReplies}
use Rattle.host_session.specs.events.Instants.{instant_of}
use Rattle.shop_jobs.proofs.ReplyTold.{is-lent}
use Rattle.shop_jobs.proofs.reply_lines.WatchedRepliesReplies.tell.Goals as goal

pub returns : goal.returns
returns g c =
    let contents = g.W.Write.contents in
    let i = instant_of g.D.Sectors.history c.args._disk.now in
    let lent = c.args.self.now.out in
    let now : WatchedReplies g.row.W.Denot = record {
      out = record { ref_ptr = lent.ref_ptr; ghost_name = lent.ghost_name; now = c.print_line.new.out };
    } in
    is-lent contents c.args.self.now now c.args.reply.now i c.print_line.result refl
    (is_written contents lent.now c.print_line.new.out c.args.reply.now i c.print_line.result c.print_line.ensures.ok
    c.print_line.ensures.err)
