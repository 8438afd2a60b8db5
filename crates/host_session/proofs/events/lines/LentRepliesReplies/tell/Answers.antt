-- The line of the reply was written to the writer that is lent, or a beginning of it.
use Rattle.std.proofs.Common.{refl}
use Rattle.host_session.proofs.lemmas.events.Printed.{is_lent, is_written}
use Rattle.host_session.specs.declared.events.lines.LentReplies.{LentReplies}
use Rattle.host_session.specs.events.Instants.{instant_of}
use Rattle.host_session.proofs.events.lines.LentRepliesReplies.tell.Goals as goal

pub returns : goal.returns
returns g c =
    let contents = g.W.Write.contents in
    let i = instant_of g.D.Sectors.history c.args._disk.now in
    let lent = c.args.self.now.out in
    let now : LentReplies g.row.W.Denot = record {
      out = record { ref_ptr = lent.ref_ptr; ghost_name = lent.ghost_name; now = c.write_line.new.out };
    } in
    is_lent contents c.args.self.now now c.args.reply.now i c.write_line.result refl
    (is_written contents lent.now c.write_line.new.out c.args.reply.now i c.write_line.result c.write_line.ensures.ok
    c.write_line.ensures.err)
