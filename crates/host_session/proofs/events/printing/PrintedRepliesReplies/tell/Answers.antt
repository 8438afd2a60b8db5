-- The line of the reply was written, or a beginning of it.
use Rattle.host_session.proofs.lemmas.events.Printed.{is_printed, is_written}
use Rattle.host_session.specs.events.Instants.{instant_of}
use Rattle.host_session.specs.runs.Outputs.{printer_out}
use Rattle.host_session.proofs.events.printing.PrintedRepliesReplies.tell.Goals as goal

pub returns : goal.returns
returns g c =
    let contents = g.W.Write.contents in
    let i = instant_of g.D.Sectors.history c.args._disk.now in
    is_printed contents c.args.self.now (record { out = c.write_line.new.out }) c.args.reply.now i c.write_line.result
    (is_written contents (printer_out c.args.self.now) c.write_line.new.out c.args.reply.now i c.write_line.result
    c.write_line.ensures.ok c.write_line.ensures.err)
