-- Bytes were written, or the file would get too long.
use Rattle.image_file.proofs.lemmas.Unwritten.{none_written}
use Rattle.image_file.proofs.noted.noted_file.NotedFileWritesAt.write_all_at.Goals as goal

pub returns-in_err-see_end-clause-written : goal.returns-in_err-see_end-clause-written
returns-in_err-see_end-clause-written g c =
    none_written (g.F.WritesAt.held c.args.self.now.file) c.args.at c.args.bytes.now _ c.from_residual.ensures.0
