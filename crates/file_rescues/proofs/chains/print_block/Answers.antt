-- The sector's bytes were printed.
use Rattle.std.proofs.Common.{ℕ, List, subst}
use Rattle.std.proofs.lemmas.Result.{on_err_weaker, on_ok_weaker}
use Rattle.std.specs.Io.KnownBytes.{Appends}
use Rattle.command_faults.specs.Outputs.{HandsPart}
use Rattle.file_rescues.specs.Forms.{bytes_as}
use Rattle.file_rescues.proofs.Blocks.{bytes-up-to}
use Rattle.file_rescues.proofs.chains.print_block.Goals as goal

pub returns : goal.returns
returns g c =
    let a = g.W.Write.contents c.args.out.now in
    let b = g.W.Write.contents c.print_as.new.out in
    let same = bytes-up-to _ _ _ _ c.max-end.ensures c.sector.ensures in
    record {
      ok = on_ok_weaker c.print_as.result (subst (λ (bs : List ℕ). Appends a b (bytes_as c.args.form bs)) same)
          c.print_as.ensures.ok;
      part = on_err_weaker c.print_as.result (subst (λ (bs : List ℕ). HandsPart a b (bytes_as c.args.form bs)) same)
          c.print_as.ensures.part;
      err = c.print_as.ensures.err;
    }
