-- All was written and then handed on, or a beginning.
use Rattle.std.proofs.Common.{arith, length, refl, subst, sym}
use Rattle.std.proofs.KnownBytes.{Appends-kept}
use Rattle.std.proofs.lemmas.List.{take_all}
use Rattle.std.proofs.lemmas.Result.{IfErr-weaker}
use Rattle.std.specs.Io.KnownBytes.{Appends}
use Rattle.shop_commands.proofs.Formats.{on_ok}
use Rattle.shop_commands.proofs.bytes.print_whole.Goals as goal

pub returns-in-Ok : goal.returns-in-Ok
returns-in-Ok g c =
    let bytes = c.args.bytes.now in
    let a = g.W.Write.contents c.args.out.now in
    let d = g.W.Write.contents c.flush.new.out in
    let all = Appends-kept a (g.W.Write.contents c.hand_whole.new.out) d bytes c.in-Ok.ensures.ok c.flush.ensures.kept
    in
    record {
      ok = on_ok c.flush.result _ all;
      err = IfErr-weaker c.flush.result _ _
          (λ fault is. (
            is,
            (
              length bytes,
              subst (Appends a d) (sym (take_all (length bytes) bytes (omega arith)))
                  all,
            ),
          ))
          c.flush.ensures.err;
    }

pub returns-in-Err : goal.returns-in-Err
returns-in-Err g c = record { ok = tt; err = (refl, c.in-Err.ensures.err) }
