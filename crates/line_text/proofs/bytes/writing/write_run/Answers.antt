-- The bytes that stand for themselves are their own text.
use Rattle.std.proofs.Common.{arith, subst, sym}
use Rattle.std.specs.Io.KnownBytes.{Appends}
use Rattle.std.proofs.lemmas.Result.{IfOk-from_err}
use Rattle.line_text.proofs.lemmas.bytes.Displays.{one-range}
use Rattle.line_text.proofs.lemmas.bytes.Texts.{range-plain}
use Rattle.line_text.proofs.bytes.writing.write_run.Goals as goal

pub returns : goal.returns
returns g c =
    let found = c.plain_end-end.ensures in record {
      ok = (
        omega (arith, found.low, c.if-end-start.false),
        found.high,
        subst (Appends (g.W.Write.contents c.args.out.now) (g.W.Write.contents c.write_all.new.self))
            (sym (range-plain c.args.bytes.now c.args.start c.plain_end-end.result found.low found.high found.plain))
            c.in_ok-write_all.ensures.bytes,
      );
    }

pub plain_end-end-requires : goal.plain_end-end-requires
plain_end-end-requires g c = omega arith

pub bounds-bytes-start : goal.bounds-bytes-start
bounds-bytes-start g c = omega arith

pub overflow_add-result : goal.overflow_add-result
overflow_add-result g c = omega arith

pub slice_bounds-write_all-count : goal.slice_bounds-write_all-count
slice_bounds-write_all-count g c = omega arith

pub slice_bounds-write_all-start : goal.slice_bounds-write_all-start
slice_bounds-write_all-start g c = omega arith

pub slice_bounds-write_all-end : goal.slice_bounds-write_all-end
slice_bounds-write_all-end g c = omega arith

pub returns-in_err-write_byte : goal.returns-in_err-write_byte
returns-in_err-write_byte g c =
    record { ok = IfOk-from_err c.from_residual.result _ c.from_residual.ensures.0 }

pub returns-in_err-write_all : goal.returns-in_err-write_all
returns-in_err-write_all g c = record {
  ok = IfOk-from_err c.from_residual-in_err-write_all.result _ c.from_residual-in_err-write_all.ensures.0;
}

pub returns-then-end-start : goal.returns-then-end-start
returns-then-end-start g c = record {
  ok = (
    omega arith,
    omega arith,
    subst (Appends (g.W.Write.contents c.args.out.now) (g.W.Write.contents c.write_byte.new.out))
        (one-range c.args.bytes.now c.args.start (omega arith)) c.in_ok-write_byte.ensures,
  );
}
