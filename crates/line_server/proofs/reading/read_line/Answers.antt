-- A line, look by look.
use Rattle.std.proofs.Common.{[], Result, Ok, Err, subst, append-nil}
use Rattle.std.specs.Prelude.{OnErr}
use Rattle.std.specs.Io.KnownBytes.{Consumes}
use Rattle.std.proofs.KnownBytes.{Consumes-nil, Consumes-trans}
use Rattle.line_server.specs.declared.reading.Part.TheVariants.{Ended, More, Over}
use Rattle.line_server.proofs.Kept.{read_more}
use Rattle.line_server.proofs.reading.read_line.Goals as goal

on_err : {T E : Type 0} (r : Result T E) (A : Type 0) → A → OnErr r A
on_err (Ok x) A holds = tt
on_err (Err e) A holds = holds

pub loop-init : goal.loop-init
loop-init g c = record { raw = []; lacks = tt; kept_is = c.clear.ensures; consumed = Consumes-nil _ }

pub returns-in_err-take_part-clause-err : goal.returns-in_err-take_part-clause-err
returns-in_err-take_part-clause-err g c =
    let k = c.loop.invariant in
    on_err c.from_residual.result _ (
      k.raw,
      k.lacks,
      subst (Consumes _ _) (append-nil k.raw)
          (Consumes-trans _ _ _ k.raw [] k.consumed c.in_err-take_part.ensures.err),
    )

pub returns-in-Ended-clause-ok : goal.returns-in-Ended-clause-ok
returns-in-Ended-clause-ok g c =
    let x = read_more _ _ _ c.loop.line.items c.take_part.new.line.items c.in_ok-take_part.field-0 (Ended c.in-Ended.left) c.in-Ended.is
    c.loop.invariant c.in_ok-take_part.ensures.ok in
    (x.0, x.1, x.2, x.3, λ e. cc)

pub returns-in-Over-clause-ok : goal.returns-in-Over-clause-ok
returns-in-Over-clause-ok g c =
    let x = read_more _ _ _ c.loop.line.items c.take_part.new.line.items c.in_ok-take_part.field-0 Over c.in-Over.is
    c.loop.invariant c.in_ok-take_part.ensures.ok in
    (x.0, x.1, x.2, x.3, λ e. x.4 c.in-Over.is)

pub loop-preserved : goal.loop-preserved
loop-preserved g c =
    let x = read_more _ _ _ c.loop.line.items c.take_part.new.line.items c.in_ok-take_part.field-0 More c.in-More.is
    c.loop.invariant c.in_ok-take_part.ensures.ok in
    record { raw = x.0; lacks = x.1; kept_is = x.2; consumed = subst (Consumes _ _) (append-nil x.0) x.3 }

pub returns-clause-err : goal.returns-clause-err
returns-clause-err g c = let k = c.loop.invariant in (k.raw, k.lacks, k.consumed)
