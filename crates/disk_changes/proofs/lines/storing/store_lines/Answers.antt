-- The records of the lines so far are stored, and one more in each turn.
use Rattle.std.proofs.Common.{Ok, Err, Result, [], arith, refl, sym, subst, ap, ◌∙◌}
use Rattle.std.proofs.lemmas.Result.{err_from_is_err_and}
use Rattle.line_text.specs.scripts.Lines.{lines}
use Rattle.disk_changes.proofs.lemmas.lines.Composed.{none-stored}
use Rattle.disk_changes.proofs.lemmas.lines.LinesStored.{all-stored, next-usable, next-file, next-line, one-failed, one-more}
use Rattle.disk_changes.specs.lines.Stores.{last_ones}
use Rattle.disk_changes.specs.lines.Storing.{StoresLines}
use Rattle.command_faults.specs.declared.faults.CommandFault.{CommandFault}
use Rattle.disk_changes.proofs.lines.storing.store_lines.Goals as goal

pub loop-line-init : goal.loop-line-init
loop-line-init g c = record {
  room = omega arith;
  storing = λ k n f of h xs are reach tells.
      record {
        done = [];
        left = xs;
        split = refl;
        counted = refl;
        are_lines = are;
        kept = [];
        ones = refl;
        stores = none-stored g.D.Sectors.history g.W.Write.contents k n f c.args.disk.now c.args.out.now c.args.file.now
            of;
      };
}

pub store_line-requires-clause-usable : goal.store_line-requires-clause-usable
store_line-requires-clause-usable g c =
    let (k, n, f, of) = c.requires.of in
    let (h, xs, are, reach, tells) = c.requires.lines in
    next-usable g.D.Sectors.history g.W.Write.contents c.args.disk.now c.loop-line.disk c.args.out.now c.loop-line.out k
    n f c.args.file.now c.loop-line.file h xs of reach
    c.args.last.now.places.items tells c.in-Some.line.now (lines c.in-Some.more.now) (lines c.loop-line.rest.now)
    c.loop-line.place
    (c.loop-line.invariant.storing k n f of h xs are reach tells) c.in-Some.ensures.0 c.requires.usable

pub store_line-requires-clause-of : goal.store_line-requires-clause-of
store_line-requires-clause-of g c =
    let (k, n, f, of) = c.requires.of in
    let (h, xs, are, reach, tells) = c.requires.lines in
    next-file g.D.Sectors.history g.W.Write.contents c.args.disk.now c.loop-line.disk c.args.out.now c.loop-line.out k n
    f c.args.file.now c.loop-line.file h xs of reach
    c.args.last.now.places.items tells c.in-Some.line.now (lines c.in-Some.more.now) (lines c.loop-line.rest.now)
    c.loop-line.place
    (c.loop-line.invariant.storing k n f of h xs are reach tells) c.in-Some.ensures.0

pub store_line-requires-clause-line : goal.store_line-requires-clause-line
store_line-requires-clause-line g c =
    let (k, n, f, of) = c.requires.of in
    let (h, xs, are, reach, tells) = c.requires.lines in
    next-line g.D.Sectors.history g.W.Write.contents c.args.disk.now c.loop-line.disk c.args.out.now c.loop-line.out k n
    f c.args.file.now c.loop-line.file h xs of reach
    c.args.last.now.places.items tells c.in-Some.line.now (lines c.in-Some.more.now) (lines c.loop-line.rest.now)
    c.loop-line.place
    (c.loop-line.invariant.storing k n f of h xs are reach tells) c.in-Some.ensures.0

pub loop-line-preserved : goal.loop-line-preserved
loop-line-preserved g c = record {
  room = omega (arith, c.loop-line.invariant.room, c.in-Some.ensures.1);
  storing = λ k n f of h xs are reach tells.
      one-more g.D.Sectors.history g.W.Write.contents c.args.disk.now c.loop-line.disk c.args.out.now c.loop-line.out k
      n f c.args.file.now c.loop-line.file h xs of reach
      c.args.last.now.places.items tells c.in-Some.line.now (lines c.in-Some.more.now) (lines c.loop-line.rest.now)
      c.loop-line.place
      (c.loop-line.invariant.storing k n f of h xs are reach tells) c.in-Some.ensures.0
      c.store_line.new.disk c.store_line.new.out c.store_line.new.file (Ok c.in_ok-store_line.field-0)
      c.in_ok-store_line.ensures refl;
}

pub returns-in_err-store_line : goal.returns-in_err-store_line
returns-in_err-store_line g c = λ k n f of h xs are reach tells.
    let S = g.D.Sectors.history in
    let p = err_from_is_err_and c.from_residual.result c.from_residual.ensures.1 in
    subst (λ (r : Result (Unit {0}) CommandFault). StoresLines S g.W.Write.contents c.args.disk.now c.store_line.new.disk
    c.args.out.now c.store_line.new.out k n f c.args.file.now c.store_line.new.file (last_ones xs) r)
    (sym (p.1 ∙ ap Err p.2))
    (one-failed S g.W.Write.contents c.args.disk.now c.loop-line.disk c.args.out.now c.loop-line.out k n f
    c.args.file.now c.loop-line.file h xs of reach
    c.args.last.now.places.items tells c.in-Some.line.now (lines c.in-Some.more.now) (lines c.loop-line.rest.now)
    c.loop-line.place
    (c.loop-line.invariant.storing k n f of h xs are reach tells) c.in-Some.ensures.0
    c.store_line.new.disk c.store_line.new.out c.store_line.new.file (Err c.in_err-store_line.field-0.0)
    c.in_err-store_line.ensures c.in_err-store_line.field-0.0 refl)

pub returns : goal.returns
returns g c = λ k n f of h xs are reach tells.
    all-stored g.D.Sectors.history g.W.Write.contents c.args.disk.now c.loop-line.disk c.args.out.now c.loop-line.out k
    n f c.args.file.now c.loop-line.file h xs of reach
    (lines c.loop-line.rest.now) c.loop-line.place (c.loop-line.invariant.storing k n f of h xs are reach tells)
    c.in_default.ensures
