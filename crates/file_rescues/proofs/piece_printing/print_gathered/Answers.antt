-- A record's line is gathered behind the others, and at last all are printed.
use Rattle.std.proofs.Common.{◌≤◌, ◌+◌, ◌++◌, [], Err, List, ap, arith, length, refl, take, ℕ, ◌∙◌}
use Rattle.std.proofs.KnownBytes.{Appends-nil}
use Rattle.std.proofs.lemmas.Result.{err_from_is_err_and, on_err_weaker, on_ok_weaker}
use Rattle.line_text.specs.bytes.Texts.{record_line}
use Rattle.command_faults.proofs.Parts.{part-on}
use Rattle.file_rescues.proofs.Beginnings.{plain-part}
use Rattle.file_rescues.proofs.Pieced.{piece-is, pieces-count}
use Rattle.file_rescues.proofs.Printing.{all-lines, line-gathered}
use Rattle.file_rescues.specs.Records.{lines_to, records_of}
use Rattle.file_rescues.proofs.piece_printing.print_gathered.Goals as goal

pub loop-before-init : goal.loop-before-init
loop-before-init g c = record {
  handed = ([], Appends-nil (g.W.Write.contents c.args.out.now), refl);
  within = omega arith;
}

pub hand_on-requires : goal.hand_on-requires
hand_on-requires g c = c.loop-before.invariant.within

pub loop-before-preserved : goal.loop-before-preserved
loop-before-preserved g c =
    let rs = records_of c.args.size c.args.bytes.now in
    let start = c.in_ok-start.start in
    let number : ℕ = c.loop-before.before + 1 in
    let piece = c.refill.ensures ∙ piece-is c.args.size c.loop-before.before _ c.args.bytes.now c.loop-before-test.true refl
    in
    record {
      handed = line-gathered _ _ _ rs c.loop-before.before _ _ _ c.loop-before.invariant.handed c.in_ok-start.ensures.ok
          (c.append_line-end.ensures.written
          ∙ ap (λ (r : List ℕ). take start c.loop-before.room ++ record_line number r) piece);
      within = omega (arith, c.append_line-end.ensures.end, c.in_ok-start.ensures.room);
    }

pub returns-in_err-start-clause-part : goal.returns-in_err-start-clause-part
returns-in_err-start-clause-part g c =
    let p = err_from_is_err_and c.from_residual.result c.from_residual.ensures.1 in
    let rs = records_of c.args.size c.args.bytes.now in
    let few : c.loop-before.before ≤ length rs =
    omega (arith, c.loop-before-test.true, pieces-count c.args.size c.args.bytes.now) in
    rw (p.1 ∙ ap Err p.2) (plain-part _ _ rs c.loop-before.before few (part-on _ _ _ (lines_to rs c.loop-before.before) _
    c.loop-before.invariant.handed c.in_err-start.ensures.part))

pub returns-clause-ok : goal.returns-clause-ok
returns-clause-ok g c =
    let rs = records_of c.args.size c.args.bytes.now in
    on_ok_weaker c.put.result
    (λ put. all-lines _ _ _ rs c.loop-before.before _
    (omega (arith, pieces-count c.args.size c.args.bytes.now, c.loop-before-test.false, c.loop-before.auto.before-end))
    c.loop-before.invariant.handed put)
    c.put.ensures.ok

pub returns-clause-part : goal.returns-clause-part
returns-clause-part g c =
    let rs = records_of c.args.size c.args.bytes.now in
    on_err_weaker c.put.result
    (λ part. plain-part _ _ rs c.loop-before.before
    (omega (arith, pieces-count c.args.size c.args.bytes.now, c.loop-before.auto.before-end))
    (part-on _ _ _ (lines_to rs c.loop-before.before) _ c.loop-before.invariant.handed part))
    c.put.ensures.part
