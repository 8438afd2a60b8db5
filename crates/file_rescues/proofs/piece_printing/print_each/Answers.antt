-- The line of one record more.
use Rattle.std.proofs.Common.{◌∙◌, ◌+◌, Err, List, ap, arith, refl, subst, ℕ}
use Rattle.std.proofs.KnownBytes.{Appends-nil}
use Rattle.std.proofs.lemmas.Result.{err_from_is_err_and}
use Rattle.file_rescues.proofs.Pieced.{piece-is, piece-more, pieces-all, pieces-count}
use Rattle.file_rescues.proofs.Beginnings.{next-part}
use Rattle.command_faults.specs.Outputs.{HandsPart}
use Rattle.file_rescues.specs.Forms.{form_line}
use Rattle.file_rescues.specs.Records.{records_of}
use Rattle.file_rescues.proofs.piece_printing.print_each.Goals as goal

pub loop-before-init : goal.loop-before-init
loop-before-init g c = Appends-nil (g.W.Write.contents c.args.out.now)

pub loop-before-preserved : goal.loop-before-preserved
loop-before-preserved g c = piece-more _ _ _ c.args.form c.args.size c.loop-before.before _ c.args.bytes.now
    c.loop-before-test.true refl c.loop-before.invariant c.in_ok-print_piece.ensures.ok

pub returns-clause-ok : goal.returns-clause-ok
returns-clause-ok g c = pieces-all _ _ c.args.form c.args.size c.loop-before.before c.args.bytes.now
    (omega (arith, c.loop-before-test.false, c.loop-before.auto.before-end)) c.loop-before.invariant

pub returns-in_err-print_piece-clause-part : goal.returns-in_err-print_piece-clause-part
returns-in_err-print_piece-clause-part g c =
    let a = g.W.Write.contents c.args.out.now in
    let b = g.W.Write.contents c.loop-before.out in
    let d = g.W.Write.contents c.print_piece.new.out in
    let p = err_from_is_err_and c.from_residual.result c.from_residual.ensures.1 in
    rw (p.1 ∙ ap Err p.2) (next-part a b d c.args.form (records_of c.args.size c.args.bytes.now) c.loop-before.before
    c.loop-before.invariant
    (subst (λ (r : List ℕ). HandsPart b d (form_line c.args.form (c.loop-before.before + 1) r))
    (piece-is c.args.size c.loop-before.before _ c.args.bytes.now c.loop-before-test.true refl)
    c.in_err-print_piece.ensures.part)
    (omega (arith, c.loop-before-test.true, pieces-count c.args.size c.args.bytes.now)))
