-- Reply by reply.
use Rattle.std.proofs.Common.{◌≡◌, arith, subst, take}
use Rattle.std.proofs.lemmas.List.{take_all}
use Rattle.line_server.proofs.lemmas.logged.Reported.{AllTold, broken_next, handed, told_next}
use Rattle.line_server.proofs.logged.reporting.report_all.Goals as goal

pub loop-reply-preserved : goal.loop-reply-preserved
loop-reply-preserved g c =
    told_next g.T.BatchReplies.output c.args.log.now c.args.out.now c.loop-reply.out c.report.new.self c.args.replies.now
    c.loop-reply.reply-index _ c.loop-reply-test.true c.loop-reply.invariant c.in_ok-report.ensures

pub returns-in_err-report : goal.returns-in_err-report
returns-in_err-report g c =
    broken_next g.T.BatchReplies.output c.args.log.now c.args.out.now c.loop-reply.out c.report.new.self c.args.replies.now
    c.loop-reply.reply-index _ c.from_residual.result c.loop-reply-test.true c.loop-reply.invariant
    c.in_err-report.ensures.0 c.in_err-report.ensures.1 c.from_residual.ensures.0

pub returns : goal.returns
returns g c =
    let all : take c.loop-reply.reply-index c.args.replies.now ≡ c.args.replies.now =
    take_all c.loop-reply.reply-index c.args.replies.now (omega (arith, c.loop-reply-test.false)) in
    handed g.T.BatchReplies.output c.args.log.now c.args.out.now c.loop-reply.out c.pass_on.new.self c.args.replies.now
    c.pass_on.result (subst (AllTold g.T.BatchReplies.output c.args.log.now c.args.out.now c.loop-reply.out) all c.loop-reply.invariant)
    c.pass_on.ensures
