-- Batch by batch.
use Rattle.std.proofs.Common.{◌∙◌, ◌++◌, [], arith, inl, inr, refl}
use Rattle.std.proofs.lemmas.List.{with_items_is}
use Rattle.line_server.proofs.Kept.{still_at_end}
use Rattle.line_server.specs.Batches.{texts_of}
use Rattle.line_server.proofs.lemmas.logged.BatchEnds.{as_batch, ends_by, goes_on_by, next_by}
use Rattle.line_server.proofs.lemmas.logged.Ends.{begin_by, fail_by, input_failed, over}
use Rattle.line_server.proofs.logged.batching.serve_open.Goals as goal

pub returns-in_default : goal.returns-in_default
returns-in_default g c disk opened =
    fail_by g.L.ImageLog.history g.R.BatchSource.input g.T.BatchReplies.output disk c.args.log.now c.args.input.now c.args.out.now
    c.args.session.now c.args.room.now.kept.items c.as_mut_slice.result.now c.commit_changes.new.kept c.commit_changes.new.log c.disk.result.now
    c.disk.ensures c.as_mut_slice.ensures.value opened _ c.in_default.field-0 c.in_default.ensures.kept

pub loop-init : goal.loop-init
loop-init g c disk opened =
    begin_by g.L.ImageLog.history g.R.BatchSource.input g.T.BatchReplies.output disk c.args.log.now c.args.input.now c.args.out.now
    c.args.session.now c.args.room.now.kept.items c.as_mut_slice.result.now c.commit_changes.new.kept _ c.commit_changes.new.log c.disk.result.now
    c.disk.ensures c.as_mut_slice.ensures.value opened _ c.in-Ok.field-0 c.in-Ok.ensures.kept
    (with_items_is c.args.room.now.kept c.commit_changes.new.kept (c.commit_changes.auto.kept ∙ c.as_mut_slice.ensures.len))

pub returns-in-Err : goal.returns-in-Err
returns-in-Err g c disk opened =
    let u = c.loop.invariant disk opened in
    ends_by g.L.ImageLog.history g.R.BatchSource.input g.T.BatchReplies.output disk c.args.log.now c.args.input.now c.args.out.now
    c.loop.session c.loop.room.kept.items c.loop.log c.loop.input c.loop.out u.0 c.give_batch-said.new.self
    (texts_of c.give_batch-said.new.lines.items) c.give_batch-said.result c.give_batch-said.ensures.given.0
    c.serve_batch-served.new.session c.serve_batch-served.new.kept c.serve_batch-served.new.log c.serve_batch-served.new.out
    c.in-Err.fault
    (as_batch g.L.ImageLog.history g.T.BatchReplies.output c.as_slice.result.now c.give_batch-said.new.lines.items c.loop.session
    c.serve_batch-served.new.session c.as_mut_slice-in-loop.result.now c.loop.room.kept.items c.serve_batch-served.new.kept
    c.loop.log c.serve_batch-served.new.log c.loop.out c.serve_batch-served.new.out _ c.as_slice.ensures.value
    c.as_mut_slice-in-loop.ensures.value c.in-Err.ensures.served)

pub returns-in-End : goal.returns-in-End
returns-in-End g c disk opened =
    let u = c.loop.invariant disk opened in
    let b = c.in-End.ensures.given.0 in
    let y = goes_on_by g.L.ImageLog.history g.R.BatchSource.input g.T.BatchReplies.output disk c.args.log.now c.args.input.now c.args.out.now
    c.loop.session c.loop.room.kept.items c.loop.log c.loop.input c.loop.out u.0 c.give_batch-said.new.self
    (texts_of c.give_batch-said.new.lines.items) _ b
    c.serve_batch-served.new.session c.serve_batch-served.new.kept c.serve_batch-served.new.log c.serve_batch-served.new.out
    c.loop.counter u.1
    (as_batch g.L.ImageLog.history g.T.BatchReplies.output c.as_slice.result.now c.give_batch-said.new.lines.items c.loop.session
    c.serve_batch-served.new.session c.as_mut_slice-in-loop.result.now c.loop.room.kept.items c.serve_batch-served.new.kept
    c.loop.log c.serve_batch-served.new.log c.loop.out c.serve_batch-served.new.out _ c.as_slice.ensures.value
    c.as_mut_slice-in-loop.ensures.value c.in_default-served.ensures.served) in
    over g.L.ImageLog.history g.R.BatchSource.input g.T.BatchReplies.output disk c.args.log.now c.args.input.now c.args.out.now
    b.rest c.serve_batch-served.new.session c.serve_batch-served.new.kept c.serve_batch-served.new.log
    c.give_batch-said.new.self c.serve_batch-served.new.out y.0
    (still_at_end (g.R.BatchSource.input.remaining c.args.input.now) (g.R.BatchSource.input.remaining c.loop.input)
    (g.R.BatchSource.input.remaining c.give_batch-said.new.self) (u.0.handled ++ []) u.0.read (b.end refl))

pub returns-in-Failed : goal.returns-in-Failed
returns-in-Failed g c disk opened =
    let u = c.loop.invariant disk opened in
    let b = c.in-Failed.ensures.given.0 in
    let y = goes_on_by g.L.ImageLog.history g.R.BatchSource.input g.T.BatchReplies.output disk c.args.log.now c.args.input.now c.args.out.now
    c.loop.session c.loop.room.kept.items c.loop.log c.loop.input c.loop.out u.0 c.give_batch-said.new.self
    (texts_of c.give_batch-said.new.lines.items) _ b
    c.serve_batch-served.new.session c.serve_batch-served.new.kept c.serve_batch-served.new.log c.serve_batch-served.new.out
    c.loop.counter u.1
    (as_batch g.L.ImageLog.history g.T.BatchReplies.output c.as_slice.result.now c.give_batch-said.new.lines.items c.loop.session
    c.serve_batch-served.new.session c.as_mut_slice-in-loop.result.now c.loop.room.kept.items c.serve_batch-served.new.kept
    c.loop.log c.serve_batch-served.new.log c.loop.out c.serve_batch-served.new.out _ c.as_slice.ensures.value
    c.as_mut_slice-in-loop.ensures.value c.in_default-served.ensures.served) in
    input_failed g.L.ImageLog.history g.R.BatchSource.input g.T.BatchReplies.output disk c.args.log.now c.args.input.now c.args.out.now
    b.rest c.serve_batch-served.new.session c.serve_batch-served.new.kept c.serve_batch-served.new.log
    c.give_batch-said.new.self c.serve_batch-served.new.out y.0 (inl c.in-Failed.ensures.given.1)

pub loop-preserved : goal.loop-preserved
loop-preserved g c disk opened =
    let u = c.loop.invariant disk opened in
    let b = c.in-Event.ensures.given.0 in
    let ahead = b.ahead refl in
    next_by g.L.ImageLog.history g.R.BatchSource.input g.T.BatchReplies.output disk c.args.log.now c.args.input.now c.args.out.now
    c.loop.session c.loop.room.kept.items c.loop.log c.loop.input c.loop.out u.0 c.give_batch-said.new.self
    (texts_of c.give_batch-said.new.lines.items) _ b
    c.serve_batch-served.new.session c.serve_batch-served.new.kept c.serve_batch-served.new.log c.serve_batch-served.new.out
    c.loop.counter u.1
    (as_batch g.L.ImageLog.history g.T.BatchReplies.output c.as_slice.result.now c.give_batch-said.new.lines.items c.loop.session
    c.serve_batch-served.new.session c.as_mut_slice-in-loop.result.now c.loop.room.kept.items c.serve_batch-served.new.kept
    c.loop.log c.serve_batch-served.new.log c.loop.out c.serve_batch-served.new.out _ c.as_slice.ensures.value
    c.as_mut_slice-in-loop.ensures.value c.in_default-served.ensures.served)
    ahead.0 ahead.1 _
    (with_items_is c.loop.room.kept c.serve_batch-served.new.kept
    (c.serve_batch-served.auto.kept ∙ c.as_mut_slice-in-loop.ensures.len))

pub returns : goal.returns
returns g c disk opened =
    let u = c.loop.invariant disk opened in
    input_failed g.L.ImageLog.history g.R.BatchSource.input g.T.BatchReplies.output disk c.args.log.now c.args.input.now c.args.out.now
    [] c.loop.session c.loop.room.kept.items c.loop.log c.loop.input c.loop.out u.0
    (inr (omega (arith, u.1, c.loop-test.false)))
