-- The lines are handled, committed, and then answered.
use Rattle.std.proofs.Common.{◌≡◌, ◌≤◌, List, ℕ, arith, length, subst, take}
use Rattle.std.proofs.lemmas.List.{length-map}
use Rattle.arrayvec.specs.ArrayVec.{ArrayVec}
use Rattle.request_cards.specs.Ledgers.{report}
use Rattle.request_cards.specs.declared.reply.Reply.{Reply}
use Rattle.one_host.specs.History.{Until}
use Rattle.one_host.proofs.Moments.{joined}
use Rattle.kept_logs.specs.Logs.{log_file}
use Rattle.line_server.specs.Batches.{texts_of}
use Rattle.served_lines.specs.Services.{Answers}
use Rattle.served_lines.proofs.Batches.{commit_held, may, print_held, served}
use Rattle.served_lines.proofs.serving.serve_batch.Goals as goal

pub returns-in_err-log-clause-any_moment : goal.returns-in_err-log-clause-any_moment
returns-in_err-log-clause-any_moment g c known n s start image v input since =
    let S = g.H.Host.history in
    let h0 = c.args.host.now in
    let h1 = c.commit_changes.new.host in
    commit_held s start image v c.args.session.now c.handle_batch.new.session c.args.kept.now c.args.log input (texts_of c.args.lines.now) c.handle_batch.new.replies.items c.handle_batch.ensures.handled S h0 h1 n since (c.commit_changes.ensures.any_moment known n start (may s start image v c.args.session.now c.handle_batch.new.session c.args.kept.now c.args.log input (texts_of c.args.lines.now) c.handle_batch.new.replies.items c.handle_batch.ensures.handled S h0 h1 n since))

pub returns-in_err-print_whole-clause-any_moment : goal.returns-in_err-print_whole-clause-any_moment
returns-in_err-print_whole-clause-any_moment g c known n s start image v input since =
    let S = g.H.Host.history in
    let h0 = c.args.host.now in
    let h1 = c.commit_changes.new.host in
    let h2 = c.print_whole.new.host in
    let text = take c.write_replies-end.result c.write_replies-end.new.text in
    let is = subst (λ (rs : List Reply). length rs ≤ 512 → text ≡ report rs) c.as_slice.ensures.value c.write_replies-end.ensures.report in
    let few : length (texts_of c.args.lines.now) ≤ 512 = omega (arith, length-map c.args.lines.now (λ (l : ArrayVec ℕ). l.items), c.requires.few) in
    let committed = c.in_ok-log.ensures.ok known n start (may s start image v c.args.session.now c.handle_batch.new.session c.args.kept.now c.args.log input (texts_of c.args.lines.now) c.handle_batch.new.replies.items c.handle_batch.ensures.handled S h0 h1 n since) in
    joined S h0 h1 h2 (Until n (Answers s start image v (log_file c.args.log)))
    (commit_held s start image v c.args.session.now c.handle_batch.new.session c.args.kept.now c.args.log input (texts_of c.args.lines.now) c.handle_batch.new.replies.items c.handle_batch.ensures.handled S h0 h1 n since (c.commit_changes.ensures.any_moment known n start (may s start image v c.args.session.now c.handle_batch.new.session c.args.kept.now c.args.log input (texts_of c.args.lines.now) c.handle_batch.new.replies.items c.handle_batch.ensures.handled S h0 h1 n since)))
    (print_held s start image v c.args.session.now c.handle_batch.new.session c.args.kept.now c.args.log input (texts_of c.args.lines.now) c.handle_batch.new.replies.items c.handle_batch.ensures.handled S h0 h1 n since c.in_ok-log.log committed text is few h2 (c.print_whole.ensures.any_moment known n committed.count))

pub returns-clause-any_moment : goal.returns-clause-any_moment
returns-clause-any_moment g c known n s start image v input since =
    let S = g.H.Host.history in
    let h0 = c.args.host.now in
    let h1 = c.commit_changes.new.host in
    let h2 = c.print_whole.new.host in
    let text = take c.write_replies-end.result c.write_replies-end.new.text in
    let is = subst (λ (rs : List Reply). length rs ≤ 512 → text ≡ report rs) c.as_slice.ensures.value c.write_replies-end.ensures.report in
    let few : length (texts_of c.args.lines.now) ≤ 512 = omega (arith, length-map c.args.lines.now (λ (l : ArrayVec ℕ). l.items), c.requires.few) in
    let committed = c.in_ok-log.ensures.ok known n start (may s start image v c.args.session.now c.handle_batch.new.session c.args.kept.now c.args.log input (texts_of c.args.lines.now) c.handle_batch.new.replies.items c.handle_batch.ensures.handled S h0 h1 n since) in
    joined S h0 h1 h2 (Until n (Answers s start image v (log_file c.args.log)))
    (commit_held s start image v c.args.session.now c.handle_batch.new.session c.args.kept.now c.args.log input (texts_of c.args.lines.now) c.handle_batch.new.replies.items c.handle_batch.ensures.handled S h0 h1 n since (c.commit_changes.ensures.any_moment known n start (may s start image v c.args.session.now c.handle_batch.new.session c.args.kept.now c.args.log input (texts_of c.args.lines.now) c.handle_batch.new.replies.items c.handle_batch.ensures.handled S h0 h1 n since)))
    (print_held s start image v c.args.session.now c.handle_batch.new.session c.args.kept.now c.args.log input (texts_of c.args.lines.now) c.handle_batch.new.replies.items c.handle_batch.ensures.handled S h0 h1 n since c.in_ok-log.log committed text is few h2 (c.print_whole.ensures.any_moment known n committed.count))

pub returns-clause-ok : goal.returns-clause-ok
returns-clause-ok g c known n s start image v input since =
    let S = g.H.Host.history in
    let h0 = c.args.host.now in
    let h1 = c.commit_changes.new.host in
    let h2 = c.print_whole.new.host in
    let text = take c.write_replies-end.result c.write_replies-end.new.text in
    let is = subst (λ (rs : List Reply). length rs ≤ 512 → text ≡ report rs) c.as_slice.ensures.value c.write_replies-end.ensures.report in
    let few : length (texts_of c.args.lines.now) ≤ 512 = omega (arith, length-map c.args.lines.now (λ (l : ArrayVec ℕ). l.items), c.requires.few) in
    let committed = c.in_ok-log.ensures.ok known n start (may s start image v c.args.session.now c.handle_batch.new.session c.args.kept.now c.args.log input (texts_of c.args.lines.now) c.handle_batch.new.replies.items c.handle_batch.ensures.handled S h0 h1 n since) in
    served s start image v c.args.session.now c.handle_batch.new.session c.args.kept.now c.args.log input (texts_of c.args.lines.now) c.handle_batch.new.replies.items c.handle_batch.ensures.handled S h0 h1 n since c.in_ok-log.log committed text is few h2 c.commit_changes.new.kept c.in_ok-log.ensures.kept
    (c.in_ok-print_whole.ensures.ok known n committed.count)
