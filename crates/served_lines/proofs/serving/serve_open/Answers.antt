-- What the opening mended, and then batch after batch.
use Rattle.std.proofs.Common.{◌∙◌, ap, refl, subst, sym}
use Rattle.std.proofs.lemmas.List.{with_items_is}
use Rattle.d64_image.specs.Images.{Image}
use Rattle.d64_image.specs.Memory.{disk_image}
use Rattle.one_host.specs.History.{HeldOnly, Since, Until}
use Rattle.one_host.proofs.Moments.{joined}
use Rattle.kept_logs.specs.Logs.{log_file}
use Rattle.line_server.specs.Batches.{texts_of}
use Rattle.line_server.specs.logged.Batches.{HasOpened}
use Rattle.served_lines.specs.Services.{Answers}
use Rattle.served_lines.specs.Steps.{Serves}
use Rattle.served_lines.proofs.Opened.{begun, end, heard_held, may, opening_held, pend}
use Rattle.served_lines.proofs.serving.serve_open.Goals as goal

pub returns-in_err-log-clause-any_moment : goal.returns-in_err-log-clause-any_moment
returns-in_err-log-clause-any_moment g c known n s start disk opened shop since =
    let S = g.H.Host.history in
    let v = S.world c.args.host.now in
    let h0 = c.args.host.now in
    let h1 = c.commit_changes.new.host in
    let opened2 = subst (HasOpened disk c.args.session.now) (sym c.as_mut_slice.ensures.value) opened in
    opening_held s start disk c.args.session.now c.as_mut_slice.result.now opened2 shop c.args.log v S h0 h1 n refl since
    (c.commit_changes.ensures.any_moment known n start (may s start disk c.args.session.now c.as_mut_slice.result.now opened2 shop c.args.log v S h0 h1 n refl since))

pub loop-init : goal.loop-init
loop-init g c = record {
  file = c.in_ok-log.ensures.file;
  any_moment = λ known n s start disk opened shop since.
      let S = g.H.Host.history in
      let v = S.world c.args.host.now in
      let h0 = c.args.host.now in
      let h1 = c.commit_changes.new.host in
      let opened2 = subst (HasOpened disk c.args.session.now) (sym c.as_mut_slice.ensures.value) opened in
      opening_held s start disk c.args.session.now c.as_mut_slice.result.now opened2 shop c.args.log v S h0 h1 n refl since
      (c.commit_changes.ensures.any_moment known n start (may s start disk c.args.session.now c.as_mut_slice.result.now opened2 shop c.args.log v S h0 h1 n refl since));
  so_far = λ known n s start disk opened shop since.
      let S = g.H.Host.history in
      let v = S.world c.args.host.now in
      let h0 = c.args.host.now in
      let h1 = c.commit_changes.new.host in
      let opened2 = subst (HasOpened disk c.args.session.now) (sym c.as_mut_slice.ensures.value) opened in
      begun s start disk c.args.session.now c.as_mut_slice.result.now opened2 shop c.args.log v S h0 h1 n refl since c.in_ok-log.log _
      (λ covers. with_items_is c.args.room.now.kept c.commit_changes.new.kept (c.commit_changes.auto.kept ∙ c.as_mut_slice.ensures.len) ∙ c.in_ok-log.ensures.kept covers)
      c.clear.new.self c.clear.ensures (c.in_ok-log.ensures.ok known n start (may s start disk c.args.session.now c.as_mut_slice.result.now opened2 shop c.args.log v S h0 h1 n refl since));
}

pub returns-in_err-give_lines-clause-any_moment : goal.returns-in_err-give_lines-clause-any_moment
returns-in_err-give_lines-clause-any_moment g c known n s start disk opened shop since =
    let S = g.H.Host.history in
    let v = S.world c.args.host.now in
    let h0 = c.args.host.now in
    let hl = c.loop.host in
    let hg = c.give_lines.new.host in
    let so_far = c.loop.invariant.so_far known n s start disk opened shop since in
    let held = c.give_lines.ensures.any_moment known n so_far.count in
    joined S h0 hl hg (Until n (Answers s start (disk_image disk) v (log_file c.args.log))) (c.loop.invariant.any_moment known n s start disk opened shop since)
    (heard_held s start (disk_image disk) v c.loop.session c.loop.room.kept.items c.loop.log c.loop.room.input c.give_lines.new.self S hl hg n (log_file c.args.log) c.loop.invariant.file so_far held)

pub returns-then-not-branch-clause-any_moment : goal.returns-then-not-branch-clause-any_moment
returns-then-not-branch-clause-any_moment g c known n s start disk opened shop since =
    let S = g.H.Host.history in
    let v = S.world c.args.host.now in
    let h0 = c.args.host.now in
    let hl = c.loop.host in
    let hg = c.give_lines.new.host in
    let so_far = c.loop.invariant.so_far known n s start disk opened shop since in
    let held = c.give_lines.ensures.any_moment known n so_far.count in
    joined S h0 hl hg (Until n (Answers s start (disk_image disk) v (log_file c.args.log))) (c.loop.invariant.any_moment known n s start disk opened shop since)
    (heard_held s start (disk_image disk) v c.loop.session c.loop.room.kept.items c.loop.log c.loop.room.input c.give_lines.new.self S hl hg n (log_file c.args.log) c.loop.invariant.file so_far held)

pub returns-then-not-branch-clause-ok : goal.returns-then-not-branch-clause-ok
returns-then-not-branch-clause-ok g c known n s start disk opened shop since =
    let S = g.H.Host.history in
    let v = S.world c.args.host.now in
    let h0 = c.args.host.now in
    let hl = c.loop.host in
    let hg = c.give_lines.new.host in
    let so_far = c.loop.invariant.so_far known n s start disk opened shop since in
    let held = c.give_lines.ensures.any_moment known n so_far.count in
    end s start (disk_image disk) v c.loop.session c.loop.room.kept.items c.loop.log c.loop.room.input c.give_lines.new.self S hl hg n (log_file c.args.log) c.loop.invariant.file so_far held
    (texts_of c.give_lines.new.lines.items) c.in_ok-give_lines.field-0 (c.in_ok-give_lines.ensures.ok known n so_far.count) c.if-not-branch.true

pub returns-in_err-log-2-clause-any_moment : goal.returns-in_err-log-2-clause-any_moment
returns-in_err-log-2-clause-any_moment g c known n s start disk opened shop since =
    let S = g.H.Host.history in
    let v = S.world c.args.host.now in
    let h0 = c.args.host.now in
    let hl = c.loop.host in
    let hg = c.give_lines.new.host in
    let so_far = c.loop.invariant.so_far known n s start disk opened shop since in
    let held = c.give_lines.ensures.any_moment known n so_far.count in
    let hb = c.serve_batch.new.host in
    joined S h0 hg hb (Until n (Answers s start (disk_image disk) v (log_file c.args.log)))
    (joined S h0 hl hg (Until n (Answers s start (disk_image disk) v (log_file c.args.log))) (c.loop.invariant.any_moment known n s start disk opened shop since)
    (heard_held s start (disk_image disk) v c.loop.session c.loop.room.kept.items c.loop.log c.loop.room.input c.give_lines.new.self S hl hg n (log_file c.args.log) c.loop.invariant.file so_far held))
    (subst (λ m. HeldOnly S hg hb (Until n (Answers s start (disk_image disk) v m))) c.loop.invariant.file
    (c.serve_batch.ensures.any_moment known n s start (disk_image disk) v c.give_lines.new.self
    (pend s start (disk_image disk) v c.loop.session c.loop.room.kept.items c.loop.log c.loop.room.input c.give_lines.new.self S hl hg n (log_file c.args.log) c.loop.invariant.file so_far held
    (texts_of c.give_lines.new.lines.items) c.in_ok-give_lines.field-0 (c.in_ok-give_lines.ensures.ok known n so_far.count)
    c.as_mut_slice-in-loop.result.now c.as_mut_slice-in-loop.ensures.value (texts_of c.as_slice.result.now) (ap texts_of c.as_slice.ensures.value))))

pub loop-preserved : goal.loop-preserved
loop-preserved g c = record {
  file = c.in_ok-log-2.ensures.file ∙ c.loop.invariant.file;
  any_moment = λ known n s start disk opened shop since.
      let S = g.H.Host.history in
      let v = S.world c.args.host.now in
      let h0 = c.args.host.now in
      let hl = c.loop.host in
      let hg = c.give_lines.new.host in
      let so_far = c.loop.invariant.so_far known n s start disk opened shop since in
      let held = c.give_lines.ensures.any_moment known n so_far.count in
      let hb = c.serve_batch.new.host in
      joined S h0 hg hb (Until n (Answers s start (disk_image disk) v (log_file c.args.log)))
      (joined S h0 hl hg (Until n (Answers s start (disk_image disk) v (log_file c.args.log))) (c.loop.invariant.any_moment known n s start disk opened shop since)
      (heard_held s start (disk_image disk) v c.loop.session c.loop.room.kept.items c.loop.log c.loop.room.input c.give_lines.new.self S hl hg n (log_file c.args.log) c.loop.invariant.file so_far held))
      (subst (λ m. HeldOnly S hg hb (Until n (Answers s start (disk_image disk) v m))) c.loop.invariant.file
      (c.serve_batch.ensures.any_moment known n s start (disk_image disk) v c.give_lines.new.self
      (pend s start (disk_image disk) v c.loop.session c.loop.room.kept.items c.loop.log c.loop.room.input c.give_lines.new.self S hl hg n (log_file c.args.log) c.loop.invariant.file so_far held
      (texts_of c.give_lines.new.lines.items) c.in_ok-give_lines.field-0 (c.in_ok-give_lines.ensures.ok known n so_far.count)
      c.as_mut_slice-in-loop.result.now c.as_mut_slice-in-loop.ensures.value (texts_of c.as_slice.result.now) (ap texts_of c.as_slice.ensures.value))));
  so_far = λ known n s start disk opened shop since.
      let S = g.H.Host.history in
      let v = S.world c.args.host.now in
      let h0 = c.args.host.now in
      let hl = c.loop.host in
      let hg = c.give_lines.new.host in
      let so_far = c.loop.invariant.so_far known n s start disk opened shop since in
      let held = c.give_lines.ensures.any_moment known n so_far.count in
      let hb = c.serve_batch.new.host in
      subst (λ (k : Image). Since n (Serves s start (disk_image disk) v c.serve_batch.new.session k c.in_ok-log-2.log c.give_lines.new.self) (S.world hb))
      (sym (with_items_is c.loop.room.kept c.serve_batch.new.kept (c.serve_batch.auto.kept ∙ c.as_mut_slice-in-loop.ensures.len)))
      (c.in_ok-log-2.ensures.ok known n s start (disk_image disk) v c.give_lines.new.self
      (pend s start (disk_image disk) v c.loop.session c.loop.room.kept.items c.loop.log c.loop.room.input c.give_lines.new.self S hl hg n (log_file c.args.log) c.loop.invariant.file so_far held
      (texts_of c.give_lines.new.lines.items) c.in_ok-give_lines.field-0 (c.in_ok-give_lines.ensures.ok known n so_far.count)
      c.as_mut_slice-in-loop.result.now c.as_mut_slice-in-loop.ensures.value (texts_of c.as_slice.result.now) (ap texts_of c.as_slice.ensures.value)));
}
