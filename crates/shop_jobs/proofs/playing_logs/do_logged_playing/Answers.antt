-- What was printed of the script is of the text that the host says.
use Rattle.std.proofs.Common.{◌≡◌, List, ℕ}
use Rattle.std.specs.Prelude.{IsErr, vec_items}
use Rattle.opened_files.specs.HostFiles.{OfText}
use Rattle.image_log.specs.life.HostLogs.{asked_logs, untagged_folders}
use Rattle.shop_jobs.proofs.LogPlayKept.{of-script}
use Rattle.shop_jobs.proofs.PlayTold.{played-text}
use Rattle.shop_jobs.specs.KeptServices.{IsServiceAt}
use Rattle.shop_jobs.specs.Replies.{IsShopAt}
use Rattle.shop_jobs.proofs.playing_logs.do_logged_playing.Goals as goal

pub returns-clause-told : goal.returns-clause-told
returns-clause-told g c = (
  c.play_beside.ensures.quiet,
  c.play_beside.ensures.lines,
  λ other all holds. played-text g.W.Write.contents (IsShopAt g.R.HostFiles.stands c.args.rt.now c.args.path.now)
      (vec_items c.in_ok-script.script) c.as_slice.result.now all c.args.out.now c.play_beside.new.out c.play_beside.result
      c.as_slice.ensures.value (c.in_ok-script.ensures.read other all holds) c.in_ok-script.ensures.plain
      c.play_beside.ensures.done,
)

pub returns-clause-kept : goal.returns-clause-kept
returns-clause-kept g c =
    let end = c.play_beside.result in
    let host = c.args.rt.now in
    of-script (IsErr end × (c.play_beside.new.out ≡ c.args.out.now))
    (λ (text : List ℕ). OfText g.R.HostFiles.stands host c.args.script.now (λ all. text ≡ all))
    (λ given. IsServiceAt g.R.HostFiles g.F.Read g.F.Seek (asked_logs g.R.HostLogs.logs) (untagged_folders g.R.HostLogs.folders) g.R.HostFiles.stands
    g.R.HostFiles.rights g.R.HostFiles.traces g.W.Write.contents g.W.JobOutput.replies given host c.args.path.now c.args.out.now
    c.play_beside.new.out end)
    (vec_items c.in_ok-script.script) c.as_slice.result.now c.as_slice.ensures.value c.in_ok-script.ensures.read
    c.play_beside.ensures.kept
