-- What was printed, by how the play ended, is of the shop of the image that the host says.
use Rattle.std.proofs.Common.{subst, sym}
use Rattle.std.specs.Prelude.{OnOk, vec_items}
use Rattle.line_text.specs.scripts.Lines.{lines}
use Rattle.image_log.specs.life.HostLogs.{untagged_folders}
use Rattle.shop_jobs.proofs.PlayTold.{answered-at, shop-at}
use Rattle.shop_jobs.proofs.ServiceBegun.{kept_at}
use Rattle.opened_files.specs.Ends.{JobEnd}
use Rattle.shop_jobs.specs.Replies.{IsShopAt}
use Rattle.shop_jobs.specs.Replies.{AreAnswered, IsShopOf}
use Rattle.shop_jobs.proofs.playing_logs.play_beside.Goals as goal

pub returns-clause-done : goal.returns-clause-done
returns-clause-done g c =
    let told = g.W.Write.contents in
    let image = c.as_slice.result.now in
    let at = IsShopAt g.R.HostFiles.stands c.args.rt.now c.args.path.now in
    let script = lines c.args.script.now in
    subst (λ (e : JobEnd). OnOk e (AreAnswered told at script c.args.out.now c.play_printed-ended.new.out))
    (sym c.cleared_end.ensures)
    (answered-at told (IsShopOf image) at
    (shop-at g.R.HostFiles.stands c.args.rt.now c.args.path.now (vec_items c.in_ok-bytes.bytes) image c.in_ok-bytes.ensures.read
    c.as_slice.ensures.value) c.args.out.now c.play_printed-ended.new.out script c.play_printed-ended.result
    c.play_printed-ended.ensures.done)

pub returns-clause-kept : goal.returns-clause-kept
returns-clause-kept g c =
    kept_at (untagged_folders g.R.HostLogs.folders g.R.HostFiles g.F.Read g.F.Seek) _ _ _ _ c.as_slice.result.now
    (vec_items c.in_ok-bytes.bytes) c.in_ok-bytes.log _ c.args.out.now c.play_printed-ended.new.out
    c.play_printed-ended.result c.cleared_end.result c.cleared_end.ensures c.as_slice.ensures.value
    c.in_ok-bytes.ensures.read c.in_ok-bytes.ensures.begun (λ all is. is) c.play_printed-ended.ensures.kept
