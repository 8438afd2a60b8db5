-- The shop that was served is that of the image that the host says.
use Rattle.std.proofs.Common.{subst, sym}
use Rattle.std.specs.Prelude.{vec_items}
use Rattle.image_log.specs.life.HostLogs.{untagged_folders}
use Rattle.shop_jobs.proofs.ServiceBegun.{fresh_reader, kept_at}
use Rattle.shop_jobs.proofs.PlayTold.{logged-at, shop-at}
use Rattle.opened_files.specs.Ends.{JobEnd}
use Rattle.shop_jobs.specs.Replies.{IsShopAt}
use Rattle.shop_jobs.specs.Replies.{IsLoggedService, IsShopOf}
use Rattle.shop_jobs.proofs.serving_logs.do_logged_serving.Goals as goal

pub returns-clause-told : goal.returns-clause-told
returns-clause-told g c =
    let told = g.W.Write.contents in
    let image = c.as_slice.result.now in
    let at = IsShopAt g.R.HostFiles.stands c.args.rt.now c.args.path.now in
    subst (λ (e : JobEnd). IsLoggedService told at c.args.out.now c.serve_printed-ended.new.out e)
    (sym c.cleared_end.ensures)
    (logged-at told (IsShopOf image) at
    (shop-at g.R.HostFiles.stands c.args.rt.now c.args.path.now (vec_items c.in_ok-bytes.bytes) image c.in_ok-bytes.ensures.read
    c.as_slice.ensures.value) c.args.out.now c.serve_printed-ended.new.out c.serve_printed-ended.result
    c.serve_printed-ended.ensures.told)

pub returns-clause-kept : goal.returns-clause-kept
returns-clause-kept g c =
    kept_at (untagged_folders g.R.HostLogs.folders g.R.HostFiles g.F.Read g.F.Seek) _ _ _ _ c.as_slice.result.now
    (vec_items c.in_ok-bytes.bytes) c.in_ok-bytes.log _ c.args.out.now c.serve_printed-ended.new.out
    c.serve_printed-ended.result c.cleared_end.result c.cleared_end.ensures c.as_slice.ensures.value
    c.in_ok-bytes.ensures.read c.in_ok-bytes.ensures.begun
    (λ all is. fresh_reader g.R.Given.Read.remaining c.in_ok-input.input _ all c.in_ok-input.ensures.inner
    c.in_ok-input.ensures.empty c.in_ok-input.ensures.capacity (c.input.ensures all is)) c.serve_printed-ended.ensures.kept
