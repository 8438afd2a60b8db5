-- The disk is opened in memory, and served.
use Rattle.std.proofs.Common.{◌≡◌, ◌∙◌, ap, sym, subst}
use Rattle.std.proofs.lemmas.List.{with_items_is}
use Rattle.d64_image.specs.Memory.{disk_image}
use Rattle.line_server.specs.logged.Batches.{HasOpened}
use Rattle.line_server.specs.logged.Memory.{image_of}
use Rattle.line_server.specs.logged.Serves.{IsServedOver}
use Rattle.line_server.proofs.lemmas.logged.Chunks.{sectors_are}
use Rattle.line_server.proofs.lemmas.logged.Opened.{opened, refused, no_shop_here}
use Rattle.line_server.proofs.logged.batching.serve_batches.Goals as goal

pub returns-in-Err : goal.returns-in-Err
returns-in-Err g c =
    refused g.L.ImageLog.history g.R.BatchSource.input g.T.BatchReplies.output c.args.disk c.into_inner.result c.new.result
    c.in-Err.disk c.args.log.now c.args.input.now c.args.out.now c.in-Err.fault c.new.ensures.disk (sym c.into_inner.ensures)
    (no_shop_here c.new.result c.in-Err.disk _ (λ e. cc) c.in-Err.ensures.opens)
    c.in-Err.ensures.err
    (c.in-Err.ensures.unfit (no_shop_here c.new.result c.in-Err.disk _ (λ e. cc) c.in-Err.ensures.opens))

pub returns : goal.returns
returns g c =
    let s = c.in-Ok.ensures.ok in
    let copied = with_items_is c.args.room.now.kept c.copy_from_slice.new.self
    (c.copy_from_slice.auto.self ∙ c.as_mut_slice.ensures.len)
    ∙ c.copy_from_slice.ensures.after
    ∙ c.as_chunks.ensures.front ∙ sectors_are c.bytes.result.now c.bytes.ensures.size ∙ c.bytes.ensures.image in
    let ready : HasOpened c.args.disk c.in-Ok.session _ =
    opened c.args.disk c.new.result c.in-Ok.session _ c.new.ensures.disk copied s.0 s.1 s.2 s.3
    c.in-Ok.ensures.moments c.in-Ok.ensures.quiet in
    let left : disk_image c.into_inner-2.result ≡ image_of c.serve_open-end.new.session.disk =
    ap disk_image c.into_inner-2.ensures ∙ ap image_of c.close.ensures in
    subst (IsServedOver g.L.ImageLog.history g.R.BatchSource.input g.T.BatchReplies.output c.args.disk c.args.log.now
    c.serve_open-end.new.log c.args.input.now c.serve_open-end.new.input c.args.out.now c.serve_open-end.new.out)
    (sym c.ended.ensures) (c.serve_open-end.ensures c.args.disk ready c.into_inner-2.result left)
