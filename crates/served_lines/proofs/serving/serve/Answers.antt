-- The disk is opened in memory, and served.
use Rattle.std.proofs.Common.{◌≡◌, ◌∙◌, ap, refl, sym, subst}
use Rattle.std.proofs.lemmas.List.{with_items_is}
use Rattle.d64_image.specs.Images.{Image}
use Rattle.d64_image.specs.Memory.{disk_image}
use Rattle.d64_image.specs.declared.mem_disk.MemDisk.{MemDisk}
use Rattle.host_session.specs.shop.Shop.{IsShop}
use Rattle.one_host.specs.History.{Since}
use Rattle.line_server.specs.logged.Batches.{HasOpened}
use Rattle.line_server.specs.logged.Memory.{image_of}
use Rattle.line_server.proofs.lemmas.logged.Chunks.{sectors_are}
use Rattle.line_server.proofs.lemmas.logged.Opened.{no_shop_here, opened}
use Rattle.served_lines.specs.Services.{HasServed}
use Rattle.served_lines.proofs.serving.serve.Goals as goal

pub returns-in-Err-clause-any_moment : goal.returns-in-Err-clause-any_moment
returns-in-Err-clause-any_moment g c known n s start shop since =
    absurd (no_shop_here c.new.result c.in-Err.disk _ (λ e. cc) c.in-Err.ensures.opens
    (s, subst (λ (d : MemDisk). IsShop (disk_image d) s) (sym c.new.ensures.disk) shop))

pub returns-in-Err-clause-opened : goal.returns-in-Err-clause-opened
returns-in-Err-clause-opened g c f same =
    let none = no_shop_here c.new.result c.in-Err.disk _ (λ e. cc) c.in-Err.ensures.opens in (
      λ shop. none (shop.0, subst (λ (d : MemDisk). IsShop (disk_image d) shop.0) (sym c.new.ensures.disk) shop.1),
      refl,
      ap disk_image c.into_inner.ensures ∙ (c.in-Err.ensures.unfit none).held.each (image_of c.in-Err.disk) refl ∙ ap disk_image c.new.ensures.disk,
    )

pub returns-in-Ok-serve_open-clause-any_moment : goal.returns-in-Ok-serve_open-clause-any_moment
returns-in-Ok-serve_open-clause-any_moment g c known n s start shop since =
    let s0 = c.in-Ok.ensures.ok in
    let copied = with_items_is c.args.room.now.kept c.copy_from_slice.new.self
    (c.copy_from_slice.auto.self ∙ c.as_mut_slice.ensures.len)
    ∙ c.copy_from_slice.ensures.after
    ∙ c.as_chunks.ensures.front ∙ sectors_are c.bytes.result.now c.bytes.ensures.size ∙ c.bytes.ensures.image in
    let ready : HasOpened c.args.disk c.in-Ok.session _ =
    opened c.args.disk c.new.result c.in-Ok.session _ c.new.ensures.disk copied s0.0 s0.1 s0.2 s0.3
    c.in-Ok.ensures.moments c.in-Ok.ensures.quiet in
    c.serve_open.ensures.any_moment known n s start c.args.disk ready shop since

pub returns-in-Err-serve_open-clause-any_moment : goal.returns-in-Err-serve_open-clause-any_moment
returns-in-Err-serve_open-clause-any_moment g c known n s start shop since =
    let s0 = c.in-Ok.ensures.ok in
    let copied = with_items_is c.args.room.now.kept c.copy_from_slice.new.self
    (c.copy_from_slice.auto.self ∙ c.as_mut_slice.ensures.len)
    ∙ c.copy_from_slice.ensures.after
    ∙ c.as_chunks.ensures.front ∙ sectors_are c.bytes.result.now c.bytes.ensures.size ∙ c.bytes.ensures.image in
    let ready : HasOpened c.args.disk c.in-Ok.session _ =
    opened c.args.disk c.new.result c.in-Ok.session _ c.new.ensures.disk copied s0.0 s0.1 s0.2 s0.3
    c.in-Ok.ensures.moments c.in-Ok.ensures.quiet in
    c.serve_open.ensures.any_moment known n s start c.args.disk ready shop since

pub returns-in-Ok-serve_open-clause-ok : goal.returns-in-Ok-serve_open-clause-ok
returns-in-Ok-serve_open-clause-ok g c known n s start shop since =
    let s0 = c.in-Ok.ensures.ok in
    let copied = with_items_is c.args.room.now.kept c.copy_from_slice.new.self
    (c.copy_from_slice.auto.self ∙ c.as_mut_slice.ensures.len)
    ∙ c.copy_from_slice.ensures.after
    ∙ c.as_chunks.ensures.front ∙ sectors_are c.bytes.result.now c.bytes.ensures.size ∙ c.bytes.ensures.image in
    let ready : HasOpened c.args.disk c.in-Ok.session _ =
    opened c.args.disk c.new.result c.in-Ok.session _ c.new.ensures.disk copied s0.0 s0.1 s0.2 s0.3
    c.in-Ok.ensures.moments c.in-Ok.ensures.quiet in
    let left : disk_image c.into_inner-in-Ok-serve_open.result ≡ image_of c.serve_open.new.session.disk =
    ap disk_image c.into_inner-in-Ok-serve_open.ensures ∙ ap image_of c.close.ensures in
    subst (λ (i : Image). Since n (HasServed s start (g.H.Host.history.world c.args.host.now) i c.in-Ok-serve_open.log) (g.H.Host.history.world c.serve_open.new.host))
    (sym left) (c.in-Ok-serve_open.ensures.ok known n s start c.args.disk ready shop since)

pub returns-in-Err-serve_open-clause-opened : goal.returns-in-Err-serve_open-clause-opened
returns-in-Err-serve_open-clause-opened g c f same = absurd (c.in-Err-serve_open.ensures.opened f same)
