-- What was printed and what is left, by how the play ended, is of the shop of the image that the host says.
use Rattle.std.proofs.Common.{Err, List, ap, inl, rules, subst, sym, ℕ, ◌∙◌}
use Rattle.std.proofs.lemmas.Result.{err_from_is_err_and}
use Rattle.std.specs.Prelude.{IfSome, ◌≡◌, take, vec_items}
use Rattle.opened_files.proofs.Near.{not-near}
use Rattle.shop_jobs.proofs.Lasts.{holds_shop}
use Rattle.shop_jobs.proofs.NearEnds.{near-begun, near-fault, near-unbegun}
use Rattle.shop_jobs.proofs.PlayTold.{play-lines, play-other, play-plain, play-quiet, played-at, shop-at}
use Rattle.command_faults.specs.declared.faults.CommandFault.TheVariants as faults
use Rattle.shop_jobs.proofs.PlayWatched.{watched_holds, watched_near, watched_play}
use Rattle.shop_jobs.specs.Replies.{IsShopAt}
use Rattle.shop_jobs.specs.Replies.{IsShopOf, lines_to}
use Rattle.shop_jobs.proofs.playing.do_playing.Goals as goal

pub returns-in_err-image-clause-near : goal.returns-in_err-image-clause-near
returns-in_err-image-clause-near g c =
    let p = err_from_is_err_and c.from_residual.result c.from_residual.ensures.1 in
    near-unbegun g.R.HostFiles.stands c.args.rt.now c.args.path.now c.args.loss c.args.out.now _ _ (p.1 ∙ ap Err p.2)
    (near-fault g.R.HostFiles.stands c.args.rt.now c.args.path.now c.args.loss _ c.in_err-image.ensures.err)

pub returns-in_err-image-clause-left : goal.returns-in_err-image-clause-left
returns-in_err-image-clause-left g c =
    let p = err_from_is_err_and c.from_residual.result c.from_residual.ensures.1 in
    not-near c.args.out.now _ _ _ c.args.loss _ (p.1 ∙ ap Err p.2) c.in_err-image.ensures.err

-- the file had gone before the play
pub returns-in_err-name-clause-near : goal.returns-in_err-name-clause-near
returns-in_err-name-clause-near g c =
    let p = err_from_is_err_and c.from_residual-in_err-name.result c.from_residual-in_err-name.ensures.1 in
    near-unbegun g.R.HostFiles.stands c.args.rt.now c.args.path.now c.args.loss c.args.out.now _ _ (p.1 ∙ ap Err p.2)
    (near-fault g.R.HostFiles.stands c.args.rt.now c.args.path.now c.args.loss _ (inl c.in_err-name.ensures))

pub returns-in_err-name-clause-left : goal.returns-in_err-name-clause-left
returns-in_err-name-clause-left g c =
    let p = err_from_is_err_and c.from_residual-in_err-name.result c.from_residual-in_err-name.ensures.1 in
    not-near c.args.out.now _ _ _ c.args.loss _ (p.1 ∙ ap Err p.2) (inl c.in_err-name.ensures)

-- it was played, and then the file was looked for
pub returns-clause-near : goal.returns-clause-near
returns-clause-near g c =
    let stands = g.R.HostFiles.stands in
    watched_near stands c.args.rt.now c.args.path.now c.args.loss c.args.out.now _ _
    c.play_durably-ended.result.1 c.served_end.result c.served_end.ensures
    (near-begun stands c.args.rt.now c.args.path.now c.args.loss c.args.out.now _
    c.play_durably-ended.result.1 (vec_items c.in_ok-image.image) c.in_ok-image.ensures.read c.in_ok-image.ensures.near
    (play-other g.W.Write.contents c.as_slice.result.now c.as_slice-2.result.now _ c.play_durably-ended.result.0
    c.new-printer.result c.play_durably-ended.new.out c.play_durably-ended.result.1 c.play_durably-ended.ensures.run))
    (near-begun stands c.args.rt.now c.args.path.now c.args.loss c.args.out.now _ (Err faults.Device)
    (vec_items c.in_ok-image.image) c.in_ok-image.ensures.read c.in_ok-image.ensures.near (λ is. cc))

pub returns-clause-played : goal.returns-clause-played
returns-clause-played g c =
    let before = c.new-printer.result in
    let behind = c.play_durably-ended.new.out in
    let told = g.W.Write.contents in
    let file = c.play_durably-ended.result.0 in
    let ended = c.play_durably-ended.result.1 in
    let image = c.as_slice.result.now in
    let script = c.as_slice-2.result.now in
    let at = IsShopAt g.R.HostFiles.stands c.args.rt.now c.args.path.now in
    watched_play told at g.R.HostFiles.stands c.args.rt.now c.args.script.now c.args.out.now _ _ ended c.served_end.result
    c.served_end.ensures (
      play-quiet told _ file before behind c.args.out.now _ c.new-printer.ensures.out (λ same. search rules) ended
          c.play_durably-ended.ensures.untouched,
      play-lines told _ file before behind c.args.out.now _ c.new-printer.ensures.out (λ same. search rules) image script
          ended c.play_durably-ended.ensures.run,
      λ other all holds. played-at told (IsShopOf image) at
          (shop-at g.R.HostFiles.stands c.args.rt.now c.args.path.now (vec_items c.in_ok-image.image) image
          c.in_ok-image.ensures.read c.as_slice.ensures.value) c.args.out.now _ all ended
          (play-plain told _ file before behind c.args.out.now _ c.new-printer.ensures.out
          (λ same. search rules) image script ended all
          (c.as_slice-2.ensures.value ∙ c.in_ok-image.ensures.text other all holds)
          c.play_durably-ended.ensures.run),
    )

pub returns-clause-left : goal.returns-clause-left
returns-clause-left g c =
    let image = c.as_slice.result.now in
    let script = c.as_slice-2.result.now in
    let held = g.F.WritesAt.held c.in_ok-image.file in
    inl (inl (
      image,
      script,
      λ all holds. c.as_slice.ensures.value ∙ c.in_ok-image.ensures.read all holds,
      λ other all holds. c.as_slice-2.ensures.value ∙ c.in_ok-image.ensures.text other all holds,
      record {
        file = c.in_ok-image.file;
        left = c.play_durably-ended.result.0;
        at = c.in_ok-image.ensures.opened;
        read = subst (λ (bytes : List ℕ). IfSome held (λ all. bytes ≡ take 174849 all)) (sym c.as_slice.ensures.value)
            c.in_ok-image.ensures.held;
        shop = λ s is known. watched_holds s script c.in_ok-image.file c.play_durably-ended.result.0 _
            c.play_durably-ended.result.1 c.served_end.result c.served_end.ensures
            (holds_shop (lines_to g.W.Write.contents) image script _ _ c.play_durably-ended.result.1
            c.new-printer.result c.play_durably-ended.new.out is.0 known c.play_durably-ended.ensures.run s is.1);
      },
    ))
