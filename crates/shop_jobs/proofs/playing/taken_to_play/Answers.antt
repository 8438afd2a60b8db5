-- The bytes that are passed on were looked at.
use Rattle.std.proofs.Common.{List, subst, ℕ, ◌∙◌}
use Rattle.std.specs.Prelude.{take, vec_items, ◌≡◌}
use Rattle.std.proofs.lemmas.Result.{err_from_is_err_and}
use Rattle.opened_files.proofs.HostFiles.{of-file}
use Rattle.opened_files.proofs.Near.{tag-fault}
use Rattle.opened_files.specs.HostFiles.{OfWritten}
use Rattle.image_log.specs.life.Tags.{SaysLogAway}
use Rattle.shop_jobs.proofs.playing.taken_to_play.Goals as goal

pub returns-in_err-see_untagged-clause-err : goal.returns-in_err-see_untagged-clause-err
returns-in_err-see_untagged-clause-err g c =
    let p = err_from_is_err_and c.from_residual-in_err-see_untagged.result c.from_residual-in_err-see_untagged.ensures.1 in
    let image = c.as_slice.result.now in
    let stands = g.R.HostFiles.stands in
    let host = c.args.rt.now in
    let path = c.args.path.now in
    let read = of-file stands host path _ (λ all. vec_items c.in_ok-image.image ≡ take 174849 all)
    c.in_ok-file.ensures.bytes c.in_ok-image.ensures.read in
    rw (p.1, p.2) (tag-fault c.args.loss image (OfWritten stands host path (λ all. SaysLogAway (take 174849 all))) _
    (λ says all holds. subst (λ (bytes : List ℕ). SaysLogAway bytes) (c.as_slice.ensures.value ∙ read all holds) says)
    c.in_err-see_untagged.ensures.err)

pub returns-clause-near : goal.returns-clause-near
returns-clause-near g c =
    subst (λ (bytes : List ℕ). ¬ (SaysLogAway bytes)) c.as_slice.ensures.value c.in_ok-see_untagged.ensures.ok
