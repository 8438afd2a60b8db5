-- A log that was made serves.
use Rattle.std.proofs.Common.{◌∙◌, subst, sym}
use Rattle.std.proofs.lemmas.List.{with_items_is}
use Rattle.image_log.specs.life.Bringing.{IsBrought}
use Rattle.image_log.specs.life.Folders.{AllLeft, LeavesFolders}
use Rattle.image_log.specs.life.Serving.{IsServing}
use Rattle.image_log.proofs.lemmas.life.Moves.{serves_stands}
use Rattle.image_log.proofs.life.live_log.LiveLog.begin.Goals as goal

pub returns-in-Ok-clause-stands : goal.returns-in-Ok-clause-stands
returns-in-Ok-clause-stands g c s held image all = (
  serves_stands g.D.LogFolder.history c.make_new.new.folder c.in-Ok.log c.args.shop.items
      (subst (λ i. IsServing g.D.LogFolder.history c.make_new.new.folder c.in-Ok.log i) c.as_slice-image.ensures.value
      (c.in-Ok.ensures.ok s held (image ∙ sym c.as_slice-image.ensures.value)
      (subst (λ i. AllLeft g.D.LogFolder.history c.args.folder (IsBrought i)) (sym c.as_slice-image.ensures.value) all))),
  with_items_is c.args.kept c.copy_from_slice.new.self (c.copy_from_slice.ensures.len ∙ c.as_mut_slice.ensures.len)
      ∙ c.copy_from_slice.ensures.after ∙ c.as_slice-image.ensures.value,
)

pub returns-in-Ok-clause-any_moment : goal.returns-in-Ok-clause-any_moment
returns-in-Ok-clause-any_moment g c s held all =
    let left = subst (λ i. LeavesFolders g.D.LogFolder.history c.args.folder c.make_new.new.folder (IsBrought i))
    c.as_slice-image.ensures.value (c.make_new.ensures.any_moment s held
    (subst (λ i. AllLeft g.D.LogFolder.history c.args.folder (IsBrought i)) (sym c.as_slice-image.ensures.value) all)) in
    record { later = left.later; each = left.each; before = left.before }

pub returns-in-Err-clause-err : goal.returns-in-Err-clause-err
returns-in-Err-clause-err g c s held all =
    subst (λ i. LeavesFolders g.D.LogFolder.history c.args.folder c.make_new.new.folder (IsBrought i)) c.as_slice-image.ensures.value
    (c.make_new.ensures.any_moment s held
    (subst (λ i. AllLeft g.D.LogFolder.history c.args.folder (IsBrought i)) (sym c.as_slice-image.ensures.value) all))
