-- The change is made, put in place, and printed.
use Rattle.std.proofs.Common.{◌∙◌, Err, Result, ap, refl, subst, sym, ℕ}
use Rattle.std.proofs.lemmas.Result.{err_from_is_err_and}
use Rattle.std.specs.Prelude.{IfErr}
use Rattle.command_faults.specs.declared.faults.CommandFault.{CommandFault}
use Rattle.disk_changes.specs.Changes.{IsRefused}
use Rattle.folder_changes.proofs.Changed.{in-memory, made-moments, printed, refused, sized, unplaced}
use Rattle.folder_changes.proofs.image_changing.change_image.Goals as goal
use Rattle.folder_changes.specs.FolderChanges.{HasNotBegun, IsLeft, IsMade}

pub returns-in_err-made-clause-run : goal.returns-in_err-made-clause-run
returns-in_err-made-clause-run g c =
    let p = err_from_is_err_and c.from_residual.result c.from_residual.ensures.1 in
    let old = c.args.folder.now in
    rw (p.1 ∙ ap Err p.2) (refused g.W.Write.contents
    (IsMade g.D.LogFolder.history c.args.what.now c.args.image.now old old)
    (IsLeft g.D.LogFolder.history c.args.what.now c.args.image.now old old)
    (HasNotBegun g.D.LogFolder.history c.args.image.now old old) c.args.out.now _
    (λ left. (in-memory c.args.what.now c.args.image.now).0 left.0) (c.in_err-made.ensures.err, refl))

pub returns-in_err-made-clause-cause : goal.returns-in_err-made-clause-cause
returns-in_err-made-clause-cause g c device =
    let p = err_from_is_err_and c.from_residual.result c.from_residual.ensures.1 in
    absurd ((in-memory c.args.what.now c.args.image.now).1 (subst
    (λ (r : Result ℕ CommandFault). IfErr r (IsRefused c.args.what.now c.args.image.now)) (sym (p.1 ∙ ap Err p.2) ∙ device)
    c.in_err-made.ensures.err))

pub put_in_place-requires : goal.put_in_place-requires
put_in_place-requires g c = sized c.args.what.now c.args.image.now c.in_ok-made.made c.in_ok-made.ensures.ok

pub returns-in_err-put_in_place-clause-run : goal.returns-in_err-put_in_place-clause-run
returns-in_err-put_in_place-clause-run g c =
    let p = err_from_is_err_and c.from_residual-in_err-put_in_place.result c.from_residual-in_err-put_in_place.ensures.1 in
    rw (p.1 ∙ ap Err p.2) (unplaced g.D.LogFolder.history g.W.Write.contents c.args.what.now c.args.image.now c.args.folder.now
    c.put_in_place.new.folder c.args.out.now _ (sized c.args.what.now c.args.image.now c.in_ok-made.made c.in_ok-made.ensures.ok)
    c.in_err-put_in_place.ensures.err)

pub returns-in_err-put_in_place-clause-any_moment : goal.returns-in_err-put_in_place-clause-any_moment
returns-in_err-put_in_place-clause-any_moment g c rests = made-moments g.D.LogFolder.history c.args.what.now c.args.image.now
    c.args.folder.now c.put_in_place.new.folder c.in_ok-made.made c.in_ok-made.ensures.ok (c.put_in_place.ensures.any_moment rests)

pub returns-clause-run : goal.returns-clause-run
returns-clause-run g c = printed g.W.Write.contents
    (IsMade g.D.LogFolder.history c.args.what.now c.args.image.now c.args.folder.now c.put_in_place.new.folder)
    (IsLeft g.D.LogFolder.history c.args.what.now c.args.image.now c.args.folder.now c.put_in_place.new.folder)
    (HasNotBegun g.D.LogFolder.history c.args.image.now c.args.folder.now c.put_in_place.new.folder)
    c.args.out.now c.print.new.out c.in_ok-made.made
    (c.in_ok-made.ensures.ok, λ rests. (c.in_ok-put_in_place.ensures.ok rests, c.put_in_place.ensures.any_moment rests))
    c.print.result c.print.ensures.ok c.print.ensures.part c.print.ensures.err

pub returns-clause-any_moment : goal.returns-clause-any_moment
returns-clause-any_moment g c rests = made-moments g.D.LogFolder.history c.args.what.now c.args.image.now
    c.args.folder.now c.put_in_place.new.folder c.in_ok-made.made c.in_ok-made.ensures.ok (c.put_in_place.ensures.any_moment rests)
