-- One commit of the log.
use Rattle.std.proofs.Common.{◌∙◌, refl}
use Rattle.std.proofs.lemmas.List.{with_items_is}
use Rattle.image_log.proofs.lemmas.life.Moves.{committed, stands_after, the_log, unmoved}
use Rattle.image_log.proofs.lemmas.life.Times.{not_true}
use Rattle.image_log.proofs.life.live_log.LiveLog.append.Goals as goal

pub returns-then-is_full-clause-any_moment : goal.returns-then-is_full-clause-any_moment
returns-then-is_full-clause-any_moment g c before stands covers =
    unmoved g.D.LogFolder.history c.args.self.now _ c.in-Some.log before c.args.now.now c.in-Some.is refl refl refl refl stands.0

pub returns-in_err-commit-clause-any_moment : goal.returns-in_err-commit-clause-any_moment
returns-in_err-commit-clause-any_moment g c before stands covers =
    committed g.D.LogFolder.history c.args.self.now _ c.in-Some.log c.commit.new.self before c.args.now.now c.in-Some.is refl refl refl
    stands.0 (c.commit.ensures.any_moment c.args.self.now.base.items before
    (the_log g.D.LogFolder.history c.args.self.now.folder c.args.self.now.log c.in-Some.log c.args.self.now.used
    c.args.self.now.base.items before c.in-Some.is stands.0) covers)

pub returns-clause-any_moment : goal.returns-clause-any_moment
returns-clause-any_moment g c before stands covers =
    committed g.D.LogFolder.history c.args.self.now _ c.in-Some.log c.commit.new.self before c.args.now.now c.in-Some.is refl refl refl
    stands.0 (c.commit.ensures.any_moment c.args.self.now.base.items before
    (the_log g.D.LogFolder.history c.args.self.now.folder c.args.self.now.log c.in-Some.log c.args.self.now.used
    c.args.self.now.base.items before c.in-Some.is stands.0) covers)

pub returns-clause-ok : goal.returns-clause-ok
returns-clause-ok g c before stands covers =
    let here = the_log g.D.LogFolder.history c.args.self.now.folder c.args.self.now.log c.in-Some.log c.args.self.now.used
    c.args.self.now.base.items before c.in-Some.is stands.0 in (
      stands_after g.D.LogFolder.history c.args.self.now.folder c.args.self.now.log c.in-Some.log c.commit.new.self
          c.args.self.now.used c.args.self.now.base.items before c.args.now.now c.in-Some.is stands.0
          (c.in_ok-commit.ensures.ok c.args.self.now.base.items before here covers)
          (c.commit.ensures.any_moment c.args.self.now.base.items before here covers).later,
      with_items_is c.args.self.now.shop c.copy_from_slice.new.self (c.copy_from_slice.ensures.len ∙ c.as_mut_slice.ensures.len)
          ∙ c.copy_from_slice.ensures.after,
    )

pub returns-clause-open : goal.returns-clause-open
returns-clause-open g c = not_true _ c.in_ok-commit.ensures.opened
