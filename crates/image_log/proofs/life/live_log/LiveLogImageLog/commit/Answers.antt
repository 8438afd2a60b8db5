-- Nothing, a commit, or a commit and a renewal.
use Rattle.std.proofs.Common.{◌∙◌, inl, inr, refl, subst, sym, ⊎_elim}
use Rattle.std.proofs.lemmas.Bool.{false≢true}
use Rattle.image_log.specs.ImageLogs.{IsEither}
use Rattle.image_log.proofs.Ends.{quiet}
use Rattle.image_log.specs.life.LiveLogs.{Stands, of_live}
use Rattle.image_log.proofs.lemmas.life.Times.{joined, not_none, on_err, on_ok, started, weaker}
use Rattle.image_log.proofs.life.live_log.LiveLogImageLog.commit.Goals as goal

pub returns-then-none_touched-clause-committed : goal.returns-then-none_touched-clause-committed
returns-then-none_touched-clause-committed g c =
    let old = c.args.self.now in
    record {
      ok = λ before stands covers.
          let same = quiet stands.0.log c.args.now.now c.args.touched.now c.requires.sized
          (c.none_touched.ensures.none c.if-none_touched.true) old.base.items before stands.0.stands covers in
          (subst (λ i. Stands g.D.LogFolder.history old.folder old.log old.used old.base.items i) same stands.0, stands.1 ∙ same);
      any_moment = λ before stands covers. started (of_live g.D.LogFolder.history) old before (IsEither before c.args.now.now) stands
          (inl refl);
      quiet = λ none. refl;
      cause = tt;
      err = tt;
    }

pub returns-then-branch-clause-committed : goal.returns-then-branch-clause-committed
returns-then-branch-clause-committed g c = record {
  ok = on_ok _ _ c.renew.result (λ stays before stands covers. stays (c.in_ok-append.ensures.ok before stands covers)) c.renew.ensures.ok;
  any_moment = λ before stands covers. joined (of_live g.D.LogFolder.history) c.args.self.now c.append.new.self c.renew.new.self
      (IsEither before c.args.now.now) (c.append.ensures.any_moment before stands covers)
      (weaker (of_live g.D.LogFolder.history) c.append.new.self c.renew.new.self _ (IsEither before c.args.now.now) (λ i is. inr is)
      (c.renew.ensures.any_moment (c.in_ok-append.ensures.ok before stands covers)));
  quiet = λ none. not_none c.none_touched.result c.if-none_touched.false (c.none_touched.ensures.all none);
  cause = on_err _ _ c.renew.result
      (λ cause. ⊎_elim (λ shut. absurd (false≢true (sym c.in_ok-append.ensures.open ∙ shut))) (λ failed. inr failed) cause)
      c.renew.ensures.cause;
  err = c.renew.ensures.err;
}

pub returns-clause-committed : goal.returns-clause-committed
returns-clause-committed g c = record {
  ok = c.in_ok-append.ensures.ok;
  any_moment = c.append.ensures.any_moment;
  quiet = λ none. not_none c.none_touched.result c.if-none_touched.false (c.none_touched.ensures.all none);
  cause = tt;
  err = tt;
}
