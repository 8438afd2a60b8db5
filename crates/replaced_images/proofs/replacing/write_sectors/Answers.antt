-- Each exit by the calls before it.
use Rattle.std.proofs.Common.{◌≡◌, ◌≤◌, ◌+◌, ◌*◌, length, Some, arith, refl, subst}
use Rattle.one_host.specs.History.{Since, Until}
use Rattle.one_host.proofs.Moments.{joined, start}
use Rattle.replaced_images.specs.Replaced.{Always}
use Rattle.replaced_images.specs.Stages.{Partly}
use Rattle.replaced_images.proofs.Called.{old_always}
use Rattle.replaced_images.proofs.Written.{begins, piece_after, piece_moments}
use Rattle.replaced_images.proofs.replacing.write_sectors.Goals as goal

pub loop-k-init : goal.loop-k-init
loop-k-init g c =
    let S = g.H.Host.history in
    let path = c.args.names.now.image.now in
    let i = c.args.image.number in
    let new = c.args.new.now in
    let h0 = c.args.host.now in
    record {
      any_moment = λ k n logs m log old gives same at. start S h0 (Until n (Always logs path new)) (λ e. old_always S n path i logs m log old new gives h0 h0 same (S.world h0) (at.is e));
      so_far = λ k n m log old same at. record {
        count = at.count;
        is = λ e. begins S n path i (λ _ _. Some new) m log old new (λ _ _. refl) same h0 h0 (S.world h0) (at.is e);
      };
    }

pub returns-in_err-write_at-clause-any_moment : goal.returns-in_err-write_at-clause-any_moment
returns-in_err-write_at-clause-any_moment g c k n logs l log old gives same at =
    let S = g.H.Host.history in
    let path = c.args.names.now.image.now in
    let i = c.args.image.number in
    let new = c.args.new.now in
    let h0 = c.args.host.now in
    let hk = c.loop-k.host in
    let h1 = c.write_at.new.self in
    let from = 256 * c.loop-k.k in
    let le : 256 * c.loop-k.k + 256 ≤ length c.args.new.now = omega (arith, c.loop-k-test.true, c.requires.sized) in
    joined S h0 hk h1 (Until n (Always logs path new)) (c.loop-k.invariant.any_moment k n logs l log old gives same at)
    (piece_moments S n path i logs l log old new gives same hk h1 from 256 le c.sector.result.now c.sector.ensures _ (c.loop-k.invariant.so_far k n l log old same at) (c.write_at.ensures k))

pub loop-k-preserved : goal.loop-k-preserved
loop-k-preserved g c =
    let S = g.H.Host.history in
    let path = c.args.names.now.image.now in
    let i = c.args.image.number in
    let new = c.args.new.now in
    let h0 = c.args.host.now in
    let hk = c.loop-k.host in
    let h1 = c.write_at.new.self in
    let from = 256 * c.loop-k.k in
    let le : 256 * c.loop-k.k + 256 ≤ length c.args.new.now = omega (arith, c.loop-k-test.true, c.requires.sized) in
    record {
      any_moment = λ k n logs m log old gives same at. joined S h0 hk h1 (Until n (Always logs path new)) (c.loop-k.invariant.any_moment k n logs m log old gives same at)
          (piece_moments S n path i logs m log old new gives same hk h1 from 256 le c.sector.result.now c.sector.ensures _ (c.loop-k.invariant.so_far k n m log old same at) (c.write_at.ensures k));
      so_far = λ k n m log old same at.
          let on : 256 * c.loop-k.k + 256 ≡ 256 * (c.loop-k.k + 1) = omega arith in
          subst (λ a. Since n (Partly path i m old new log a) (S.world h1)) on
          (piece_after S n path i (λ _ _. Some new) m log old new (λ _ _. refl) same hk h1 from 256 le c.sector.result.now c.sector.ensures _
          (c.loop-k.invariant.so_far k n m log old same at) (c.in_ok-write_at.ensures k));
    }

pub returns-clause-ok : goal.returns-clause-ok
returns-clause-ok g c k n l log old same at =
    let S = g.H.Host.history in
    let path = c.args.names.now.image.now in
    let i = c.args.image.number in
    let new = c.args.new.now in
    let h0 = c.args.host.now in
    let all : 256 * c.loop-k.k ≡ 174848 = omega (arith, c.loop-k-test.false, c.loop-k.auto.k-end) in
    subst (λ a. Since n (Partly path i l old new log a) (S.world c.loop-k.host)) all (c.loop-k.invariant.so_far k n l log old same at)
