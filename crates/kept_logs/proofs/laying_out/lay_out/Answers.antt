-- The length, and one part of zeros more.
use Rattle.std.proofs.Common.{◌≤◌, ◌+◌, ◌*◌, ◌∙◌, arith, refl}
use Rattle.one_host.specs.History.{Until}
use Rattle.one_host.proofs.Moments.{joined}
use Rattle.kept_logs.specs.Files.{OnlyFile}
use Rattle.kept_logs.proofs.LaidOut.{laid_of, size_after, size_moments, starts, sync_after, sync_moments, zero_after, zero_moments}
use Rattle.kept_logs.proofs.laying_out.lay_out.Goals as goal

pub returns-in_err-sync-clause-any_moment : goal.returns-in_err-sync-clause-any_moment
returns-in_err-sync-clause-any_moment g c known k since =
    let S = g.H.Host.history in
    let v = S.world c.args.host.now in
    let n = c.args.file.number in
    let h0 = c.args.host.now in
    let h1 = c.set_size.new.self in
    let h2 = c.sync.new.self in
    joined S h0 h1 h2 (Until k (OnlyFile v n)) (size_moments v n S h0 h1 k (starts k v n since) 4198400 refl _ (c.set_size.ensures known))
    (sync_moments v n S h1 h2 k (size_after v n S h0 h1 k (starts k v n since) 4198400 refl _ (c.in_ok-set_size.ensures known)) _ (c.sync.ensures known))

pub loop-k-init : goal.loop-k-init
loop-k-init g c = record {
  told = λ known. (c.in_ok-sync.ensures known).told ∙ (c.in_ok-set_size.ensures known).told;
  any_moment = λ known k since.
      let S = g.H.Host.history in
      let v = S.world c.args.host.now in
      let n = c.args.file.number in
      let h0 = c.args.host.now in
      let h1 = c.set_size.new.self in
      let h2 = c.sync.new.self in
      joined S h0 h1 h2 (Until k (OnlyFile v n)) (size_moments v n S h0 h1 k (starts k v n since) 4198400 refl _ (c.set_size.ensures known))
      (sync_moments v n S h1 h2 k (size_after v n S h0 h1 k (starts k v n since) 4198400 refl _ (c.in_ok-set_size.ensures known)) _ (c.sync.ensures known));
  so_far = λ known k since.
      let S = g.H.Host.history in
      let v = S.world c.args.host.now in
      let n = c.args.file.number in
      let h0 = c.args.host.now in
      let h1 = c.set_size.new.self in
      let h2 = c.sync.new.self in
      laid_of S h2 k v n (sync_after v n S h1 h2 k (size_after v n S h0 h1 k (starts k v n since) 4198400 refl _ (c.in_ok-set_size.ensures known)) _ (c.in_ok-sync.ensures known));
}

pub returns-in_err-write_at-clause-any_moment : goal.returns-in_err-write_at-clause-any_moment
returns-in_err-write_at-clause-any_moment g c known k since =
    let S = g.H.Host.history in
    let v = S.world c.args.host.now in
    let n = c.args.file.number in
    let h0 = c.args.host.now in
    let h1 = c.set_size.new.self in
    let h2 = c.sync.new.self in
    let hk = c.loop-k.host in
    let hw = c.write_at.new.self in
    let at = 102400 * c.loop-k.k in
    let le : 102400 * c.loop-k.k + 102400 ≤ 4198400 = omega (arith, c.loop-k-test.true) in
    joined S h0 hk hw (Until k (OnlyFile v n)) (c.loop-k.invariant.any_moment known k since)
    (zero_moments v n S hk hw k (c.loop-k.invariant.so_far known k since) at 102400 le _ (c.write_at.ensures known))

pub loop-k-preserved : goal.loop-k-preserved
loop-k-preserved g c = record {
  told = λ known. (c.in_ok-write_at.ensures known).told ∙ c.loop-k.invariant.told known;
  any_moment = λ known k since.
      let S = g.H.Host.history in
      let v = S.world c.args.host.now in
      let n = c.args.file.number in
      let h0 = c.args.host.now in
      let h1 = c.set_size.new.self in
      let h2 = c.sync.new.self in
      let hk = c.loop-k.host in
      let hw = c.write_at.new.self in
      let at = 102400 * c.loop-k.k in
      let le : 102400 * c.loop-k.k + 102400 ≤ 4198400 = omega (arith, c.loop-k-test.true) in
      joined S h0 hk hw (Until k (OnlyFile v n)) (c.loop-k.invariant.any_moment known k since)
      (zero_moments v n S hk hw k (c.loop-k.invariant.so_far known k since) at 102400 le _ (c.write_at.ensures known));
  so_far = λ known k since.
      let S = g.H.Host.history in
      let v = S.world c.args.host.now in
      let n = c.args.file.number in
      let h0 = c.args.host.now in
      let h1 = c.set_size.new.self in
      let h2 = c.sync.new.self in
      let hk = c.loop-k.host in
      let hw = c.write_at.new.self in
      let at = 102400 * c.loop-k.k in
      let le : 102400 * c.loop-k.k + 102400 ≤ 4198400 = omega (arith, c.loop-k-test.true) in
      zero_after v n S hk hw k (c.loop-k.invariant.so_far known k since) at 102400 le _ (c.in_ok-write_at.ensures known);
}

pub returns-in_err-sync-2-clause-any_moment : goal.returns-in_err-sync-2-clause-any_moment
returns-in_err-sync-2-clause-any_moment g c known k since =
    let S = g.H.Host.history in
    let v = S.world c.args.host.now in
    let n = c.args.file.number in
    let h0 = c.args.host.now in
    let h1 = c.set_size.new.self in
    let h2 = c.sync.new.self in
    let hk = c.loop-k.host in
    let hs = c.sync-2.new.self in
    joined S h0 hk hs (Until k (OnlyFile v n)) (c.loop-k.invariant.any_moment known k since)
    (sync_moments v n S hk hs k (c.loop-k.invariant.so_far known k since) _ (c.sync-2.ensures known))

pub returns-clause-any_moment : goal.returns-clause-any_moment
returns-clause-any_moment g c known k since =
    let S = g.H.Host.history in
    let v = S.world c.args.host.now in
    let n = c.args.file.number in
    let h0 = c.args.host.now in
    let h1 = c.set_size.new.self in
    let h2 = c.sync.new.self in
    let hk = c.loop-k.host in
    let hs = c.sync-2.new.self in
    joined S h0 hk hs (Until k (OnlyFile v n)) (c.loop-k.invariant.any_moment known k since)
    (sync_moments v n S hk hs k (c.loop-k.invariant.so_far known k since) _ (c.sync-2.ensures known))

pub returns-clause-ok : goal.returns-clause-ok
returns-clause-ok g c known k since =
    let S = g.H.Host.history in
    let v = S.world c.args.host.now in
    let n = c.args.file.number in
    let h0 = c.args.host.now in
    let h1 = c.set_size.new.self in
    let h2 = c.sync.new.self in
    let hk = c.loop-k.host in
    let hs = c.sync-2.new.self in
    sync_after v n S hk hs k (c.loop-k.invariant.so_far known k since) _ (c.in_ok-sync-2.ensures known)

pub returns-clause-told : goal.returns-clause-told
returns-clause-told g c known = (c.in_ok-sync-2.ensures known).told ∙ c.loop-k.invariant.told known
