use Rattle.drive_channels.proofs.Steady.{orderly, served, still-dead}
use Rattle.drive_channels.proofs.Written.{begins, idle}
use Rattle.d64_image.proofs.Moments.{no_reads, read_fails}
use Rattle.d64_image.specs.History.{FailsInOneStep, History}
use Rattle.drive_channels.specs.Calls.{WritesOn}
use Rattle.drive_channels.specs.Inside.{seen_of}
use Rattle.drive_channels.specs.declared.faults.Dead.{Dead}
use Rattle.drive_channels.specs.declared.open_files.OpenFiles.{OpenFiles}
use Rattle.drive_channels.specs.declared.status.Status.{Status}
use Rattle.std.proofs.lemmas.Bool.{true≢false}
use Rattle.std.proofs.Common.{◌≡◌, arith, ap, refl, subst, sym, ◌∙◌, List, Ok, Result, ℕ}
use Rattle.std.specs.Prelude.{OnErr}
use Rattle.drive_channels.proofs.drive.Drive.write.Goals as goal

-- what the call below came to, if it is done
written : {D : Type 0} (S : History D) (a b : D) (k k' : OpenFiles) (channel : ℕ) (text : List ℕ)
    (r : Result Status Dead) (status : Status) → r ≡ Ok status → WritesOn S a b k k' channel text r
    → WritesOn S a b k k' channel text (Ok status)
written S a b k k' channel text r status is = subst (λ (x : Result Status Dead). WritesOn S a b k k' channel text x) is

pub returns-then-self : goal.returns-then-self
returns-then-self g c = record {
  serves = still-dead g.D.Sectors.history c.args.self.now _ (sym (ap (λ d. d.dead) c.self.view_is) ∙ c.if-self.true);
  row = tt;
  silent = λ _. refl;
  refused = tt;
  reads = omega arith;
  moments = λ ch l f on rel. idle g.D.Sectors.history _ _ _ (begins _ _ ch l f rel);
  one_step = λ ch l f on rel there one. read_fails g.D.Sectors.history _ _ 0 (no_reads g.D.Sectors.history _);
}

pub returns : goal.returns
returns g c =
    let w = written g.D.Sectors.history _ _ _ _ _ _ _ _ c.in-Ok.is c.write.ensures in
    record {
      serves = let S = g.D.Sectors.history in
          rw (← c.self.view_is) (served S (seen_of c.self.inside) _ _ c.if-self.false c.if-self.false
          w.failures
          (orderly S (record {
            disk = c.write.new.disk;
            known = c.write.new.self;
            status = c.in-Ok.status;
            dead = c.self.inside.dead;
          }) w.known));
      row = rw (← c.self.view_is) (w.row c.self.inside.status);
      silent = rw (← c.self.view_is) w.writes.silent;
      reads = rw (← c.self.view_is) w.reads;
      refused = rw (← c.self.view_is) w.refused;
      -- each is that of the call below, in the drive's fields
      moments = rw (← c.self.view_is) (λ ch l f on rel. (w.writes.at ch l f on rel).moments);
      one_step = λ ch l f on rel there one. tt;
    }

pub returns-in_default-clause-moments : goal.returns-in_default-clause-moments
returns-in_default-clause-moments g c = rw (← c.self.view_is)
    (λ ch l f on rel. (c.write.ensures.writes.at ch l f on rel).moments)

pub returns-in_default-clause-one_step : goal.returns-in_default-clause-one_step
returns-in_default-clause-one_step g c = rw (← c.self.view_is) (λ ch l f on rel there one.
    subst (λ (r : Result Status Dead). OnErr r (FailsInOneStep g.D.Sectors.history c.self.inside.disk c.write.new.disk))
    c.in_default.is
    ((c.write.ensures.writes.at ch l f on rel).one_step there one))

pub write-requires : goal.write-requires
write-requires g c = record { known = c.self.invariant c.if-self.false }

pub invariant_of-self : goal.invariant_of-self
invariant_of-self g c = λ dead. absurd (true≢false dead)

pub invariant_of-self-2 : goal.invariant_of-self-2
invariant_of-self-2 g c =
    let w = written g.D.Sectors.history _ _ _ _ _ _ _ _ c.in-Ok.is c.write.ensures in
    λ _. w.known
