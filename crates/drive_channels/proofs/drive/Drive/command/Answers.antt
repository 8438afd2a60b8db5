use Rattle.std.proofs.Common.{◌≡◌, ap, arith, refl, subst, sym, ◌∙◌, Ok, Result}
use Rattle.d64_image.specs.History.{History}
use Rattle.std.proofs.lemmas.Bool.{false≢true}
use Rattle.d64_image.proofs.Moments.{no_reads, no_write, reads_weaker}
use Rattle.drive_channels.proofs.Orders.{known-after, meets-v, truth}
use Rattle.drive_channels.proofs.Steady.{orderly, served, still-dead}
use Rattle.drive_channels.proofs.Written.{idle}
use Rattle.drive_channels.proofs.drive.Drive.command.Goals as goal
use Rattle.drive_channels.specs.Calls.{Validates}
use Rattle.drive_channels.specs.Inside.{seen_of}
use Rattle.drive_channels.specs.declared.faults.Dead.{Dead}
use Rattle.drive_channels.specs.declared.status.Status.{Status}
use Rattle.drive_channels.specs.State.{view_of}
use Rattle.layout_check.proofs.lemmas.mending.Mendings.{mended-start}

-- what a repair came to, if it is done
validated : {D : Type 0} (S : History D) (a b : D) (r : Result Status Dead) (status : Status) → r ≡ Ok status
    → Validates S a b r → Validates S a b (Ok status)
validated S a b r status is = subst (λ (x : Result Status Dead). Validates S a b x) is

pub returns-then-self : goal.returns-then-self
returns-then-self g c = record {
  serves = still-dead g.D.Sectors.history c.args.self.now _ (sym (ap (λ d. d.dead) c.self.view_is) ∙ c.if-self.true);
  row = tt;
  -- a dead drive does nothing
  silent = λ _. refl;
  moments = λ l h. idle g.D.Sectors.history _ _ _ (mended-start _ l h);
  unsound = λ _. reads_weaker g.D.Sectors.history _ _ 0 2114 (omega arith) (no_reads g.D.Sectors.history _);
  reads = omega arith;
  quiet = λ _. no_write g.D.Sectors.history _;
}

pub invariant_of-self : goal.invariant_of-self
invariant_of-self g c = λ alive. absurd (false≢true (sym alive))

pub invariant_of-self-then-is_validate : goal.invariant_of-self-then-is_validate
invariant_of-self-then-is_validate g c = λ alive. known-after _ _ c.self.inside.known
    (c.self.invariant c.if-self.false) (λ clean. (c.validate.ensures.quiet clean).image)

pub returns-then-is_validate : goal.returns-then-is_validate
returns-then-is_validate g c =
    let w = validated g.D.Sectors.history _ _ _ _ c.in-Ok.is c.validate.ensures in
    record {
      serves = let S = g.D.Sectors.history in
          rw (← c.self.view_is) (served S (seen_of c.self.inside) _ _ c.if-self.false c.if-self.false
          w.failures
          (orderly S (record {
            disk = c.validate.new.disk;
            known = c.self.inside.known;
            status = c.in-Ok.status;
            dead = c.self.inside.dead;
          })
          (known-after _ _ c.self.inside.known (c.self.invariant c.if-self.false)
          (λ clean. (c.validate.ensures.quiet clean).image))));
      row = rw (← c.self.view_is) (meets-v (view_of g.D.Sectors.history (seen_of c.self.inside)) c.args.text.now _
          (c.is_validate.ensures.0 (truth _ c.if-is_validate.true)) w.row refl);
      silent = λ other. absurd (other (c.is_validate.ensures.0 (truth _ c.if-is_validate.true)));
      moments = rw (← c.self.view_is) c.validate.ensures.moments;
      unsound = rw (← c.self.view_is) c.validate.ensures.unsound;
      reads = rw (← c.self.view_is) c.validate.ensures.reads;
      quiet = rw (← c.self.view_is) c.validate.ensures.quiet;
    }

pub command-self-inside-requires : goal.command-self-inside-requires
command-self-inside-requires g c =
    record { other = λ v. false≢true (sym c.if-is_validate.false ∙ c.is_validate.ensures.1 v) }

pub invariant_of-self-2 : goal.invariant_of-self-2
invariant_of-self-2 g c = λ alive. c.command-self-inside.ensures.known (g.D.Sectors.history.image c.self.inside.disk)
    (c.self.invariant alive)

pub returns : goal.returns
returns g c = record {
  serves = let S = g.D.Sectors.history in
      rw (← c.self.view_is) (served S (seen_of c.self.inside) _ _ c.if-self.false c.if-self.false refl
      (orderly S (record {
        disk = c.self.inside.disk;
        known = c.command-self-inside.new.self;
        status = c.command-self-inside.result;
        dead = c.self.inside.dead;
      })
      (c.command-self-inside.ensures.known (S.image c.self.inside.disk) (c.self.invariant c.if-self.false))));
  row = let S = g.D.Sectors.history in
      rw (← c.self.view_is) (c.command-self-inside.ensures.row (S.image c.self.inside.disk) c.self.inside.status
      (c.self.invariant c.if-self.false));
  -- only the status and the place change
  silent = λ _. ap (λ d. d.disk) c.self.view_is;
  moments = rw (← c.self.view_is) (λ l h. idle g.D.Sectors.history _ _ _ (mended-start _ l h));
  unsound = rw (← c.self.view_is) (λ _. reads_weaker g.D.Sectors.history _ _ 0 2114 (omega arith)
      (no_reads g.D.Sectors.history _));
  reads = rw (← c.self.view_is) (omega arith);
  quiet = rw (← c.self.view_is) (λ _. no_write g.D.Sectors.history _);
}
