-- A dead drive gives nothing; the device failed in the call, or the record is told.
use Rattle.std.proofs.Common.{◌≡◌, sym, subst, ap, ◌∙◌, arith, List, Ok, Result, ℕ}
use Rattle.std.proofs.lemmas.Bool.{false≢true, true≢false}
use Rattle.d64_image.specs.Images.{Image}
use Rattle.drive_channels.proofs.Steady.{orderly, served, still-dead}
use Rattle.drive_channels.specs.Calls.{ReadsOn}
use Rattle.drive_channels.specs.Inside.{IsKnown, seen_of}
use Rattle.drive_channels.specs.declared.faults.Dead.{Dead}
use Rattle.drive_channels.specs.declared.open_files.OpenFiles.{OpenFiles}
use Rattle.drive_channels.specs.declared.status.Status.{Status}
use Rattle.d64_image.specs.History.{History}
use Rattle.d64_image.proofs.Moments.{no_reads, reads_weaker}
use Rattle.drive_channels.proofs.drive.Drive.read.Goals as goal

-- what the call below came to, if it is done
given : {D : Type 0} (S : History D) (a b : D) (k k' : OpenFiles) (channel : ℕ) (bytes : List ℕ)
    (r : Result Status Dead) (status : Status) → r ≡ Ok status → ReadsOn S a b k k' channel bytes r
    → ReadsOn S a b k k' channel bytes (Ok status)
given S a b k k' channel bytes r status is = subst (λ (x : Result Status Dead). ReadsOn S a b k k' channel bytes x) is

pub returns-then-self : goal.returns-then-self
returns-then-self g c = record {
  serves = still-dead g.D.Sectors.history c.args.self.now _ (sym (ap (λ d. d.dead) c.self.view_is) ∙ c.if-self.true);
  row = tt;
  reads = reads_weaker g.D.Sectors.history _ _ 0 3 (omega arith) (no_reads g.D.Sectors.history _);
  silent = λ dead. c.clear.ensures;
}

pub returns : goal.returns
returns g c =
    let w = given g.D.Sectors.history _ _ _ _ _ _ _ _ c.in-Ok.is c.read.ensures in
    record {
      serves = let S = g.D.Sectors.history in
          rw (← c.self.view_is)
          (served S (seen_of c.self.inside) _ _ c.if-self.false c.if-self.false w.failures
          (orderly S
          (record {
            disk = c.read.new.disk;
            known = c.read.new.self;
            status = c.in-Ok.status;
            dead = c.self.inside.dead;
          })
          (subst (λ (i : Image). IsKnown i c.read.new.self) (sym c.read.ensures.reads.image)
          w.known)));
      row = rw (← c.self.view_is, c.read.ensures.reads.image) (w.row c.self.inside.status);
      reads = rw (← c.self.view_is) c.read.ensures.reads;
      silent = λ dead. absurd (false≢true (sym c.if-self.false ∙ ap (λ d. d.dead) c.self.view_is ∙ dead));
    }

pub read-requires : goal.read-requires
read-requires g c = record { known = c.self.invariant c.if-self.false }

pub invariant_of-self : goal.invariant_of-self
invariant_of-self g c = λ dead. absurd (true≢false dead)

pub invariant_of-self-2 : goal.invariant_of-self-2
invariant_of-self-2 g c =
    let w = given g.D.Sectors.history _ _ _ _ _ _ _ _ c.in-Ok.is c.read.ensures in
    λ _. subst (λ (i : Image). IsKnown i c.read.new.self) (sym c.read.ensures.reads.image)
    w.known
