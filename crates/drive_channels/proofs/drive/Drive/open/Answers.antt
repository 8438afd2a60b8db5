use Rattle.std.proofs.lemmas.Bool.{true≢false}
use Rattle.std.proofs.Common.{◌≡◌, ◌⊎◌, inl, inr, arith, refl, ap, subst, sym, ◌∙◌, List, None, Ok}
use Rattle.std.proofs.Common.{Option, Result, ℕ}
use Rattle.d64_image.proofs.Moments.{no_reads, reads_weaker}
use Rattle.drive_channels.proofs.Steady.{orderly, served, still-dead}
use Rattle.drive_channels.proofs.Written.{idle}
use Rattle.drive_channels.proofs.drive.Drive.open.Goals as goal
use Rattle.d64_image.specs.History.{History, OnlyReads}
use Rattle.drive_channels.specs.Calls.{OpensText}
use Rattle.drive_channels.specs.Files.{HasFile}
use Rattle.drive_channels.specs.Inside.{seen_of}
use Rattle.drive_channels.specs.Moments.{IsOpenedBy}
use Rattle.drive_channels.specs.Spelling.{IsWish, Wish}
use Rattle.drive_channels.specs.State.{Channel}
use Rattle.drive_channels.specs.declared.faults.Dead.{Dead}
use Rattle.drive_channels.specs.declared.open_files.OpenFiles.{OpenFiles}
use Rattle.drive_channels.specs.declared.status.Status.{Status}

-- without a length, or where the file is there, nothing is written
quiet-of : {D T E : Type 0} {S : History D} {a b : D} {text : List ℕ} {before after : Option Channel}
    {result : Result T E} → IsOpenedBy S a b text before after result
    → ((w : Wish) → IsWish text w → w.length ≡ None) ⊎ ((w : Wish) × IsWish text w × HasFile (S.image a) w.name)
    → OnlyReads S a b 2817
quiet-of opened h = elim h [
  | inl none ↦ opened.plain none
  | inr x ↦ opened.there x.0 x.1 x.2
]

-- what the call below came to, if it is done
opened : {D : Type 0} (S : History D) (a b : D) (k k' : OpenFiles) (channel : ℕ) (text : List ℕ)
    (r : Result Status Dead) (status : Status) → r ≡ Ok status → OpensText S a b k k' channel text r
    → OpensText S a b k k' channel text (Ok status)
opened S a b k k' channel text r status is = subst (λ (x : Result Status Dead). OpensText S a b k k' channel text x) is

pub returns : goal.returns
returns g c =
    let w = opened g.D.Sectors.history _ _ _ _ _ _ _ _ c.in-Ok.is c.open.ensures in
    record {
      -- each is that of the call below, in the drive's fields
      serves = let S = g.D.Sectors.history in
          rw (← c.self.view_is) (served S (seen_of c.self.inside) _ _ c.if-self.false c.if-self.false
          w.failures
          (orderly S (record {
            disk = c.open.new.disk;
            known = c.open.new.self;
            status = c.in-Ok.status;
            dead = c.self.inside.dead;
          }) w.known));
      row = rw (← c.self.view_is) (w.row c.self.inside.status);
      quiet = rw (← c.self.view_is) (quiet-of w.opened);
      refused = rw (← c.self.view_is) w.opened.refused;
      reads = rw (← c.self.view_is) w.opened.reads;
      unclean = rw (← c.self.view_is) w.opened.unclean;
      moments = rw (← c.self.view_is) w.opened.moments;
    }

pub returns-then-self : goal.returns-then-self
returns-then-self g c = record {
  serves = still-dead g.D.Sectors.history c.args.self.now _ (sym (ap (λ d. d.dead) c.self.view_is) ∙ c.if-self.true);
  row = tt;
  -- a dead drive does nothing
  quiet = λ _. reads_weaker g.D.Sectors.history _ _ 0 2817 (omega arith) (no_reads g.D.Sectors.history _);
  refused = tt;
  reads = tt;
  unclean = λ _. reads_weaker g.D.Sectors.history _ _ 0 2115 (omega arith) (no_reads g.D.Sectors.history _);
  moments = λ l _. idle g.D.Sectors.history _ _ _ (inl refl);
}

pub returns-in_default-clause-quiet : goal.returns-in_default-clause-quiet
returns-in_default-clause-quiet g c = rw (← c.self.view_is) (quiet-of c.open.ensures.opened)

pub returns-in_default-clause-unclean : goal.returns-in_default-clause-unclean
returns-in_default-clause-unclean g c = rw (← c.self.view_is) c.open.ensures.opened.unclean

pub returns-in_default-clause-moments : goal.returns-in_default-clause-moments
returns-in_default-clause-moments g c = rw (← c.self.view_is) c.open.ensures.opened.moments

pub open-requires : goal.open-requires
open-requires g c = record { known = c.self.invariant c.if-self.false }

pub invariant_of-self : goal.invariant_of-self
invariant_of-self g c = λ dead. absurd (true≢false dead)

pub invariant_of-self-2 : goal.invariant_of-self-2
invariant_of-self-2 g c =
    let w = opened g.D.Sectors.history _ _ _ _ _ _ _ _ c.in-Ok.is c.open.ensures in
    λ _. w.known
