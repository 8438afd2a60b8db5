-- How growth to a record ends that the file doesn't have: refused, failed or done.
use Rattle.std.proofs.Common.{Err, Ok, Result, arith, inr, length, refl, ℕ, ◌+◌, ◌-◌, ◌<◌, ◌↔◌, ◌≡◌, ◌≤◌, ◌⊎◌}
use Rattle.d64_image.specs.History.{Changes, History, OnlyReads}
use Rattle.d64_image.specs.declared.faults.DeviceFault.{DeviceFault}
use Rattle.disk_layout.specs.Layout.{File, Layout, record_length}
use Rattle.rel_records.proofs.lemmas.Told.{device-not-full, device-not-too-large, done-no-fault}
use Rattle.rel_records.proofs.lemmas.growth.GrownTo.{grow-leaves, grow-moments, grow-others, not-too-large, of-now}
use Rattle.rel_records.proofs.lemmas.growth.GrownTo.{read-moments, read-others, size-now, there-now}
use Rattle.rel_records.specs.Calls.{Grows, GrowsBy}
use Rattle.rel_records.specs.Faults.{TellsRelFault}
use Rattle.rel_records.specs.File.{IsFileOf, IsOf, OfItsFile, entry_of, length_of, records_in}
use Rattle.rel_records.specs.Written.{IsGrowingTo}
use Rattle.rel_records.specs.declared.faults.RelFault.{RelFault}
use Rattle.rel_records.specs.declared.faults.RelFault.TheVariants.{Device, Full, TooLarge}
use Rattle.rel_records.specs.declared.rel_file.RelFile.{RelFile}
use Rattle.rel_records.specs.growth.Growth.{IsFull, IsTooLarge, blocks_for, fill_writes, full, growth_writes}
use Rattle.rel_records.specs.growth.Growth.{records_had, run_writes}
use Rattle.rel_records.specs.growth.Steps.{HasRun}

module _ {D : Type 0} (S : History D) (d b : D) (v : RelFile) (r : ℕ) (lt : records_in v < r) (reads : OnlyReads S d b 1)
  where
    -- nothing is written
    pub ends-unwritten : (e : RelFault) → (e ≡ TooLarge) ⊎ ((e ≡ Full) ⊎ (e ≡ Device))
        → OfItsFile (S.image d) v (λ l n f. (◌≡◌ {A = Result (Unit {0}) RelFault} (Err e) (Err TooLarge) ↔ IsTooLarge f r)
        × (e ≡ Full → IsFull (S.image d) f r))
        → TellsRelFault {T = Unit {0}} S d b (Err e) → Grows S d b v v r (Err e)
    ends-unwritten e told why failures = record {
      file = λ l n f of. record {
        ok = tt;
        too_large = (why l n f of).0;
        full = (why l n f of).1;
        fits = tt;
        moments = read-moments S d b l n f v of r reads;
        others = read-others S d b l n f v of r reads;
      };
      there = tt;
      same = tt;
      quiet = λ le. absurd (omega (arith, lt, le));
      told = told;
      refused = λ ne. (refl, reads);
      reads = omega (arith, reads.reads);
      entry = refl;
      failures = failures;
    }

    -- the file grows, and z is kept of it
    module _ (y : D) (z : RelFile) (wanted : ℕ) (is : wanted ≡ blocks_for (length_of v) r) (few : wanted ≤ 720)
        (low : r ≤ 65535) (more : S.reads y ≤ S.reads b + 9) (entry : entry_of z ≡ entry_of v) where
      abbrev pub Ran : Result (Unit {0}) DeviceFault → Type 0
      Ran result = OfItsFile (S.image b) v (λ l n f. GrowsBy S b y l n f
          (fill_writes f + run_writes (length f.blocks) wanted) (full (record_length f.slot) wanted - records_had f)
          (HasRun (S.image b) (S.image y) l n f wanted z) result)

      small : (l : Layout) (n : ℕ) (f : File) → IsFileOf (S.image d) l n f v → ¬ (IsTooLarge f r)
      small l n f of = not-too-large (S.image d) l n f v of r lt (omega (arith, is, few)) low

      moments : (result : Result (Unit {0}) DeviceFault) → Ran result → (l : Layout) (n : ℕ) (f : File)
          → IsFileOf (S.image d) l n f v → Changes S d y (growth_writes f r) (IsGrowingTo (S.image d) l n f r)
      moments result ran l n f of = grow-moments S d b l n f v of r reads lt wanted is y
          (ran l n f (of-now S d b l n f v of r reads)).moments

      -- in part, since the device fails
      pub ends-failed : (e : DeviceFault) → Ran (Err e) → TellsRelFault {T = Unit {0}} S d y (Err Device)
          → Grows S d y v z r (Err Device)
      ends-failed e ran failures = record {
        file = λ l n f of. record {
          ok = tt;
          too_large = (λ x. device-not-too-large x, λ t. absurd (small l n f of t));
          full = λ x. device-not-full Device refl x;
          fits = tt;
          moments = moments (Err e) ran l n f of;
          others = grow-others S d b l n f v of r reads lt wanted is y (moments (Err e) ran l n f of);
        };
        there = tt;
        same = tt;
        quiet = λ le. absurd (omega (arith, lt, le));
        told = inr (inr refl);
        refused = λ ne. absurd (ne refl);
        reads = omega (arith, reads.reads, more);
        entry = entry;
        failures = failures;
      }

      -- all of it
      pub ends-grown : (u : Unit {0}) → IsOf (S.image d) v → Ran (Ok u)
          → OfItsFile (S.image d) v (λ l n f. ¬ (IsFull (S.image d) f r)) → S.failures y ≡ S.failures d
          → Grows S d y v z r (Ok u)
      ends-grown u (l0, n0, f0, of0) ran fits failures = record {
        file = λ l n f of. record {
          ok = grow-leaves S d b l n f v of r reads lt wanted is y z (ran l n f (of-now S d b l n f v of r reads)).ok;
          too_large = (λ x. done-no-fault _ _ x, λ t. absurd (small l n f of t));
          full = tt;
          fits = fits l n f of;
          moments = moments (Ok u) ran l n f of;
          others = grow-others S d b l n f v of r reads lt wanted is y (moments (Ok u) ran l n f of);
        };
        there = there-now (S.image b) l0 n0 f0 v now r lt (S.image y) wanted z is (ran l0 n0 f0 now).ok;
        same = size-now (S.image b) l0 n0 f0 v now r lt (S.image y) wanted z is (ran l0 n0 f0 now).ok;
        quiet = λ le. absurd (omega (arith, lt, le));
        told = tt;
        refused = tt;
        reads = omega (arith, reads.reads, more);
        entry = entry;
        failures = failures;
      }
        where
          now : IsFileOf (S.image b) l0 n0 f0 v
          now = of-now S d b l0 n0 f0 v of0 r reads
