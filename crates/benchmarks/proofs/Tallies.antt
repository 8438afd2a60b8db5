-- A tally goes on from one check to the next.
use Rattle.std.proofs.Common.{ℕ, ◌≤◌, ◌+◌, ◌*◌, refl, sym, ap, subst, arith}
use Rattle.d64_image.proofs.Moments.{never_failed_first, never_failed_rest, no_reads, reads_then, reads_weaker}
use Rattle.d64_image.specs.History.{History, NeverFailed, OnlyReads}
use Rattle.disk_layout.specs.Clean.{IsClean}
use Rattle.benchmarks.specs.Tallies.{IsTally}

module _ {D : Type 0} (S : History D) where
  pub none : (d : D) → IsTally S d d 0 0
  none d = record {
    reads = reads_weaker S d d 0 (2115 * 0) (omega arith) (no_reads S d);
    later = omega arith;
    few = omega arith;
    clean = λ never is. refl;
    unclean = λ not. refl;
  }

  -- the disk is found clean
  pub found : (a b c : D) (checks count : ℕ) → IsTally S a b checks count → OnlyReads S b c 2115
      → S.failures b ≤ S.failures c → IsClean (S.image b)
      → IsTally S a c (checks + 1) (count + 1)
  found a b c checks count t read later is = record {
    reads = reads_then S a b c (2115 * checks) 2115 (2115 * (checks + 1)) (omega arith) t.reads read;
    later = omega (arith, t.later, later);
    few = omega (arith, t.few);
    clean = λ never here. ap (λ (n : ℕ). n + 1) (t.clean (never_failed_first S a b c t.later later never) here);
    unclean = λ not. absurd (not (subst IsClean t.reads.image is));
  }

  -- it isn't
  pub missed : (a b c : D) (checks count : ℕ) → IsTally S a b checks count → OnlyReads S b c 2115
      → S.failures b ≤ S.failures c
      → (NeverFailed S b c → IsClean (S.image b) → ⊥) → IsTally S a c (checks + 1) count
  missed a b c checks count t read later unclean = record {
    reads = reads_then S a b c (2115 * checks) 2115 (2115 * (checks + 1)) (omega arith) t.reads read;
    later = omega (arith, t.later, later);
    few = omega (arith, t.few);
    clean = λ never here. absurd (unclean (never_failed_rest S a b c t.later later never)
        (subst IsClean (sym t.reads.image) here));
    unclean = t.unclean;
  }
