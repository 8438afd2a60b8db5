-- How calls that read and judge go on from one to the next.
use Rattle.std.proofs.Common.{ℕ, ◌≡◌, ◌≤◌, ◌+◌, Err, ◌∙◌, subst, arith}
use Rattle.d64_image.proofs.Moments.{reads_then, reads_weaker, no_reads, never_failed}
use Rattle.d64_image.specs.History.{Failed, History, NeverFailed, OnlyReads}
use Rattle.d64_image.specs.Images.{Image}
use Rattle.d64_image.specs.declared.place.Place.{Place}
use Rattle.d64_image.proofs.Told.{told_after}
use Rattle.disk_layout.specs.Fault.{Holds, TellsFault, nowhere, of_device}
use Rattle.disk_layout.specs.declared.faults.Fault.{Fault}
use Rattle.disk_layout.specs.declared.faults.Fault.TheVariants.{
  BadLength,
  BadLink,
  BadSide,
  BadType,
  CountWrong,
  Device,
  Loop,
  MapWrong,
  OwnedTwice,
  Unclosed,
}
use Rattle.layout_check.specs.Calls.{Passes, TellsUnsound}

module _ {D : Type 0} (S : History D) where
  -- the type of what would have been answered doesn't matter
  pub any_answer : (T U : Type 0) (a b : D) (f : Fault) → TellsFault {T = T} S a b (Err f)
      → TellsFault {T = U} S a b (Err f)
  any_answer T U a b f h = h

  pub tells_later : (T : Type 0) (a b c : D) (f : Fault) → S.failures b ≡ S.failures a
      → TellsFault {T = T} S b c (Err f) → TellsFault {T = T} S a c (Err f)
  tells_later T a b c f e h = told_after {T = T} S of_device a b c (Err f) e h

  pub passes_none : (d : D) → Passes S d d 0
  passes_none d = record { reads = no_reads S d; failures = omega arith }

  pub passes_then : (a b c : D) (k m n : ℕ) → k + m ≤ n → Passes S a b k → Passes S b c m → Passes S a c n
  passes_then a b c k m n le first second = record {
    reads = reads_then S a b c k m n le first.reads second.reads;
    failures = second.failures ∙ first.failures;
  }

  pub passes_weaker : (a b : D) (m n : ℕ) → m ≤ n → Passes S a b m → Passes S a b n
  passes_weaker a b m n le h = record { reads = reads_weaker S a b m n le h.reads; failures = h.failures }

  pub tells_then : (a b c : D) (k m n : ℕ) (f : Fault) → k + m ≤ n → Passes S a b k → TellsUnsound S b c m f
      → TellsUnsound S a c n f
  tells_then a b c k m n f le first second = record {
    reads = reads_then S a b c k m n le first.reads second.reads;
    failures = tells_later ℕ a b c f first.failures second.failures;
    holds = let P : Image → Type 0 = λ img. Holds (S.failed_at c) img f in subst P first.reads.image second.holds;
  }

  pub tells_weaker : (a b : D) (m n : ℕ) (f : Fault) → m ≤ n → TellsUnsound S a b m f → TellsUnsound S a b n f
  tells_weaker a b m n f le h = record {
    reads = reads_weaker S a b m n le h.reads;
    failures = h.failures;
    holds = h.holds;
  }

  pub passes_read : (a b : D) → OnlyReads S a b 1 → S.failures b ≡ S.failures a → Passes S a b 1
  passes_read a b reads same = record { reads = reads; failures = same }

  -- what is told of a sector that the device failed to read
  pub tells_read : (a b : D) (p : Place) (f : Fault) → f ≡ Device p → OnlyReads S a b 1 → Failed S a b → S.failed_at b p
      → TellsUnsound S a b 1 f
  tells_read a b p f e reads failed there = rw e (record { reads = reads; failures = failed; holds = there })

  pub side_tells : (a b : D) (n : ℕ) (p : Place) → Passes S a b n → Holds (S.failed_at b) (S.image a) (BadSide p)
      → TellsUnsound S a b n (BadSide p)
  side_tells a b n p passes h = record { reads = passes.reads; failures = passes.failures; holds = h }

  pub twice_tells : (a b : D) (n : ℕ) (p : Place) → Passes S a b n → Holds (S.failed_at b) (S.image a) (OwnedTwice p)
      → TellsUnsound S a b n (OwnedTwice p)
  twice_tells a b n p passes h = record { reads = passes.reads; failures = passes.failures; holds = h }

  -- where the device doesn't fail, the fault holds of the image itself
  pub holds_alone : (T : Type 0) (a b : D) (f : Fault) → NeverFailed S a b → TellsFault {T = T} S a b (Err f)
      → Holds (S.failed_at b) (S.image a) f → Holds nowhere (S.image a) f
  holds_alone T a b (BadLink p) never tells h = h
  holds_alone T a b (Loop p) never tells h = h
  holds_alone T a b (OwnedTwice p) never tells h = h
  holds_alone T a b (BadType p) never tells h = h
  holds_alone T a b (Unclosed p) never tells h = h
  holds_alone T a b (BadSide p) never tells h = h
  holds_alone T a b (BadLength p) never tells h = h
  holds_alone T a b (CountWrong p) never tells h = h
  holds_alone T a b (MapWrong p) never tells h = h
  holds_alone T a b (Device p) never tells h = absurd (never_failed S a b never tells)
