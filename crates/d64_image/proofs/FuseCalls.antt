-- A call of a fuse, by what the disk beneath it did.
use Rattle.std.proofs.Common.{Err, Ok, ap, arith, inl, inr, min, refl, subst, sym, ℕ}
use Rattle.std.proofs.Common.{◌+◌, ◌≡◌, ◌≢◌}
use Rattle.std.proofs.Math.Nat.{le_of_eq}
use Rattle.d64_image.specs.Calls.{ReadsSector, WritesSector}
use Rattle.d64_image.specs.Faults.{device_fault}
use Rattle.d64_image.specs.Fuses.{IsFused, fuse, fuse_disk, fuse_failures, fuse_left, fuse_limit, fuse_passed}
use Rattle.d64_image.specs.History.{Failed, HeldOnly, History, OldOr, OnlyReads}
use Rattle.d64_image.specs.Images.{Image, Sector, put}
use Rattle.d64_image.specs.declared.faults.DeviceFault.{DeviceFault}
use Rattle.d64_image.specs.declared.fuse.Fuse.{Fuse}
use Rattle.d64_image.specs.declared.place.Place.{Place}
use Rattle.d64_image.proofs.Counting.{grown, none_passed, not_fewer, one_passed, risen}
use Rattle.d64_image.proofs.Moments.{no_reads, start}

module _ {D : Type 0} (h : History D) (f g : Fuse D) (limit : fuse_limit g ≡ fuse_limit f) where
  -- what the disk beneath held, the fuse held
  held_above : (P : Image → Type 0) → IsFused h f g → HeldOnly h (fuse_disk f) (fuse_disk g) P
      → HeldOnly (fuse h) f g P
  held_above P fused x = record { reached = fused; later = x.later; each = x.each; before = x.before }

  reads_above : (n : ℕ) → IsFused h f g → fuse_passed g ≡ fuse_passed f → OnlyReads h (fuse_disk f) (fuse_disk g) n
      → OnlyReads (fuse h) f g n
  reads_above n fused passed x = record {
    image = x.image;
    held = held_above (λ c. c ≡ h.image (fuse_disk f)) fused x.held;
    reads = x.reads;
    writes = passed;
  }

  -- one more call failed
  once_failed : fuse_failures g ≡ min (fuse_failures f + 1) 18446744073709551615 → Failed (fuse h) f g
  once_failed one = record {
    later = not_fewer (fuse_failures f) (fuse_failures g) 18446744073709551615 f.failed.fits one;
    rose = λ below. risen (fuse_failures f) (fuse_failures g) 18446744073709551615 one below;
  }

  -- a blown fuse: the disk beneath is as it was
  module _ (passed : fuse_passed g ≡ fuse_passed f) (disk : fuse_disk g ≡ fuse_disk f) (blown : fuse_left f ≡ 0)
      (one : fuse_failures g ≡ min (fuse_failures f + 1) 18446744073709551615) (p : Place) (bytes : Sector) where
    blown_still : fuse_left g ≡ 0
    blown_still = omega (arith, blown, limit, passed)

    fused_blown : IsFused h f g
    fused_blown = record {
      limit = limit;
      passed = le_of_eq (sym passed);
      beneath = subst (λ d. h.reached (fuse_disk f) d) (sym disk) (h.reached_same (fuse_disk f));
      failures = le_of_eq (ap h.failures (sym disk));
      writes = none_passed (h.writes (fuse_disk f)) (h.writes (fuse_disk g)) (fuse_passed f) (fuse_passed g)
          (ap h.writes disk) passed;
      spent = λ none. disk;
      cause = inr (inl blown_still);
    }

    pub read_blown : ReadsSector {D = Fuse D} {T = Unit {0}} {E = DeviceFault} (fuse h) f g p bytes device_fault
        (Err device_fault)
    read_blown = record {
      sector = tt;
      reads = reads_above 1 fused_blown passed
          (subst (λ d. OnlyReads h (fuse_disk f) d 1) (sym disk) (none_read (fuse_disk f)));
      failures = once_failed one;
      told = refl;
      failed = inl blown_still;
    }
      where
        none_read : (d : D) → OnlyReads h d d 1
        none_read d = record {
          image = refl;
          held = (no_reads h d).held;
          reads = omega arith;
          writes = refl;
        }

    pub write_blown : WritesSector {D = Fuse D} {T = Unit {0}} {E = DeviceFault} (fuse h) f g p bytes device_fault
        (Err device_fault)
    write_blown =
        let old = h.image (fuse_disk f) in
        record {
          ok = tt;
          err = inl (ap h.image disk);
          held = held_above (OldOr old (put old p bytes)) fused_blown
              (subst (λ d. HeldOnly h (fuse_disk f) d (OldOr old (put old p bytes))) (sym disk)
              (start h (fuse_disk f) (OldOr old (put old p bytes)) (inl refl)));
          one_step = held_above (OldOr old (h.image (fuse_disk g))) fused_blown
              (subst (λ d. HeldOnly h (fuse_disk f) d (OldOr old (h.image (fuse_disk g)))) (sym disk)
              (start h (fuse_disk f) (OldOr old (h.image (fuse_disk g))) (inl refl)));
          counted = tt;
          uncounted = passed;
          reads = ap h.reads disk;
          failures = once_failed one;
          told = refl;
          failed = inl blown_still;
        }

  -- a whole one: the disk beneath answers
  module _ (whole : fuse_left f ≢ 0) (p : Place) (bytes : Sector) where
    pub read_passed : fuse_passed g ≡ fuse_passed f → fuse_failures g ≡ fuse_failures f
        → ReadsSector {D = D} {T = Unit {0}} {E = DeviceFault} h (fuse_disk f) (fuse_disk g) p bytes device_fault (Ok tt)
        → ReadsSector {D = Fuse D} {T = Unit {0}} {E = DeviceFault} (fuse h) f g p bytes device_fault (Ok tt)
    read_passed passed same x = record {
      sector = x.sector;
      reads = reads_above 1 (record {
        limit = limit;
        passed = le_of_eq (sym passed);
        beneath = x.reads.held.reached;
        failures = le_of_eq (sym x.failures);
        writes = none_passed (h.writes (fuse_disk f)) (h.writes (fuse_disk g)) (fuse_passed f) (fuse_passed g)
            x.reads.writes passed;
        spent = λ none. absurd (whole none);
        cause = inl same;
      }) passed x.reads;
      failures = same;
      told = tt;
      failed = tt;
    }

    pub write_passed : fuse_passed g ≡ fuse_passed f + 1 → fuse_failures g ≡ fuse_failures f
        → WritesSector {D = D} {T = Unit {0}} {E = DeviceFault} h (fuse_disk f) (fuse_disk g) p bytes device_fault
        (Ok tt)
        → WritesSector {D = Fuse D} {T = Unit {0}} {E = DeviceFault} (fuse h) f g p bytes device_fault (Ok tt)
    write_passed passed same x =
        let old = h.image (fuse_disk f) in
        let fused : IsFused h f g = record {
          limit = limit;
          passed = grown (fuse_passed f) (fuse_passed g) passed;
          beneath = x.held.reached;
          failures = le_of_eq (sym x.failures);
          writes = one_passed (h.writes (fuse_disk f)) (h.writes (fuse_disk g)) (fuse_passed f) (fuse_passed g)
              x.counted passed;
          spent = λ none. absurd (whole none);
          cause = inl same;
        } in
        record {
          ok = x.ok;
          err = tt;
          held = held_above (OldOr old (put old p bytes)) fused x.held;
          one_step = held_above (OldOr old (h.image (fuse_disk g))) fused x.one_step;
          counted = le_of_eq passed;
          uncounted = tt;
          reads = x.reads;
          failures = same;
          told = tt;
          failed = tt;
        }

    -- the disk beneath failed
    module _ (passed : fuse_passed g ≡ fuse_passed f)
        (one : fuse_failures g ≡ min (fuse_failures f + 1) 18446744073709551615) (fault : DeviceFault) where
      pub read_failed : ReadsSector {D = D} {T = Unit {0}} {E = DeviceFault} h (fuse_disk f) (fuse_disk g) p bytes
          device_fault (Err fault)
          → ReadsSector {D = Fuse D} {T = Unit {0}} {E = DeviceFault} (fuse h) f g p bytes device_fault (Err fault)
      read_failed x = record {
        sector = tt;
        reads = reads_above 1 (record {
          limit = limit;
          passed = le_of_eq (sym passed);
          beneath = x.reads.held.reached;
          failures = x.failures.later;
          writes = none_passed (h.writes (fuse_disk f)) (h.writes (fuse_disk g)) (fuse_passed f) (fuse_passed g)
              x.reads.writes passed;
          spent = λ none. absurd (whole none);
          cause = inr (inr x.failures);
        }) passed x.reads;
        failures = once_failed one;
        told = x.told;
        failed = inr x.failed;
      }

      pub write_failed : WritesSector {D = D} {T = Unit {0}} {E = DeviceFault} h (fuse_disk f) (fuse_disk g) p bytes
          device_fault (Err fault)
          → WritesSector {D = Fuse D} {T = Unit {0}} {E = DeviceFault} (fuse h) f g p bytes device_fault (Err fault)
      write_failed x =
          let old = h.image (fuse_disk f) in
          let fused : IsFused h f g = record {
            limit = limit;
            passed = le_of_eq (sym passed);
            beneath = x.held.reached;
            failures = x.failures.later;
            writes = none_passed (h.writes (fuse_disk f)) (h.writes (fuse_disk g)) (fuse_passed f) (fuse_passed g)
                x.uncounted passed;
            spent = λ none. absurd (whole none);
            cause = inr (inr x.failures);
          } in
          record {
            ok = tt;
            err = x.err;
            held = held_above (OldOr old (put old p bytes)) fused x.held;
            one_step = held_above (OldOr old (h.image (fuse_disk g))) fused x.one_step;
            counted = tt;
            uncounted = passed;
            reads = x.reads;
            failures = once_failed one;
            told = x.told;
            failed = inr x.failed;
          }
