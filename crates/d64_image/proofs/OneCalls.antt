-- What a read of a disk with one fault promises: the one that fails, and one that the disk beneath answers.
use Rattle.std.proofs.Common.{◌≡◌, ◌+◌, ◌∙◌, Err, Ok, Result, Some, ap, arith, inl, inr, refl, subst, sym}
use Rattle.std.proofs.Math.Nat.{le_of_eq}
use Rattle.std.proofs.lemmas.Option.{none-some}
use Rattle.std.specs.Prelude.{IsErrOf, OnErr, OnOk, min}
use Rattle.d64_image.specs.Calls.{ReadsSector}
use Rattle.d64_image.specs.History.{Failed, HeldOnly, History}
use Rattle.d64_image.specs.Images.{Image, Sector}
use Rattle.d64_image.specs.declared.count.Count.{Count}
use Rattle.d64_image.specs.declared.place.Place.{Place}
use Rattle.d64_image.specs.OneFaults.{IsOnce, fault_place, faulty_disk, is_due, one_fault}
use Rattle.d64_image.specs.declared.one_fault.OneFault.{OneFault}

-- one failure more than before
abbrev pub IsOneMore : Count → Count → Type 0
IsOneMore old new = new.n ≡ min (old.n + 1) 18446744073709551615

pub one_more : (a b c : Count) → b ≡ a → IsOneMore b c → IsOneMore a c
one_more a b c same more = subst (λ (x : Count). IsOneMore x c) same more

module _ {D T E : Type 0} (h : History D) (a b c : D) (same : b ≡ a) (p : Place) (bytes : Sector) (fault : E)
    (r : Result T E) where
  -- the disk beneath answered as it was before the call was counted
  pub read_beneath : ReadsSector h b c p bytes fault r → ReadsSector h a c p bytes fault r
  read_beneath x = subst (λ (d : D). ReadsSector h d c p bytes fault r) same x

module _ {D : Type 0} (h : History D) (a b : OneFault D) where
  counted_failure : IsOneMore a.failed b.failed → Failed (one_fault h) a b
  counted_failure more = record { later = omega (arith, more, a.failed.fits); rose = λ lt. omega (arith, more, lt) }

  -- the one fault came, and the disk beneath is the same
  came : (p : Place) → is_due a → fault_place b ≡ Some p → faulty_disk b ≡ faulty_disk a → IsOnce h a b
  came p due place disk = record {
    beneath = subst (λ (d : D). h.reached a.disk d) (sym disk) (h.reached_same a.disk);
    failures = le_of_eq (ap h.failures (sym disk));
    past = λ q e. absurd (none-some q (sym due.0 ∙ e));
    cause = inr (inl (due.0, λ e. none-some p (sym e ∙ place)));
  }

  -- so it held nothing else
  stays : (P : Image → Type 0) → IsOnce h a b → faulty_disk b ≡ faulty_disk a → P (h.image a.disk)
      → HeldOnly (one_fault h) a b P
  stays P once disk holds = record {
    reached = once;
    later = le_of_eq (ap h.moment (sym disk));
    each = λ c x. subst P (sym (h.only_now a.disk c (subst (λ (d : D). h.held d (h.moment a.disk) c) disk x))) holds;
    before = λ t c le x. inl (subst (λ (d : D). h.held d t c) disk x);
  }

  -- the read that fails
  pub refuses_read : (p : Place) (to : Sector) {T E : Type 0} (fault : E) (r : Result T E) → IsErrOf r fault → is_due a
      → fault_place b ≡ Some p
      → faulty_disk b ≡ faulty_disk a → b.written ≡ a.written → IsOneMore a.failed b.failed
      → ReadsSector (one_fault h) a b p to fault r
  refuses_read p to fault (Ok _) is due place disk written more = cc
  refuses_read p to fault (Err _) is due place disk written more = record {
    sector = tt;
    reads = record {
      image = ap h.image disk;
      held = stays (λ i. i ≡ h.image a.disk) (came p due place disk) disk refl;
      reads = omega (arith, ap h.reads disk);
      writes = ap (λ (x : Count). x.n) written;
    };
    failures = counted_failure more;
    told = cc;
    failed = inl place;
  }

  -- a read that the disk beneath answers
  pub passes_read : (p : Place) (to : Sector) {T E : Type 0} (fault : E) (r : Result T E)
      → ReadsSector h (faulty_disk a) (faulty_disk b) p to fault r
      → fault_place b ≡ fault_place a → b.written ≡ a.written → OnOk r (b.failed ≡ a.failed)
      → OnErr r (IsOneMore a.failed b.failed)
      → ReadsSector (one_fault h) a b p to fault r
  passes_read p to fault (Ok _) x place written unfailed more = record {
    sector = x.sector;
    reads = record {
      image = x.reads.image;
      held = record {
        reached = record {
          beneath = x.reads.held.reached;
          failures = le_of_eq (sym x.failures);
          past = λ q e. place ∙ e;
          cause = inl (ap (λ (n : Count). n.n) unfailed);
        };
        later = x.reads.held.later;
        each = x.reads.held.each;
        before = x.reads.held.before;
      };
      reads = x.reads.reads;
      writes = ap (λ (n : Count). n.n) written;
    };
    failures = ap (λ (n : Count). n.n) unfailed;
    told = tt;
    failed = tt;
  }
  passes_read p to fault (Err _) x place written unfailed more = record {
    sector = tt;
    reads = record {
      image = x.reads.image;
      held = record {
        reached = record {
          beneath = x.reads.held.reached;
          failures = x.failures.later;
          past = λ q e. place ∙ e;
          cause = inr (inr x.failures);
        };
        later = x.reads.held.later;
        each = x.reads.held.each;
        before = x.reads.held.before;
      };
      reads = x.reads.reads;
      writes = ap (λ (n : Count). n.n) written;
    };
    failures = counted_failure more;
    told = x.told;
    failed = inr x.failed;
  }
