-- Calls and checks on a folder without the tag of IMAGE, one behind another.
use Rattle.std.proofs.Common.{◌≡◌, ◌∙◌, ◌≤◌, Bool, ap, arith, inl, inr, refl, subst, sym, true, ⊎_elim}
use Rattle.std.specs.Prelude.{IsErr, OnOk, Result, Some, option_map}
use Rattle.image_log.specs.life.Folders.{Acts, Brings, CountsFailure, Folder, FolderHistory, Passes, Same}
use Rattle.image_log.specs.life.Untagged.{untagged_folder, untagged_in}
use Rattle.image_log.proofs.lemmas.life.Times.{on_ok}
use Rattle.image_log.proofs.lemmas.life.Failing.{always, at_err, not_ok, or_same}
use Rattle.image_log.proofs.lemmas.life.Untagged.{failed_before, fails, passes}

module _ {E D : Type 0} (inner : E → D) (failed : E → Bool) (h : FolderHistory D) where
  abbrev H : FolderHistory E
  H = untagged_in inner failed h

  -- a call with a check behind it
  pub answered : {T X T2 X2 : Type 0} (a b c : E) (to : Folder → Folder) (step : Folder → Folder → Type 0) (r : Result T X)
      (r2 : Result T2 X2) → inner b ≡ inner c → OnOk r2 ((s : Folder) → H.held a ≡ Some s → H.held c ≡ Some (to s))
      → CountsFailure H a c r2 → Acts H a b to step r → Acts H a c to step r2
  answered a b c to step r r2 same ok failures one = record {
    ok = ok;
    outcomes = λ s may. one.outcomes s (may.0, subst (λ (d : D). h.may_leave d may.0) (sym same) may.1, may.2);
    time = record {
      later = subst (λ (d : D). h.moment (inner a) ≤ h.moment d) same one.time.later;
      nothing_else = λ t s le left. ⊎_elim (λ old. inl old)
          (λ may. inr (may.0, subst (λ (d : D). h.may_leave d may.0) same may.1, may.2))
          (one.time.nothing_else t s le (left.0, subst (λ (d : D). h.left_since d t left.0) (sym same) left.1, left.2));
    };
    failures = failures;
  }

  -- its error was handed on
  pub handed_on : {T X T2 X2 : Type 0} (a b : E) (to : Folder → Folder) (step : Folder → Folder → Type 0) (r : Result T X)
      (r2 : Result T2 X2) → IsErr r → IsErr r2 → Acts H a b to step r → Acts H a b to step r2
  handed_on a b to step r r2 err err2 one = answered a b b to step r r2 refl (not_ok _ r2 err2)
      (failed_before inner failed h a b r2 err2 (at_err (H.has_failed b ≡ true) r err one.failures.failed)) one

  -- a check behind it failed
  pub refused : {T X T2 X2 : Type 0} (a b c : E) (to : Folder → Folder) (step : Folder → Folder → Type 0) (r : Result T X)
      (r2 : Result T2 X2) → inner b ≡ inner c → IsErr r2 → failed c ≡ true → Acts H a b to step r → Acts H a c to step r2
  refused a b c to step r r2 same err is one =
      answered a b c to step r r2 same (not_ok _ r2 err) (failed_before inner failed h a c r2 err (fails inner failed h c is)) one

  -- the call before changed nothing
  pub behind : {T X T2 X2 : Type 0} (a b c : E) (to : Folder → Folder) (step : Folder → Folder → Type 0) (r : Result T X)
      (r2 : Result T2 X2) → ((s : Folder) → H.held a ≡ Some s → H.held b ≡ Some s) → H.has_failed b ≡ H.has_failed a
      → Acts H a b (λ s. s) Same r → Acts H b c to step r2 → Acts H a c to step r2
  behind a b c to step r r2 same fine one two = record {
    ok = on_ok ((s : Folder) → H.held b ≡ Some s → H.held c ≡ Some (to s)) ((s : Folder) → H.held a ≡ Some s → H.held c ≡ Some (to s))
        r2 (λ ok s held. ok s (same s held)) two.ok;
    outcomes = λ s may.
        let x = two.outcomes s may in
        let y = one.outcomes x.0 x.1 in
        (y.0, y.1, subst (λ (from : Folder). step from s) y.2 x.2);
    time = record {
      later = omega (arith, one.time.later, two.time.later);
      nothing_else = λ t s le left. ⊎_elim
          (λ mid. ⊎_elim (λ old. inl old)
          (λ may. let y = one.outcomes s may in inl (subst (λ (u : Folder). H.left_since a t u) (sym y.2) (H.now a t y.0 le y.1)))
          (one.time.nothing_else t s le mid))
          (λ now. inr now)
          (two.time.nothing_else t s (omega (arith, le, one.time.later)) left);
    };
    failures = record {
      failed = two.failures.failed;
      passed = on_ok (H.has_failed c ≡ H.has_failed b) (H.has_failed c ≡ H.has_failed a) r2 (λ is. is ∙ fine) two.failures.passed;
    };
  }

  -- or it failed
  pub early : {T X T2 X2 : Type 0} (a b : E) (to : Folder → Folder) (step : Folder → Folder → Type 0) (r : Result T X)
      (r2 : Result T2 X2) → IsErr r → IsErr r2 → ((s : Folder) → step s s) → Acts H a b (λ s. s) Same r → Acts H a b to step r2
  early a b to step r r2 err err2 still one = record {
    ok = not_ok _ r2 err2;
    outcomes = λ s may. let x = one.outcomes s may in (x.0, x.1, subst (step x.0) (sym x.2) (still x.0));
    time = one.time;
    failures = failed_before inner failed h a b r2 err2 (at_err (H.has_failed b ≡ true) r err one.failures.failed);
  }

  -- nothing was done
  pub idle : {T X : Type 0} (a b : E) (r : Result T X) → inner a ≡ inner b → CountsFailure H a b r → Acts H a b (λ s. s) Same r
  idle a b r same failures = record {
    ok = always _ r (λ s held. ap (λ (d : D). option_map untagged_folder (h.held d)) (sym same) ∙ held);
    outcomes = λ s may. (s, (may.0, subst (λ (d : D). h.may_leave d may.0) (sym same) may.1, may.2), refl);
    time = passes inner failed h a b (subst (λ (d : D). Passes h (inner a) d) same (record {
      later = omega arith;
      nothing_else = λ t s le left. inl left;
    }));
    failures = failures;
  }

  -- a check failed
  pub undone : {T X : Type 0} (a b : E) (to : Folder → Folder) (step : Folder → Folder → Type 0) (r : Result T X)
      → inner a ≡ inner b → IsErr r → failed b ≡ true → ((s : Folder) → step s s) → Acts H a b to step r
  undone a b to step r same err is still = early a b to step r r err err still
      (idle a b r same (failed_before inner failed h a b r err (fails inner failed h b is)))

  -- a check before it passed
  pub past : {T X : Type 0} (a b c : E) (to : Folder → Folder) (step : Folder → Folder → Type 0) (r : Result T X)
      → inner a ≡ inner b → failed b ≡ failed a → Acts H b c to step r → Acts H a c to step r
  past a b c to step r same is two = record {
    ok = on_ok ((s : Folder) → H.held b ≡ Some s → H.held c ≡ Some (to s)) ((s : Folder) → H.held a ≡ Some s → H.held c ≡ Some (to s))
        r (λ ok s held. ok s (ap (λ (d : D). option_map untagged_folder (h.held d)) (sym same) ∙ held)) two.ok;
    outcomes = λ s may.
        let x = two.outcomes s may in
        (x.0, (x.1.0, subst (λ (d : D). h.may_leave d x.1.0) (sym same) x.1.1, x.1.2), x.2);
    time = record {
      later = subst (λ (d : D). h.moment d ≤ h.moment (inner c)) (sym same) two.time.later;
      nothing_else = λ t s le left. ⊎_elim
          (λ old. inl (old.0, subst (λ (d : D). h.left_since d t old.0) (sym same) old.1, old.2)) (λ now. inr now)
          (two.time.nothing_else t s (subst (λ (d : D). t ≤ h.moment d) same le) left);
    };
    failures = record {
      failed = two.failures.failed;
      passed = on_ok (H.has_failed c ≡ H.has_failed b) (H.has_failed c ≡ H.has_failed a) r
          (λ fine. fine ∙ or_same (failed a) (failed b) (h.has_failed (inner a)) (h.has_failed (inner b)) is (ap h.has_failed (sym same))) two.failures.passed;
    };
  }

  -- a sync is a call that changes nothing
  pub synced : {X : Type 0} (a b : E) (P : Folder → Folder → Type 0) (r : Result Unit X) → Brings H a b P r → Acts H a b (λ s. s) Same r
  synced a b P r there = record {
    ok = always _ r (λ s held. there.held ∙ held);
    outcomes = λ s may. (s, there.outcomes s may, refl);
    time = there.time;
    failures = there.failures;
  }
