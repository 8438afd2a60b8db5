-- The file of a log whose name is looked at.
use Rattle.std.proofs.Common.{◌≡◌, ◌∙◌, Bool, ℕ, List, ap, inl, inr, refl, true, ⊎_elim}
use Rattle.std.specs.Prelude.{IsErr, Ok, OnErr, OnOk, Result, Some, option_map}
use Rattle.image_log.specs.Files.{FileHistory, Lengthens, NotesFailure, Only, SyncsBytes, WritesBytes}
use Rattle.image_log.specs.life.Folders.{CountsFailure, Folder, FolderHistory, IsReturned, LogOf, with_log}
use Rattle.image_log.specs.life.Untagged.{asked_in, untagged_folder, untagged_in}
use Rattle.image_log.proofs.lemmas.life.Times.{on_err, on_ok}
use Rattle.image_log.proofs.lemmas.life.Failing.{always, at_err, failing, not_ok, or_left, or_right, or_same, or_true}
use Rattle.image_log.proofs.lemmas.life.Untagged.{checked, failed_before, fails, raw}

module _ {E D : Type 0} (inner : E → D) (failed : E → Bool) (h : FolderHistory D) where
  abbrev H : FolderHistory E
  H = untagged_in inner failed h

  module _ {L F : Type 0} (file_of : L → F) (lost : L → Bool) (g : FileHistory F) where
    pub log_of : (a : E) (l : L) → LogOf h g (inner a) (file_of l) → LogOf H (asked_in file_of lost g) a l
    log_of a l there = record {
      held = λ t f held is.
          let s = raw (h.held (inner a)) t held in
          there.held s.0 f s.1 (ap (λ (x : Folder). x.log) s.2 ∙ is);
      left = λ c may. let s = there.left c may in (untagged_folder s.0, (s.0, s.1, refl), s.2);
    }

    closed : {X Y : Type 0} (a b : E) (l : L) (r : Result Unit X) (r2 : Result Unit Y)
        → CountsFailure H a b r2 → ((asked_in file_of lost g).has_failed l ≡ true → H.has_failed b ≡ true)
        → OnOk r2 ((s : Folder) (f : List ℕ) → h.held (inner a) ≡ Some s → g.held (file_of l) ≡ Some f
        → h.held (inner b) ≡ Some (with_log f s))
        → IsReturned h g (inner a) (inner b) (file_of l) r → IsReturned H (asked_in file_of lost g) a b l r2
    closed a b l r r2 failures file_failures held there = record {
      held = on_ok
          ((s : Folder) (f : List ℕ) → h.held (inner a) ≡ Some s → g.held (file_of l) ≡ Some f
          → h.held (inner b) ≡ Some (with_log f s))
          ((s : Folder) (f : List ℕ) → H.held a ≡ Some s → g.held (file_of l) ≡ Some f → H.held b ≡ Some (with_log f s)) r2
          (λ is t f was there.
          let s = raw (h.held (inner a)) t was in
          ap (option_map untagged_folder) (is s.0 f s.1 there) ∙ ap Some (ap (with_log f) s.2))
          held;
      outcomes = λ t may.
          let x = there.outcomes may.0 may.1 in (
            untagged_folder x.0,
            (x.0, x.1, refl),
            ⊎_elim (λ same. inl (may.2 ∙ ap untagged_folder same.0, same.1))
                (λ put. inr (put.0, put.1, may.2 ∙ ap untagged_folder put.2)) x.2,
          );
      later = there.later;
      counted = λ t was. let s = raw (h.held (inner a)) t was in there.counted s.0 s.1;
      since = λ t s le left.
          ⊎_elim
          (λ lent. inl (⊎_elim (λ old. inl (old.0, (left.0, old.1, left.2)))
          (λ put. inr (untagged_folder put.0, (put.0, put.1, refl), put.2, put.3, left.2 ∙ ap untagged_folder put.4)) lent))
          (λ now. inr (left.0, now, left.2))
          (there.since t left.0 le left.1);
      failures = failures;
      file_failures = file_failures;
    }

    -- it couldn't be closed
    pub kept_open : {X Y : Type 0} (a b : E) (l : L) (r : Result Unit X) (r2 : Result Unit Y) → IsErr r → IsErr r2
        → IsReturned h g (inner a) (inner b) (file_of l) r → IsReturned H (asked_in file_of lost g) a b l r2
    kept_open a b l r r2 err err2 there =
        let is : H.has_failed b ≡ true = or_right (failed b) (h.has_failed (inner b))
        (at_err (h.has_failed (inner b) ≡ true) r err there.failures.failed) in
        closed a b l r r2 (failed_before inner failed h a b r2 err2 is) (λ any. is) (not_ok _ r2 err2) there

    -- it was closed, and a check followed
    pub returned : {X Y : Type 0} (a b : E) (l : L) (r2 : Result Unit Y) → OnErr r2 (failed b ≡ true) → OnOk r2 (failed b ≡ failed a)
        → (lost l ≡ true → failed b ≡ true) → IsReturned h g {E = X} (inner a) (inner b) (file_of l) (Ok tt)
        → IsReturned H (asked_in file_of lost g) a b l r2
    returned a b l r2 err ok fails there = closed a b l (Ok tt) r2 (checked inner failed h a b r2 there.failures.passed err ok)
        (or_true (lost l) (g.has_failed (file_of l)) (failed b) (h.has_failed (inner b)) fails there.file_failures)
        (always _ r2 there.held) there

-- a file whose name may be looked at
module _ {L F : Type 0} (file_of : L → F) (lost : L → Bool) (g : FileHistory F) (a b : L) where
  abbrev G : FileHistory L
  G = asked_in file_of lost g

  notes : {T X : Type 0} (r : Result T X) → lost b ≡ lost a → NotesFailure g (file_of a) (file_of b) r → NotesFailure G a b r
  notes r same there = record {
    failed = on_err (g.has_failed (file_of b) ≡ true) (G.has_failed b ≡ true) r (or_right (lost b) (g.has_failed (file_of b)))
        there.failed;
    passed = on_ok (g.has_failed (file_of b) ≡ g.has_failed (file_of a)) (G.has_failed b ≡ G.has_failed a) r
        (or_same (lost a) (lost b) (g.has_failed (file_of a)) (g.has_failed (file_of b)) same) there.passed;
  }

  pub writes : {T X : Type 0} (at : ℕ) (bytes : List ℕ) (r : Result T X) → lost b ≡ lost a
      → WritesBytes g (file_of a) (file_of b) at bytes r → WritesBytes G a b at bytes r
  writes at bytes r same there = record {
    ok = there.ok;
    unknown = there.unknown;
    torn = there.torn;
    time = record { later = there.time.later; nothing_else = there.time.nothing_else };
    failures = notes r same there.failures;
  }

  pub lengthens : {T X : Type 0} (size : ℕ) (r : Result T X) → lost b ≡ lost a
      → Lengthens g (file_of a) (file_of b) size r → Lengthens G a b size r
  lengthens size r same there = record {
    ok = there.ok;
    unknown = there.unknown;
    failures = notes r same there.failures;
  }

  synced_as : {T X T2 X2 : Type 0} (r : Result T X) (r2 : Result T2 X2) → NotesFailure G a b r2
      → OnOk r2 ((f : List ℕ) → g.held (file_of a) ≡ Some f → Only f (g.may_leave (file_of b)))
      → SyncsBytes g (file_of a) (file_of b) r → SyncsBytes G a b r2
  synced_as r r2 failures ok there = record {
    held = there.held;
    ok = ok;
    outcomes = there.outcomes;
    time = record { later = there.time.later; nothing_else = there.time.nothing_else };
    failures = failures;
  }

  pub syncs : {T X : Type 0} (r : Result T X) → lost b ≡ lost a → SyncsBytes g (file_of a) (file_of b) r → SyncsBytes G a b r
  syncs r same there = synced_as r r (notes r same there.failures) there.ok there

  -- it couldn't be synced
  pub unsynced : {T X T2 X2 : Type 0} (r : Result T X) (r2 : Result T2 X2) → IsErr r → IsErr r2
      → SyncsBytes g (file_of a) (file_of b) r → SyncsBytes G a b r2
  unsynced r r2 err err2 there = synced_as r r2 (record {
    failed = failing (G.has_failed b ≡ true) r2 (or_right (lost b) (g.has_failed (file_of b))
        (at_err (g.has_failed (file_of b) ≡ true) r err there.failures.failed));
    passed = not_ok (G.has_failed b ≡ G.has_failed a) r2 err2;
  }) (not_ok _ r2 err2) there

  -- it was synced, and a check followed
  pub looked_at : {T X T2 X2 : Type 0} (x : T) (r2 : Result T2 X2) → OnErr r2 (lost b ≡ true) → OnOk r2 (lost b ≡ lost a)
      → SyncsBytes {T = T} {E = X} g (file_of a) (file_of b) (Ok x) → SyncsBytes G a b r2
  looked_at x r2 err ok there = synced_as (Ok x) r2 (record {
    failed = on_err (lost b ≡ true) (G.has_failed b ≡ true) r2 (or_left (lost b) (g.has_failed (file_of b))) err;
    passed = on_ok (lost b ≡ lost a) (G.has_failed b ≡ G.has_failed a) r2
        (λ is. or_same (lost a) (lost b) (g.has_failed (file_of a)) (g.has_failed (file_of b)) is there.failures.passed) ok;
  }) (always _ r2 there.ok) there
