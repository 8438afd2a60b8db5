-- What is known of a folder is known of it without the tag of IMAGE.
use Rattle.std.proofs.Common.{◌≡◌, ◌∙◌, ◌≤◌, Bool, ℕ, List, [], ap, false, inl, inr, refl, subst, sym, true, ⊎_elim}
use Rattle.std.proofs.lemmas.Option.{none-some, same_Some}
use Rattle.std.specs.Prelude.{if◌then◌else◌, IsErr, None, OnErr, OnOk, Option, Result, Some, length, option_map, slice_index_or}
use Rattle.image_log.specs.life.Folders.{Acts, AllLeft, Brings, CountsFailure, Folder, FolderHistory, IsGivenUp, IsImageWritten, LeavesSector, Passes, Same, with_sector}
use Rattle.image_log.specs.life.Mixes.{IsTorn}
use Rattle.image_log.specs.life.Tags.{untagged}
use Rattle.image_log.specs.life.Untagged.{untagged_folder, untagged_in}
use Rattle.image_log.proofs.lemmas.life.Mixed.{unwritten}
use Rattle.image_log.proofs.lemmas.life.TaggedImages.{same_set, same_step, tagged_set, tagged_step}
use Rattle.image_log.proofs.lemmas.life.Times.{on_err, on_ok}
use Rattle.image_log.proofs.lemmas.life.Failing.{always, both_ok, failing, not_ok, or_false, or_left, or_right, or_same, or_true}

-- what is held without the tag is held with it
pub raw : (o : Option Folder) (t : Folder) → option_map untagged_folder o ≡ Some t → (s : Folder) × (o ≡ Some s) × (untagged_folder s ≡ t)
raw None t is = absurd (none-some t is)
raw (Some s) t is = (s, refl, same_Some (untagged_folder s) t is)

module _ {E D : Type 0} (inner : E → D) (failed : E → Bool) (h : FolderHistory D) where
  abbrev H : FolderHistory E
  H = untagged_in inner failed h

  counts : {T X : Type 0} (a b : E) (r : Result T X) → failed b ≡ failed a → CountsFailure h (inner a) (inner b) r
      → CountsFailure H a b r
  counts a b r same there = record {
    failed = on_err (h.has_failed (inner b) ≡ true) (H.has_failed b ≡ true) r (or_right (failed b) (h.has_failed (inner b)))
        there.failed;
    passed = on_ok (h.has_failed (inner b) ≡ h.has_failed (inner a)) (H.has_failed b ≡ H.has_failed a) r
        (or_same (failed a) (failed b) (h.has_failed (inner a)) (h.has_failed (inner b)) same) there.passed;
  }

  -- a check was made
  pub checked : {T X : Type 0} (a b : E) (r : Result T X) → h.has_failed (inner b) ≡ h.has_failed (inner a)
      → OnErr r (failed b ≡ true) → OnOk r (failed b ≡ failed a) → CountsFailure H a b r
  checked a b r same err ok = record {
    failed = on_err (failed b ≡ true) (H.has_failed b ≡ true) r (or_left (failed b) (h.has_failed (inner b))) err;
    passed = on_ok (failed b ≡ failed a) (H.has_failed b ≡ H.has_failed a) r
        (λ is. or_same (failed a) (failed b) (h.has_failed (inner a)) (h.has_failed (inner b)) is same) ok;
  }

  -- a check has failed
  pub fails : (e : E) → failed e ≡ true → H.has_failed e ≡ true
  fails e is = or_left (failed e) (h.has_failed (inner e)) is

  -- a call before failed
  pub failed_before : {T X : Type 0} (a b : E) (r : Result T X) → IsErr r → H.has_failed b ≡ true → CountsFailure H a b r
  failed_before a b r err is = record {
    failed = failing (H.has_failed b ≡ true) r is;
    passed = not_ok (H.has_failed b ≡ H.has_failed a) r err;
  }

  pub passes : (a b : E) → Passes h (inner a) (inner b) → Passes H a b
  passes a b time = record {
    later = time.later;
    nothing_else = λ t s le left. ⊎_elim (λ old. inl (left.0, old, left.2)) (λ new. inr (left.0, new, left.2))
        (time.nothing_else t left.0 le left.1);
  }

  module _ (a b : E) (same_checks : failed b ≡ failed a) where
    held_on : {T X : Type 0} (to to2 : Folder → Folder) (r : Result T X)
        → OnOk r ((s : Folder) → h.held (inner a) ≡ Some s → untagged_folder (to s) ≡ to2 (untagged_folder s))
        → OnOk r ((s : Folder) → h.held (inner a) ≡ Some s → h.held (inner b) ≡ Some (to s))
        → OnOk r ((s : Folder) → H.held a ≡ Some s → H.held b ≡ Some (to2 s))
    held_on to to2 r = both_ok
        ((s : Folder) → h.held (inner a) ≡ Some s → untagged_folder (to s) ≡ to2 (untagged_folder s))
        ((s : Folder) → h.held (inner a) ≡ Some s → h.held (inner b) ≡ Some (to s))
        ((s : Folder) → H.held a ≡ Some s → H.held b ≡ Some (to2 s)) r
        (λ alike ok t held.
        let s = raw (h.held (inner a)) t held in
        ap (option_map untagged_folder) (ok s.0 s.1) ∙ ap Some (alike s.0 s.1 ∙ ap to2 s.2))

    -- a call on the folder is one on it without the tag
    pub acts : {T X : Type 0} (to to2 : Folder → Folder) (step step2 : Folder → Folder → Type 0) (r : Result T X)
        → OnOk r ((s : Folder) → h.held (inner a) ≡ Some s → untagged_folder (to s) ≡ to2 (untagged_folder s))
        → ((from s : Folder) → h.may_leave (inner a) from → step from s → step2 (untagged_folder from) (untagged_folder s))
        → Acts h (inner a) (inner b) to step r → Acts H a b to2 step2 r
    acts to to2 step step2 r same steps there = record {
      ok = held_on to to2 r same there.ok;
      outcomes = λ s may.
          let x = there.outcomes may.0 may.1 in
          (untagged_folder x.0, (x.0, x.1, refl), subst (step2 (untagged_folder x.0)) (sym may.2) (steps x.0 may.0 x.1 x.2));
      time = passes a b there.time;
      failures = counts a b r same_checks there.failures;
    }

    -- also where a power loss may leave anything
    unknown : {T X : Type 0} (to to2 : Folder → Folder) (step step2 : Folder → Folder → Type 0) (r : Result T X)
        → ((s : Folder) → h.may_leave (inner a) s)
        → OnOk r ((s : Folder) → h.held (inner a) ≡ Some s → untagged_folder (to s) ≡ to2 (untagged_folder s))
        → ((s : Folder) → step2 s s) → Acts h (inner a) (inner b) to step r → Acts H a b to2 step2 r
    unknown to to2 step step2 r any same still there = record {
      ok = held_on to to2 r same there.ok;
      outcomes = λ s may. (s, (may.0, any may.0, may.2), still s);
      time = passes a b there.time;
      failures = counts a b r same_checks there.failures;
    }

    -- one that changes nothing of IMAGE
    pub alike : {T X : Type 0} (to : Folder → Folder) (step : Folder → Folder → Type 0) (r : Result T X)
        → ((s : Folder) → untagged_folder (to s) ≡ to (untagged_folder s))
        → ((from s : Folder) → step from s → step (untagged_folder from) (untagged_folder s))
        → Acts h (inner a) (inner b) to step r → Acts H a b to step r
    alike to step r same steps there = acts to to step step r (always _ r (λ s held. same s)) (λ from s may. steps from s) there

    -- of 18/0 the tag alone is written
    pub tag_written : {T X : Type 0} (before new : List ℕ) (r : Result T X) → length before ≡ 256 → length new ≡ 256
        → LeavesSector h (inner a) 357 before
        → ((s : Folder) → h.held (inner a) ≡ Some s → slice_index_or s.image 357 [] ≡ before)
        → ((torn : List ℕ) → IsTorn before new torn → untagged torn ≡ untagged before)
        → Acts h (inner a) (inner b) (with_sector 357 new) (IsImageWritten 357 new) r → Acts H a b (λ s. s) Same r
    tag_written before new r size size2 left held tag there = ⊎_elim
        (λ all. acts (with_sector 357 new) (λ s. s) (IsImageWritten 357 new) Same r same
        (λ from s may written. same_step before new size tag from s (all from may) written) there)
        (λ any. unknown (with_sector 357 new) (λ s. s) (IsImageWritten 357 new) Same r any same (λ s. refl) there)
        left
      where
        same : OnOk r ((s : Folder) → h.held (inner a) ≡ Some s → untagged_folder (with_sector 357 new s) ≡ untagged_folder s)
        same = always _ r (λ s is. same_set before new size tag size2 s (held s is))

    -- or with a sector that keeps it
    pub kept_written : {T X : Type 0} (before new sector : List ℕ) (r : Result T X) → length before ≡ 256
        → LeavesSector h (inner a) 357 before
        → ((s : Folder) → h.held (inner a) ≡ Some s → slice_index_or s.image 357 [] ≡ before)
        → untagged new ≡ sector
        → ((torn : List ℕ) → IsTorn before new torn → IsTorn (untagged before) sector (untagged torn))
        → Acts h (inner a) (inner b) (with_sector 357 new) (IsImageWritten 357 new) r
        → Acts H a b (with_sector 357 sector) (IsImageWritten 357 sector) r
    kept_written before new sector r size left held is torn there = ⊎_elim
        (λ all. acts (with_sector 357 new) (with_sector 357 sector) (IsImageWritten 357 new) (IsImageWritten 357 sector) r same
        (λ from s may written. tagged_step before new size sector is torn from s (all from may) written) there)
        (λ any. unknown (with_sector 357 new) (with_sector 357 sector) (IsImageWritten 357 new) (IsImageWritten 357 sector) r any
        same (unwritten 357 sector) there)
        left
      where
        same : OnOk r ((s : Folder) → h.held (inner a) ≡ Some s
            → untagged_folder (with_sector 357 new s) ≡ with_sector 357 sector (untagged_folder s))
        same = always _ r (λ s there2. tagged_set before new size sector is s (held s there2))

    pub looked : {T X : Type 0} (r : Result T X) → Acts h (inner a) (inner b) (λ s. s) Same r → Acts H a b (λ s. s) Same r
    looked r there = alike (λ s. s) Same r (λ s. refl) (λ from s is. ap untagged_folder is) there

    pub brought : {X : Type 0} (P : Folder → Folder → Type 0) (r : Result Unit X)
        → ((s t : Folder) → P s t → P (untagged_folder s) (untagged_folder t))
        → Brings h (inner a) (inner b) P r → Brings H a b P r
    brought P r same there = record {
      held = ap (option_map untagged_folder) there.held;
      lent = there.lent;
      ok = on_ok ((s : Folder) → h.held (inner a) ≡ Some s → AllLeft h (inner b) (P s))
          ((s : Folder) → H.held a ≡ Some s → AllLeft H b (P s)) r
          (λ ok t held s may.
          let x = raw (h.held (inner a)) t held in
          subst (P t) (sym may.2) (subst (λ (u : Folder). P u (untagged_folder may.0)) x.2 (same x.0 may.0 (ok x.0 x.1 may.0 may.1))))
          there.ok;
      outcomes = λ s may. (may.0, there.outcomes may.0 may.1, may.2);
      time = passes a b there.time;
      failures = counts a b r same_checks there.failures;
    }

  -- what a call left, whose error is handed on or which a check follows
  pub brought_on : {X X2 : Type 0} (a b c : E) (P : Folder → Folder → Type 0) (r : Result Unit X) (r2 : Result Unit X2)
      → inner b ≡ inner c → (OnOk r2 ((s : Folder) → H.held a ≡ Some s → AllLeft H b (P s))) → CountsFailure H a c r2
      → Brings H a b P r → Brings H a c P r2
  brought_on a b c P r r2 same ok failures one = record {
    held = ap (λ (d : D). option_map untagged_folder (h.held d)) (sym same) ∙ one.held;
    lent = ap h.lent (sym same) ∙ one.lent;
    ok = on_ok ((s : Folder) → H.held a ≡ Some s → AllLeft H b (P s)) ((s : Folder) → H.held a ≡ Some s → AllLeft H c (P s)) r2
        (λ all s held t may. all s held t (may.0, subst (λ (d : D). h.may_leave d may.0) (sym same) may.1, may.2)) ok;
    outcomes = λ s may. one.outcomes s (may.0, subst (λ (d : D). h.may_leave d may.0) (sym same) may.1, may.2);
    time = record {
      later = subst (λ (d : D). h.moment (inner a) ≤ h.moment d) same one.time.later;
      nothing_else = λ t s le left. ⊎_elim (λ old. inl old)
          (λ may. inr (may.0, subst (λ (d : D). h.may_leave d may.0) same may.1, may.2))
          (one.time.nothing_else t s le (left.0, subst (λ (d : D). h.left_since d t left.0) (sym same) left.1, left.2));
    };
    failures = failures;
  }

  -- a file was closed, which may have failed
  pub given_up : (a b : E) (own theirs : Bool) → (own ≡ true → failed b ≡ true) → (own ≡ false → failed b ≡ failed a)
      → IsGivenUp h (inner a) (inner b) theirs → IsGivenUp H a b (if own then true else theirs)
  given_up a b own theirs fails passed there = record {
    held = ap (option_map untagged_folder) there.held;
    outcomes = λ s may. (may.0, there.outcomes may.0 may.1, may.2);
    time = passes a b there.time;
    failed = or_true own theirs (failed b) (h.has_failed (inner b)) fails there.failed;
    passed = or_false own theirs (failed a) (failed b) (h.has_failed (inner a)) (h.has_failed (inner b)) passed there.passed;
  }
