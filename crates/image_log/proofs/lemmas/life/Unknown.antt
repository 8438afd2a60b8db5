-- Folders and files of which nothing is known.
use Rattle.std.proofs.Common.{◌≡◌, ◌⊎◌, ℕ, List, [], ap, arith, inl, inr, refl, true}
use Rattle.std.proofs.lemmas.Option.{none-some}
use Rattle.std.specs.Prelude.{Err, IfOk, None, Ok, OnErr, OnOk, Option, Result, Some}
use Rattle.image_log.specs.Files.{Lengthens, NotesFailure, SyncsBytes, WritesBytes}
use Rattle.image_log.specs.life.Folders.{Acts, Brings, CountsFailure, Folder, IsReturned, LogOf, Passes, with_log}
use Rattle.image_log.specs.life.Folders.Making.{Missing}
use Rattle.image_log.specs.life.Unknown.{unknown_file, unknown_folder}

at_err : {T E : Type 0} (r : Result T E) → OnErr r (true ≡ true)
at_err (Ok x) = tt
at_err (Err e) = refl

at_ok : {T E : Type 0} (r : Result T E) → OnOk r (true ≡ true)
at_ok (Ok x) = refl
at_ok (Err e) = tt

none_at_ok : {T E A : Type 0} (P : A → Type 0) (r : Result T E) → OnOk r ((s : A) → None ≡ Some s → P s)
none_at_ok P (Ok x) = λ s never. absurd (none-some s never)
none_at_ok P (Err e) = tt

never_at_ok : {T E A : Type 0} (x : A) (P : Type 0) (r : Result T E) → OnOk r (None ≡ Some x → P)
never_at_ok x P (Ok y) = λ never. absurd (none-some x never)
never_at_ok x P (Err e) = tt

none_back : {T E A B : Type 0} (P : A → B → Type 0) (Q : A → B → Type 0) (r : Result T E)
    → OnOk r ((s : A) (f : B) → None ≡ Some s → P s f → Q s f)
none_back P Q (Ok x) = λ s f never. absurd (none-some s never)
none_back P Q (Err e) = tt

module _ {D : Type 0} (old new : D) where
  passes : Passes unknown_folder old new
  passes = record { later = omega arith; nothing_else = λ t s le left. inl tt }

  counts : {T E : Type 0} (r : Result T E) → CountsFailure unknown_folder old new r
  counts r = record { failed = at_err r; passed = at_ok r }

  -- a call of which every step allows that nothing came of it
  pub acts : {T E : Type 0} (to : Folder → Folder) (step : Folder → Folder → Type 0) (r : Result T E)
      → ((s : Folder) → step s s) → Acts unknown_folder old new to step r
  acts to step r still = record {
    ok = none_at_ok _ r;
    outcomes = λ s may. (s, tt, still s);
    time = passes;
    failures = counts r;
  }

  pub brings : {E : Type 0} (P : Folder → Folder → Type 0) (r : Result Unit E) → Brings unknown_folder old new P r
  brings P r = record {
    held = refl;
    lent = refl;
    ok = none_at_ok _ r;
    outcomes = λ s may. tt;
    time = passes;
    failures = counts r;
  }

module _ {F : Type 0} (old new : F) where
  notes : {T E : Type 0} (r : Result T E) → NotesFailure unknown_file old new r
  notes r = record { failed = at_err r; passed = at_ok r }

  pub lengthens : {T E : Type 0} (size : ℕ) (r : Result T E) → Lengthens unknown_file old new size r
  lengthens size r = record { ok = never_at_ok _ _ r; unknown = λ same. same; failures = notes r }

  pub writes : {T E : Type 0} (at : ℕ) (bytes : List ℕ) (r : Result T E) → WritesBytes unknown_file old new at bytes r
  writes at bytes r = record {
    ok = none_at_ok _ r;
    unknown = λ same. same;
    torn = λ c may. (
      c,
      tt,
      λ long. record {
        size = refl;
        before = λ i low. refl;
        after = λ i low. refl;
        each = λ i low. inl refl;
      },
    );
    time = record { later = omega arith; nothing_else = λ t c le left. inl tt };
    failures = notes r;
  }

  pub syncs : {T E : Type 0} (r : Result T E) → SyncsBytes unknown_file old new r
  syncs r = record {
    held = refl;
    ok = none_at_ok _ r;
    outcomes = λ c may. tt;
    time = record { later = omega arith; nothing_else = λ t c le left. inl tt };
    failures = notes r;
  }

-- a power loss may leave anything
pub anything : {T E : Type 0} (P : T → Type 0) (r : Result T E) → IfOk r (λ x. P x ⊎ ((s : Folder) → Unit {0}))
anything P (Ok x) = inr (λ s. tt)
anything P (Err e) = tt

pub log_of : {D F : Type 0} (d : D) (file : F) → LogOf unknown_folder unknown_file d file
log_of d file = record {
  held = λ s f never is. absurd (none-some s never);
  left = λ c may. (record { image = []; log = Some c; making = Missing }, tt, refl);
}

-- what is left of the log, in the folder
put_back : (s : Folder) (o : Option (List ℕ)) → s.log ≡ o
    → ((s ≡ s) × (s.log ≡ None)) ⊎ ((c : List ℕ) × Unit {0} × (s ≡ with_log c s))
put_back s None is = inl (refl, is)
put_back s (Some c) is = inr (c, tt, ap (λ (l : Option (List ℕ)). record { image = s.image; log = l; making = s.making }) is)

pub returned : {D F E : Type 0} (old new : D) (file : F) (r : Result Unit E)
    → IsReturned unknown_folder unknown_file old new file r
returned old new file r = record {
  held = none_back _ _ r;
  outcomes = λ s may. (s, tt, put_back s s.log refl);
  later = omega arith;
  counted = λ s never. absurd (none-some s never);
  since = λ t s le left. inr tt;
  failures = counts old new r;
  file_failures = λ failed. refl;
}
