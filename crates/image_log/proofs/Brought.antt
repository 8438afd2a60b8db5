-- A write over a file at rest and a sync: the moments, and what is held at the end.
use Rattle.std.proofs.Common.{◌≡◌, ◌≤◌, ◌+◌, ◌∙◌, ℕ, List, OnOk, Result, Ok, Err, Some, arith, IsErr, length, subst, sym, inl, refl}
use Rattle.std.proofs.lemmas.Bool.{false≢true}
use Rattle.image_log.specs.Files.{BringsBytes, FileHistory, LeavesOnly, Mixed, Only, Rests, SyncsBytes, Tears, WritesBytes, overwritten}
use Rattle.image_log.proofs.Moments.{goes_on, started}

-- no byte of it came
same_mixed : (at : ℕ) (bytes f : List ℕ) → Mixed at bytes f f
same_mixed at bytes f = record { size = refl; before = λ i low. refl; after = λ i from. refl; each = λ i low. inl refl }

module _ {F : Type 0} (h : FileHistory F) (old mid : F) (at : ℕ) (bytes f : List ℕ) (rests : Rests h old f)
    (within : at + length bytes ≤ length f) where
  module _ {T E : Type 0} (result : Result T E) (writes : WritesBytes h old mid at bytes result) where
    after_write : (c : List ℕ) → h.may_leave mid c → Mixed at bytes f c
    after_write c left =
        let from = writes.torn c left in
        subst (λ (d : List ℕ). Tears at bytes d c) (rests.durable from.0 from.1) from.2 within

    pub written : LeavesOnly h old mid (Mixed at bytes f)
    written = goes_on h old old mid (Mixed at bytes f)
        (started h old (Mixed at bytes f) (λ c left. subst (λ (d : List ℕ). Mixed at bytes f d) (sym (rests.durable c left)) (same_mixed at bytes f)))
        writes.time after_write

  not_ok : {T E : Type 0} (P : Type 0) (r : Result T E) → IsErr r → OnOk r P
  not_ok P (Ok x) is = absurd (false≢true is)
  not_ok P (Err e) is = tt

  pub brings_none : {T E : Type 0} (x r : Result T E) → IsErr r → WritesBytes h old mid at bytes x
      → BringsBytes h old mid at bytes f r
  brings_none x r is writes = record { ok = not_ok (Rests h mid (overwritten f at bytes)) r is; any_moment = written x writes }

  module _ {T E : Type 0} (x : Result T E) (writes : WritesBytes h old mid at bytes x)
      (ok : (g : List ℕ) → h.held old ≡ Some g → at ≤ length g → h.held mid ≡ Some (overwritten g at bytes))
      (new : F) (result : Result T E) (syncs : SyncsBytes h mid new result) where
    all_moments : LeavesOnly h old new (Mixed at bytes f)
    all_moments = goes_on h old mid new (Mixed at bytes f) (written x writes) syncs.time
        (λ c left. after_write x writes c (syncs.outcomes c left))

    held_mid : h.held mid ≡ Some (overwritten f at bytes)
    held_mid = ok f rests.held (omega (arith, within))

    at_ok : (r : Result T E) → OnOk r ((g : List ℕ) → h.held mid ≡ Some g → Only g (h.may_leave new))
        → OnOk r (Rests h new (overwritten f at bytes))
    at_ok (Ok y) only = record { held = syncs.held ∙ held_mid; durable = only (overwritten f at bytes) held_mid }
    at_ok (Err e) only = tt

    pub brings : BringsBytes h old new at bytes f result
    brings = record { ok = at_ok result syncs.ok; any_moment = all_moments }
