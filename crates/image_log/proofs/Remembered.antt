-- What a file in memory keeps of its calls.
use Rattle.std.proofs.Common.{◌≡◌, ◌⊎◌, ◌≤◌, ◌∙◌, ℕ, zero, suc, List, [], ◌∷◌, Err, None, Ok, IsErr, OnErr, OnOk, Option, Result, Some, Vec, ap, arith, inl, inr, length, refl, subst, sym, true, false}
use Rattle.std.proofs.lemmas.Bool.{false≢true}
use Rattle.std.proofs.lemmas.Option.{none-some}
use Rattle.std.specs.declared.alloc.Global.{Global}
use Rattle.image_log.specs.Files.{Elapses, Follows, SyncsBytes, Tears, WritesBytes, overwritten}
use Rattle.image_log.specs.MemCalls.{left_after, leaves, seen_after}
use Rattle.image_log.specs.Memory.{memory}
use Rattle.image_log.specs.declared.mem_log.MemCall.{MemCall}
use Rattle.image_log.specs.declared.mem_log.MemCall.TheVariants.{Sync, Write}
use Rattle.image_log.specs.declared.mem_log.MemLog.{MemLog}
use Rattle.image_log.proofs.Commits.{new_mixed}

-- of the calls with one more, the last or one before
more_left : (first : List ℕ) (call : MemCall) (calls : List MemCall) (t : ℕ) (c : List ℕ) → t ≤ length calls
    → left_after first (call ∷ calls) t c → left_after first calls t c ⊎ leaves first (call ∷ calls) c
more_left first call calls t c le (zero, within, left) = inr left
more_left first call calls t c le (suc j, within, left) = inl (j, omega (arith, within), left)

module _ (a b : MemLog) (firsts : b.first.items ≡ a.first.items) where
  pub elapses_same : b.calls.items ≡ a.calls.items → Elapses memory a b
  elapses_same same = record {
    later = omega (arith, ap length same);
    nothing_else = λ t c le left. inl (subst (λ (calls : List MemCall). left_after a.first.items calls t c) same
        (subst (λ (f : List ℕ). left_after f b.calls.items t c) firsts left));
  }

  pub elapses_more : (call : MemCall) → b.calls.items ≡ call ∷ a.calls.items → Elapses memory a b
  elapses_more call more = record {
    later = omega (arith, ap length more);
    nothing_else = λ t c le left. elim (more_left a.first.items call a.calls.items t c le
        (subst (λ (calls : List MemCall). left_after a.first.items calls t c) more
        (subst (λ (f : List ℕ). left_after f b.calls.items t c) firsts left))) [
          | inl was ↦ inl was
          | inr now ↦ inr (subst (λ (f : List ℕ). leaves f b.calls.items c) (sym firsts)
              (subst (λ (calls : List MemCall). leaves a.first.items calls c) (sym more) now))
        ];
  }

-- a power loss may leave all that was written
pub all_came : (first : List ℕ) (calls : List MemCall) → leaves first calls (seen_after first calls)
all_came first [] = refl
all_came first (Write at bytes ∷ earlier) =
    (seen_after first earlier, all_came first earlier, λ within. new_mixed (seen_after first earlier) at bytes.items within)
all_came first (Sync ∷ earlier) = refl

not_ok : {T E : Type 0} (P : Type 0) (r : Result T E) → IsErr r → OnOk r P
not_ok P (Ok x) is = absurd (false≢true is)
not_ok P (Err e) is = tt

from_err : {T E : Type 0} (P : Type 0) (r : Result T E) → P → OnErr r P
from_err P (Ok x) p = tt
from_err P (Err e) p = p

the_bytes : Option (List ℕ) → List ℕ
the_bytes None = []
the_bytes (Some f) = f

same_bytes : (f g : List ℕ) → Some f ≡ Some g → f ≡ g
unfolding the_bytes
same_bytes f g e = ap the_bytes e

module _ (a b : MemLog) (firsts : b.first.items ≡ a.first.items) where
  module _ (at : ℕ) (kept : Vec ℕ Global) (bytes : List ℕ) (is : kept.items ≡ bytes)
      (more : b.calls.items ≡ Write at kept ∷ a.calls.items) where
    torn_by : Follows (Tears at bytes) (leaves a.first.items a.calls.items) (leaves b.first.items b.calls.items)
    torn_by c left =
        let from = subst (λ (calls : List MemCall). leaves a.first.items calls c) more (subst (λ (f : List ℕ). leaves f b.calls.items c) firsts left) in
        (from.0, from.1, subst (λ (x : List ℕ). Tears at x from.0 c) is from.2)

    pub wrote_ok : {T E : Type 0} (t : T) → b.bytes.items ≡ overwritten a.bytes.items at bytes → b.failed ≡ a.failed
        → WritesBytes {E = E} memory a b at bytes (Ok t)
    wrote_ok t came passed = record {
      ok = λ f known within. ap Some (came ∙ ap (λ (x : List ℕ). overwritten x at bytes) (same_bytes a.bytes.items f known));
      unknown = λ none. absurd (none-some a.bytes.items (sym none));
      torn = torn_by;
      time = elapses_more a b firsts (Write at kept) more;
      failures = record { failed = tt; passed = passed };
    }

    pub wrote_err : {T E : Type 0} (r : Result T E) → IsErr r → b.failed ≡ true → WritesBytes memory a b at bytes r
    wrote_err r err failed = record {
      ok = not_ok ((f : List ℕ) → Some a.bytes.items ≡ Some f → at ≤ length f → Some b.bytes.items ≡ Some (overwritten f at bytes)) r err;
      unknown = λ none. absurd (none-some a.bytes.items (sym none));
      torn = torn_by;
      time = elapses_more a b firsts (Write at kept) more;
      failures = record { failed = from_err (b.failed ≡ true) r failed; passed = not_ok (b.failed ≡ a.failed) r err };
    }

  pub synced_ok : {T E : Type 0} (t : T) → a.failed ≡ false → b.bytes.items ≡ a.bytes.items → b.failed ≡ a.failed
      → b.calls.items ≡ Sync ∷ a.calls.items → SyncsBytes {E = E} memory a b (Ok t)
  synced_ok t whole same passed more =
      let here = λ (c : List ℕ) (left : leaves b.first.items b.calls.items c).
      subst (λ (calls : List MemCall). leaves a.first.items calls c) more (subst (λ (f : List ℕ). leaves f b.calls.items c) firsts left) in
      record {
        held = ap Some same;
        ok = λ f known c left. here c left ∙ sym (a.seen whole) ∙ same_bytes a.bytes.items f known;
        outcomes = λ c left. subst (leaves a.first.items a.calls.items) (sym (here c left)) (all_came a.first.items a.calls.items);
        time = elapses_more a b firsts Sync more;
        failures = record { failed = tt; passed = passed };
      }
