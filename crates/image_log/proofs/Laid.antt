-- A file of zeros is an empty log.
use Rattle.std.proofs.Common.{◌≡◌, ◌≤◌, ◌<◌, ◌+◌, ◌*◌, ◌++◌, ◌∙◌, ℕ, List, [], Option, Some, Result, Ok, Err, OnOk, arith, drop, inl, inr, length, refl, replicate, slice_index, take, get_or-take, get_or-drop, length-append, length-drop, length-take-le, length-take}
use Rattle.std.proofs.lemmas.Bool.{cases_lt}
use Rattle.std.proofs.lemmas.List.{get_or-replicate, get_or_append_left, get_or-append_right, get_or_past, length-replicate}
use Rattle.image_log.specs.Blocks.{block_at}
use Rattle.image_log.specs.Files.{FileHistory, Lengthens, Only, Rests, SyncsBytes, overwritten}
use Rattle.image_log.specs.Recovered.{IsLog}
use Rattle.image_log.proofs.Runs.{committed_none}

abbrev pub AreZeros : List ℕ → Type 0
AreZeros f = (i : ℕ) → slice_index f i ≡ 0

zeros_append : (x y : List ℕ) → AreZeros x → AreZeros y → AreZeros (x ++ y)
zeros_append x y zx zy i = elim (cases_lt i (length x)) [
  | inl low ↦ get_or_append_left x y 0 i low ∙ zx i
  | inr past ↦ get_or-append_right x y (length x) i 0 refl past ∙ zy _
]

zeros_take : (n : ℕ) (f : List ℕ) → AreZeros f → AreZeros (take n f)
zeros_take n f z i = elim (cases_lt i n) [
  | inl low ↦ get_or-take n f i 0 low ∙ z i
  | inr past ↦ get_or_past (take n f) i 0 (omega (arith, past, length-take n f))
]

zeros_drop : (n : ℕ) (f : List ℕ) → AreZeros f → AreZeros (drop n f)
zeros_drop n f z i = get_or-drop n f i 0 ∙ z (n + i)

abbrev pub zeros : ℕ → List ℕ
zeros n = replicate n 0

zeros_replicate : (n : ℕ) → AreZeros (zeros n)
zeros_replicate n i = elim (cases_lt i n) [
  | inl low ↦ get_or-replicate n i 0 0 low
  | inr past ↦ get_or_past (replicate n 0) i 0 (omega (arith, past, length-replicate {A = ℕ} n 0))
]

-- it is as long as a log, and all zeros
pub record Laid (held : Option (List ℕ)) : Type 0 where
  pub bytes : List ℕ
  pub known : held ≡ Some bytes
  pub size : length bytes ≡ 4198400
  pub blank : AreZeros bytes

pub laid_first : {F T E : Type 0} (h : FileHistory F) (old mid new : F) (r : Result T E) → Lengthens h old mid 4198400 r
    → h.held new ≡ h.held mid → OnOk r (h.held old ≡ Some [] → Laid (h.held new))
laid_first h old mid new (Ok x) lengthens same = λ known.
    let there = lengthens.ok known in
    record { bytes = there.0; known = same ∙ there.1; size = there.2; blank = there.3 }
laid_first h old mid new (Err e) lengthens same = tt

pub laid_more : (old new : Option (List ℕ)) (k wide : ℕ) → wide ≡ 102400 → k < 41
    → ((f : List ℕ) → old ≡ Some f → 102400 * k ≤ length f → new ≡ Some (overwritten f (102400 * k) (zeros wide)))
    → Laid old → Laid new
laid_more old new k wide is low writes laid =
    let f = laid.bytes in
    let rest = drop (102400 * k + length (zeros wide)) f in
    record {
      bytes = overwritten f (102400 * k) (zeros wide);
      known = writes f laid.known (omega (arith, laid.size, low));
      size = omega (
        arith,
        laid.size,
        is,
        low,
        length-append (take (102400 * k) f) (zeros wide ++ rest),
        length-append (zeros wide) rest,
        length-drop (102400 * k + length (zeros wide)) f,
        length-take-le (102400 * k) f (omega (arith, laid.size, low)),
        length-replicate {A = ℕ} wide 0,
      );
      blank = zeros_append (take (102400 * k) f) (zeros wide ++ rest) (zeros_take (102400 * k) f laid.blank)
          (zeros_append (zeros wide) rest (zeros_replicate wide) (zeros_drop (102400 * k + length (zeros wide)) f laid.blank));
    }

laid_log : {F : Type 0} (h : FileHistory F) (old new : F) → h.held new ≡ h.held old
    → ((f : List ℕ) → h.held old ≡ Some f → Only f (h.may_leave new)) → Laid (h.held old)
    → (f : List ℕ) × Rests h new f × IsLog f 0
laid_log h old new same only laid = (
  laid.bytes,
  record { held = same ∙ laid.known; durable = only laid.bytes laid.known },
  record {
    size = laid.size;
    within = omega arith;
    whole = λ q low. absurd (omega (arith, low));
    ended = committed_none (block_at laid.bytes);
    zeros = λ i from. laid.blank i;
  },
)

pub laid_ok : {F P T E : Type 0} (h : FileHistory F) (old new : F) (r : Result T E) → SyncsBytes h old new r
    → (P → Laid (h.held old)) → OnOk r (P → (f : List ℕ) × Rests h new f × IsLog f 0)
laid_ok h old new (Ok x) syncs laid = λ p. laid_log h old new syncs.held syncs.ok (laid p)
laid_ok h old new (Err e) syncs laid = tt
