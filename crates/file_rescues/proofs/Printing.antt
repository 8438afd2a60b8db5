-- A record that is there is read unless the device failed, and its line is printed behind the others.
use Rattle.std.proofs.Common.{◌≡◌, ◌≤◌, ◌+◌, ◌-◌, ◌++◌, ◌⊎◌, inl, inr, ℕ, suc, List, [], Option, Result, Ok}
use Rattle.std.proofs.Common.{Err, true, false, length, get_or, refl, subst, sym, ap, ◌∙◌, arith}
use Rattle.std.specs.Prelude.{IfErr, OnOk, is_err}
use Rattle.std.specs.Io.KnownBytes.{Appends}
use Rattle.std.proofs.KnownBytes.{Appends-trans}
use Rattle.std.proofs.lemmas.List.{append_assoc}
use Rattle.d64_image.specs.History.{Failed, History}
use Rattle.line_text.specs.bytes.Texts.{record_line}
use Rattle.rel_records.specs.Faults.{TellsRelFault}
use Rattle.rel_records.specs.Written.{IsAbsent}
use Rattle.rel_records.specs.declared.faults.RelFault.{RelFault}
use Rattle.rel_records.specs.declared.faults.RelFault.TheVariants as rel
use Rattle.command_faults.specs.Outputs.{HandsOn}
use Rattle.file_rescues.specs.Records.{lines_to, records_text}

absent-no : (rs : List (List ℕ)) (number : ℕ) → 1 ≤ number → number ≤ length rs → IsAbsent rs number → ⊥
absent-no rs number low high absent = elim absent [
  | inl none ↦ omega (arith, low, none)
  | inr past ↦ omega (arith, high, past)
]

other-no : (x : RelFault) → (x ≡ rel.NotPresent → ⊥) → (x ≡ rel.Device → ⊥) → (x ≡ rel.NotPresent) ⊎ (x ≡ rel.Device)
    → ⊥
other-no x a b told = elim told [
  | inl e ↦ a e
  | inr e ↦ b e
]

-- a record that is there isn't read only where the device failed
pub read-fails : {D : Type 0} (S : History D) (r : Result Unit RelFault) (a b : D) (rs : List (List ℕ)) (number : ℕ)
    → TellsRelFault S a b r
    → IfErr r (λ fault. (fault ≡ rel.NotPresent) ⊎ (fault ≡ rel.Device)) → IfErr r (λ fault. fault ≡ rel.NotPresent
    → IsAbsent rs number)
    → 1 ≤ number → number ≤ length rs → is_err r ≡ true → Failed S a b
read-fails S (Ok x) a b rs number tells told absent low high err = cc
read-fails S (Err rel.NotPresent) a b rs number tells told absent low high err =
    absurd (absent-no rs number low high (absent refl))
read-fails S (Err rel.Device) a b rs number tells told absent low high err = tells
read-fails S (Err rel.NotFound) a b rs number tells told absent low high err =
    absurd (other-no rel.NotFound (λ e. cc) (λ e. cc) told)
read-fails S (Err rel.Overflow) a b rs number tells told absent low high err =
    absurd (other-no rel.Overflow (λ e. cc) (λ e. cc) told)
read-fails S (Err rel.TooLarge) a b rs number tells told absent low high err =
    absurd (other-no rel.TooLarge (λ e. cc) (λ e. cc) told)
read-fails S (Err rel.Full) a b rs number tells told absent low high err =
    absurd (other-no rel.Full (λ e. cc) (λ e. cc) told)
read-fails S (Err rel.Exists) a b rs number tells told absent low high err =
    absurd (other-no rel.Exists (λ e. cc) (λ e. cc) told)

pub not-err : {T E P : Type 0} (r : Result T E) → is_err r ≡ false → OnOk r P → P
not-err (Ok x) e p = p
not-err (Err x) e p = absurd (cc)

-- what is kept of that which was kept, with something behind it
hands-more : (a b c : Option (List ℕ)) (all held kept line : List ℕ) → HandsOn a b all held → HandsOn b c held kept
    → HandsOn a c (all ++ line) (kept ++ line)
hands-more a b c all held kept line first next = (
  first.0 ++ next.0,
  Appends-trans a b c first.0 next.0 first.1 next.1,
  ap (λ (xs : List ℕ). xs ++ line)
      (first.2 ∙ ap (λ (xs : List ℕ). first.0 ++ xs) next.2 ∙ sym (append_assoc first.0 next.0 kept))
      ∙ append_assoc (first.0 ++ next.0) kept line,
)

pub line-gathered : (a b c : Option (List ℕ)) (rs : List (List ℕ)) (n : ℕ) (held kept room : List ℕ)
    → HandsOn a b (lines_to rs n) held → HandsOn b c held kept
    → room ≡ kept ++ record_line (n + 1) (get_or rs (n + 1 - 1) []) → HandsOn a c (lines_to rs (n + 1)) room
line-gathered a b c rs n held kept room before more put =
    let next : n + 1 ≡ suc n = omega arith in
    let here : n + 1 - 1 ≡ n = omega arith in
    let line : List ℕ = record_line (n + 1) (get_or rs n []) in
    subst (λ (m : ℕ). HandsOn a c (lines_to rs m) room) (sym next)
    (subst (λ (xs : List ℕ). HandsOn a c (lines_to rs n ++ line) xs)
    (sym (put ∙ ap (λ (m : ℕ). kept ++ record_line (n + 1) (get_or rs m [])) here))
    (hands-more a b c (lines_to rs n) held kept line before more))

pub all-lines : (a b c : Option (List ℕ)) (rs : List (List ℕ)) (n : ℕ) (held : List ℕ) → n ≡ length rs
    → HandsOn a b (lines_to rs n) held → Appends b c held → Appends a c (records_text rs)
unfolding records_text
all-lines a b c rs n held all before last =
    subst (λ (xs : List ℕ). Appends a c xs)
    (sym before.2 ∙ ap (lines_to rs) all) (Appends-trans a b c before.0 held before.1 last)
