-- Strings of JSON are read back.
use Rattle.std.proofs.Common.{◌≡◌, ◌≢◌, ◌+◌, ◌*◌, ◌/◌, ◌%◌, ◌<◌, ◌≤◌, ◌++◌, ◌∷◌, ◌⊎◌, [], ℕ, List, arith, sym, subst, refl, inl, inr, ne_eqb}
use Rattle.std.proofs.lemmas.Bool.{cases_eq, cases_lt, le-ltb, lt-ltb}
use Rattle.std.specs.Prelude.{codes, flat_map}
use Rattle.line_text.specs.bytes.Texts.{digit}
use Rattle.disk_reports.specs.Rows.{field_char}
use Rattle.disk_reports.specs.Json.{Spells, digits, json_char, itself, marked, none, numbered}

control-spells : (b : ℕ) (text bytes : List ℕ) → b < 32 → Spells text bytes
    → Spells (codes "\\u00" ++ (digit (b / 16) ∷ (digit (b % 16) ∷ text))) (b ∷ bytes)
control-spells b text bytes low more =
    let whole : 16 * (b / 16) + b % 16 ≡ b = omega arith in
    subst (λ (n : ℕ). Spells (codes "\\u00" ++ (digit (b / 16) ∷ (digit (b % 16) ∷ text))) (n ∷ bytes)) whole
    (numbered (b / 16) (b % 16) text bytes (omega (arith, low)) (omega arith) more)

char-spells : (b : ℕ) (text bytes : List ℕ) → Spells text bytes → Spells (json_char b ++ text) (b ∷ bytes)
unfolding json_char
char-spells b text bytes more = elim (cases_eq b 34) [
  | inl e ↦ subst (λ (n : ℕ). Spells (json_char n ++ text) (n ∷ bytes)) (sym e) (marked 34 text bytes (inl refl) more)
  | inr quote ↦ elim (cases_eq b 92) [
    | inl e ↦ subst (λ (n : ℕ). Spells (json_char n ++ text) (n ∷ bytes)) (sym e) (marked 92 text bytes (inr refl) more)
    | inr slash ↦ elim (cases_lt b 32) [
      | inl low ↦ rw (ne_eqb b 34 quote, ne_eqb b 92 slash, lt-ltb b 32 low) (control-spells b text bytes low more)
      | inr high ↦ elim (cases_eq b 127) [
        | inl e ↦ subst (λ (n : ℕ). Spells (json_char n ++ text) (n ∷ bytes)) (sym e)
            (numbered 7 15 text bytes (omega arith) (omega arith) more)
        | inr other ↦ plain quote slash high other
      ]
    ]
  ]
]
  where
    plain : b ≢ 34 → b ≢ 92 → 32 ≤ b → b ≢ 127 → Spells (json_char b ++ text) (b ∷ bytes)
    plain quote slash high other =
        rw (ne_eqb b 34 quote, ne_eqb b 92 slash, le-ltb b 32 high, ne_eqb b 127 other)
        (itself b text bytes high quote slash more)

pub string-spells : (bytes : List ℕ) → Spells (flat_map json_char bytes) bytes
string-spells [] = none
string-spells (b ∷ bytes) = char-spells b (flat_map json_char bytes) bytes (string-spells bytes)

-- a byte's text, as it is written
pub quoted-char : (b : ℕ) → (b ≡ 34) ⊎ (b ≡ 92) → json_char b ≡ 92 ∷ b ∷ []
unfolding json_char
quoted-char b (inl e) = rw e refl
quoted-char b (inr e) = rw e refl

pub control-char : (b : ℕ) → b ≢ 34 → b ≢ 92 → (b < 32) ⊎ (b ≡ 127) → json_char b ≡ codes "\\u00" ++ digits b
unfolding json_char
control-char b quote slash (inl few) = rw (ne_eqb b 34 quote, ne_eqb b 92 slash, lt-ltb b 32 few) refl
control-char b quote slash (inr e) = rw e refl

pub plain-char : (b : ℕ) → b ≢ 34 → b ≢ 92 → 32 ≤ b → b ≢ 127 → json_char b ≡ b ∷ []
unfolding json_char
plain-char b quote slash high other =
    rw (ne_eqb b 34 quote, ne_eqb b 92 slash, le-ltb b 32 high, ne_eqb b 127 other) refl

-- a byte of a field, as it is written
pub quoted-field : (b : ℕ) → b ≡ 34 → field_char b ≡ codes "\"\""
unfolding field_char
quoted-field b e = rw e refl

pub control-field : (b : ℕ) → b ≢ 34 → (b < 32) ⊎ (b ≡ 127) → field_char b ≡ codes "\\u00" ++ digits b
unfolding field_char
control-field b quote (inl few) = rw (ne_eqb b 34 quote, lt-ltb b 32 few) refl
control-field b quote (inr e) = rw e refl

pub plain-field : (b : ℕ) → b ≢ 34 → 32 ≤ b → b ≢ 127 → field_char b ≡ b ∷ []
unfolding field_char
plain-field b quote high other = rw (ne_eqb b 34 quote, le-ltb b 32 high, ne_eqb b 127 other) refl
