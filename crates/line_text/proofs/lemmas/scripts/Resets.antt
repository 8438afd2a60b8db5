-- Lines with a reset, number by number.
use Rattle.std.proofs.Common.{
  ◌≡◌,
  ◌+◌,
  ℕ,
  false,
  List,
  [],
  ◌∷◌,
  ◌++◌,
  Option,
  Some,
  None,
  refl,
  sym,
  ◌∙◌,
  ap,
  append_assoc,
  length,
  Result,
  Ok,
  Err,
  IsOk,
  OnOk,
}
use Rattle.std.specs.Prelude.{is_err}
use Rattle.line_text.specs.Numbers.{cut_at, number_in, ◌>>=◌}
use Rattle.line_text.specs.scripts.Lines.{split}
use Rattle.line_text.specs.scripts.Resets.{Line, counts_of, reset_with, reset_of, line_of}

-- what a line is whose first numbers are read, and whose fields from here on are left
abbrev pub with_left : List ℕ → ℕ → List ℕ → List (List ℕ) → Option Line
with_left message k read fields = counts_of fields >>= (λ ns. reset_with message (k ∷ (read ++ ns)))

-- the bytes that are left, and one
abbrev pub left_over : Option (List ℕ) → ℕ
left_over None = 0
left_over (Some bytes) = length bytes + 1

-- a field more is read
pub one_read : (message : List ℕ) (k : ℕ) (read field : List ℕ) (fields : List (List ℕ)) (n : ℕ)
    → number_in 0 99999 field ≡ Some n
    → with_left message k read (field ∷ fields) ≡ with_left message k (read ++ n ∷ []) fields
one_read message k read field fields n is =
    ap (λ (o : Option ℕ). (o >>= (λ m. counts_of fields >>= (λ ns. Some (m ∷ ns)))) >>=
    (λ ns. reset_with message (k ∷ (read ++ ns)))) is
    ∙ pick (counts_of fields)
  where
    pick : (o : Option (List ℕ)) → ((o >>= (λ ns. Some (n ∷ ns))) >>= (λ ns. reset_with message (k ∷ (read ++ ns))))
        ≡ (o >>= (λ ns. reset_with message (k ∷ ((read ++ n ∷ []) ++ ns))))
    pick None = refl
    pick (Some ns) = ap (λ xs. reset_with message (k ∷ xs)) (sym (append_assoc read (n ∷ []) ns))

-- a field that is no number makes the line bad
pub none_read : (message : List ℕ) (k : ℕ) (read field : List ℕ) (fields : List (List ℕ))
    → number_in 0 99999 field ≡ None
    → with_left message k read (field ∷ fields) ≡ None
none_read message k read field fields is =
    ap (λ (o : Option ℕ). (o >>= (λ m. counts_of fields >>= (λ ns. Some (m ∷ ns)))) >>=
    (λ ns. reset_with message (k ∷ (read ++ ns)))) is

-- the first number
pub first_read : (bytes counts message first : List ℕ) (fields : List (List ℕ)) (k : ℕ)
    → cut_at 32 bytes ≡ Some (counts, message)
    → split 47 counts ≡ first ∷ fields → number_in 0 99999 first ≡ Some k
    → reset_of bytes ≡ with_left message k [] fields
unfolding reset_of
first_read bytes counts message first fields k cut pieces is =
    ap (λ (o : Option (List ℕ × List ℕ)). o >>= (λ c. counts_of (split 47 c.0) >>= (λ ns. reset_with c.1 ns))) cut
    ∙ ap (λ fs. counts_of fs >>= (λ ns. reset_with message ns)) pieces
    ∙ ap (λ (o : Option ℕ). (o >>= (λ m. counts_of fields >>= (λ ns. Some (m ∷ ns)))) >>= (λ ns. reset_with message ns))
    is
    ∙ pick (counts_of fields)
  where
    pick : (o : Option (List ℕ)) → ((o >>= (λ ns. Some (k ∷ ns))) >>= (λ ns. reset_with message ns))
        ≡ (o >>= (λ ns. reset_with message (k ∷ ([] ++ ns))))
    pick None = refl
    pick (Some ns) = refl

pub first_not : (bytes counts message first : List ℕ) (fields : List (List ℕ))
    → cut_at 32 bytes ≡ Some (counts, message)
    → split 47 counts ≡ first ∷ fields → number_in 0 99999 first ≡ None → reset_of bytes ≡ None
unfolding reset_of
first_not bytes counts message first fields cut pieces is =
    ap (λ (o : Option (List ℕ × List ℕ)). o >>= (λ c. counts_of (split 47 c.0) >>= (λ ns. reset_with c.1 ns))) cut
    ∙ ap (λ fs. counts_of fs >>= (λ ns. reset_with message ns)) pieces
    ∙ ap (λ (o : Option ℕ). (o >>= (λ m. counts_of fields >>= (λ ns. Some (m ∷ ns)))) >>= (λ ns. reset_with message ns))
    is

pub no_space : (bytes : List ℕ) → cut_at 32 bytes ≡ None → reset_of bytes ≡ None
unfolding reset_of
no_space bytes none =
    ap (λ (o : Option (List ℕ × List ℕ)). o >>= (λ c. counts_of (split 47 c.0) >>= (λ ns. reset_with c.1 ns))) none

-- the next field is no number
pub next_not : (bytes message : List ℕ) (k : ℕ) (read field : List ℕ) (left fields : List (List ℕ))
    → reset_of bytes ≡ with_left message k read left
    → left ≡ field ∷ fields → number_in 0 99999 field ≡ None → reset_of bytes ≡ None
next_not bytes message k read field left fields so pieces is =
    so ∙ ap (with_left message k read) pieces ∙ none_read message k read field fields is

-- the next field is a number, and there is room for it
pub next_read : (bytes message : List ℕ) (k : ℕ) (read now field : List ℕ) (left fields : List (List ℕ)) (n : ℕ)
    → reset_of bytes ≡ with_left message k read left
    → left ≡ field ∷ fields → number_in 0 99999 field ≡ Some n → now ≡ read ++ n ∷ []
    → reset_of bytes ≡ with_left message k now fields
next_read bytes message k read now field left fields n so pieces is pushed =
    so ∙ ap (with_left message k read) pieces ∙ one_read message k read field fields n is
    ∙ ap (λ xs. with_left message k xs fields) (sym pushed)

-- what is no error is Ok
pub taken : {A E : Type 0} (r : Result A E) → false ≡ is_err r → IsOk r
taken (Ok x) e = refl
taken (Err x) e = cc

pub once_taken : {A E P : Type 0} (r : Result A E) → false ≡ is_err r → OnOk r P → P
once_taken (Ok x) e p = p
once_taken (Err x) e p = cc

-- a line that begins with @ is a reset
pub reset_line : (line : List ℕ) (b : ℕ) (rest : List ℕ) → line ≡ b ∷ rest → b ≡ 64 → line_of line ≡ reset_of rest
reset_line line b rest parts at = ap line_of parts ∙ ap (λ c. line_of (c ∷ rest)) at
