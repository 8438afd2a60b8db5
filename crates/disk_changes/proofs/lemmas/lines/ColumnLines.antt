-- Lines with several columns as lines of records, byte by byte and line by line.
use Rattle.std.proofs.Common.{◌≡◌, ◌<◌, ◌≤◌, ◌∙◌, ℕ, List, [], ◌∷◌, ◌++◌, Bool, true, false, ap, arith, drop, get_or, length, sym}
use Rattle.std.specs.Prelude.{flat_map, if◌then◌else◌, nat_eq}
use Rattle.std.proofs.lemmas.List.{append_assoc, append-nil}
use Rattle.line_text.specs.scripts.Lines.{lines}
use Rattle.disk_changes.specs.lines.ColumnLines.{ended_line, one_column, plain_line, plain_text}
use Rattle.file_rescues.specs.declared.forms.ColumnForm.{ColumnForm}

-- one byte of a number more
pub line-next : (form : ColumnForm) (before rest all : List ℕ) → 1 ≤ length rest → nat_eq (get_or rest 0 0) 44 ≡ false
    → before ++ plain_line form rest ≡ all → (before ++ get_or rest 0 0 ∷ []) ++ plain_line form (drop 1 rest) ≡ all
unfolding plain_line
line-next form before [] all some other so_far = absurd (omega (arith, some))
line-next form before (b ∷ rest) all some other so_far =
    append_assoc before (b ∷ []) (plain_line form rest)
    ∙ sym (ap (λ (p : Bool). before ++ (if p then one_column form rest else b ∷ plain_line form rest)) other) ∙ so_far

-- the columns behind it
pub line-columns : (form : ColumnForm) (before rest all : List ℕ) → 1 ≤ length rest → nat_eq (get_or rest 0 0) 44 ≡ true
    → before ++ plain_line form rest ≡ all → before ++ one_column form (drop 1 rest) ≡ all
unfolding plain_line
line-columns form before [] all some comma so_far = absurd (omega (arith, some))
line-columns form before (b ∷ rest) all some comma so_far =
    sym (ap (λ (p : Bool). before ++ (if p then one_column form rest else b ∷ plain_line form rest)) comma) ∙ so_far

-- no comma stands in the line
pub line-end : (form : ColumnForm) (before rest all : List ℕ) → length rest < 1 → before ++ plain_line form rest ≡ all → before ≡ all
unfolding plain_line
line-end form before [] all none so_far = sym (append-nil before) ∙ so_far
line-end form before (b ∷ rest) all none so_far = absurd (omega (arith, none))

-- one line more
pub text-next : (form : ColumnForm) (before after whole line more text all : List ℕ) → lines text ≡ line ∷ lines more
    → after ≡ before ++ plain_line form line → whole ≡ after ++ 10 ∷ []
    → before ++ plain_text form text ≡ all → whole ++ plain_text form more ≡ all
text-next form before after whole line more text all next put end so_far =
    let plain : List ℕ = plain_line form line in
    let rest : List ℕ = plain_text form more in
    ap (λ (t : List ℕ). t ++ rest) (end ∙ ap (λ (t : List ℕ). t ++ 10 ∷ []) put ∙ append_assoc before plain (10 ∷ []))
    ∙ append_assoc before (plain ++ 10 ∷ []) rest
    ∙ sym (ap (λ (ls : List (List ℕ)). before ++ flat_map (ended_line form) ls) next) ∙ so_far

pub text-end : (form : ColumnForm) (before text all : List ℕ) → lines text ≡ [] → before ++ plain_text form text ≡ all → before ≡ all
text-end form before text all none so_far =
    sym (append-nil before) ∙ sym (ap (λ (ls : List (List ℕ)). before ++ flat_map (ended_line form) ls) none) ∙ so_far
