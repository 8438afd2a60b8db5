-- The text of a file's records with several columns each, made one with one column for each.
use Rattle.std.proofs.Common.{◌≡◌, ◌≤◌, ◌+◌, ◌-◌, ◌∙◌, ℕ, zero, suc, List, [], ◌∷◌, ◌++◌, Bool, ap, ap₂, arith}
use Rattle.std.proofs.Common.{get_or, length, ne_eqb, refl, sym, take}
use Rattle.std.specs.Prelude.{◌==◌, decimal, flat_map, if◌then◌else◌, slice_index}
use Rattle.std.specs.Str.Parse.{AllDigits}
use Rattle.std.proofs.lemmas.Fmt.{decimal_is_IsNumeral}
use Rattle.std.proofs.lemmas.List.{append_assoc, append-nil}
use Rattle.std.proofs.lemmas.Str.Parse.{digit_from_value}
use Rattle.line_text.specs.bytes.Texts.{record_line}
use Rattle.line_text.proofs.lemmas.scripts.Lines.{Lacks, split_piece}
use Rattle.line_text.specs.scripts.Lines.{ended, lines, split, without_cr}
use Rattle.disk_changes.proofs.lemmas.lines.ColumnBytes.{Ends, columns-back, columns-end, form-lacks}
use Rattle.disk_changes.proofs.lemmas.lines.Lined.{digits-lack, ended-more, lacks-both, last-is, line-ended}
use Rattle.disk_changes.proofs.lemmas.lines.Lined.{some-piece, text-is, text_from}
use Rattle.disk_changes.specs.lines.ColumnLines.{ended_line, one_column, plain_line, plain_text}
use Rattle.file_rescues.specs.Forms.{HasPositions, columns_as, columns_line, form_lines_to, records_as}
use Rattle.file_rescues.specs.Records.{records_text}
use Rattle.file_rescues.specs.declared.forms.ColumnForm.{ColumnForm}
use Rattle.file_rescues.specs.declared.forms.RecordForm.TheVariants as forms

-- the lines of records, the first with number k; and those of the first n of them
abbrev lines_from : ColumnForm → ℕ → List (List ℕ) → List ℕ
lines_from form k [] = []
lines_from form k (r ∷ rs) = columns_line form k r ++ lines_from form (suc k) rs

abbrev lines_to : ColumnForm → ℕ → List (List ℕ) → ℕ → List ℕ
lines_to form k rs zero = []
lines_to form k rs (suc n) = lines_to form k rs n ++ columns_line form (k + n) (get_or rs n [])

first-before : (form : ColumnForm) (k n : ℕ) (r : List ℕ) (rs : List (List ℕ))
    → lines_to form k (r ∷ rs) (suc n) ≡ columns_line form k r ++ lines_to form (suc k) rs n
first-before form k zero r rs =
    let here : k + 0 ≡ k = omega arith in
    ap (λ (m : ℕ). columns_line form m r) here ∙ sym (append-nil (columns_line form k r))
first-before form k (suc n) r rs =
    let next : k + suc n ≡ suc k + n = omega arith in
    ap (λ (t : List ℕ). t ++ columns_line form (k + suc n) (get_or rs n [])) (first-before form k n r rs)
    ∙ ap (λ (m : ℕ). (columns_line form k r ++ lines_to form (suc k) rs n) ++ columns_line form m (get_or rs n [])) next
    ∙ append_assoc (columns_line form k r) (lines_to form (suc k) rs n) (columns_line form (suc k + n) (get_or rs n []))

all-from : (form : ColumnForm) (k : ℕ) (rs : List (List ℕ)) → lines_to form k rs (length rs) ≡ lines_from form k rs
all-from form k [] = refl
all-from form k (r ∷ rs) = first-before form k (length rs) r rs
    ∙ ap (λ (t : List ℕ). columns_line form k r ++ t) (all-from form (suc k) rs)

to-from : (form : ColumnForm) (rs : List (List ℕ)) (n : ℕ) → form_lines_to (forms.Columns form) rs n ≡ lines_to form 1 rs n
to-from form rs zero = refl
to-from form rs (suc n) =
    let same : n + 1 ≡ 1 + n = omega arith in
    ap₂ (λ (t : List ℕ) (m : ℕ). t ++ columns_line form m (get_or rs n [])) (to-from form rs n) same

-- a line without its LF, and that no byte of it is one
abbrev columns_at : ColumnForm → ℕ → List ℕ → List ℕ
columns_at form n r = decimal n ++ 44 ∷ columns_as form r

columns-ended : (form : ColumnForm) (n : ℕ) (r : List ℕ) → columns_at form n r ++ 10 ∷ [] ≡ columns_line form n r
columns-ended form n r = append_assoc (decimal n) (44 ∷ columns_as form r) (10 ∷ [])

line-lacks : (form : ColumnForm) (n : ℕ) (r : List ℕ) → n ≤ 182880 → Lacks 10 (columns_at form n r)
line-lacks form n r le = lacks-both (decimal n) (44 ∷ columns_as form r)
    (digits-lack (decimal n) (decimal_is_IsNumeral n (omega (arith, le))).0.1)
    ((λ is. omega (arith, is)), form-lacks form r)

end-stays : (line : List ℕ) → Ends line → without_cr line ≡ line
end-stays line e =
    let here : slice_index line (length line - 1) ≡ e.last =
    ap (λ (l : List ℕ). slice_index l (length l - 1)) e.is ∙ last-is e.front e.last in
    ap (λ (c : ℕ). if c == 13 then take (length line - 1) line else line) here
    ∙ ap (λ (p : Bool). if p then take (length line - 1) line else line) e.other

line-stays : (form : ColumnForm) (n : ℕ) (r : List ℕ) → HasPositions form → without_cr (columns_at form n r) ≡ columns_at form n r
line-stays form n r has =
    let e = columns-end form r has in
    end-stays (columns_at form n r) (record {
      front = decimal n ++ 44 ∷ e.front;
      last = e.last;
      is = ap (λ (cs : List ℕ). decimal n ++ 44 ∷ cs) e.is ∙ sym (append_assoc (decimal n) (44 ∷ e.front) (e.last ∷ []));
      other = e.other;
    })

-- the first line of a text, and the lines behind it
first-columns : (form : ColumnForm) (n : ℕ) (r rest : List ℕ) → HasPositions form → n ≤ 182880
    → lines (columns_line form n r ++ rest) ≡ columns_at form n r ∷ lines rest
first-columns form n r rest has le =
    ap (λ (t : List ℕ). lines (t ++ rest)) (sym (columns-ended form n r))
    ∙ ap lines (append_assoc (columns_at form n r) (10 ∷ []) rest)
    ∙ ap ended (split_piece 10 (columns_at form n r) rest (line-lacks form n r le))
    ∙ ended-more (columns_at form n r) (split 10 rest) (some-piece rest)
    ∙ ap (λ (line : List ℕ). line ∷ lines rest) (line-stays form n r has)

-- a line made one with one column
behind-number : (form : ColumnForm) (xs columns : List ℕ) → Lacks 44 xs
    → plain_line form (xs ++ 44 ∷ columns) ≡ xs ++ one_column form columns
unfolding plain_line
behind-number form [] columns lacks = refl
behind-number form (x ∷ xs) columns lacks =
    ap (λ (p : Bool). if p then one_column form (xs ++ 44 ∷ columns) else x ∷ plain_line form (xs ++ 44 ∷ columns))
    (ne_eqb x 44 lacks.0)
    ∙ ap (λ (t : List ℕ). x ∷ t) (behind-number form xs columns lacks.1)

made-plain : (form : ColumnForm) (n : ℕ) (r : List ℕ) → HasPositions form → n ≤ 182880
    → ended_line form (columns_at form n r) ≡ record_line n r
made-plain form n r has le =
    let number : Lacks 44 (decimal n) = digits-lack-comma (decimal n) (decimal_is_IsNumeral n (omega (arith, le))).0.1 in
    ap (λ (t : List ℕ). t ++ 10 ∷ []) (behind-number form (decimal n) (columns_as form r) number
    ∙ ap (λ (t : List ℕ). decimal n ++ (44 ∷ (34 ∷ (t ++ 34 ∷ [])))) (columns-back form r has))
    ∙ line-ended n r
  where
    digits-lack-comma : (xs : List ℕ) → AllDigits 10 xs → Lacks 44 xs
    digits-lack-comma [] d = tt
    digits-lack-comma (x ∷ xs) d =
        ((λ is. let h = digit_from_value x d.0 in omega (arith, h.0, is)), digits-lack-comma xs d.1)

from-plain : (form : ColumnForm) (k : ℕ) (rs : List (List ℕ)) → HasPositions form → k + length rs ≤ 182881
    → plain_text form (lines_from form k rs) ≡ text_from k rs
from-plain form k [] has few = refl
from-plain form k (r ∷ rs) has few =
    let rest : List ℕ = lines_from form (suc k) rs in
    ap (flat_map (ended_line form)) (first-columns form k r rest has (omega (arith, few)))
    ∙ ap (λ (t : List ℕ). t ++ plain_text form rest) (made-plain form k r has (omega (arith, few)))
    ∙ ap (λ (t : List ℕ). record_line k r ++ t) (from-plain form (suc k) rs has (omega (arith, few)))

pub lines-back : (form : ColumnForm) (rs : List (List ℕ)) → HasPositions form → length rs ≤ 182880
    → plain_text form (records_as (forms.Columns form) rs) ≡ records_text rs
lines-back form rs has few =
    ap (plain_text form) (to-from form rs (length rs) ∙ all-from form 1 rs) ∙ from-plain form 1 rs has (omega (arith, few)) ∙ sym (text-is rs)
