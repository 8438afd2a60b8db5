-- A beginning of the lines of records, handed to an output.
use Rattle.std.proofs.Common.{◌≡◌, ◌≤◌, ◌<◌, ◌+◌, ◌-◌, ℕ, zero, suc, List, [], Option, ap, arith, get_or, length, refl, subst, sym, ◌++◌}
use Rattle.std.specs.Io.KnownBytes.{Appends}
use Rattle.line_text.specs.bytes.Texts.{record_line}
use Rattle.command_faults.proofs.Parts.{part-behind, part-longer}
use Rattle.command_faults.specs.Outputs.{HandsPart}
use Rattle.line_text.specs.declared.petscii.characters.CharacterSet.{CharacterSet}
use Rattle.file_rescues.specs.Forms.{form_line, form_lines_to, records_as}
use Rattle.file_rescues.specs.Records.{lines_to, records_text}
use Rattle.file_rescues.specs.declared.forms.ColumnForm.{ColumnForm}
use Rattle.file_rescues.specs.declared.forms.RecordForm.{RecordForm}
use Rattle.file_rescues.specs.declared.forms.RecordForm.TheVariants as forms

-- plain lines are those of the plain form
pub plain-to : (rs : List (List ℕ)) (n : ℕ) → form_lines_to forms.Lines rs n ≡ lines_to rs n
plain-to rs zero = refl
plain-to rs (suc n) = ap (λ (text : List ℕ). text ++ record_line (n + 1) (get_or rs n [])) (plain-to rs n)

-- a beginning of fewer lines is one of more
and-more : (a b : Option (List ℕ)) (form : RecordForm) (rs : List (List ℕ)) (n j : ℕ)
    → HandsPart a b (form_lines_to form rs n) → HandsPart a b (form_lines_to form rs (j + n))
and-more a b form rs n zero part =
    let same : n ≡ zero + n = omega arith in
    subst (λ (m : ℕ). HandsPart a b (form_lines_to form rs m)) same part
and-more a b form rs n (suc j) part =
    let next : suc (j + n) ≡ suc j + n = omega arith in
    subst (λ (m : ℕ). HandsPart a b (form_lines_to form rs m)) next
    (part-longer a b (form_lines_to form rs (j + n)) (form_line form (j + n + 1) (get_or rs (j + n) []))
    (and-more a b form rs n j part))

pub to-all : (a b : Option (List ℕ)) (form : RecordForm) (rs : List (List ℕ)) (n : ℕ) → n ≤ length rs
    → HandsPart a b (form_lines_to form rs n) → HandsPart a b (form_lines_to form rs (length rs))
to-all a b form rs n few part =
    let all : length rs - n + n ≡ length rs = omega (arith, few) in
    subst (λ (m : ℕ). HandsPart a b (form_lines_to form rs m)) all (and-more a b form rs n (length rs - n) part)

-- and so is one of the next line behind those before it
pub next-part : (a b c : Option (List ℕ)) (form : RecordForm) (rs : List (List ℕ)) (n : ℕ)
    → Appends a b (form_lines_to form rs n) → HandsPart b c (form_line form (n + 1) (get_or rs (n + 1 - 1) []))
    → n < length rs → HandsPart a c (form_lines_to form rs (length rs))
next-part a b c form rs n before part low =
    let next : suc n ≡ n + 1 = omega arith in
    let here : n + 1 - 1 ≡ n = omega arith in
    to-all a c form rs (n + 1) (omega (arith, low))
    (subst (λ (m : ℕ). HandsPart a c (form_lines_to form rs m)) next
    (part-behind a b c (form_lines_to form rs n) (form_line form (n + 1) (get_or rs n [])) before
    (subst (λ (m : ℕ). HandsPart b c (form_line form (n + 1) (get_or rs m []))) here part)))

-- of plain lines
pub plain-part : (a b : Option (List ℕ)) (rs : List (List ℕ)) (n : ℕ) → n ≤ length rs → HandsPart a b (lines_to rs n)
    → HandsPart a b (records_text rs)
unfolding records_text
plain-part a b rs n few part =
    subst (HandsPart a b) (plain-to rs (length rs))
    (to-all a b forms.Lines rs n few (subst (HandsPart a b) (sym (plain-to rs n)) part))

-- the lines in the other forms
pub text-as : (form : RecordForm) (set : CharacterSet) (rs : List (List ℕ)) → form ≡ forms.Text set
    → form_lines_to form rs (length rs) ≡ records_as form rs
text-as form set rs is = rw is refl

pub columns-as : (form : RecordForm) (columns : ColumnForm) (rs : List (List ℕ)) → form ≡ forms.Columns columns
    → form_lines_to form rs (length rs) ≡ records_as form rs
columns-as form columns rs is = rw is refl
