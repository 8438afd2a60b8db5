-- Columns that are written: they are read as the record, and they are its fields.
use Rattle.std.proofs.Common.{◌≡◌, ◌<◌, ◌≤◌, ◌+◌, ◌/◌, ◌%◌, ◌∙◌, ℕ, List, [], ◌∷◌, ◌++◌, Bool, true, false}
use Rattle.std.proofs.Common.{ap, arith, drop, get_or, length, refl, subst, sym, flat_map}
use Rattle.std.specs.Prelude.{codes, if◌then◌else◌, nat_eq}
use Rattle.std.specs.List.{AllByRecursion}
use Rattle.std.proofs.lemmas.Bool.{eqb-true, ne_eqb}
use Rattle.std.proofs.lemmas.List.{append_assoc, append-nil, drop_all, drop_more}
use Rattle.line_text.specs.bytes.Texts.{byte_text, digit, is_plain, text_of}
use Rattle.line_text.specs.columns.Columns.{IsField, columns_of_fields, ended, fields_text, given, given_at_end, next_column, piece}
use Rattle.line_text.specs.declared.columns.reading.Column.{Column}
use Rattle.line_text.specs.declared.columns.reading.Column.TheVariants.{Start, Quoted, Closed}

-- the text of a byte, which is plain or not
abbrev pub chosen : Bool → ℕ → List ℕ
chosen plain b = if plain then b ∷ [] else 92 ∷ digit (b / 16) ∷ digit (b % 16) ∷ []

-- a digit is no quotation mark
pub digit-no_mark : (n : ℕ) → nat_eq (digit n) 34 ≡ false
digit-no_mark n = grind arith

pub plain-no_mark : (b : ℕ) → is_plain b ≡ true → nat_eq b 34 ≡ false
plain-no_mark b plain = grind arith

-- a byte between quotation marks that is none
quoted-step : (b : ℕ) (rest : List ℕ) → nat_eq b 34 ≡ false → fields_text Quoted (b ∷ rest) ≡ b ∷ fields_text Quoted rest
unfolding fields_text
quoted-step b rest no_mark =
    ap (λ (p : Bool). (if p then [] else b ∷ []) ++ fields_text (if p then Closed else Quoted) rest) no_mark

quoted-chosen : (p : Bool) (b : ℕ) (rest : List ℕ) → is_plain b ≡ p
    → fields_text Quoted (chosen p b ++ rest) ≡ chosen p b ++ fields_text Quoted rest
quoted-chosen true b rest is = quoted-step b rest (plain-no_mark b is)
quoted-chosen false b rest is =
    let high : ℕ = digit (b / 16) in
    let low : ℕ = digit (b % 16) in
    quoted-step 92 (high ∷ low ∷ rest) refl
    ∙ ap (λ (t : List ℕ). 92 ∷ t) (quoted-step high (low ∷ rest) (digit-no_mark (b / 16)))
    ∙ ap (λ (t : List ℕ). 92 ∷ high ∷ t) (quoted-step low rest (digit-no_mark (b % 16)))

-- a byte of the fields, which is a carriage return or not
piece-back : (p : Bool) (b : ℕ) (rest : List ℕ) → nat_eq b 13 ≡ p
    → fields_text Quoted (piece b ++ rest) ≡ byte_text b ++ fields_text Quoted rest
unfolding fields_text
piece-back true b rest is =
    subst (λ (n : ℕ). fields_text Quoted (piece n ++ rest) ≡ byte_text n ++ fields_text Quoted rest) (sym (eqb-true b 13 is)) refl
piece-back false b rest is =
    ap (λ (p : Bool). fields_text Quoted ((if p then codes "\",\"" else byte_text b) ++ rest)) is
    ∙ quoted-chosen (is_plain b) b rest refl

fields-back : (fields : List ℕ) → fields_text Quoted (flat_map piece fields ++ 34 ∷ []) ≡ text_of fields
unfolding fields_text
fields-back [] = refl
fields-back (b ∷ fields) =
    ap (fields_text Quoted) (append_assoc (piece b) (flat_map piece fields) (34 ∷ []))
    ∙ piece-back (nat_eq b 13) b (flat_map piece fields ++ 34 ∷ []) refl
    ∙ ap (λ (t : List ℕ). byte_text b ++ t) (fields-back fields)

-- the columns of fields are read as these
pub columns-back : (fields : List ℕ) → fields_text Start ((34 ∷ flat_map piece fields) ++ 34 ∷ []) ≡ text_of fields
unfolding fields_text
columns-back fields = fields-back fields

-- a field as columns
field-text : (field rest : List ℕ) → IsField field → flat_map piece (field ++ rest) ≡ text_of field ++ flat_map piece rest
field-text [] rest all = refl
field-text (b ∷ field) rest all =
    ap (λ (p : Bool). (if p then codes "\",\"" else byte_text b) ++ flat_map piece (field ++ rest)) (ne_eqb b 13 all.0)
    ∙ ap (λ (t : List ℕ). byte_text b ++ t) (field-text field rest all.1)
    ∙ sym (append_assoc (byte_text b) (text_of field) (flat_map piece rest))

-- fields of which the last one has no carriage return after it
abbrev pub joined : List ℕ → List (List ℕ) → List ℕ
joined field [] = field
joined field (next ∷ fields) = field ++ 13 ∷ joined next fields

pub joined-ended : (field : List ℕ) (fields : List (List ℕ))
    → flat_map ended (field ∷ fields) ≡ joined field fields ++ 13 ∷ []
joined-ended field [] = append-nil (ended field)
joined-ended field (next ∷ fields) =
    append_assoc field (13 ∷ []) (flat_map ended (next ∷ fields))
    ∙ ap (λ (t : List ℕ). field ++ 13 ∷ t) (joined-ended next fields)
    ∙ sym (append_assoc field (13 ∷ joined next fields) (13 ∷ []))

pub have-fields : (field : List ℕ) (fields : List (List ℕ)) → AllByRecursion IsField (field ∷ fields)
    → (34 ∷ flat_map piece (joined field fields)) ++ 34 ∷ [] ≡ columns_of_fields (field ∷ fields)
unfolding columns_of_fields
have-fields field [] all =
    ap (λ (t : List ℕ). 34 ∷ (flat_map piece t ++ 34 ∷ [])) (sym (append-nil field))
    ∙ ap (λ (t : List ℕ). 34 ∷ (t ++ 34 ∷ [])) (field-text field [] all.0 ∙ append-nil (text_of field))
have-fields field (next ∷ fields) all =
    let rest : List ℕ = flat_map piece (joined next fields) in
    ap (λ (t : List ℕ). 34 ∷ (t ++ 34 ∷ [])) (field-text field (13 ∷ joined next fields) all.0)
    ∙ ap (λ (t : List ℕ). 34 ∷ t) (append_assoc (text_of field) (34 ∷ 44 ∷ 34 ∷ rest) (34 ∷ []))
    ∙ ap (λ (t : List ℕ). 34 ∷ (text_of field ++ (34 ∷ 44 ∷ t))) (have-fields next fields all.1)
    ∙ ap (λ (t : List ℕ). 34 ∷ t) (sym (append_assoc (text_of field) (34 ∷ []) (44 ∷ columns_of_fields (next ∷ fields))))

-- one byte of the line more
by-more : (column : Column) (xs : List ℕ) (i : ℕ) → i < length xs
    → fields_text column (drop i xs)
    ≡ given column (get_or xs i 0) ++ fields_text (next_column column (get_or xs i 0)) (drop (i + 1) xs)
unfolding fields_text
by-more column xs i low = ap (fields_text column) (drop_more xs i 0 low)

pub by-next : (before after all xs : List ℕ) (column next : Column) (i : ℕ) → i < length xs
    → after ≡ before ++ given column (get_or xs i 0) → next ≡ next_column column (get_or xs i 0)
    → before ++ fields_text column (drop i xs) ≡ all → after ++ fields_text next (drop (i + 1) xs) ≡ all
by-next before after all xs column next i low put turned so_far =
    let b : ℕ = get_or xs i 0 in
    let rest : List ℕ = drop (i + 1) xs in
    ap (λ (t : List ℕ). t ++ fields_text next rest) put ∙ append_assoc before (given column b) (fields_text next rest)
    ∙ ap (λ (c : Column). before ++ (given column b ++ fields_text c rest)) turned
    ∙ ap (λ (t : List ℕ). before ++ t) (sym (by-more column xs i low)) ∙ so_far

-- the end of the columns
pub by-end : (before all xs : List ℕ) (column : Column) (i : ℕ) → length xs ≤ i
    → before ++ fields_text column (drop i xs) ≡ all → before ++ given_at_end column ≡ all
unfolding fields_text
by-end before all xs column i past so_far =
    ap (λ (rest : List ℕ). before ++ fields_text column rest) (sym (drop_all i xs past)) ∙ so_far
