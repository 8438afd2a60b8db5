-- Columns that were written, cut again: each is the text of its field.
use Rattle.std.proofs.Common.{◌≡◌, ◌-◌, ◌/◌, ◌%◌, ◌∙◌, ℕ, List, [], ◌∷◌, ◌++◌, Bool, true, false, ap, ap₂, arith}
use Rattle.std.proofs.Common.{get_or, length, length-append, map, refl, sym, take}
use Rattle.std.specs.Prelude.{◌&&◌, if◌then◌else◌, nat_eq, slice_index, slice_range}
use Rattle.std.specs.List.{AllByRecursion}
use Rattle.std.proofs.Math.Seq.{get_or-append_seam, take-append_seam}
use Rattle.std.proofs.lemmas.Bool.{le-leb}
use Rattle.std.proofs.lemmas.List.{append_assoc, append-nil}
use Rattle.line_text.specs.bytes.Texts.{byte_text, is_plain, text_of}
use Rattle.line_text.proofs.lemmas.columns.Cut.{ahead}
use Rattle.line_text.proofs.lemmas.columns.Fields.{chosen, digit-no_mark, plain-no_mark}
use Rattle.line_text.specs.columns.Columns.{columns_of_fields, quoted}
use Rattle.line_text.specs.columns.Marks.{has_marks, without_marks}
use Rattle.line_text.specs.columns.Pieces.{cut, onto}

-- no byte is a quotation mark
abbrev pub HasNoMark : List ℕ → Type 0
HasNoMark xs = AllByRecursion (λ b. nat_eq b 34 ≡ false) xs

pub both-no_mark : (xs ys : List ℕ) → HasNoMark xs → HasNoMark ys → HasNoMark (xs ++ ys)
both-no_mark [] ys hx hy = hy
both-no_mark (x ∷ xs) ys hx hy = (hx.0, both-no_mark xs ys hx.1 hy)

chosen-no_mark : (p : Bool) (b : ℕ) → is_plain b ≡ p → HasNoMark (chosen p b)
chosen-no_mark true b is = (plain-no_mark b is, tt)
chosen-no_mark false b is = (refl, (digit-no_mark (b / 16), (digit-no_mark (b % 16), tt)))

pub text-no_mark : (bytes : List ℕ) → HasNoMark (text_of bytes)
text-no_mark [] = tt
text-no_mark (b ∷ bytes) =
    both-no_mark (byte_text b) (text_of bytes) (chosen-no_mark (is_plain b) b refl) (text-no_mark bytes)

-- a byte before columns
onto-ahead : (b : ℕ) (columns : List (List ℕ)) → onto b columns ≡ ahead (b ∷ []) columns
onto-ahead b [] = refl
onto-ahead b (column ∷ columns) = refl

onto-more : (b : ℕ) (bytes : List ℕ) (columns : List (List ℕ)) → onto b (ahead bytes columns) ≡ ahead (b ∷ bytes) columns
onto-more b bytes [] = refl
onto-more b bytes (column ∷ columns) = refl

-- what stands before the closing mark
marked-text : (text rest : List ℕ) → HasNoMark text
    → cut true (text ++ 34 ∷ rest) ≡ ahead (text ++ 34 ∷ []) (cut false rest)
unfolding cut
marked-text [] rest none = onto-ahead 34 (cut false rest)
marked-text (b ∷ text) rest none =
    ap (λ (p : Bool). onto b (cut (if p then false else true) (text ++ 34 ∷ rest))) none.0
    ∙ ap (onto b) (marked-text text rest none.1)
    ∙ onto-more b (text ++ 34 ∷ []) (cut false rest)

-- a column, and what stands after it
quoted-cut : (field rest : List ℕ) → cut false (quoted field ++ rest) ≡ ahead (quoted field) (cut false rest)
unfolding cut
quoted-cut field rest =
    ap (λ (xs : List ℕ). onto 34 (cut true xs)) (append_assoc (text_of field) (34 ∷ []) rest)
    ∙ ap (onto 34) (marked-text (text_of field) rest (text-no_mark field))
    ∙ onto-more 34 (text_of field ++ 34 ∷ []) (cut false rest)

-- its text
all-marks : (a b c : Bool) → a ≡ true → b ≡ true → c ≡ true → a && (b && c) ≡ true
all-marks true true true ha hb hc = refl
all-marks false b c ha hb hc = cc
all-marks true false c ha hb hc = cc
all-marks true true false ha hb hc = cc

quoted-text : (field : List ℕ) → without_marks (quoted field) ≡ text_of field
quoted-text field =
    let text : List ℕ = text_of field in
    let column : List ℕ = quoted field in
    let size = length-append text (34 ∷ []) in
    let last : length column - 1 ≡ length (34 ∷ text) = omega (arith, size) in
    let inner : length column - 1 - 1 ≡ length text = omega (arith, size) in
    let end : slice_index column (length column - 1) ≡ 34 =
    ap (λ (n : ℕ). get_or column n 0) last ∙ get_or-append_seam (34 ∷ text) 34 [] 0 in
    let is : has_marks column ≡ true = all-marks _ _ _ (le-leb 2 (length column) (omega (arith, size))) refl (ap (λ (b : ℕ). nat_eq b 34) end) in
    ap (λ (p : Bool). if p then slice_range column 1 (length column - 1) else column) is
    ∙ ap (λ (n : ℕ). take n (text ++ 34 ∷ [])) inner ∙ take-append_seam text (34 ∷ [])

pub texts-back : (field : List ℕ) (fields : List (List ℕ))
    → map without_marks (cut false (columns_of_fields (field ∷ fields))) ≡ map text_of (field ∷ fields)
unfolding cut columns_of_fields
texts-back field [] =
    ap (λ (xs : List ℕ). map without_marks (cut false xs)) (sym (append-nil (quoted field)))
    ∙ ap (map without_marks) (quoted-cut field [])
    ∙ ap (λ (xs : List ℕ). without_marks xs ∷ []) (append-nil (quoted field))
    ∙ ap (λ (xs : List ℕ). xs ∷ []) (quoted-text field)
texts-back field (next ∷ fields) =
    let rest : List ℕ = columns_of_fields (next ∷ fields) in
    ap (map without_marks) (quoted-cut field (44 ∷ rest))
    ∙ ap (λ (xs : List ℕ). without_marks xs ∷ map without_marks (cut false rest)) (append-nil (quoted field))
    ∙ ap₂ (λ (x : List ℕ) (xs : List (List ℕ)). x ∷ xs) (quoted-text field) (texts-back next fields)
