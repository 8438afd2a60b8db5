-- The end of a line of columns: commas that a spreadsheet added, and the last column, which says how the record ends.
use Rattle.std.proofs.Common.{◌≡◌, ◌<◌, ◌≤◌, ◌-◌, ◌+◌, ◌∙◌, ℕ, zero, suc, List, [], ◌∷◌, ◌++◌, Bool, true, false, ap, arith}
use Rattle.std.proofs.Common.{drop, get_or, length, length-append, refl, replicate, sym, take}
use Rattle.std.specs.Prelude.{codes, flat_map, if◌then◌else◌, nat_eq, not, slice_index}
use Rattle.std.proofs.Math.Seq.{drop-append_seam, get_or-append_right, get_or-append_seam, take-append_seam}
use Rattle.std.proofs.lemmas.Bool.{eqb-true, false≢true, ne_eqb}
use Rattle.std.proofs.lemmas.Grind.{flat_map-append}
use Rattle.std.proofs.lemmas.List.{append_assoc, get_or-append-add, get_or_append_left, get_or-replicate}
use Rattle.std.proofs.lemmas.List.{length-replicate, take_all, take_more}
use Rattle.std.proofs.lemmas.List.Sums.{suffix_len_is}
use Rattle.line_text.specs.bytes.Texts.{byte_text, text_of}
use Rattle.line_text.specs.columns.Columns.{columns_of, columns_text, end_before, is_ended, is_one}
use Rattle.line_text.specs.columns.Columns.{mark_of, marked_text, piece, text_from, unpadded}
use Rattle.line_text.specs.columns.Marks.{without_marks}
use Rattle.line_text.proofs.lemmas.columns.Fields.{columns-back}

-- where the bytes end after which all are commas, or none is
pub ends : (commas : Bool) (line : List ℕ) (n : ℕ) → n ≤ length line
    → ((k : ℕ) → n ≤ k → k < length line → is_one commas (get_or line k 0) ≡ true)
    → (0 < n → is_one commas (get_or line (n - 1) 0) ≡ false) → n ≡ end_before commas line
ends commas line n low passes stops =
    let count = suffix_len_is (is_one commas) line n 0 low passes stops in
    omega (arith, count, low)

-- a line that was cut at its ends
pub pushed : (line : List ℕ) (n start : ℕ) → n ≡ end_before true line → start ≡ end_before false (take n line)
    → nat_eq start 0 ≡ false
    → marked_text (take (start - 1) (take n line)) (without_marks (drop start (take n line))) ≡ columns_text line
pushed line n start is begins some =
    sym (ap (λ (m : ℕ). text_from (take m line) (end_before false (take m line))) (sym is)
    ∙ ap (text_from (take n line)) (sym begins)
    ∙ ap (λ (p : Bool). if p then 34 ∷ []
    else marked_text (take (start - 1) (take n line)) (without_marks (drop start (take n line)))) some)

-- a line of columns and a last one of two bytes, neither of which is a comma
module _ (columns : List ℕ) (s : ℕ) (other : nat_eq s 44 ≡ false) where
  abbrev line : List ℕ
  line = columns ++ 44 ∷ 92 ∷ s ∷ []

  long : length line ≡ length columns + 3
  long = length-append columns (44 ∷ 92 ∷ s ∷ [])

  behind : (i : ℕ) → get_or line (length columns + i) 0 ≡ get_or (44 ∷ 92 ∷ s ∷ []) i 0
  behind i = get_or-append-add columns (44 ∷ 92 ∷ s ∷ []) i 0

  last : get_or line (length line - 1) 0 ≡ s
  last = ap (λ (i : ℕ). get_or line i 0) (omega (arith, long)) ∙ behind 2

  -- commas were added
  module _ (added : ℕ) where
    abbrev all : List ℕ
    all = line ++ replicate added 44

    longer : length all ≡ length line + added
    longer = length-append line (replicate added 44) ∙ ap (λ (n : ℕ). length line + n) (length-replicate added 44)

    padding : (k : ℕ) → length line ≤ k → k < length all → is_one true (get_or all k 0) ≡ true
    padding k high low =
        ap (is_one true) (get_or-append_right line (replicate added 44) k 0 high
        ∙ get_or-replicate added (k - length line) 44 0 (omega (arith, low, high, longer)))

    before : is_one true (get_or all (length line - 1) 0) ≡ false
    before =
        ap (is_one true) (get_or_append_left line (replicate added 44) 0 (length line - 1) (omega (arith, long)) ∙ last)
        ∙ other

    unpadded-is : unpadded all ≡ line
    unpadded-is =
        ap (λ (n : ℕ). take n all) (sym (ends true all (length line) (omega (arith, longer)) padding (λ some. before)))
        ∙ take-append_seam line (replicate added 44)

  mark-bytes : (k : ℕ) → length columns + 1 ≤ k → k < length line → is_one false (get_or line k 0) ≡ true
  mark-bytes k high low = either (k - length columns) refl
    where
      here : (i : ℕ) → k - length columns ≡ i → get_or line k 0 ≡ get_or (44 ∷ 92 ∷ s ∷ []) i 0
      here i is = ap (λ (n : ℕ). get_or line n 0) (omega (arith, is, high)) ∙ behind i

      either : (i : ℕ) → k - length columns ≡ i → is_one false (get_or line k 0) ≡ true
      either zero is = absurd (omega (arith, is, high))
      either (suc zero) is = ap (is_one false) (here 1 is)
      either (suc (suc zero)) is = ap (is_one false) (here 2 is) ∙ ap not other
      either (suc (suc (suc i))) is = absurd (omega (arith, is, low, long))

  comma : is_one false (get_or line (length columns + 1 - 1) 0) ≡ false
  comma = ap (is_one false) (ap (λ (i : ℕ). get_or line i 0) (omega arith) ∙ behind 0)

  start-is : end_before false line ≡ length columns + 1
  start-is = sym (ends false line (length columns + 1) (omega (arith, long)) mark-bytes (λ some. comma))

  front-is : take (length columns + 1 - 1) line ≡ columns
  front-is = ap (λ (n : ℕ). take n line) (omega arith) ∙ take-append_seam columns (44 ∷ 92 ∷ s ∷ [])

  mark-is : drop (length columns + 1) line ≡ 92 ∷ s ∷ []
  mark-is =
      ap (λ (l : List ℕ). drop (length columns + 1) l) (sym (append_assoc columns (44 ∷ []) (92 ∷ s ∷ [])))
      ∙ ap (λ (n : ℕ). drop n ((columns ++ 44 ∷ []) ++ 92 ∷ s ∷ [])) (sym (length-append columns (44 ∷ [])))
      ∙ drop-append_seam (columns ++ 44 ∷ []) (92 ∷ s ∷ [])

  -- is read as those columns and that end
  pub read : (added : ℕ) → columns_text (line ++ replicate added 44) ≡ marked_text columns (92 ∷ s ∷ [])
  read added =
      ap (λ (l : List ℕ). text_from l (end_before false l)) (unpadded-is added)
      ∙ ap (text_from line) start-is
      ∙ ap (λ (p : Bool). if p then 34 ∷ [] else marked_text (take (length columns + 1 - 1) line) (without_marks (drop (length columns + 1) line)))
      (ne_eqb (length columns + 1) 0 (λ none. omega (arith, none)))
      ∙ ap (λ (l : List ℕ). marked_text l (without_marks (drop (length columns + 1) line))) front-is
      ∙ ap (λ (l : List ℕ). marked_text columns (without_marks l)) mark-is

-- the mark stands after a comma
seam : (front mark : List ℕ) → front ++ (codes "\"," ++ mark) ≡ (front ++ 34 ∷ []) ++ 44 ∷ mark
seam front mark = sym (append_assoc front (34 ∷ []) (44 ∷ mark))

-- the end is taken off, and put on again
ended-is : (bytes : List ℕ) → is_ended bytes ≡ true → take (length bytes - 1) bytes ++ 13 ∷ [] ≡ bytes
ended-is bytes is =
    ap (λ (b : ℕ). take (length bytes - 1) bytes ++ b ∷ []) (sym (eqb-true (slice_index bytes (length bytes - 1)) 13 is))
    ∙ sym (take_more bytes (length bytes - 1) 0 (some bytes is)) ∙ take_all (length bytes - 1 + 1) bytes (omega arith)
  where
    some : (bytes : List ℕ) → is_ended bytes ≡ true → length bytes - 1 < length bytes
    some [] is = absurd (false≢true is)
    some (b ∷ bytes) is = omega arith

back-by : (p : Bool) (bytes : List ℕ) (added : ℕ) → is_ended bytes ≡ p
    → columns_text (((34 ∷ flat_map piece (if p then take (length bytes - 1) bytes else bytes)) ++ (codes "\"," ++ mark_of p)) ++ replicate added 44)
    ≡ text_of bytes
back-by true bytes added is =
    let fields : List ℕ = take (length bytes - 1) bytes in
    let front : List ℕ = 34 ∷ flat_map piece fields in
    ap (λ (l : List ℕ). columns_text (l ++ replicate added 44)) (seam front (codes "\\."))
    ∙ read (front ++ 34 ∷ []) 46 refl added
    ∙ ap (λ (t : List ℕ). t ++ codes "\\0d") (columns-back fields)
    ∙ sym (flat_map-append byte_text fields (13 ∷ []))
    ∙ ap text_of (ended-is bytes is)
back-by false bytes added is =
    let front : List ℕ = 34 ∷ flat_map piece bytes in
    ap (λ (l : List ℕ). columns_text (l ++ replicate added 44)) (seam front (codes "\\-"))
    ∙ read (front ++ 34 ∷ []) 45 refl added
    ∙ columns-back bytes

pub comes-back : (bytes : List ℕ) (added : ℕ) → columns_text (columns_of bytes ++ replicate added 44) ≡ text_of bytes
comes-back bytes added = back-by (is_ended bytes) bytes added refl

-- the columns of a record whose last field is ended
pub ended-columns : (fields : List ℕ) → columns_of (fields ++ 13 ∷ []) ≡ ((34 ∷ flat_map piece fields) ++ 34 ∷ []) ++ 44 ∷ mark_of true
ended-columns fields =
    let bytes : List ℕ = fields ++ 13 ∷ [] in
    let place : length bytes - 1 ≡ length fields = omega (arith, length-append fields (13 ∷ [])) in
    let is : is_ended bytes ≡ true =
    ap (λ (b : ℕ). nat_eq b 13) (ap (λ (i : ℕ). slice_index bytes i) place ∙ get_or-append_seam fields 13 [] 0) in
    ap (λ (p : Bool). (34 ∷ flat_map piece (if p then take (length bytes - 1) bytes else bytes)) ++ (codes "\"," ++ mark_of p)) is
    ∙ ap (λ (n : ℕ). (34 ∷ flat_map piece (take n bytes)) ++ (codes "\"," ++ mark_of true)) place
    ∙ ap (λ (l : List ℕ). (34 ∷ flat_map piece l) ++ (codes "\"," ++ mark_of true)) (take-append_seam fields (13 ∷ []))
    ∙ seam (34 ∷ flat_map piece fields) (mark_of true)
