-- The bytes of a record's columns: no LF, no CR at their end, and the record.
use Rattle.std.proofs.Common.{◌≡◌, ◌≤◌, ◌∙◌, ℕ, List, [], ◌∷◌, ◌++◌, Bool, true, false, ap, arith, length, map, refl, sym}
use Rattle.std.specs.Prelude.{◌==◌, codes, flat_map, if◌then◌else◌, nat_eq, slice_index}
use Rattle.std.proofs.lemmas.List.{append_assoc, append-nil}
use Rattle.line_text.specs.bytes.Texts.{byte_text, is_plain, text_of, trimmed}
use Rattle.line_text.proofs.lemmas.columns.Ends.{comes-back}
use Rattle.line_text.proofs.lemmas.columns.PiecesBack.{pieces-back}
use Rattle.line_text.specs.columns.Columns.{columns_of, columns_of_fields, columns_text, fields_of, is_ended, mark_of, piece}
use Rattle.line_text.specs.columns.Columns.{quoted}
use Rattle.line_text.specs.columns.Pieces.{piece_columns, pieces}
use Rattle.line_text.specs.columns.Positions.{starts}
use Rattle.line_text.proofs.lemmas.scripts.Lines.{Lacks}
use Rattle.disk_changes.proofs.lemmas.lines.Lined.{chosen-lacks, lacks-both, text-lacks}
use Rattle.disk_changes.specs.lines.ColumnLines.{record_text}
use Rattle.file_rescues.specs.Forms.{HasPositions, columns_as}
use Rattle.file_rescues.specs.declared.forms.ColumnForm.{ColumnForm}
use Rattle.file_rescues.specs.declared.forms.ColumnForm.TheVariants as forms

piece-lacks : (p : Bool) (b : ℕ) → Lacks 10 (if p then codes "\",\"" else byte_text b)
piece-lacks true b = ((λ is. omega (arith, is)), ((λ is. omega (arith, is)), ((λ is. omega (arith, is)), tt)))
piece-lacks false b = chosen-lacks (is_plain b) b refl

pieces-lack : (bytes : List ℕ) → Lacks 10 (flat_map piece bytes)
pieces-lack [] = tt
pieces-lack (b ∷ bytes) = lacks-both (piece b) (flat_map piece bytes) (piece-lacks (nat_eq b 13) b) (pieces-lack bytes)

end-lacks : (p : Bool) → Lacks 10 (codes "\"," ++ mark_of p)
end-lacks true =
    ((λ is. omega (arith, is)), ((λ is. omega (arith, is)), ((λ is. omega (arith, is)), ((λ is. omega (arith, is)), tt))))
end-lacks false =
    ((λ is. omega (arith, is)), ((λ is. omega (arith, is)), ((λ is. omega (arith, is)), ((λ is. omega (arith, is)), tt))))

fields-lack : (bytes : List ℕ) → Lacks 10 (columns_of bytes)
fields-lack bytes =
    lacks-both (34 ∷ flat_map piece (fields_of bytes)) (codes "\"," ++ mark_of (is_ended bytes))
    ((λ is. omega (arith, is)), pieces-lack (fields_of bytes)) (end-lacks (is_ended bytes))

-- the columns of pieces likewise
mark-lacks : (xs : List ℕ) → Lacks 10 xs → Lacks 10 (34 ∷ (xs ++ 34 ∷ []))
mark-lacks xs lacks = ((λ is. omega (arith, is)), lacks-both xs (34 ∷ []) lacks ((λ is. omega (arith, is)), tt))

quoted-lacks : (fields : List (List ℕ)) → Lacks 10 (columns_of_fields fields)
unfolding columns_of_fields
quoted-lacks [] = tt
quoted-lacks (field ∷ []) = mark-lacks (text_of field) (text-lacks field)
quoted-lacks (field ∷ (next ∷ fields)) = lacks-both (quoted field) (44 ∷ columns_of_fields (next ∷ fields))
    (mark-lacks (text_of field) (text-lacks field)) ((λ is. omega (arith, is)), quoted-lacks (next ∷ fields))

pub form-lacks : (form : ColumnForm) (r : List ℕ) → Lacks 10 (columns_as form r)
form-lacks forms.Fields r = fields-lack (trimmed r)
form-lacks (forms.At positions) r = quoted-lacks (map trimmed (pieces (starts positions) r))

-- what is the last byte of columns, and no CR
pub record Ends (line : List ℕ) : Type 0 where
  pub front : List ℕ
  pub last : ℕ
  pub is : line ≡ front ++ last ∷ []
  pub other : (last == 13) ≡ false

marked-end : (p : Bool) (front : List ℕ) → Ends (front ++ (codes "\"," ++ mark_of p))
marked-end true front = record {
  front = front ++ 34 ∷ 44 ∷ 92 ∷ [];
  last = 46;
  is = sym (append_assoc front (34 ∷ 44 ∷ 92 ∷ []) (46 ∷ []));
  other = refl;
}
marked-end false front = record {
  front = front ++ 34 ∷ 44 ∷ 92 ∷ [];
  last = 45;
  is = sym (append_assoc front (34 ∷ 44 ∷ 92 ∷ []) (45 ∷ []));
  other = refl;
}

quoted-end : (field : List ℕ) (fields : List (List ℕ)) → Ends (columns_of_fields (field ∷ fields))
unfolding columns_of_fields
quoted-end field [] = record { front = 34 ∷ text_of field; last = 34; is = refl; other = refl }
quoted-end field (next ∷ fields) = let e = quoted-end next fields in record {
  front = quoted field ++ 44 ∷ e.front;
  last = e.last;
  is = ap (λ (t : List ℕ). quoted field ++ 44 ∷ t) e.is ∙ sym (append_assoc (quoted field) (44 ∷ e.front) (e.last ∷ []));
  other = e.other;
}

some-end : (fields : List (List ℕ)) → 1 ≤ length fields → Ends (columns_of_fields fields)
some-end [] some = absurd (omega (arith, some))
some-end (field ∷ fields) some = quoted-end field fields

some-piece : (p : ℕ) (ps r : List ℕ) → 1 ≤ length (map trimmed (pieces (p ∷ ps) r))
unfolding pieces
some-piece p [] r = omega arith
some-piece p (q ∷ ps) r = omega arith

placed-end : (ps r : List ℕ) → slice_index ps 0 ≡ 1 → Ends (piece_columns ps r)
placed-end [] r first = absurd (omega (arith, first))
placed-end (p ∷ ps) r first = some-end (map trimmed (pieces (p ∷ ps) r)) (some-piece p ps r)

pub columns-end : (form : ColumnForm) (r : List ℕ) → HasPositions form → Ends (columns_as form r)
columns-end forms.Fields r has = marked-end (is_ended (trimmed r)) (34 ∷ flat_map piece (fields_of (trimmed r)))
columns-end (forms.At positions) r has = placed-end (starts positions) r has.first

-- they are read as the record
pub columns-back : (form : ColumnForm) (r : List ℕ) → HasPositions form
    → record_text form (columns_as form r) ≡ text_of (trimmed r)
columns-back forms.Fields r has =
    ap columns_text (sym (append-nil (columns_of (trimmed r)))) ∙ comes-back (trimmed r) 0
columns-back (forms.At positions) r has = pieces-back (starts positions) r has.first has.rising
