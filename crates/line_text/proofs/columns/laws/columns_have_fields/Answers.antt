-- Field by field.
use Rattle.std.proofs.Common.{◌≡◌, ◌≢◌, [], ◌∷◌, ◌++◌, ◌∙◌, List, ap, refl, true, ℕ}
use Rattle.std.specs.Prelude.{flat_map}
use Rattle.std.specs.List.{AllByRecursion}
use Rattle.line_text.specs.columns.Columns.{IsField, columns_of, columns_of_fields, ended, mark_of}
use Rattle.line_text.proofs.lemmas.columns.Ends.{ended-columns}
use Rattle.line_text.proofs.lemmas.columns.Fields.{have-fields, joined, joined-ended}
use Rattle.line_text.proofs.columns.laws.columns_have_fields.Goals as goal

all-fields : (fields : List (List ℕ)) → AllByRecursion IsField fields → fields ≢ []
    → columns_of (flat_map ended fields) ≡ columns_of_fields fields ++ 44 ∷ mark_of true
all-fields [] all some = absurd (some refl)
all-fields (field ∷ fields) all some =
    ap columns_of (joined-ended field fields) ∙ ended-columns (joined field fields)
    ∙ ap (λ (t : List ℕ). t ++ 44 ∷ mark_of true) (have-fields field fields all)

pub returns : goal.returns
returns c = all-fields
