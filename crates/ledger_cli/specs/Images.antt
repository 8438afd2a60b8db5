-- The images that the words give. Our own.
use Rattle.std.specs.Prelude.{◌≡◌, ◌≤◌, ◌&&◌, ◌||◌, Bool, true, false, List, [], ◌∷◌, codes, if◌then◌else◌, length, map, nat_eq, nat_le, nat_lt, not}
use Rattle.std.specs.Borrow.{Bor}
use Rattle.clap.specs.Words.{Row, Text}
use Rattle.command_table.specs.Grammar.{values}
use Rattle.disk_reports.specs.declared.plans.PlanForm.{PlanForm}
use Rattle.ledger_cli.specs.Looks.{IsPlain, plan_in}
use Rattle.ledger_cli.specs.Flags.{is_given}

-- two of --svg, --sheet and --compare are given
abbrev pub has_two_forms : List Row → Bool
has_two_forms rows =
    (is_given (codes "svg") rows && (is_given (codes "sheet") rows || is_given (codes "compare") rows))
    || (is_given (codes "sheet") rows && is_given (codes "compare") rows)

-- these two are the images that are to be compared, before and after, and no other form is asked for
abbrev pub AreCompared : List Row → (before after : Text) → Type 0
AreCompared rows before after = (has_two_forms rows ≡ false) × (is_given (codes "compare") rows ≡ true)
    × (values (codes "IMAGE") rows ≡ before ∷ after ∷ [])

-- these are the images, in their order, for a sheet that has room for them, and no other form is asked for
abbrev pub AreOnSheet : List Row → List (Bor Text) → Type 0
AreOnSheet rows images = (has_two_forms rows ≡ false) × (is_given (codes "sheet") rows ≡ true)
    × (map (λ image. image.now) images ≡ values (codes "IMAGE") rows) × (length images ≤ 400)

-- there is no picture of these images: two forms are asked for; or there are too many for a sheet, or not two to be compared,
-- or several and neither is asked for
abbrev pub is_no_picture : List Row → Bool
is_no_picture rows =
    let n = length (values (codes "IMAGE") rows) in
    has_two_forms rows
    || (if is_given (codes "sheet") rows then nat_lt 400 n
    else (if is_given (codes "compare") rows then not (nat_eq n 2) else nat_le 2 n))

-- these are the images, in their order, and there are several
abbrev pub AreImages : List Row → List (Bor Text) → Type 0
AreImages rows images = (map (λ image. image.now) images ≡ values (codes "IMAGE") rows) × (2 ≤ length images)

-- a table of these images is asked for, in their order
abbrev pub AreTabled : List Row → List (Bor Text) → Type 0
AreTabled rows images = IsPlain rows × (is_given (codes "csv") rows ≡ true)
    × (map (λ image. image.now) images ≡ values (codes "IMAGE") rows)

-- an object of JSON is asked for of each of these images, in their order
abbrev pub AreShown : List Row → List (Bor Text) → Type 0
AreShown rows images = (is_given (codes "json") rows ≡ true)
    × (map (λ image. image.now) images ≡ values (codes "IMAGE") rows)

-- they are to be planned in this form, and these are the images, in their order
abbrev pub ArePlanned : List Row → PlanForm → List (Bor Text) → Type 0
ArePlanned rows form images = (plan_in rows ≡ form) × (map (λ image. image.now) images ≡ values (codes "IMAGE") rows)
