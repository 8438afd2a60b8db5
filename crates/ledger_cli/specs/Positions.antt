-- The columns that the words ask for. Our own.
use Rattle.std.specs.Prelude.{◌≡◌, ◌≤◌, ℕ, List, Option, Some, None, Result, Ok, Err, codes, decimal, false, map, true}
use Rattle.std.specs.List.{AllByRecursion}
use Rattle.clap.specs.Words.{Row, Text, first_of}
use Rattle.request_cards.specs.Texts.{commas}
use Rattle.line_text.specs.columns.Positions.{ArePositions, starts}
use Rattle.file_rescues.specs.declared.forms.ColumnForm.{ColumnForm}
use Rattle.file_rescues.specs.declared.forms.ColumnForm.TheVariants as forms
use Rattle.ledger_cli.specs.Flags.{is_given}
use Rattle.ledger_cli.specs.declared.faults.JobFault.{JobFault}
use Rattle.ledger_cli.specs.declared.faults.JobFault.TheVariants as faults

-- A text lists these positions: numbers of 1 to 254 without leading zeros, with a comma between two.
pub record AreListed (text : Text) (ps : List ℕ) : Type 0 where
  pub is : text ≡ commas (map decimal ps)
  pub small : AllByRecursion (λ p. (1 ≤ p) × (p ≤ 254)) ps
  pub are : ArePositions ps

-- the words ask for no columns
pub record AsksForNone (rows : List Row) : Type 0 where
  pub fields : is_given (codes "fields") rows ≡ false
  pub at : first_of (codes "POSITIONS") rows ≡ None

-- the words give positions, and don't ask for fields
pub record AsksFor (rows : List Row) (text : Text) : Type 0 where
  pub fields : is_given (codes "fields") rows ≡ false
  pub at : first_of (codes "POSITIONS") rows ≡ Some text

-- the words ask for columns in this form
abbrev pub AsksForColumns : List Row → ColumnForm → Type 0
AsksForColumns rows forms.Fields = (is_given (codes "fields") rows ≡ true) × (first_of (codes "POSITIONS") rows ≡ None)
AsksForColumns rows (forms.At positions) = (text : Text) × AsksFor rows text × AreListed text (starts positions)

-- no columns are made: the words ask for both forms, or what they give as positions is none
abbrev pub HasNoColumns : List Row → JobFault → Type 0
HasNoColumns rows faults.Flags =
    (text : Text) × (is_given (codes "fields") rows ≡ true) × (first_of (codes "POSITIONS") rows ≡ Some text)
HasNoColumns rows faults.Positions = (text : Text) × AsksFor rows text × ((ps : List ℕ) → ¬ (AreListed text ps))
HasNoColumns rows _ = ⊥

-- the columns that the words ask for, or why there are none
abbrev pub AreAsked : List Row → Result (Option ColumnForm) JobFault → Type 0
AreAsked rows (Ok None) = AsksForNone rows
AreAsked rows (Ok (Some form)) = AsksForColumns rows form
AreAsked rows (Err fault) = HasNoColumns rows fault
