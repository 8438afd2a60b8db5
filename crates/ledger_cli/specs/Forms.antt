-- The forms that the words ask for. Our own.
use Rattle.std.specs.Prelude.{◌≡◌, List, Option, Some, None, Result, Ok, Err, codes, if◌then◌else◌}
use Rattle.std.specs.Borrow.{Bor}
use Rattle.clap.specs.Words.{Row, Text}
use Rattle.image_edits.specs.declared.effect.Effect.{Effect}
use Rattle.ledger_jobs.specs.declared.jobs.Job.{Job}
use Rattle.damaged_files.specs.declared.sides.planning.Loss.{Loss}
use Rattle.disk_changes.specs.declared.changes.Unowned.{Unowned}
use Rattle.file_rescues.specs.declared.rescue.choices.Choice.{Choice}
use Rattle.file_rescues.specs.declared.finding.Candidates.{Candidates}
use Rattle.file_rescues.specs.declared.forms.ByteForm.{ByteForm}
use Rattle.file_rescues.specs.declared.forms.RecordForm.{RecordForm}
use Rattle.disk_changes.specs.declared.changes.Columns.{Columns}
use Rattle.line_text.specs.declared.petscii.characters.CharacterSet.{CharacterSet}
use Rattle.line_text.specs.declared.petscii.characters.CharacterSet.TheVariants.{Graphics, Mixed}
use Rattle.disk_reports.specs.declared.texts.NameForm.{NameForm}
use Rattle.ledger_cli.specs.Flags.{is_given}
use Rattle.ledger_cli.specs.Positions.{AsksForColumns, AsksForNone, HasNoColumns}
use Rattle.ledger_cli.specs.declared.faults.JobFault.{JobFault}
use Rattle.disk_changes.specs.declared.changes.ChangeKind.TheVariants as kinds
use Rattle.image_edits.specs.declared.effect.Effect.TheVariants as effects
use Rattle.ledger_jobs.specs.declared.jobs.Job.TheVariants as jobs
use Rattle.damaged_files.specs.declared.sides.planning.Loss.TheVariants as losses
use Rattle.disk_changes.specs.declared.changes.Unowned.TheVariants as unowneds
use Rattle.file_rescues.specs.declared.finding.Candidates.TheVariants.{All, Closed}
use Rattle.file_rescues.specs.declared.forms.ByteForm.TheVariants as bytes
use Rattle.file_rescues.specs.declared.forms.RecordForm.TheVariants as records
use Rattle.disk_changes.specs.declared.changes.Columns.TheVariants as columns
use Rattle.disk_reports.specs.declared.texts.NameForm.TheVariants as names

-- the set of the text that is asked for: with --mixed the one with small letters, with only --text the other
abbrev pub set_in : List Row → Option CharacterSet
set_in rows =
    if is_given (codes "mixed") rows then Some Mixed
    else (if is_given (codes "text") rows then Some Graphics else None)

-- the form with this text, or the one that is printed without
abbrev pub record_form : Option CharacterSet → RecordForm
record_form None = records.Lines
record_form (Some set) = records.Text set

-- the form of bytes with this text, or the one that is printed without
abbrev pub byte_form : Option CharacterSet → ByteForm
byte_form None = bytes.Plain
byte_form (Some set) = bytes.Text set

-- the form of names with this text, or the one that is printed without
abbrev pub name_form : Option CharacterSet → NameForm
name_form None = names.Ascii
name_form (Some set) = names.Text set

-- the words ask for this form of records: with several columns, or without, and then maybe as text
abbrev pub IsRecordForm : List Row → RecordForm → Type 0
IsRecordForm rows (records.Columns form) = AsksForColumns rows form
IsRecordForm rows form = AsksForNone rows × (form ≡ record_form (set_in rows))

-- the column of lines that are typed in this text, or the one that is read without
abbrev pub text_columns : Option CharacterSet → Columns
text_columns None = columns.One
text_columns (Some set) = columns.Text set

-- the columns that records are read in: several, or one, and then maybe typed
abbrev pub AreColumns : List Row → Columns → Type 0
AreColumns rows (columns.Several form) = AsksForColumns rows form
AreColumns rows form = AsksForNone rows × (form ≡ text_columns (set_in rows))

-- the form of records that the words ask for, or why there is none
abbrev pub IsAskedForm : List Row → Result RecordForm JobFault → Type 0
IsAskedForm rows (Ok form) = IsRecordForm rows form
IsAskedForm rows (Err fault) = HasNoColumns rows fault

-- the columns that records are read in, or why there are none
abbrev pub AreAskedColumns : List Row → Result Columns JobFault → Type 0
AreAskedColumns rows (Ok columns) = AreColumns rows columns
AreAskedColumns rows (Err fault) = HasNoColumns rows fault

-- the form of bytes that the flags ask for
abbrev pub byte_form_in : List Row → ByteForm
byte_form_in rows = byte_form (set_in rows)

-- which files may be found by their name: closed ones, but with --unclosed all
abbrev pub candidates_in : List Row → Candidates
candidates_in rows = if is_given (codes "unclosed") rows then All else Closed

-- which entries are taken out: with --scan those of other sectors too, with --deleted the deleted ones too
abbrev pub choice_in : List Row → Choice
choice_in rows = record { scanned = is_given (codes "scan") rows; deleted = is_given (codes "deleted") rows }

-- the form of names that the flags ask for
abbrev pub name_form_in : List Row → NameForm
name_form_in rows = name_form (set_in rows)

-- what is done if a disk has lost a part of a file, or an image its log: the job is refused, but with --accept-loss it goes on
abbrev pub loss_in : List Row → Loss
loss_in rows = if is_given (codes "accept-loss") rows then losses.Accepted else losses.Refused

-- what a repair does with sectors that are taken and no file's: they are kept, but with --free they are freed
abbrev pub unowned_in : List Row → Unowned
unowned_in rows = if is_given (codes "free") rows then unowneds.Freed else unowneds.Kept

-- whether it writes the image: it does, but with --dry-run it only prints
abbrev pub effect_in : List Row → Effect
effect_in rows = if is_given (codes "dry-run") rows then effects.Printed else effects.Written
