-- What the words ask to be printed of an image. Our own.
use Rattle.std.specs.Prelude.{◌≡◌, ◌<◌, List, None, Option, Some, codes, false, if◌then◌else◌, length, true, ⊤}
use Rattle.clap.specs.Words.{Row, Text}
use Rattle.command_table.specs.Grammar.{value, values}
use Rattle.file_changes.specs.Names.{IsNameOf, name_bytes}
use Rattle.disk_reports.specs.declared.plans.PlanForm.{PlanForm}
use Rattle.disk_reports.specs.declared.plans.PlanForm.TheVariants as plans
use Rattle.file_rescues.specs.declared.forms.FileForm.TheVariants as files
use Rattle.image_looks.specs.declared.kinds.DiskLook.{DiskLook}
use Rattle.image_looks.specs.declared.kinds.DiskLook.TheVariants as disks
use Rattle.image_looks.specs.declared.kinds.Look.{Look}
use Rattle.image_looks.specs.declared.kinds.Look.TheVariants as looks
use Rattle.image_looks.specs.declared.objects.ImageObject.{ImageObject}
use Rattle.image_looks.specs.declared.objects.ImageObject.TheVariants as objects
use Rattle.ledger_cli.specs.Flags.{is_given}
use Rattle.ledger_cli.specs.Forms.{IsRecordForm, byte_form_in, candidates_in, loss_in, name_form_in}
use Rattle.ledger_cli.specs.Numbers.{place_in}

-- the subcommand that prints this of a disk
abbrev pub disk_word : DiskLook → Text
disk_word (disks.List form) = codes "list"
disk_word disks.Check = codes "check"
disk_word disks.Faults = codes "check"
disk_word (disks.Show loss) = codes "show"

-- the subcommand that prints this
abbrev pub word_of : Look → Text
word_of (looks.List form) = codes "list"
word_of looks.Check = codes "check"
word_of looks.Faults = codes "check"
word_of (looks.Show loss) = codes "show"
word_of (looks.AsIs what) = disk_word what
word_of looks.Map = codes "map"
word_of looks.Picture = codes "picture"
word_of looks.Poster = codes "picture"
word_of looks.Free = codes "free"
word_of (looks.Sector place) = codes "sector"
word_of (looks.Records form candidates name) = codes "records"
word_of (looks.Bytes (files.Bytes form) candidates name) = codes "bytes"
word_of (looks.Bytes files.Listing candidates name) = codes "basic"

-- this look at a disk alone
abbrev pub alone : DiskLook → Look
alone (disks.List form) = looks.List form
alone disks.Check = looks.Check
alone disks.Faults = looks.Faults
alone (disks.Show loss) = looks.Show loss

-- how a plan is to be printed: in lines, unless --json or --csv is given; --json wins over --csv
abbrev pub plan_in : List Row → PlanForm
plan_in rows =
    if is_given (codes "json") rows then plans.Json
    else (if is_given (codes "csv") rows then plans.Csv else plans.Lines)

-- no objects of JSON are asked for
abbrev pub IsPlain : List Row → Type 0
IsPlain rows = is_given (codes "json") rows ≡ false

-- nor a table
abbrev pub IsText : List Row → Type 0
IsText rows = IsPlain rows × (is_given (codes "csv") rows ≡ false)

-- the values and the flags ask for this of a disk; with --json or --csv images are described in place of it
abbrev pub IsDiskAsked : DiskLook → List Row → Type 0
IsDiskAsked (disks.List form) rows = (form ≡ name_form_in rows) × IsPlain rows
IsDiskAsked disks.Check rows = IsText rows × (is_given (codes "all") rows ≡ false)
IsDiskAsked disks.Faults rows = IsText rows × (is_given (codes "all") rows ≡ true)
IsDiskAsked (disks.Show loss) rows = (loss ≡ loss_in rows) × IsPlain rows

-- of a disk alone
abbrev pub IsAloneAsked : DiskLook → List Row → Type 0
IsAloneAsked what rows = (is_given (codes "as-is") rows ≡ false) × IsDiskAsked what rows

-- the values and the flags ask for this
abbrev pub IsAskedBy : Look → List Row → Type 0
IsAskedBy (looks.List form) rows = IsAloneAsked (disks.List form) rows
IsAskedBy looks.Check rows = IsAloneAsked disks.Check rows
IsAskedBy looks.Faults rows = IsAloneAsked disks.Faults rows
IsAskedBy (looks.Show loss) rows = IsAloneAsked (disks.Show loss) rows
IsAskedBy (looks.AsIs what) rows = (is_given (codes "as-is") rows ≡ true) × IsDiskAsked what rows
IsAskedBy looks.Free rows = IsPlain rows
IsAskedBy looks.Map rows = IsPlain rows
IsAskedBy looks.Picture rows = is_given (codes "svg") rows ≡ false
IsAskedBy looks.Poster rows = is_given (codes "svg") rows ≡ true
IsAskedBy (looks.Sector place) rows = place_in rows ≡ Some place
IsAskedBy (looks.Records form candidates name) rows = IsNameOf (value (codes "NAME") rows) (name_bytes name)
    × IsRecordForm rows form × (candidates ≡ candidates_in rows)
IsAskedBy (looks.Bytes (files.Bytes form) candidates name) rows = IsNameOf (value (codes "NAME") rows) (name_bytes name)
    × (form ≡ byte_form_in rows) × (candidates ≡ candidates_in rows)
IsAskedBy (looks.Bytes files.Listing candidates name) rows = IsNameOf (value (codes "NAME") rows) (name_bytes name)
    × (candidates ≡ candidates_in rows)

-- the subcommand that shows images as this object
abbrev pub object_word : ImageObject → Text
object_word (objects.Check as_is) = codes "check"
object_word (objects.List as_is) = codes "list"
object_word objects.Free = codes "free"
object_word objects.Map = codes "map"
object_word (objects.Show loss as_is) = codes "show"

-- the values and the flags ask for this object
abbrev pub IsObjectAsked : ImageObject → List Row → Type 0
IsObjectAsked (objects.Check as_is) rows = as_is ≡ is_given (codes "as-is") rows
IsObjectAsked (objects.List as_is) rows = as_is ≡ is_given (codes "as-is") rows
IsObjectAsked objects.Free rows = ⊤
IsObjectAsked objects.Map rows = ⊤
IsObjectAsked (objects.Show loss as_is) rows = (loss ≡ loss_in rows) × (as_is ≡ is_given (codes "as-is") rows)

-- there is one image
abbrev pub IsOne : List Row → Type 0
IsOne rows = length (values (codes "IMAGE") rows) < 2

-- neither a sheet nor a comparison is asked for, and there is one image
abbrev pub IsForOne : List Row → Type 0
IsForOne rows = (is_given (codes "sheet") rows ≡ false) × (is_given (codes "compare") rows ≡ false) × IsOne rows

-- where several images may be given of which this is printed, there is one
abbrev pub IsAlone : Look → List Row → Type 0
IsAlone (looks.List form) rows = IsOne rows
IsAlone looks.Check rows = IsOne rows
IsAlone looks.Faults rows = IsOne rows
IsAlone (looks.Show loss) rows = IsOne rows
IsAlone (looks.AsIs what) rows = IsOne rows
IsAlone looks.Map rows = IsOne rows
IsAlone looks.Free rows = IsOne rows
IsAlone looks.Picture rows = IsForOne rows
IsAlone looks.Poster rows = IsForOne rows
IsAlone _ rows = ⊤
