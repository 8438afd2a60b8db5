-- What the words of a command line ask for (our own).
use Rattle.std.specs.Prelude.{◌≡◌, ◌⊎◌, ◌||◌, ⊤, Bool, true, false, List, MatchResult, Option, Some, None, Result, Err, [], ◌∷◌, codes}
use Rattle.std.specs.Prelude.{length, vec_items}
use Rattle.std.specs.Option.{option_map_or}
use Rattle.clap.specs.Words.{HasKind, Kinds, Row, Text, found_of, rows_of, subcommand_rows_of}
use Rattle.clap.specs.declared.parser.matches.ArgMatches.{ArgMatches}
use Rattle.command_table.specs.Grammar.{value}
use Rattle.disk_changes.specs.declared.changes.ChangeKind.{ChangeKind}
use Rattle.disk_changes.specs.declared.changes.ChangeKind.TheVariants as kinds
use Rattle.disk_changes.specs.declared.changes.Lock.{Lock}
use Rattle.disk_changes.specs.declared.changes.Lock.TheVariants.{Cleared, Set}
use Rattle.file_changes.specs.NewNames.{IsNewName}
use Rattle.ledger_jobs.specs.Jobs.{IsFit}
use Rattle.ledger_jobs.specs.declared.jobs.Job.{Job}
use Rattle.file_changes.specs.Names.{IsNameOf, name_bytes}
use Rattle.ledger_cli.specs.declared.faults.JobFault.{JobFault}
use Rattle.ledger_cli.specs.Numbers.{tills_in, length_in, place_in}
use Rattle.ledger_cli.specs.Forms.{AreColumns, choice_in, effect_in, loss_in, unowned_in}
use Rattle.ledger_cli.specs.Images.{AreCompared, AreImages, AreOnSheet, ArePlanned, AreShown, AreTabled, is_no_picture}
use Rattle.ledger_cli.specs.Looks.{IsAlone, IsAskedBy, IsObjectAsked, object_word, word_of}
use Rattle.ledger_cli.specs.Names.{IsIdOf, IsName, IsNameMissing, IsNewNameText, IsNoId, copy_name, entry_type_in, is_among, is_cvt, names_in, type_in}
use Rattle.ledger_cli.specs.Flags.{is_given}
use Rattle.ledger_cli.specs.Positions.{HasNoColumns}
use Rattle.ledger_jobs.specs.declared.jobs.Job.TheVariants as jobs
use Rattle.image_looks.specs.declared.descriptions.ImageForm.TheVariants as forms
use Rattle.ledger_cli.specs.declared.faults.JobFault.TheVariants as faults

-- the subcommand is this one, and of its values this holds
pub record Has (found : Option (Text × List Row)) (name : Text) (P : List Row → Type 0) : Type 0 where
  pub rows : List Row
  pub is : found ≡ Some (name, rows)
  pub holds : P rows

-- a parse of words in which nothing is wrong, and whose flags before the subcommand, and subcommand with its values,
-- are these
pub record IsParse (kinds : Kinds) (top : List Row) (found : Option (Text × List Row)) (matches : ArgMatches) : Type 0
  where
    pub fine : kinds ≡ []
    pub before : rows_of (found_of matches) ≡ top
    pub is : subcommand_rows_of matches ≡ found

-- the subcommand that locks a file, or unlocks it
abbrev pub lock_word : Lock → Text
lock_word Set = codes "lock"
lock_word Cleared = codes "unlock"

-- the subcommand that changes an image so
abbrev pub word_of_change : ChangeKind → Text
word_of_change (kinds.Repair unowned) = codes "repair"
word_of_change (kinds.RepairSides unowned) = codes "repair"
word_of_change (kinds.Make length name) = codes "make"
word_of_change (kinds.Rename from to) = codes "rename"
word_of_change (kinds.Title id name) = codes "title"
word_of_change (kinds.Lock lock name) = lock_word lock
word_of_change (kinds.Delete name) = codes "delete"
word_of_change (kinds.Undelete kind name) = codes "undelete"
word_of_change kinds.Sort = codes "sort"
word_of_change (kinds.Put file kind name) = codes "put"
word_of_change (kinds.PutGeos file name) = codes "put"
word_of_change (kinds.CopyFile from name to) = codes "copy-file"
word_of_change (kinds.Store records columns name) = codes "store"

-- the values and the flags ask for this change, and a new file can have each name that a file gets
abbrev pub IsChangeIn : ChangeKind → List Row → Type 0
IsChangeIn (kinds.Repair unowned) rows = (unowned ≡ unowned_in rows) × (is_given (codes "sides") rows ≡ false)
IsChangeIn (kinds.RepairSides unowned) rows = (unowned ≡ unowned_in rows) × (is_given (codes "sides") rows ≡ true)
IsChangeIn (kinds.Make length name) rows = IsNameOf (value (codes "NAME") rows) (name_bytes name)
    × IsNewName (name_bytes name) × (length_in rows ≡ Some length)
IsChangeIn (kinds.Rename from to) rows = IsNameOf (value (codes "OLD") rows) (name_bytes from)
    × IsNameOf (value (codes "NEW") rows) (name_bytes to) × IsNewName (name_bytes to)
IsChangeIn (kinds.Title id name) rows = IsNameOf (value (codes "NAME") rows) (name_bytes name)
    × IsIdOf (value (codes "ID") rows) id
IsChangeIn (kinds.Lock lock name) rows = IsNameOf (value (codes "NAME") rows) (name_bytes name)
IsChangeIn (kinds.Delete name) rows = IsNameOf (value (codes "NAME") rows) (name_bytes name)
IsChangeIn (kinds.Undelete kind name) rows = IsNameOf (value (codes "NAME") rows) (name_bytes name)
    × (entry_type_in rows ≡ Some kind)
IsChangeIn kinds.Sort rows = ⊤
IsChangeIn (kinds.Put file kind name) rows = IsNameOf (value (codes "NAME") rows) (name_bytes name)
    × IsNewName (name_bytes name) × (file.now ≡ value (codes "FILE") rows) × (type_in rows ≡ Some kind)
IsChangeIn (kinds.PutGeos file name) rows = IsNameOf (value (codes "NAME") rows) (name_bytes name)
    × IsNewName (name_bytes name) × (file.now ≡ value (codes "FILE") rows) × (is_cvt rows ≡ true)
IsChangeIn (kinds.CopyFile from name to) rows = IsNameOf (value (codes "NAME") rows) (name_bytes name)
    × IsNameOf (copy_name rows) (name_bytes to) × IsNewName (name_bytes to) × (from.now ≡ value (codes "FROM") rows)
IsChangeIn (kinds.Store records columns name) rows = IsNameOf (value (codes "NAME") rows) (name_bytes name)
    × (records.now ≡ value (codes "RECORDS") rows) × AreColumns rows columns

-- the words ask for more lines if the job isn't done, before the subcommand or after it
abbrev pub is_explained : List Row → Option (Text × List Row) → Bool
is_explained top found =
    is_given (codes "explain") top || option_map_or (λ f. is_given (codes "explain") f.1) found false

-- the request for more lines was heard; if the words are refused, it is ignored
abbrev pub IsHeard : Result Job JobFault → (asked heard : Bool) → Type 0
IsHeard (Err (faults.Words e)) asked heard = heard ≡ true → asked ≡ true
IsHeard _ asked heard = heard ≡ asked

-- the job of a subcommand and its values
abbrev pub IsJob : Option (Text × List Row) → Job → Type 0
IsJob found (jobs.Format image tills) = Has found (codes "format")
    (λ rows. (image.now ≡ value (codes "IMAGE") rows) × (tills_in rows ≡ Some tills)
    × (is_given (codes "new") rows ≡ false))
IsJob found (jobs.FormatNew image tills) = Has found (codes "format")
    (λ rows. (image.now ≡ value (codes "IMAGE") rows) × (tills_in rows ≡ Some tills)
    × (is_given (codes "new") rows ≡ true))
IsJob found (jobs.Look image what) = Has found (word_of what)
    (λ rows. (image.now ≡ value (codes "IMAGE") rows) × IsAlone what rows × IsAskedBy what rows)
IsJob found (jobs.Describe forms.Table images) = Has found (codes "check")
    (λ rows. (is_given (codes "as-is") rows ≡ false) × AreTabled rows (vec_items images))
IsJob found (jobs.Describe forms.TableAsIs images) = Has found (codes "check")
    (λ rows. (is_given (codes "as-is") rows ≡ true) × AreTabled rows (vec_items images))
IsJob found (jobs.Describe (forms.Planned form) images) = Has found (codes "plan")
    (λ rows. ArePlanned rows form (vec_items images))
IsJob found (jobs.Describe (forms.Shown object) images) = Has found (object_word object)
    (λ rows. IsObjectAsked object rows × AreShown rows (vec_items images))
IsJob found (jobs.Sheet images) = Has found (codes "picture") (λ rows. AreOnSheet rows (vec_items images))
IsJob found (jobs.Compare before after) = Has found (codes "picture") (λ rows. AreCompared rows before.now after.now)
IsJob found (jobs.Trim image) = Has found (codes "trim") (λ rows. image.now ≡ value (codes "IMAGE") rows)
IsJob found (jobs.Several what images) = Has found (word_of what)
    (λ rows. AreImages rows (vec_items images) × IsAskedBy what rows)
IsJob found (jobs.Play image script loss) = Has found (codes "play")
    (λ rows. (image.now ≡ value (codes "IMAGE") rows) × (script.now ≡ value (codes "SCRIPT") rows)
    × (loss ≡ loss_in rows) × (is_given (codes "sync") rows ≡ false))
IsJob found (jobs.PlayLogged image script loss) = Has found (codes "play")
    (λ rows. (image.now ≡ value (codes "IMAGE") rows) × (script.now ≡ value (codes "SCRIPT") rows)
    × (loss ≡ loss_in rows) × (is_given (codes "sync") rows ≡ true))
IsJob found (jobs.Dry script) = Has found (codes "dry") (λ rows. script.now ≡ value (codes "SCRIPT") rows)
IsJob found (jobs.Serve image loss) = Has found (codes "serve")
    (λ rows. (image.now ≡ value (codes "IMAGE") rows) × (loss ≡ loss_in rows))
IsJob found (jobs.Copy image copy) = Has found (codes "copy")
    (λ rows. (image.now ≡ value (codes "IMAGE") rows) × (copy.now ≡ value (codes "NEW") rows)
    × (is_given (codes "log") rows ≡ false))
IsJob found (jobs.Salvage log copy) = Has found (codes "copy")
    (λ rows. (log.now ≡ value (codes "IMAGE") rows) × (copy.now ≡ value (codes "NEW") rows)
    × (is_given (codes "log") rows ≡ true))
IsJob found (jobs.Extract choice image folder) = Has found (codes "extract")
    (λ rows. (image.now ≡ value (codes "IMAGE") rows) × (folder.now ≡ value (codes "FOLDER") rows)
    × (choice ≡ choice_in rows))
IsJob found (jobs.Change image effect loss kind) = Has found (word_of_change kind)
    (λ rows. (image.now ≡ value (codes "IMAGE") rows) × IsChangeIn kind rows × (effect ≡ effect_in rows) × (loss ≡ loss_in rows))
IsJob found (jobs.New image name id) = Has found (codes "new")
    (λ rows. (image.now ≡ value (codes "IMAGE") rows) × IsNameOf (value (codes "NAME") rows) (name_bytes name)
    × IsIdOf (value (codes "ID") rows) id)

-- the subcommand is one of these, and of its values this holds
pub record HasAny (found : Option (Text × List Row)) (words : List Text) (P : List Row → Type 0) : Type 0 where
  pub word : Text
  pub rows : List Row
  pub is : found ≡ Some (word, rows)
  pub listed : is_among words word ≡ true
  pub holds : P rows

-- a text that the subcommand takes for a name is none
pub record IsRefusedName (found : Option (Text × List Row)) : Type 0 where
  pub word : Text
  pub rows : List Row
  pub is : found ≡ Some (word, rows)
  pub missing : IsNameMissing (names_in word rows)

-- the subcommand has columns, and its words give none
abbrev pub AreRefusedColumns : Option (Text × List Row) → JobFault → Type 0
AreRefusedColumns found fault = HasAny found (codes "records" ∷ codes "store" ∷ []) (λ rows. HasNoColumns rows fault)

-- why there is none: the words are refused for one of these kinds, or memory ran out. Or the number of tills, a name, the
-- length of a record, the sector, the ID of a disk, the type of a file or a list of positions isn't valid, or two flags
-- exclude one another. A path isn't looked at here
abbrev pub IsNoJob : Kinds → Option (Text × List Row) → JobFault → Type 0
IsNoJob kinds found (faults.Words e) = HasKind kinds e
IsNoJob kinds found faults.Tills = (kinds ≡ []) × Has found (codes "format") (λ rows. tills_in rows ≡ None)
IsNoJob kinds found faults.Name = (kinds ≡ []) × IsRefusedName found
IsNoJob kinds found faults.Length = (kinds ≡ []) × Has found (codes "make")
    (λ rows. IsNewNameText (value (codes "NAME") rows) × (length_in rows ≡ None))
IsNoJob kinds found faults.Sector = (kinds ≡ []) × Has found (codes "sector") (λ rows. place_in rows ≡ None)
IsNoJob kinds found faults.Images = (kinds ≡ []) × Has found (codes "picture") (λ rows. is_no_picture rows ≡ true)
IsNoJob kinds found faults.Id = (kinds ≡ []) × HasAny found (codes "new" ∷ codes "title" ∷ [])
    (λ rows. IsName (value (codes "NAME") rows) × IsNoId (value (codes "ID") rows))
IsNoJob kinds found faults.Kind = (kinds ≡ [])
    × (Has found (codes "put") (λ rows. IsNewNameText (value (codes "NAME") rows) × (is_cvt rows ≡ false) × (type_in rows ≡ None))
    ⊎ Has found (codes "undelete") (λ rows. entry_type_in rows ≡ None))
IsNoJob kinds found faults.Flags = (kinds ≡ []) × AreRefusedColumns found faults.Flags
IsNoJob kinds found faults.Positions = (kinds ≡ []) × AreRefusedColumns found faults.Positions
IsNoJob kinds found faults.Path = ⊥

-- what a subcommand with these values asks for: a job, or none
abbrev pub IsRead : (word : Text) → List Row → Result Job JobFault → Type 0
IsRead word rows result =
    MatchResult result (λ job. IsJob (Some (word, rows)) job × IsFit job) (IsNoJob [] (Some (word, rows)))
