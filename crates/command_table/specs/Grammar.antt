-- The words that the program takes (our own), as `clap` reads a command line.
use Rattle.std.specs.Prelude.{◌≡◌, List, Some, false, true, [], codes}
use Rattle.std.specs.Prelude.{unwrap_or}
use Rattle.clap.specs.declared.builder.action.ArgAction.TheVariants.{Append, SetTrue}
use Rattle.clap.specs.declared.builder.command.Command.{Command}
use Rattle.clap.specs.declared.builder.command.Command.TheViews.{out-Command}
use Rattle.clap.specs.Words.{App, Row, Rule, Text, all_of, app_of, first_of, new_app, new_rule, with_rule, with_subcommand}

-- a value that is required, shown by this name
abbrev pub required : Text → Rule
required id = record (new_rule id) { required = true }

-- the same, of which there may be several
abbrev pub required_several : Text → Rule
required_several id = record (required id) { action = Some Append }

-- a value that is required after two hyphens and this word: --tills TILLS
abbrev pub required_behind : Text → Text → Rule
required_behind word id = record (required id) { long = Some word }

-- a word after two hyphens that may stand there or not: --sync
abbrev pub flag : Text → Rule
flag word = record (new_rule word) { long = Some word; action = Some SetTrue }

-- a value after a word with two hyphens, which may stand there or not: --at 1,25,49
abbrev pub optional_behind : Text → Text → Rule
optional_behind word id = record (new_rule id) { long = Some word }

-- a subcommand that has columns for fields, if --fields is given, or at positions
abbrev pub may_have_columns : App → App
may_have_columns a = with_rule (with_rule a (flag (codes "fields"))) (optional_behind (codes "at") (codes "POSITIONS"))

-- a subcommand over an image: check IMAGE
abbrev pub over_image : Text → App
over_image name = with_rule (new_app name) (required (codes "IMAGE"))

-- a subcommand over an image, or over several: check IMAGE..
abbrev pub over_images : Text → App
over_images name = with_rule (new_app name) (required_several (codes "IMAGE"))

-- format IMAGE --tills TILLS [--new]
abbrev pub format : App
format = with_rule (with_rule (over_image (codes "format")) (required_behind (codes "tills") (codes "TILLS")))
    (flag (codes "new"))

-- a subcommand that prints or reads text of the disk, in one of two character sets, if --text or --mixed is given
abbrev pub may_be_text : App → App
may_be_text a = with_rule (with_rule a (flag (codes "text"))) (flag (codes "mixed"))

-- a subcommand that takes an image of more tracks, or with error bytes, if --as-is is given
abbrev pub may_be_as_is : App → App
may_be_as_is a = with_rule a (flag (codes "as-is"))

-- a subcommand that prints an object of JSON for each image, if --json is given
abbrev pub may_be_json : App → App
may_be_json a = with_rule a (flag (codes "json"))

-- list IMAGE.. [--json] [--text] [--mixed] [--as-is]
abbrev pub list : App
list = may_be_as_is (may_be_text (may_be_json (over_images (codes "list"))))

-- check IMAGE.. [--json] [--csv] [--all] [--as-is]
abbrev pub check : App
check = may_be_as_is (with_rule (with_rule (may_be_json (over_images (codes "check"))) (flag (codes "csv")))
    (flag (codes "all")))

-- plan IMAGE.. [--json] [--csv]
abbrev pub plan : App
plan = with_rule (may_be_json (over_images (codes "plan"))) (flag (codes "csv"))

-- a subcommand that goes on where a disk has lost a part of a file, or an image its log, if --accept-loss is given
abbrev pub may_accept_loss : App → App
may_accept_loss a = with_rule a (flag (codes "accept-loss"))

-- show IMAGE.. [--json] [--accept-loss] [--as-is]
abbrev pub show : App
show = may_be_as_is (may_accept_loss (may_be_json (over_images (codes "show"))))

-- play IMAGE SCRIPT [--sync] [--accept-loss]
abbrev pub play : App
play = may_accept_loss (with_rule (with_rule (over_image (codes "play")) (required (codes "SCRIPT")))
    (flag (codes "sync")))

-- serve IMAGE [--accept-loss]
abbrev pub serve : App
serve = may_accept_loss (over_image (codes "serve"))

-- copy IMAGE NEW [--log]
abbrev pub copy : App
copy = with_rule (with_rule (over_image (codes "copy")) (required (codes "NEW"))) (flag (codes "log"))

-- extract IMAGE FOLDER [--deleted] [--scan]
abbrev pub extract : App
extract = with_rule (with_rule (with_rule (over_image (codes "extract")) (required (codes "FOLDER")))
    (flag (codes "deleted"))) (flag (codes "scan"))

-- a subcommand that changes the files of a disk, or only prints what that would print, if --dry-run is given
abbrev pub may_run_dry : App → App
may_run_dry a = with_rule a (flag (codes "dry-run"))

-- repair IMAGE [--accept-loss] [--free] [--dry-run] [--sides]
abbrev pub repair : App
repair = with_rule (may_run_dry (with_rule (may_accept_loss (over_image (codes "repair"))) (flag (codes "free"))))
    (flag (codes "sides"))

-- a subcommand that takes a file that isn't closed too, if --unclosed is given
abbrev pub may_be_unclosed : App → App
may_be_unclosed a = with_rule a (flag (codes "unclosed"))

-- records IMAGE NAME [--text] [--mixed] [--fields] [--at POSITIONS] [--unclosed]
abbrev pub records : App
records = may_be_unclosed (may_have_columns (may_be_text (with_rule (over_image (codes "records")) (required (codes "NAME")))))

-- bytes IMAGE NAME [--text] [--mixed] [--unclosed]
abbrev pub bytes : App
bytes = may_be_unclosed (may_be_text (with_rule (over_image (codes "bytes")) (required (codes "NAME"))))

-- basic IMAGE NAME [--unclosed]
abbrev pub basic : App
basic = may_be_unclosed (with_rule (over_image (codes "basic")) (required (codes "NAME")))

-- make IMAGE NAME --length BYTES [--accept-loss] [--dry-run]
abbrev pub make : App
make = may_run_dry (may_accept_loss (with_rule (with_rule (over_image (codes "make")) (required (codes "NAME")))
    (required_behind (codes "length") (codes "BYTES"))))

-- store IMAGE NAME RECORDS [--accept-loss] [--text] [--mixed] [--fields] [--at POSITIONS] [--dry-run]
abbrev pub store : App
store = may_run_dry (may_have_columns (may_be_text (may_accept_loss (with_rule (with_rule (over_image (codes "store"))
    (required (codes "NAME"))) (required (codes "RECORDS"))))))

-- put IMAGE NAME FILE --type TYPE [--accept-loss] [--dry-run]
abbrev pub put : App
put = may_run_dry (may_accept_loss (with_rule (with_rule (with_rule (over_image (codes "put")) (required (codes "NAME")))
    (required (codes "FILE"))) (required_behind (codes "type") (codes "TYPE"))))

-- copy-file FROM NAME IMAGE [--accept-loss] [--dry-run] [--as NEW]
abbrev pub copy_file : App
copy_file = with_rule (may_run_dry (may_accept_loss (with_rule (with_rule (with_rule (new_app (codes "copy-file"))
    (required (codes "FROM"))) (required (codes "NAME"))) (required (codes "IMAGE"))))) (optional_behind (codes "as") (codes "NEW"))

-- a subcommand that gives a disk its name and its ID
abbrev pub titling : Text → App
titling word = with_rule (with_rule (over_image word) (required_behind (codes "name") (codes "NAME")))
    (required_behind (codes "id") (codes "ID"))

-- rename IMAGE OLD NEW [--accept-loss] [--dry-run]
abbrev pub rename : App
rename = may_run_dry (may_accept_loss (with_rule (with_rule (over_image (codes "rename")) (required (codes "OLD")))
    (required (codes "NEW"))))

-- title IMAGE --name NAME --id ID [--accept-loss] [--dry-run]
abbrev pub title : App
title = may_run_dry (may_accept_loss (titling (codes "title")))

-- a subcommand that changes the entry of a file
abbrev pub over_entry : Text → App
over_entry word = may_run_dry (may_accept_loss (with_rule (over_image word) (required (codes "NAME"))))

-- lock IMAGE NAME [--accept-loss] [--dry-run]
abbrev pub lock : App
lock = over_entry (codes "lock")

-- unlock IMAGE NAME [--accept-loss] [--dry-run]
abbrev pub unlock : App
unlock = over_entry (codes "unlock")

-- delete IMAGE NAME [--accept-loss] [--dry-run]
abbrev pub delete : App
delete = over_entry (codes "delete")

-- undelete IMAGE NAME --type TYPE [--accept-loss] [--dry-run]
abbrev pub undelete : App
undelete = may_run_dry (may_accept_loss (with_rule (with_rule (over_image (codes "undelete")) (required (codes "NAME")))
    (required_behind (codes "type") (codes "TYPE"))))

-- sort IMAGE [--accept-loss] [--dry-run]
abbrev pub sort : App
sort = may_run_dry (may_accept_loss (over_image (codes "sort")))

-- new IMAGE --name NAME --id ID
abbrev pub new : App
new = titling (codes "new")

-- map IMAGE.. [--json]
abbrev pub map : App
map = may_be_json (over_images (codes "map"))

-- picture IMAGE.. [--svg] [--sheet] [--compare]
abbrev pub picture : App
picture = with_rule (with_rule (with_rule (over_images (codes "picture")) (flag (codes "svg"))) (flag (codes "sheet")))
    (flag (codes "compare"))

-- free IMAGE.. [--json]
abbrev pub free : App
free = may_be_json (over_images (codes "free"))

-- sector IMAGE T/S
abbrev pub sector : App
sector = with_rule (over_image (codes "sector")) (required (codes "T/S"))

-- trim IMAGE
abbrev pub trim : App
trim = over_image (codes "trim")

-- dry SCRIPT
abbrev pub dry : App
dry = with_rule (new_app (codes "dry")) (required (codes "SCRIPT"))

-- the same, but words without a subcommand are refused
abbrev pub with_required_subcommand : App → App
with_required_subcommand a = record { top = record a.top { subcommand_required = true }; subs = a.subs }

-- the same with a version, which is printed if it is asked for
abbrev pub with_version : App → App
with_version a = record { top = record a.top { has_version = true }; subs = a.subs }

-- the same, but with --explain its words ask for more of what isn't done
abbrev pub explainable : App → App
explainable a = with_rule a (flag (codes "explain"))

-- the program without its subcommands
abbrev pub bare : App
bare = explainable (with_required_subcommand (with_version (new_app (codes "ledger"))))

-- a program with this subcommand more, after which --explain may stand too
abbrev pub with_command : App → App → App
with_command a command = with_subcommand a (explainable command).top

-- a program that has the subcommands that look at disks too
abbrev pub with_looks : App → App
with_looks a = with_command (with_command (with_command (with_command (with_command (with_command (with_command
    a list) check) plan) map) picture) free) sector

-- a program that has those that rescue files and disks too
abbrev pub with_rescue : App → App
with_rescue a = with_command (with_command (with_command (with_command (with_command (with_command
    a records) bytes) basic) extract) repair) trim

-- a program that has those that make disks and files too
abbrev pub with_changes : App → App
with_changes a = with_command (with_command (with_command (with_command (with_command (with_command (with_command
    a new) make) store) put) copy_file) rename) title

-- a program that has those that change the entries of a directory too
abbrev pub with_entries : App → App
with_entries a = with_command (with_command (with_command (with_command (with_command
    a lock) unlock) delete) undelete) sort

-- a program that has those that run a shop too
abbrev pub with_shop : App → App
with_shop a = with_command (with_command (with_command (with_command (with_command (with_command
    a format) show) play) dry) serve) copy

-- the program with its subcommands
abbrev pub ledger : App
ledger = with_shop (with_entries (with_changes (with_rescue (with_looks bare))))

-- this is that subcommand, and none of its values is one of the program's
pub record IsSubcommand (app : App) (c : Command) : Type 0 where
  pub is : app_of c ≡ app
  pub own : (out-Command c).has_globals ≡ false

-- the values of an argument, in their order
abbrev pub values : Text → List Row → List Text
values id rows = unwrap_or (all_of id rows) []

-- the value of an argument (the first of several), or an empty text if it has none
abbrev pub value : Text → List Row → Text
value id rows = unwrap_or (first_of id rows) []
