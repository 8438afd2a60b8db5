-- What the table of subcommands says of the words (our own).
use Rattle.std.specs.Prelude.{◌≡◌, Bool, List, None, Option, Some, false, fold, option_map, true}
use Rattle.clap.specs.Words.{App, Rule, app_of, new_app, new_rule, with_rule}
use Rattle.clap.specs.declared.builder.command.Command.{Command}
use Rattle.clap.specs.declared.builder.action.ArgAction.{ArgAction}
use Rattle.clap.specs.declared.builder.action.ArgAction.TheVariants.{Append, SetTrue}
use Rattle.command_table.specs.Grammar.{with_command}
use Rattle.command_table.specs.declared.values.Count.{Count}
use Rattle.command_table.specs.declared.values.Count.TheVariants as counts
use Rattle.command_table.specs.declared.subcommands.Subcommand.{Subcommand}
use Rattle.command_table.specs.declared.values.Value.{Value}

-- it has to stand there
abbrev pub is_required : Count → Bool
is_required counts.One = true
is_required counts.Several = true
is_required counts.Optional = false
is_required counts.Flag = false

-- what each use of it does: the values of several are gathered, and a flag is set
abbrev pub action : Count → Option ArgAction
action counts.One = None
action counts.Optional = None
action counts.Several = Some Append
action counts.Flag = Some SetTrue

-- how a value or a flag stands among the words
abbrev pub rule : Value → Rule
rule v = record (new_rule v.name.now) {
  long = option_map (λ w. w.now) v.word;
  required = is_required v.count;
  action = action v.count;
}

-- the command with a value or a flag more
abbrev pub with_value : App → Value → App
with_value a v = with_rule a (rule v)

-- a subcommand with its values and flags
abbrev pub app : Subcommand → App
app s = fold with_value (new_app s.name.now) s.values.now

-- the program with a subcommand more
abbrev pub with_row : App → Subcommand → App
with_row a s = with_command a (app s)

-- this program is that one with these subcommands more, in their order
pub record HasRows (before : App) (subcommands : List Subcommand) (c : Command) : Type 0 where
  pub is : app_of c ≡ fold with_row before subcommands
