-- What a command has that got a value, or a subcommand.
use Rattle.std.proofs.Common.{◌≡◌, ◌<◌, ◌+◌, ℕ, List, length, get_or, take, fold, ap₂, ◌∙◌, ap, subst, sym}
use Rattle.std.proofs.lemmas.List.Sums.{fold_more}
use Rattle.std.specs.Prelude.{◌||◌, Bool, Err, IfOk, Ok, Result, false}
use Rattle.std.specs.declared.alloc.AllocError.{AllocError}
use Rattle.clap.specs.Words.{AddsArg, AddsSubcommand, App, Rule, app_of, rule_of, with_rule, with_subcommand}
use Rattle.clap.specs.declared.builder.arg.Arg.{Arg}
use Rattle.clap.specs.declared.builder.command.Command.{Command}
use Rattle.command_table.specs.Grammar.{IsSubcommand}
use Rattle.command_table.specs.Rows.{HasRows, with_row}
use Rattle.command_table.specs.declared.subcommands.Subcommand.{Subcommand}

-- a subcommand has a value of this rule more, which no other has
pub arg-made : (old : Command) (a : Arg) (new : Command) (before : App) (rule : Rule) → IsSubcommand before old
    → a.global ≡ false → rule_of a ≡ rule → AddsArg old a new → IsSubcommand (with_rule before rule) new
arg-made old a new before rule is own same adds = record {
  is = adds.shape own ∙ ap₂ with_rule is.is same;
  own = adds.globals ∙ ap₂ (λ (x y : Bool). x || y) is.own own;
}

-- a program has this subcommand more
pub subcommand-made : (old sub new : Command) (before app : App) → app_of old ≡ before → IsSubcommand app sub
    → AddsSubcommand old sub new → app_of new ≡ with_subcommand before app.top
subcommand-made old sub new before app known is adds = adds.shape is.own
    ∙ ap₂ with_subcommand known (ap (λ (a : App). a.top) is.is)

-- what holds of the items before this one and this one
pub one-more : {A B : Type 0} (f : B → A → B) (start : B) (xs : List A) (i : ℕ) (d : A) (P : B → Type 0) → i < length xs
    → P (f (fold f start (take i xs)) (get_or xs i d)) → P (fold f start (take (i + 1) xs))
one-more f start xs i d P h = subst P (sym (fold_more f start xs i d h))

-- which program is made with these rows more, if memory is there
pub rows-made : (before : App) (rows : List Subcommand) (made : Result Command AllocError) → IfOk made (HasRows before rows)
    → IfOk made (λ c. app_of c ≡ fold with_row before rows)
rows-made before rows (Ok c) has = has.is
rows-made before rows (Err e) has = tt

-- and which with a group more of a program that is known
pub group-made : (group : App → App) (before known : App) (made : Result Command AllocError) → before ≡ known
    → IfOk made (λ c. app_of c ≡ group before) → IfOk made (λ c. app_of c ≡ group known)
group-made group before known (Ok c) same is = is ∙ ap group same
group-made group before known (Err e) same is = tt
