-- What a job is where its words are parsed.
use Rattle.std.proofs.Common.{◌≡◌, Bor, List, Option, Some, true, refl, ap, sym, ◌∙◌, subst, []}
use Rattle.std.specs.Prelude.{Bool, ℕ, Result, Ok, Err, IfErr, IfOk, IsErrAnd, MatchResult, option_map, slice_get}
use Rattle.clap.specs.Words.{App, FailsBy, HasKind, HasMatchesOf, Kinds, Row, Text, fault_of, found_of, is_simple}
use Rattle.clap.specs.Words.{is_simple_and_free, matches_of, rows_of, subcommand_of}
use Rattle.clap.specs.declared.error.Error.{Error}
use Rattle.clap.specs.declared.parser.matches.ArgMatches.{ArgMatches}
use Rattle.command_table.specs.Grammar.{ledger}
use Rattle.ledger_cli.specs.Jobs.{IsHeard, IsJob, IsNoJob, IsParse, IsRead}
use Rattle.ledger_cli.specs.Names.{IsNameMissing, IsNoNameFor, NameUse, names_in}
use Rattle.ledger_jobs.specs.Jobs.{IsFit}
use Rattle.ledger_jobs.specs.declared.jobs.Job.{Job}
use Rattle.ledger_cli.specs.declared.faults.JobFault.{JobFault}
use Rattle.ledger_cli.specs.declared.faults.JobFault.TheVariants as faults

-- the command line is a simple one, so words are refused for one of its reasons
parse-known : (app : App) (texts : List Text) (r : Result ArgMatches Error) → is_simple app ≡ true
    → FailsBy (fault_of app texts) r
    → IfOk r (HasMatchesOf app texts)
    → MatchResult r (IsParse (fault_of app texts) (matches_of app texts) (subcommand_of app texts))
    (HasKind (fault_of app texts))
parse-known app texts (Ok m) simple fails has =
    record { fine = fails; before = (has simple).0; is = (has simple).1 }
parse-known app texts (Err e) simple fails has = fails

free : is_simple_and_free ledger ≡ true
free = refl

simple : is_simple ledger ≡ true
simple = refl

pub ledger-parse : (app : App) (texts : List Text) (r : Result ArgMatches Error) → app ≡ ledger
    → (is_simple_and_free app ≡ true → FailsBy (fault_of app texts) r) → IfOk r (HasMatchesOf app texts)
    → MatchResult r (IsParse (fault_of ledger texts) (matches_of ledger texts) (subcommand_of ledger texts))
    (HasKind (fault_of ledger texts))
ledger-parse app texts r same fails has =
    subst (λ (a : App). MatchResult r (IsParse (fault_of a texts) (matches_of a texts) (subcommand_of a texts))
    (HasKind (fault_of a texts)))
    same
    (parse-known app texts r (ap is_simple same ∙ simple) (fails (ap is_simple_and_free same ∙ free)) has)

-- the same of what was found under another name
pub job-found : (kinds : Kinds) (found at : Option (Text × List Row)) (r : Result Job JobFault) → kinds ≡ []
    → found ≡ at → MatchResult r (λ j. IsJob found j × IsFit j) (IsNoJob [] found)
    → IfOk r (λ j. (kinds ≡ []) × IsJob at j)
job-found kinds found at (Ok j) fine same is = (fine, subst (λ f. IsJob f j) same is.0)
job-found kinds found at (Err e) fine same is = tt

pub no-job-found : (kinds : Kinds) (found at : Option (Text × List Row)) (r : Result Job JobFault) → kinds ≡ []
    → found ≡ at → MatchResult r (λ j. IsJob found j × IsFit j) (IsNoJob [] found) → IfErr r (IsNoJob kinds at)
no-job-found kinds found at (Ok j) fine same is = tt
no-job-found kinds found at (Err e) fine same is =
    subst (λ ks. IsNoJob ks at e) (sym fine) (subst (λ f. IsNoJob [] f e) same is)

pub fit-found : (found : Option (Text × List Row)) (r : Result Job JobFault)
    → MatchResult r (λ j. IsJob found j × IsFit j) (IsNoJob [] found) → IfOk r IsFit
fit-found found (Ok j) is = is.1
fit-found found (Err e) is = tt

-- the subcommand that was met is this one
pub met-is : (o : Option (Bor Text × Bor ArgMatches)) (found : Option (Text × List Row)) (name : Bor Text)
    (at : Bor ArgMatches) (word : Text)
    → option_map (λ (p : Bor Text × Bor ArgMatches). (p.0.now, rows_of (found_of p.1.now))) o ≡ found
    → o ≡ Some (name, at) → name.now ≡ word → found ≡ Some (word, rows_of (found_of at.now))
met-is o found name at word told some is =
    let f : Bor Text × Bor ArgMatches → Text × List Row = λ p. (p.0.now, rows_of (found_of p.1.now)) in
    sym told ∙ ap (option_map f) some ∙ ap (λ (n : Text). Some (n, rows_of (found_of at.now))) is

-- what it asks for is what the words ask for
pub read-met : (o : Option (Bor Text × Bor ArgMatches)) (found : Option (Text × List Row)) (name : Bor Text)
    (at : Bor ArgMatches) (word : Text) (r : Result Job JobFault)
    → option_map (λ (p : Bor Text × Bor ArgMatches). (p.0.now, rows_of (found_of p.1.now))) o ≡ found
    → o ≡ Some (name, at) → name.now ≡ word → IsRead word (rows_of (found_of at.now)) r
    → MatchResult r (λ j. IsJob found j × IsFit j) (IsNoJob [] found)
read-met o found name at word r told some is read =
    subst (λ f. MatchResult r (λ j. IsJob f j × IsFit j) (IsNoJob [] f)) (sym (met-is o found name at word told some is)) read

-- a text that the subcommand takes for a name is none
pub name-refused : (word : Text) (rows : List Row) (number : ℕ) (purpose : NameUse) (text given : Text) (fault : JobFault)
    (r : Result Job JobFault) → slice_get (names_in word rows) number ≡ Some (purpose, text) → given ≡ text
    → (fault ≡ faults.Name) × IsNoNameFor purpose given → IsErrAnd r (λ e. e ≡ fault) → IsRead word rows r
name-refused word rows number purpose text given fault (Ok job) at is none same = absurd same
name-refused word rows number purpose text given fault (Err e) at is none same =
    let missing : IsNameMissing (names_in word rows) = record {
      number = number;
      purpose = purpose;
      text = text;
      at = at;
      none = subst (IsNoNameFor purpose) is none.1;
    } in
    subst (λ f. IsNoJob [] (Some (word, rows)) f) (sym (same ∙ none.0))
    (refl, record { word = word; rows = rows; is = refl; missing = missing })

-- there is no memory for its images
pub memory-refused : (word : Text) (rows : List Row) (fault : JobFault) (r : Result Job JobFault)
    → ((found : Option (Text × List Row)) → IsNoJob [] found fault) → IsErrAnd r (λ e. e ≡ fault) → IsRead word rows r
memory-refused word rows fault (Ok job) none same = absurd same
memory-refused word rows fault (Err e) none same =
    subst (λ f. IsNoJob [] (Some (word, rows)) f) (sym same) (none (Some (word, rows)))

-- what was heard is what the words ask for
pub heard-as-asked : (r : Result Job JobFault) (asked heard : Bool) → heard ≡ asked → IsHeard r asked heard
heard-as-asked (Ok j) asked heard same = same
heard-as-asked (Err (faults.Words e)) asked heard same = λ is. sym same ∙ is
heard-as-asked (Err faults.Tills) asked heard same = same
heard-as-asked (Err faults.Name) asked heard same = same
heard-as-asked (Err faults.Length) asked heard same = same
heard-as-asked (Err faults.Images) asked heard same = same
heard-as-asked (Err faults.Sector) asked heard same = same
heard-as-asked (Err faults.Id) asked heard same = same
heard-as-asked (Err faults.Flags) asked heard same = same
heard-as-asked (Err faults.Kind) asked heard same = same
heard-as-asked (Err faults.Positions) asked heard same = same
heard-as-asked (Err faults.Path) asked heard same = same
