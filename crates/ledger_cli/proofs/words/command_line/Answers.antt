-- A job is that of what the command line found, and why there is none is its reason.
use Rattle.std.proofs.Common.{ap₂, ◌∙◌}
use Rattle.std.proofs.lemmas.Bool.{false≢true}
use Rattle.ledger_cli.specs.Jobs.{is_explained}
use Rattle.ledger_cli.proofs.Parses.{fit-found, heard-as-asked, job-found, no-job-found}
use Rattle.ledger_cli.proofs.words.command_line.Goals as goal

pub returns-in-Ok-clause-ok : goal.returns-in-Ok-clause-ok
returns-in-Ok-clause-ok c = job-found _ _ _ c.job_of.result c.in-Ok.ensures.fine c.in-Ok.ensures.is c.job_of.ensures

pub returns-in-Ok-clause-fit : goal.returns-in-Ok-clause-fit
returns-in-Ok-clause-fit c = fit-found _ c.job_of.result c.job_of.ensures

pub returns-in-Ok-clause-err : goal.returns-in-Ok-clause-err
returns-in-Ok-clause-err c = no-job-found _ _ _ c.job_of.result c.in-Ok.ensures.fine c.in-Ok.ensures.is
    c.job_of.ensures

pub returns-in-Ok-clause-explained : goal.returns-in-Ok-clause-explained
returns-in-Ok-clause-explained c = heard-as-asked c.job_of.result _ c.is_explained.result
    (c.is_explained.ensures ∙ ap₂ is_explained c.in-Ok.ensures.before c.in-Ok.ensures.is)

pub returns-in-Err-clause-ok : goal.returns-in-Err-clause-ok
returns-in-Err-clause-ok c = tt

pub returns-in-Err-clause-fit : goal.returns-in-Err-clause-fit
returns-in-Err-clause-fit c = tt

pub returns-in-Err-clause-err : goal.returns-in-Err-clause-err
returns-in-Err-clause-err c = c.in-Err.ensures

pub returns-in-Err-clause-explained : goal.returns-in-Err-clause-explained
returns-in-Err-clause-explained c = λ never. absurd (false≢true never)
