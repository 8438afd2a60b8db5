use Rattle.disk_reports.proofs.NoneNamed.{exact-unless-told}
use Rattle.disk_reports.proofs.ToldSides.{told-of-sides}
use Rattle.disk_reports.proofs.laws.named_sides_hold.Goals as goal

pub returns : goal.returns
returns c = record { told = told-of-sides; exact = exact-unless-told }
