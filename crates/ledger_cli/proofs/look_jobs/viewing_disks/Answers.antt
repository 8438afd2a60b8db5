-- A look at a disk alone has the disk's subcommand.
use Rattle.std.proofs.Common.{◌≡◌, ◌∙◌, ap, refl, subst}
use Rattle.clap.specs.Words.{found_of, rows_of}
use Rattle.image_looks.specs.declared.kinds.DiskLook.{DiskLook}
use Rattle.image_looks.specs.declared.kinds.DiskLook.TheVariants as disks
use Rattle.ledger_cli.specs.Jobs.{IsRead}
use Rattle.ledger_cli.specs.Looks.{alone, disk_word, word_of}
use Rattle.ledger_cli.proofs.look_jobs.viewing_disks.Goals as goal

word-alone : (what : DiskLook) → word_of (alone what) ≡ disk_word what
word-alone (disks.List form) = refl
word-alone disks.Check = refl
word-alone disks.Faults = refl
word-alone (disks.Show loss) = refl

pub returns-else-is_given : goal.returns-else-is_given
returns-else-is_given c =
    subst (λ word. IsRead word (rows_of (found_of c.args.matches.now)) c.viewing-else-is_given.result)
    (ap word_of c.alone.ensures ∙ word-alone c.args.what) c.viewing-else-is_given.ensures
