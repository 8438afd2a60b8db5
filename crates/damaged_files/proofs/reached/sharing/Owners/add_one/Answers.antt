-- One place of the table is one more, or several already.
use Rattle.std.proofs.Common.{arith, refl}
use Rattle.damaged_files.proofs.lemmas.reached.Counts.{one-added, one-kept}
use Rattle.damaged_files.proofs.reached.sharing.Owners.add_one.Goals as goal

pub returns-then-self-index-lt2 : goal.returns-then-self-index-lt2
returns-then-self-index-lt2 c = one-added c.args.self.now.counts c.args.place c.index-index.result _
    c.index-index.ensures.value (omega (arith, c.args.self.now.full, c.index-index.ensures.bound)) refl

pub returns-else-self-index-lt2 : goal.returns-else-self-index-lt2
returns-else-self-index-lt2 c = one-kept c.args.self.now.counts c.args.place c.index-index.result
    c.index-index.ensures.value c.if-self-index-lt2.false
