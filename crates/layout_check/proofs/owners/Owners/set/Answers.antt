-- One place of the table is written, and no other.
use Rattle.std.proofs.Common.{sym, arith, get_or-set_same, get_or-set_other}
use Rattle.d64_image.proofs.Places.{index_below, other_index}
use Rattle.d64_image.specs.Places.{index_of}
use Rattle.layout_check.specs.Owners.{owner_of}
use Rattle.layout_check.proofs.owners.Owners.set.Goals as goal

pub returns-clause-here : goal.returns-clause-here
unfolding owner_of
returns-clause-here c = rw c.index.ensures.value (get_or-set_same c.args.self.now.numbers (index_of c.args.place)
    c.args.number 0 (omega (arith, index_below c.args.place, c.args.self.now.full)))

pub returns-clause-there : goal.returns-clause-there
unfolding owner_of
returns-clause-there c q other =
    rw c.index.ensures.value (get_or-set_other c.args.self.now.numbers (index_of c.args.place) (index_of q)
    c.args.number 0 (λ e. other_index c.args.place q other (sym e)))
