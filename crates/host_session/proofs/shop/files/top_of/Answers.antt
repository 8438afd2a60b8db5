-- What is open and what others own are the 664 sectors outside track 18.
use Rattle.std.proofs.Common.{arith, sym, subst}
use Rattle.disk_layout.specs.Room.{IsTop}
use Rattle.host_session.proofs.lemmas.judging.Search.{top-of}
use Rattle.host_session.proofs.shop.files.top_of.Goals as goal

pub overflow_add-outside : goal.overflow_add-outside
overflow_add-outside c = let (l, told) = c.requires.told in omega (arith, c.outside-outside.ensures l told)

pub last_card-requires : goal.last_card-requires
last_card-requires c = let (l, told) = c.requires.told in omega (arith, c.outside-outside.ensures l told)

pub returns : goal.returns
returns c = λ l told. subst (IsTop l c.args.entry) (sym c.last_card.ensures)
    (top-of l c.args.entry c.outside-outside.result (c.outside-outside.ensures l told))
