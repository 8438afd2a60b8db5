-- A kind is one letter.
use Rattle.std.proofs.Common.{arith}
use Rattle.request_cards.specs.Texts.{kind_text}
use Rattle.request_cards.proofs.EntryFields.{comma_behind, kind_here, kind_length, kind_refused_here}
use Rattle.request_cards.proofs.entry.read_kind.Goals as goal

pub overflow_add-at : goal.overflow_add-at
overflow_add-at c = omega arith

pub bounds-bytes-at : goal.bounds-bytes-at
bounds-bytes-at c = omega arith

pub bounds-bytes-at-2 : goal.bounds-bytes-at-2
bounds-bytes-at-2 c = omega arith

pub returns-then-bytes-at-ne44-clause-none : goal.returns-then-bytes-at-ne44-clause-none
returns-then-bytes-at-ne44-clause-none c = λ k rest e.
    c.if-bytes-at-ne44.true (comma_behind (kind_text k) c.args.bytes.now rest c.args.at (kind_length k) e)

pub returns-clause-found : goal.returns-clause-found
returns-clause-found c =
    kind_here c.kind_named.result c.args.bytes.now c.args.at c.told-bytes c.requires c.if-bytes-at-ne44.false
    c.kind_named.ensures

pub returns-clause-none : goal.returns-clause-none
returns-clause-none c = kind_refused_here c.kind_named.result c.args.bytes.now c.args.at c.kind_named.ensures
