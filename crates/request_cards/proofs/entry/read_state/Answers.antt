-- A state is one letter.
use Rattle.std.proofs.Common.{arith}
use Rattle.request_cards.specs.CardTexts.{state_text}
use Rattle.request_cards.proofs.EntryFields.{comma_behind, letter_here, state_length}
use Rattle.request_cards.proofs.entry.read_state.Goals as goal

pub overflow_add-at : goal.overflow_add-at
overflow_add-at c = omega arith

pub bounds-bytes-at : goal.bounds-bytes-at
bounds-bytes-at c = omega arith

pub bounds-bytes-at-2 : goal.bounds-bytes-at-2
bounds-bytes-at-2 c = omega arith

pub returns-then-bytes-at-ne44-clause-none : goal.returns-then-bytes-at-ne44-clause-none
returns-then-bytes-at-ne44-clause-none c = λ p rest e.
    c.if-bytes-at-ne44.true (comma_behind (state_text p) c.args.bytes.now rest c.args.at (state_length p) e)

pub returns-in-73-clause-found : goal.returns-in-73-clause-found
returns-in-73-clause-found c =
    letter_here c.args.bytes.now c.args.at 73 c.told-bytes c.requires c.in-73.is c.if-bytes-at-ne44.false

pub returns-in-65-clause-found : goal.returns-in-65-clause-found
returns-in-65-clause-found c =
    letter_here c.args.bytes.now c.args.at 65 c.told-bytes c.requires c.in-65.is c.if-bytes-at-ne44.false
