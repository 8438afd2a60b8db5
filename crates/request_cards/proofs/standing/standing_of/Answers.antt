-- Till and number tell how a request stands.
use Rattle.std.proofs.Common.{arith}
use Rattle.request_cards.proofs.Standings.{stands_again, stands_ahead, stands_first, stands_late, stands_next}
use Rattle.request_cards.proofs.Standings.{stands_past, stands_without_till}
use Rattle.request_cards.proofs.standing.standing_of.Goals as goal

pub overflow_add-newest : goal.overflow_add-newest
overflow_add-newest c = omega arith

pub returns-then-till-tills : goal.returns-then-till-tills
returns-then-till-tills c =
    let s = stands_without_till c.args.tills c.args.last c.args.prior c.args.request.now (omega arith) in
    record { exact = s.0; new = s.1 }

pub returns-then-number-gt1 : goal.returns-then-number-gt1
returns-then-number-gt1 c =
    let s = stands_past c.args.tills c.args.last c.args.prior c.args.request.now (omega arith) c.in-None.is (omega arith)
    in record { exact = s.0; new = s.1 }

pub returns-else-number-gt1 : goal.returns-else-number-gt1
returns-else-number-gt1 c =
    let s = stands_first c.args.tills c.args.last c.args.prior c.args.request.now (omega arith) c.in-None.is (omega arith)
    in record { exact = s.0; new = s.1 }

pub returns-then-number-newest : goal.returns-then-number-newest
returns-then-number-newest c =
    let s = stands_late c.args.tills c.args.last c.args.prior c.args.request.now c.in-Some.kept c.late.result (omega arith)
    c.in-Some.is (omega arith) c.late.ensures in
    record { exact = s.0; new = s.1 }

pub returns-then-number-newest-2 : goal.returns-then-number-newest-2
returns-then-number-newest-2 c =
    let s = stands_again c.args.tills c.args.last c.args.prior c.args.request.now c.in-Some.kept c.again.result
    (omega arith) c.in-Some.is (omega arith) c.again.ensures in
    record { exact = s.0; new = s.1 }

pub returns-then-number-newest-3 : goal.returns-then-number-newest-3
returns-then-number-newest-3 c =
    let s = stands_ahead c.args.tills c.args.last c.args.prior c.args.request.now c.in-Some.kept (omega arith)
    c.in-Some.is (omega arith) in
    record { exact = s.0; new = s.1 }

pub returns-else-number-newest-3 : goal.returns-else-number-newest-3
returns-else-number-newest-3 c =
    let s = stands_next c.args.tills c.args.last c.args.prior c.args.request.now c.in-Some.kept (omega arith)
    c.in-Some.is (omega arith) in
    record { exact = s.0; new = s.1 }
