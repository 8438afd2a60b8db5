-- Number by number.
use Rattle.std.proofs.Common.{◌≡◌, ◌∙◌, Bor, List, None, Option, Some, ap, sym, ℕ}
use Rattle.std.specs.Prelude.{option_map}
use Rattle.std.proofs.lemmas.Option.{IfSome_then}
use Rattle.line_text.specs.columns.Positions.{starts}
use Rattle.line_text.specs.Numbers.{number_before}
use Rattle.ledger_cli.proofs.Listed.{all-listed, none-left, not-listed, one-read, shorter, too-many}
use Rattle.ledger_cli.proofs.positions.positions_of.Goals as goal

-- what was read before a comma
read-before : (rest : List ℕ) (r : Option (ℕ × Bor (List ℕ))) (n : ℕ) (behind : Bor (List ℕ))
    → option_map (λ (p : ℕ × Bor (List ℕ)). (p.0, p.1.now)) r ≡ number_before 1 254 rest → r ≡ Some (n, behind)
    → number_before 1 254 rest ≡ Some (n, behind.now)
read-before rest r n behind exact is = sym exact ∙ ap (option_map (λ (p : ℕ × Bor (List ℕ)). (p.0, p.1.now))) is

none-before : (rest : List ℕ) (r : Option (ℕ × Bor (List ℕ)))
    → option_map (λ (p : ℕ × Bor (List ℕ)). (p.0, p.1.now)) r ≡ number_before 1 254 rest → r ≡ None
    → number_before 1 254 rest ≡ None
none-before rest r exact is = sym exact ∙ ap (option_map (λ (p : ℕ × Bor (List ℕ)). (p.0, p.1.now))) is

pub loop-start-smaller : goal.loop-start-smaller
loop-start-smaller c = shorter c.loop-start.rest.now c.in-Some.behind.now c.in-Some.start
    (read-before c.loop-start.rest.now c.number_before_comma.result _ c.in-Some.behind c.number_before_comma.ensures.exact
    c.in-Some.is)

pub loop-start-preserved : goal.loop-start-preserved
loop-start-preserved c = one-read c.args.text.now c.loop-start.rest.now c.in-Some.behind.now c.loop-start.list.items _ c.in-Some.start
    (read-before c.loop-start.rest.now c.number_before_comma.result _ c.in-Some.behind c.number_before_comma.ensures.exact
    c.in-Some.is)
    (c.push_start.ensures.done c.if-not-push_start.false) c.loop-start.invariant

pub returns-then-not-push_start-clause-none : goal.returns-then-not-push_start-clause-none
returns-then-not-push_start-clause-none c = λ _. too-many c.args.text.now c.loop-start.rest.now c.loop-start.list.items
    c.loop-start.invariant (c.push_start.ensures.full c.if-not-push_start.true)

pub returns-in_default-number-clause-none : goal.returns-in_default-number-clause-none
returns-in_default-number-clause-none c = λ _. none-left c.args.text.now c.loop-start.rest.now c.loop-start.list.items
    c.loop-start.invariant
    (none-before c.loop-start.rest.now c.number_before_comma.result c.number_before_comma.ensures.exact c.in_default.is)
    (sym c.number.ensures.exact ∙ c.in_default-number.is)

pub returns-then-not-push_start-2-clause-none : goal.returns-then-not-push_start-2-clause-none
returns-then-not-push_start-2-clause-none c = λ _. too-many c.args.text.now c.loop-start.rest.now c.loop-start.list.items
    c.loop-start.invariant (c.push_start-2.ensures.full c.if-not-push_start-2.true)

pub returns-clause-found : goal.returns-clause-found
returns-clause-found c = IfSome_then c.new.result c.new.ensures.some
    (λ made has. all-listed c.args.text.now c.loop-start.rest.now c.loop-start.list.items c.as_slice.result.now (starts made)
    c.in-Some-number.last c.loop-start.invariant (sym c.number.ensures.exact ∙ c.in-Some-number.is)
    (c.as_slice.ensures.value ∙ c.push_start-2.ensures.done c.if-not-push_start-2.false) has.0 has.1)

pub returns-clause-none : goal.returns-clause-none
returns-clause-none c = λ none. not-listed c.args.text.now c.loop-start.rest.now c.loop-start.list.items c.as_slice.result.now
    c.in-Some-number.last c.loop-start.invariant
    (none-before c.loop-start.rest.now c.number_before_comma.result c.number_before_comma.ensures.exact c.in_default.is)
    (sym c.number.ensures.exact ∙ c.in-Some-number.is)
    (c.as_slice.ensures.value ∙ c.push_start-2.ensures.done c.if-not-push_start-2.false) (c.new.ensures.none none)
