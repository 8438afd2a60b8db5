use Rattle.std.proofs.Common.{◌≡◌, ◌<◌, ◌^◌, take}
use Rattle.request_cards.specs.CardTexts.{fixed}
use Rattle.request_cards.proofs.fixed.parse_digits.Given as goal

-- the bytes so far are the digits of the number
abbrev pub invariant-loop-b : goal.invariant-loop-b
invariant-loop-b l = (take l.b-index l.field ≡ fixed l.b-index l.number) × (l.number < 10 ^ l.b-index)
