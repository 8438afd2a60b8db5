-- So many of the sectors so far have its number.
use Rattle.std.proofs.Common.{◌≤◌}
use Rattle.layout_check.proofs.lemmas.owners.Numbers.{IsCountWith}
use Rattle.layout_check.proofs.owners.Owners.owned_with.Given as goal

abbrev pub invariant-loop-number : goal.invariant-loop-number
invariant-loop-number l = record {
  counted : IsCountWith l.self l.fn.place l.number-index l.count;
  few : l.count ≤ l.number-index;
}
