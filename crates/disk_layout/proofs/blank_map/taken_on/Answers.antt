-- How many sectors are taken on each track.
use Rattle.std.proofs.Common.{◌≡◌, ◌≢◌, ◌≤◌, ◌+◌, ◌-◌, ℕ, ap, sym, min, arith, ◌∙◌}
use Rattle.std.proofs.lemmas.Bool.Decides.{nat_tests}
use Rattle.disk_layout.specs.Blank.{taken_on}
use Rattle.disk_layout.proofs.blank_map.taken_on.Goals as goal

few-17 : (n k : ℕ) → k ≡ min (n + 3) 21 → k ≤ 21
few-17 n k is = omega arith

few-19 : (n k : ℕ) → n ≤ 32 → k ≡ n - 18 → k ≤ 21
few-19 n k some is = omega arith

two : 2 ≤ 21
two = omega arith

none : 0 ≤ 21
none = omega arith

rest : (n t : ℕ) → t ≢ 17 → t ≢ 18 → t ≢ 19 → 0 ≡ taken_on n t
rest n t not-17 not-18 not-19 = grind (arith, nat_tests)

pub returns-in-17 : goal.returns-in-17
returns-in-17 c = record {
  value = c.min.ensures ∙ ap (taken_on c.args.blocks) (sym c.in-17.is);
  few = few-17 _ _ c.min.ensures;
}

pub returns-in-18 : goal.returns-in-18
returns-in-18 c = record { value = ap (taken_on c.args.blocks) (sym c.in-18.is); few = two }

pub returns-in-19 : goal.returns-in-19
returns-in-19 c = record {
  value = c.saturating_sub.ensures ∙ ap (taken_on c.args.blocks) (sym c.in-19.is);
  few = few-19 _ _ c.requires c.saturating_sub.ensures;
}

pub returns-in_default : goal.returns-in_default
returns-in_default c = record {
  value = rest c.args.blocks c.args.track (omega arith) (omega arith) (omega arith);
  few = none;
}
