-- Its fields and its list, each judged alone.
use Rattle.std.proofs.Common.{arith, inl, inr, sym, ◌∙◌}
use Rattle.std.proofs.lemmas.Bool.{false≢true}
use Rattle.layout_check.proofs.sides.is_sound_side.Goals as goal

pub names_each-requires : goal.names_each-requires
names_each-requires c = omega (arith, c.requires.few)

pub returns-then-is_side : goal.returns-then-is_side
returns-then-is_side c = record {
  right = λ h. record { fields = c.is_side.ensures.right c.if-is_side.true; lists = c.names_each.ensures.right h };
  wrong = λ h. inr (c.names_each.ensures.wrong h);
}

pub returns-else-is_side : goal.returns-else-is_side
returns-else-is_side c = record {
  right = λ h. absurd (false≢true (sym c.if-is_side.false ∙ h));
  wrong = λ h. inl (c.is_side.ensures.wrong c.if-is_side.false);
}
