-- Memory never fails.
use Rattle.std.proofs.Common.{◌∙◌, arith, inl, inr, refl, sym}
use Rattle.std.proofs.lemmas.Bool.{false≢true}
use Rattle.line_server.proofs.logged.handling.handle_line.Goals as goal

pub returns : goal.returns
returns c = record {
  told = λ s x. elim c.handle.ensures.failures [
    | inl gone ↦ elim gone.2 [
      | inl dead ↦ absurd (false≢true (sym x.alive ∙ dead))
      | inr failed ↦ absurd (omega (arith, failed.rose (omega arith)))
    ]
    | inr fine ↦
        let r = c.handle.ensures.reply s x.rests.shop x.alive fine.0 in
        (r.0, record { alive = r.2; rests = r.1 })
  ];
  marks = λ s x. (c.handle.ensures.moments s x.rests.shop).held.reached.1;
  files = λ s x whole. ((c.handle.ensures.moments s x.rests.shop).held.whole whole).each _ refl;
  quiet = λ s x none. (c.handle.ensures.quiet s x.rests.shop x.alive none).1;
}
