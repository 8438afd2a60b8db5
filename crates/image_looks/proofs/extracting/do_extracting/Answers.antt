-- The files were made in the folder, whose path may have a slash at its end.
use Rattle.std.proofs.Common.{◌≡◌, ◌++◌, inl, inr, refl, subst}
use Rattle.std.specs.Prelude.{IfSome, codes}
use Rattle.image_looks.proofs.Looked.{ends-weaker}
use Rattle.image_looks.proofs.extracting.do_extracting.Goals as goal

pub returns-in-Some : goal.returns-in-Some
returns-in-Some g c = λ other none all holds.
    ends-weaker c.args.out.now c.extract_to.new.out c.extract_to.result _ _
    (λ done. (
      c.in-Some.front.now,
      inr (subst (λ found. IfSome found (λ front. c.args.folder.now ≡ front.now ++ codes "/"))
          c.in-Some.is c.in_ok-front.ensures.ok),
      done,
    ))
    (c.extract_to.ensures other none all holds)

pub returns-in-None : goal.returns-in-None
returns-in-None g c = λ other none all holds.
    ends-weaker c.args.out.now c.extract_to-in-None.new.out c.extract_to-in-None.result _ _
    (λ done. (c.args.folder.now, inl refl, done)) (c.extract_to-in-None.ensures other none all holds)
