-- What is looked at of the file is the image's bytes.
use Rattle.std.proofs.Common.{◌≡◌, arith, length, refl}
use Rattle.std.proofs.lemmas.Bool.{eq-eqb, eqb-true}
use Rattle.image_file.proofs.lemmas.keeping.Begun.{agrees_at, seen_held, sized}
use Rattle.image_file.proofs.sectors.ImageFile.of_image.Goals as goal

pub invariant_of-result : goal.invariant_of-result
invariant_of-result g c =
    record {
      fits = omega arith;
      whole = sized _ (g.F.WritesAt.held c.args.file) c.args.image.now c.requires.image
          (seen_held g.F.WritesAt.held g.F.WritesAt.whole _ c.args.file (length c.args.image.now ≡ 174848)
          (eqb-true (length c.args.image.now) 174848));
      blamed = λ some. absurd (omega (arith, some));
    }

pub returns : goal.returns
returns g c =
    record {
      is_file = refl;
      untaken = refl;
      unfailed = refl;
      sized = λ whole. eq-eqb (length c.args.image.now) 174848 whole;
      agrees = agrees_at _ (g.F.WritesAt.held c.args.file) c.args.image.now c.requires.image
          (seen_held g.F.WritesAt.held g.F.WritesAt.whole _ c.args.file (length c.args.image.now ≡ 174848)
          (eqb-true (length c.args.image.now) 174848));
    }
