-- The file was synced.
use Rattle.std.proofs.Common.{le_refl, refl}
use Rattle.image_file.proofs.lemmas.keeping.KeptOn.{kept_at_end, sized_at_end, still_blamed}
use Rattle.image_file.proofs.sectors.ImageFile.finish.Goals as goal

pub invariant_of-self : goal.invariant_of-self
invariant_of-self g c =
    let a = c.args.self.now in
    record {
      fits = a.fits;
      whole = sized_at_end a c.sync.new.self c.sync.ensures.whole;
      blamed = λ some. still_blamed c.sync.result (g.F.WritesAt.has_failed a.file)
          (g.F.WritesAt.has_failed c.sync.new.self) c.sync.ensures.failed c.sync.ensures.passed (a.blamed some);
    }

pub returns : goal.returns
returns g c =
    let a = c.args.self.now in
    record {
      lasting = c.sync.ensures.lasting;
      failed = c.sync.ensures.failed;
      passed = c.sync.ensures.passed;
      same = c.sync.ensures.same;
      reached = record { taken = le_refl a.taken; failed = le_refl a.failed; sized = refl };
      kept = kept_at_end a _ (record { taken = le_refl a.taken; failed = le_refl a.failed; sized = refl })
          c.sync.ensures.whole;
    }
