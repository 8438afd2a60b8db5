-- The sector stands in the file, or the file has failed.
use Rattle.std.proofs.Common.{◌≡◌, ◌≤◌, ◌*◌, ◌∙◌, ap, arith, le_refl, refl, true}
use Rattle.d64_image.specs.Images.{IsSector}
use Rattle.image_file.specs.ImageFile.{seen_of}
use Rattle.image_file.proofs.lemmas.keeping.KeptSectors.{keeps_so, takes_so}
use Rattle.image_file.proofs.lemmas.keeping.KeptSizes.{at_err, at_ok, still_sized, written_at}
use Rattle.image_file.proofs.sectors.ImageFileSectorFile.keep.Goals as goal

pub invariant_of-self : goal.invariant_of-self
invariant_of-self g c =
    let a = c.args.self.now in
    let w = c.write_all_at-written in
    let is : IsSector c.args.from.now = record { size = omega (arith, c.told-from); small = c.fits-from } in
    record {
      fits = a.fits;
      whole = still_sized (seen_of a) a.file w.new.self c.args.place c.args.from.now w.result is a.whole
          (takes_so a c.args.place c.args.from.now is w.new.self w.result _ (ap (λ n. 256 * n) c.index.ensures.value)
          w.ensures.whole);
      blamed = λ some. at_ok (g.F.WritesAt.has_failed w.new.self ≡ g.F.WritesAt.has_failed a.file) w.result _
          c.in-Ok.is w.ensures.passed ∙ a.blamed some;
    }

pub invariant_of-self-in-Err : goal.invariant_of-self-in-Err
invariant_of-self-in-Err g c =
    let a = c.args.self.now in
    let w = c.write_all_at-written in
    let is : IsSector c.args.from.now = record { size = omega (arith, c.told-from); small = c.fits-from } in
    record {
      fits = omega (arith, c.saturating_add-self-in-Err.ensures);
      whole = still_sized (seen_of a) a.file w.new.self c.args.place c.args.from.now w.result is a.whole
          (takes_so a c.args.place c.args.from.now is w.new.self w.result _ (ap (λ n. 256 * n) c.index.ensures.value)
          w.ensures.whole);
      blamed = λ some. at_err (g.F.WritesAt.has_failed w.new.self ≡ true) w.result _ c.in-Err.is w.ensures.failed;
    }

pub returns-in-Ok : goal.returns-in-Ok
returns-in-Ok g c =
    let a = c.args.self.now in
    let w = c.write_all_at-written in
    let is : IsSector c.args.from.now = record { size = omega (arith, c.told-from); small = c.fits-from } in
    let at = ap (λ n. 256 * n) c.index.ensures.value in
    let more : a.taken ≤ c.saturating_add-self.result = omega (arith, c.saturating_add-self.ensures, c.fits-self) in
    record {
      keeps = keeps_so a _ c.args.place c.args.from.now is
          (record { taken = more; failed = le_refl a.failed; sized = refl }) w.result
          (takes_so a c.args.place c.args.from.now is w.new.self w.result _ at w.ensures.whole)
          (rw c.in-Ok.is (omega (arith, c.saturating_add-self.ensures))) (rw c.in-Ok.is tt) (rw c.in-Ok.is refl);
      written = written_at _ _ _ _ c.args.from.now w.result at w.ensures.written;
      failed = w.ensures.failed;
      passed = w.ensures.passed;
    }

pub returns-in-Err : goal.returns-in-Err
returns-in-Err g c =
    let a = c.args.self.now in
    let w = c.write_all_at-written in
    let is : IsSector c.args.from.now = record { size = omega (arith, c.told-from); small = c.fits-from } in
    let at = ap (λ n. 256 * n) c.index.ensures.value in
    let more = c.saturating_add-self-in-Err.ensures in
    let later : a.failed ≤ c.saturating_add-self-in-Err.result = omega (arith, more, a.fits) in
    record {
      keeps = keeps_so a _ c.args.place c.args.from.now is
          (record { taken = le_refl a.taken; failed = later; sized = refl }) w.result
          (takes_so a c.args.place c.args.from.now is w.new.self w.result _ at w.ensures.whole)
          (rw c.in-Err.is tt) (rw c.in-Err.is refl)
          (rw c.in-Err.is (record { later = later; rose = λ few. omega (arith, more, few) }));
      written = written_at _ _ _ _ c.args.from.now w.result at w.ensures.written;
      failed = w.ensures.failed;
      passed = w.ensures.passed;
    }
