-- Without a log none is read.
use Rattle.std.proofs.Common.{subst, sym}
use Rattle.std.proofs.lemmas.Bool.{false≢true}
use Rattle.std.specs.Prelude.{IsNone}
use Rattle.opened_files.proofs.readings.image_of_file.Goals as goal

pub returns-in-Some-clause-read : goal.returns-in-Some-clause-read
returns-in-Some-clause-read g c none all holds =
    absurd (false≢true (sym (subst (λ o. IsNone o) c.in-Some.is (c.in_ok-image.ensures.none none))))
