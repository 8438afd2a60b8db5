-- The log is read, and the image is compared.
use Rattle.std.proofs.Common.{◌≡◌, ◌∙◌, Err, rules}
use Rattle.image_log.specs.Recovered.{base_of, recovered}
use Rattle.image_log.proofs.lemmas.Readings.{reads}
use Rattle.image_log.proofs.lemmas.life.Viewed.{if_err, if_err_of}
use Rattle.image_log.proofs.life.judging.image_of_log.Goals as goal

pub returns-in_err-read_images-clause-refused : goal.returns-in_err-read_images-clause-refused
returns-in_err-read_images-clause-refused g c =
    let same : c.from_residual-in_err-read_images.result ≡ Err c.in_err-read_images.field-0.0 = search rules in
    if_err_of _ c.from_residual-in_err-read_images.result c.in_err-read_images.field-0.0 same (λ misfit f is given gives.
    c.in_err-read_images.ensures.refused misfit f (c.is_marked.ensures.reads.same ∙ is)
    (base_of f) (recovered f) (reads f c.args.image.now given gives))

pub returns-in_err-see_own-clause-refused : goal.returns-in_err-see_own-clause-refused
returns-in_err-see_own-clause-refused g c =
    if_err _ _ c.from_residual-in_err-see_own.result (λ f is given gives.
    c.in_err-see_own.ensures.err f (c.in_ok-marked.ensures.mark f is)
    (c.in_ok-read_images.ensures.ok f (c.is_marked.ensures.reads.same ∙ is)) given gives)

pub returns-clause-ok : goal.returns-clause-ok
returns-clause-ok g c f is =
    c.in_ok-see_own.ensures.ok f (c.in_ok-marked.ensures.mark f is)
    (c.in_ok-read_images.ensures.ok f (c.is_marked.ensures.reads.same ∙ is))
