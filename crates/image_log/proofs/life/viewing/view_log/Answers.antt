-- The log is read, and then IMAGE; it is judged, or was landed.
use Rattle.std.proofs.Common.{◌≡◌, ◌∙◌, Err, rules}
use Rattle.image_log.specs.Recovered.{base_of, recovered}
use Rattle.image_log.proofs.lemmas.Readings.{seen_reads}
use Rattle.image_log.proofs.lemmas.life.Viewed.{if_err, if_err_of, landed_viewed, not_refused, viewed}
use Rattle.image_log.proofs.life.viewing.view_log.Goals as goal

pub returns-in_err-read_images-clause-refused : goal.returns-in_err-read_images-clause-refused
returns-in_err-read_images-clause-refused g c =
    let same : c.from_residual-in_err-read_images.result ≡ Err c.in_err-read_images.field-0.0 = search rules in
    if_err_of _ c.from_residual-in_err-read_images.result c.in_err-read_images.field-0.0 same
    (λ misfit s t f at one known log name given gives.
    c.in_err-read_images.ensures.refused misfit f (c.is_marked.ensures.reads.same ∙ known)
    (base_of f) (recovered f) (seen_reads s f log given gives))

pub returns-else-not-branch-clause-ok : goal.returns-else-not-branch-clause-ok
returns-else-not-branch-clause-ok g c s t f at one known log name =
    landed_viewed g.V.ViewsImage.seen c.args.folder.now c.read_image.new.self c.has_landed.new.self c.in_ok-marked.marked
    c.in_ok-has_landed.field-0 f c.read_image.new.image (c.in_ok-marked.ensures.mark f known) c.in_ok-read_image.ensures.image
    c.read_image.ensures.goes c.in_ok-has_landed.ensures.landed c.has_landed.ensures.goes s t at one log name
    c.if-not-branch.false c.read_images.new.shop
    (c.in_ok-read_images.ensures.ok f (c.is_marked.ensures.reads.same ∙ known)).shop

pub returns-in_ok-see_own-clause-ok : goal.returns-in_ok-see_own-clause-ok
returns-in_ok-see_own-clause-ok g c s t f at one known log name =
    viewed g.V.ViewsImage.seen c.args.folder.now c.read_image.new.self c.has_landed.new.self c.in_ok-marked.marked
    c.in_ok-has_landed.field-0 f c.read_image.new.image (c.in_ok-marked.ensures.mark f known) c.in_ok-read_image.ensures.image
    c.read_image.ensures.goes c.in_ok-has_landed.ensures.landed c.has_landed.ensures.goes s t at one log name
    c.if-not-branch.true c.read_images.new.shop (c.in_ok-see_own.ensures.ok f (c.in_ok-marked.ensures.mark f known)
    (c.in_ok-read_images.ensures.ok f (c.is_marked.ensures.reads.same ∙ known)))

pub returns-in_err-see_own-clause-refused : goal.returns-in_err-see_own-clause-refused
returns-in_err-see_own-clause-refused g c =
    if_err _ _ c.from_residual-in_err-see_own.result (λ s t f at one known log name.
    not_refused g.V.ViewsImage.seen c.args.folder.now c.read_image.new.self c.has_landed.new.self c.in_ok-marked.marked
    c.in_ok-has_landed.field-0 f c.read_image.new.image (c.in_ok-marked.ensures.mark f known) c.in_ok-read_image.ensures.image
    c.read_image.ensures.goes c.in_ok-has_landed.ensures.landed c.has_landed.ensures.goes s t at one log name
    c.if-not-branch.true (c.in_err-see_own.ensures.err f (c.in_ok-marked.ensures.mark f known)
    (c.in_ok-read_images.ensures.ok f (c.is_marked.ensures.reads.same ∙ known))))
