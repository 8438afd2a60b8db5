-- The image is the one that `view_log` wrote.
use Rattle.std.proofs.Common.{◌∙◌, subst, sym}
use Rattle.std.proofs.lemmas.List.{with_items_is}
use Rattle.image_log.specs.life.Views.{IsLogViewed}
use Rattle.image_log.proofs.life.memory.view_opened.Goals as goal

pub returns-in-Ok-clause-ok : goal.returns-in-Ok-clause-ok
returns-in-Ok-clause-ok g c s t f at one known log name =
    subst (λ i. IsLogViewed g.V.ViewsImage.seen s c.view_log.new.folder i)
    (sym (with_items_is c.in_ok-shop.shop c.view_log.new.shop (c.view_log.auto.shop ∙ c.as_mut_slice-3.ensures.len)))
    (c.in-Ok.ensures.ok s t f at one known log name)
