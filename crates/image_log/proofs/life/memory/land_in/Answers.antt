-- The image is the one that `land` wrote.
use Rattle.std.proofs.Common.{◌∙◌, subst, sym}
use Rattle.std.proofs.lemmas.List.{with_items_is}
use Rattle.image_log.specs.life.Bringing.{RestsAlone}
use Rattle.image_log.specs.life.Shops.{Gives}
use Rattle.image_log.proofs.life.memory.land_in.Goals as goal

pub returns-in-Ok-clause-ok : goal.returns-in-Ok-clause-ok
returns-in-Ok-clause-ok g c shops s held gives all =
    subst (λ i. RestsAlone g.D.LogFolder.history c.land.new.folder i × Gives s i)
    (sym (with_items_is c.in_ok-shop.shop c.land.new.shop (c.land.auto.shop ∙ c.as_mut_slice-3.ensures.len)))
    (c.in-Ok.ensures.ok shops s held gives all)
