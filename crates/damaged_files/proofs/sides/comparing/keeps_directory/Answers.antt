-- The directory's chain, walked and compared.
use Rattle.std.proofs.Common.{◌≡◌, subst}
use Rattle.d64_image.specs.Images.{Image, sector}
use Rattle.d64_image.specs.Memory.{disk_image}
use Rattle.d64_image.specs.declared.place.Place.{Place}
use Rattle.damaged_files.proofs.lemmas.sides.Walks.{walked-directory}
use Rattle.damaged_files.proofs.sides.comparing.keeps_directory.Goals as goal
use Rattle.disk_layout.specs.Chain.{IsChain}
use Rattle.disk_layout.specs.Directory.{map_place}

pub returns-then-is_same-clause-told : goal.returns-then-is_same-clause-told
returns-then-is_same-clause-told c t =
    let a = disk_image c.args.before.now in
    let b = disk_image c.args.after.now in
    let now = disk_image c.walk_chain.new.disk in
    let S : Image → Type 0 = λ i. sector a map_place ≡ sector i map_place in
    let M : Place → Type 0 = λ p. sector a p ≡ sector now p in
    let C : Place → Type 0 = λ p. IsChain b p c.walk_chain.new.places.items c.in-Ok.field-0 in (
      subst S c.walk_chain.ensures.reads.image (subst M c.map_place.ensures (c.is_same.ensures c.if-is_same.true)),
      walked-directory a b now c.walk_chain.new.places.items c.as_slice.result.now c.in-Ok.field-0
          c.walk_chain.ensures.reads.image c.as_slice.ensures.value (subst C c.directory_start.ensures c.in-Ok.ensures.chain)
          (c.are_same.ensures t),
    )
