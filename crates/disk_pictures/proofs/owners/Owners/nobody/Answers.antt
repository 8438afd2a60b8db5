use Rattle.std.proofs.lemmas.List.{get_or-replicate}
use Rattle.d64_image.proofs.Places.{index_below}
use Rattle.d64_image.specs.Places.{index_of}
use Rattle.disk_pictures.specs.declared.owners.Owner.{Owner}
use Rattle.disk_pictures.specs.declared.owners.Owner.TheVariants as owners
use Rattle.disk_pictures.proofs.owners.Owners.nobody.Goals as goal

pub returns : goal.returns
returns c p = get_or-replicate {A = Owner} 683 (index_of p) owners.Nobody owners.Nobody (index_below p)
