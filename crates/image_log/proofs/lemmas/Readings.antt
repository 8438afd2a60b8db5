-- A log that was read, and the image that it gives.
use Rattle.std.proofs.Common.{◌≡◌, ℕ, List, Option, Some, refl, subst}
use Rattle.d64_image.specs.Images.{Image}
use Rattle.image_log.specs.Readers.{IsReadAs}
use Rattle.image_log.specs.Recovered.{base_of, recovered}
use Rattle.image_log.specs.life.Shops.{LogGives, given_by}
use Rattle.image_log.specs.life.Views.{Seen, SeenGives}

-- one that gives an image can be read
pub reads : (f : List ℕ) (image given : Image) → LogGives f image given → IsReadAs f (base_of f) (recovered f)
reads f image given gives = record { size = gives.size; based = gives.based; base = refl; shop = refl; ends = gives.ends }

pub seen_reads : (s : Seen) (f : List ℕ) → s.log ≡ Some f → (given : Image) → SeenGives s given
    → IsReadAs f (base_of f) (recovered f)
seen_reads s f log given gives = reads f s.image given (subst (λ (o : Option (List ℕ)). given_by o s.image given) log gives)
