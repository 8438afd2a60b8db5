-- Each place of the table has the number of nobody.
use Rattle.std.proofs.Common.{ℕ}
use Rattle.std.proofs.lemmas.List.{get_or-replicate}
use Rattle.d64_image.proofs.Places.{index_below}
use Rattle.d64_image.specs.Places.{index_of}
use Rattle.layout_check.specs.Owners.{owner_of}
use Rattle.layout_check.proofs.owners.Owners.new.Goals as goal

pub returns : goal.returns
unfolding owner_of
returns c p = get_or-replicate {A = ℕ} 683 (index_of p) 255 0 (index_below p)
