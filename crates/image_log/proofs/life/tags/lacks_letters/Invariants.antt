use Rattle.std.proofs.Common.{◌≢◌, ◌<◌, ◌+◌, ℕ, slice_index}
use Rattle.image_log.specs.life.Tags.{tag}
use Rattle.image_log.proofs.life.tags.lacks_letters.Given as goal

abbrev pub invariant-loop-j : goal.invariant-loop-j
invariant-loop-j l = (k : ℕ) → k < l.j → slice_index l.sector (248 + k) ≢ slice_index tag k
