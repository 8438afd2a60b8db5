-- The image that a folder gives, by its log or by IMAGE. Our own: docs/LOG.md has the rule.
use Rattle.std.specs.Prelude.{ℕ, ◌<◌, ◌≡◌, ◌⊎◌, Contains, List, None, Option, Some, length, true}
use Rattle.d64_image.specs.Images.{Image}
use Rattle.image_log.specs.Recovered.{EndsTorn, base_end, base_of, commits_end, is_marked, recovered}
use Rattle.image_log.specs.life.Folders.{Folder}
use Rattle.image_log.specs.life.Mixes.{IsMixOf}

-- A log beside this IMAGE gives an image, that of its whole commits. IMAGE is its base; or the log is marked, and IMAGE is
-- a mix of its base and that image, since it was being brought there. A log that is damaged before its end gives none.
pub record LogGives (log : List ℕ) (image given : Image) : Type 0 where
  pub size : length log ≡ 4198400
  pub based : 0 < base_end log
  pub own : (image ≡ base_of log) ⊎ ((is_marked log ≡ true) × IsMixOf (base_of log) given image)
  pub is : recovered log ≡ given
  pub ends : EndsTorn log (commits_end log)

-- by the log, if there is one; otherwise IMAGE itself
abbrev pub given_by : Option (List ℕ) → Image → Image → Type 0
given_by None image given = image ≡ given
given_by (Some log) image given = LogGives log image given

-- what the next opening finds in the folder
abbrev pub Gives : Folder → Image → Type 0
Gives s given = given_by s.log s.image given

-- it is one of these images
abbrev pub GivesOneOf : List Image → Folder → Type 0
GivesOneOf shops s = (given : Image) × Contains shops given × Gives s given
