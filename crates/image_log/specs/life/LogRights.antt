-- What may be done with the log of an image, by its path. Our own.
use Rattle.std.specs.Prelude.{◌≡◌, ℕ, List, ◌++◌, codes, true}
use Rattle.image_file.specs.paths.Rights.{Look, Make, May, MayRead, MayWrite, Remove, Replace, Rights}

-- the path of the log of an image, beside it
abbrev pub log_of : List ℕ → List ℕ
log_of image = image ++ codes "-log"

-- the path of a log in the making, beside it too
abbrev pub making_of : List ℕ → List ℕ
making_of image = image ++ codes "-log.new"

module _ {H : Type 0} (rights : Rights H) (host : H) where
  -- for each file to which a path may be said to lead
  abbrev pub WhereItLeads : (List ℕ → Type 0) → List ℕ → Type 0
  WhereItLeads P path = (image : List ℕ) → rights.leads host path image ≡ true → P image

  -- the log of this image may be read
  abbrev pub MayReadLogOf : List ℕ → Type 0
  MayReadLogOf image = MayRead rights host (log_of image)

  -- the log of this image, and one in the making, may be looked at and removed, and that may be synced
  abbrev pub MayForget : List ℕ → Type 0
  MayForget image = May rights host Look image × May rights host Look (log_of image)
      × May rights host Remove (log_of image) × May rights host Look (making_of image)
      × May rights host Remove (making_of image)

  -- it may be read, written, made beside and put in its place, and removed
  abbrev pub MayKeepLogOf : List ℕ → Type 0
  MayKeepLogOf image = MayForget image × MayRead rights host (log_of image) × MayWrite rights host (log_of image)
      × May rights host Make (making_of image) × May rights host Replace (log_of image)

  -- the path may be asked where it leads, and the log beside that file read
  abbrev pub MayReadLog : List ℕ → Type 0
  MayReadLog path = May rights host Look path × WhereItLeads MayReadLogOf path

  -- or kept
  abbrev pub MayKeepLog : List ℕ → Type 0
  MayKeepLog path = May rights host Look path × WhereItLeads MayKeepLogOf path

  -- or read, and removed
  abbrev pub MayForgetLog : List ℕ → Type 0
  MayForgetLog path = May rights host Look path
      × WhereItLeads (λ image. MayForget image × MayReadLogOf image) path
