-- A log that is landed: what each step leaves. Our own.
use Rattle.std.specs.Prelude.{ℕ, ◌≡◌, ◌≤◌, [], ◌∷◌, List, None, Option, Some, length}
use Rattle.d64_image.specs.Images.{Image}
use Rattle.image_log.specs.Files.{Mixed, overwritten}
use Rattle.image_log.specs.life.Folders.{AllLeft, Folder, FolderHistory, HasImage, HasNames}
use Rattle.image_log.specs.life.Mixes.{IsMixOf}
use Rattle.image_log.specs.life.Shops.{Gives, GivesOneOf}

-- the log with its mark
abbrev pub marked_log : List ℕ → List ℕ
marked_log f = overwritten f 4194304 (1 ∷ [])

-- what may be left of a log while its mark is written
abbrev pub MarkTorn : List ℕ → List ℕ → Type 0
MarkTorn from c = 4194305 ≤ length from → Mixed 4194304 (1 ∷ []) from c

-- IMAGE and the names are as reads find them
abbrev pub IsSettledAs : Folder → Folder → Type 0
IsSettledAs held s = HasImage held s × HasNames held s

-- these bytes are its log
abbrev pub HasLog : List ℕ → Folder → Type 0
HasLog log s = s.log ≡ Some log

-- the log with its mark, beside the IMAGE that reads find
abbrev pub IsMarkedIn : List ℕ → Folder → Folder → Type 0
IsMarkedIn log held s = HasLog (marked_log log) s × HasImage held s

-- these bytes are its log, and IMAGE is a mix of two images
abbrev pub IsLanding : List ℕ → Image → Image → Folder → Type 0
IsLanding log base shop s = HasLog log s × IsMixOf base shop s.image

-- IMAGE is this image, and the folder gives it too
abbrev pub IsBrought : Image → Folder → Type 0
IsBrought shop s = (s.image ≡ shop) × Gives s shop

-- IMAGE is this image, and these bytes are its log, if it has one
abbrev pub IsWith : Option (List ℕ) → Image → Folder → Type 0
IsWith log image s = (s.image ≡ image) × (s.log ≡ log)

module _ {D : Type 0} (h : FolderHistory D) where
  -- The folder is known and gives one of these images, as does each that a power loss may leave. Each of these has the
  -- IMAGE and the names that reads find.
  pub record IsFound (d : D) (shops : List Image) (s : Folder) : Type 0 where
    pub held : h.held d ≡ Some s
    pub gives : GivesOneOf shops s
    pub left : AllLeft h d (GivesOneOf shops)
    pub settled : AllLeft h d (IsSettledAs s)

  -- The folder has this image, and this log or none, and a power loss leaves that.
  pub record RestsWith (d : D) (log : Option (List ℕ)) (image : Image) : Type 0 where
    pub some : Folder
    pub held : h.held d ≡ Some some
    pub is : IsWith log image some
    pub left : AllLeft h d (IsWith log image)

  -- the same of an image with no log
  abbrev pub RestsAlone : D → Image → Type 0
  RestsAlone d image = RestsWith d None image
