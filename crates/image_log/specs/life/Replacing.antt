-- An image that takes the place of another, by a log that gives it. Our own.
use Rattle.std.specs.Prelude.{◌≡◌, ◌⊎◌, List, Option, Some, ℕ}
use Rattle.d64_image.specs.Images.{Image}
use Rattle.image_log.specs.Files.{FileHistory, Only}
use Rattle.image_log.specs.declared.life.replacing.ReplaceFault.{ReplaceFault}
use Rattle.image_log.specs.declared.life.replacing.ReplaceFault.TheVariants as faults
use Rattle.image_log.specs.life.Bringing.{IsLanding, IsWith}
use Rattle.image_log.specs.life.Folders.{AllLeft, Folder, FolderHistory}
use Rattle.image_log.specs.life.Folders.Making.{Fresh}
use Rattle.image_log.specs.life.Mixes.{IsMixOf}
use Rattle.image_log.specs.life.Shops.{Gives, LogGives}

-- the folder is as it was, with this image and this log, or gives the image after
abbrev pub KeepsOrGives : Option (List ℕ) → Image → Image → Folder → Type 0
KeepsOrGives log before after s = IsWith log before s ⊎ Gives s after

-- the log that would give the image after wasn't made
abbrev pub IsUnbegun : ReplaceFault → Type 0
IsUnbegun (faults.Unbegun error) = Unit {0}
IsUnbegun (faults.Unfinished error) = ⊥

-- The file holds a log that gives the image after beside each mix of the two, and a power loss leaves that.
pub record IsMarkedFor {F : Type 0} (g : FileHistory F) (file : F) (before after : Image) : Type 0 where
  pub bytes : List ℕ
  pub held : g.held file ≡ Some bytes
  pub durable : Only bytes (g.may_leave file)
  pub gives : (image : Image) → IsMixOf before after image → LogGives bytes image after

module _ {D : Type 0} (h : FolderHistory D) where
  -- The folder has this image and this log, and one in the making that gives the other image.
  pub record IsMade {F : Type 0} (g : FileHistory F) (d : D) (file : F) (log : Option (List ℕ)) (before after : Image)
      : Type 0 where
    pub some : Folder
    pub held : h.held d ≡ Some some
    pub image : some.image ≡ before
    pub fresh : some.making ≡ Fresh
    pub left : AllLeft h d (IsWith log before)
    pub marked : IsMarkedFor g file before after

  -- Its log gives the other image, beside each mix of the two, and a power loss leaves the log and such a mix.
  pub record IsCommitted (d : D) (before after : Image) : Type 0 where
    pub some : Folder
    pub held : h.held d ≡ Some some
    pub image : some.image ≡ before
    pub bytes : List ℕ
    pub left : AllLeft h d (IsLanding bytes before after)
    pub gives : (image : Image) → IsMixOf before after image → LogGives bytes image after
