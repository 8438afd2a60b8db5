-- A folder whose log is open. Our own.
use Rattle.std.specs.Prelude.{◌≡◌, Some}
use Rattle.d64_image.specs.Images.{Image}
use Rattle.image_log.specs.life.Folders.{AllLeft, Folder, FolderHistory}
use Rattle.image_log.specs.Logs.{StandsFor, log_file}
use Rattle.image_log.specs.declared.log.Log.{Log}
use Rattle.image_log.specs.declared.log_file.LogFile.{Ghosts}

-- The log is open, and stands for this image; IMAGE has it too, and a power loss leaves both.
pub record IsServing {F D : Type 0} {G : Ghosts F} (h : FolderHistory D) (d : D) (log : Log F G) (shop : Image) : Type 0 where
  pub stands : StandsFor log shop shop
  pub some : Folder
  pub held : h.held d ≡ Some some
  pub image : some.image ≡ shop
  pub beside : some.log ≡ Some stands.bytes
  pub left : AllLeft h d (λ s. (s.image ≡ shop) × (s.log ≡ Some stands.bytes) × (s.making ≡ some.making))
  -- the folder speaks of the log as it is now
  pub lent : h.lent d ≡ G.history.moment (log_file log)
