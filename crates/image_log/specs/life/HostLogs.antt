-- What a host says of the folders in which images stand with their logs. Our own.
use Rattle.std.specs.Prelude.{Bool, List, Option, ℕ}
use Rattle.std.specs.declared.io.traits.Read.{Ghosts as ReadGhosts}
use Rattle.std.specs.declared.io.traits.Seek.{Ghosts as SeekGhosts}
use Rattle.image_file.specs.declared.paths.host.HostFiles.{Ghosts}
use Rattle.image_log.specs.Files.{FileHistory}
use Rattle.image_log.specs.life.Folders.{FolderHistory}
use Rattle.image_log.specs.life.Untagged.{asked_in, untagged_in}
use Rattle.image_log.specs.declared.life.host_folder.HostFolder.{HostFolder}
use Rattle.image_log.specs.declared.life.image_folder.ImageFolder.{ImageFolder}
use Rattle.image_log.specs.declared.life.read_log.ReadLog.{ReadLog}
use Rattle.image_log.specs.declared.life.system_log.SystemLog.{SystemLog}

-- a history of the folders, in which IMAGE has its tag
abbrev pub HostFolders : (H F : Type 0) → Type 1
HostFolders H F = (g : Ghosts H F) (r : ReadGhosts F) (s : SeekGhosts F) → FolderHistory (HostFolder H F g r s)

-- a history of the logs, once each is asked whether its name leads to it
abbrev pub LogHistories : (H F : Type 0) → Type 1
LogHistories H F = (g : Ghosts H F) (r : ReadGhosts F) (s : SeekGhosts F) → FileHistory (SystemLog H F g r s)

-- a history of the folders, in which IMAGE has no tag
abbrev pub FolderHistories : (H F : Type 0) → Type 1
FolderHistories H F = (g : Ghosts H F) (r : ReadGhosts F) (s : SeekGhosts F) → FolderHistory (ImageFolder H F g r s)

-- the bytes of a log that is read, if they are known
abbrev pub LogBytes : (H F : Type 0) → Type 0
LogBytes H F = ReadLog H F → Option (List ℕ)

-- whether reading it may have failed
abbrev pub LogFailures : (H F : Type 0) → Type 0
LogFailures H F = ReadLog H F → Bool

-- what is known of the folders by these histories
abbrev pub untagged_folders : {H F : Type 0} → HostFolders H F → FolderHistories H F
untagged_folders folders g r s = untagged_in (λ folder. folder.at) (λ folder. folder.checks.failed) (folders g r s)

-- and of the logs in them
abbrev pub asked_logs : {H F : Type 0} → FileHistory F → LogHistories H F
asked_logs logs g r s = asked_in (λ log. log.file) (λ log. log.checks.failed) logs
