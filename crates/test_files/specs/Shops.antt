-- The shop that bytes of a file in memory have. Our own.
use Rattle.std.specs.Prelude.{◌≡◌, ℕ, List, length}
use Rattle.d64_image.specs.Memory.{sectors_in}
use Rattle.host_session.specs.events.Events.{Message}
use Rattle.host_session.specs.runs.Runs.{IsSomeBeginning}
use Rattle.host_session.specs.shop.Shop.{Shop}
use Rattle.test_files.specs.Disks.{disk_bytes}
use Rattle.test_files.specs.Files.{file_disk}
use Rattle.test_files.specs.declared.disk_file.DiskFile.{DiskFile}

-- what is on the file's disk
abbrev pub bytes_there : DiskFile → List ℕ
bytes_there f = disk_bytes (file_disk f)

-- these bytes are an image of the shop after a counted list of some beginning of these messages
abbrev pub IsAfterSome : Shop → List Message → List ℕ → Type 0
IsAfterSome s ms all = (length all ≡ 174848) × IsSomeBeginning s ms (λ _. Unit {0}) (sectors_in all)
