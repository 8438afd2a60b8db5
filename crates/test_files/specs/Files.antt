-- What a file in memory holds, and what of that is on its disk. Our own.
use Rattle.std.specs.Prelude.{◌≡◌, ◌≢◌, Bool, List, ℕ}
use Rattle.test_files.specs.Disks.{disk_bytes}
use Rattle.test_files.specs.declared.disk.Disk.{Disk}
use Rattle.test_files.specs.declared.disk_file.DiskFile.{DiskFile}
use Rattle.test_files.specs.declared.disk_file.Lock.TheVariants as locks

-- what it holds
abbrev pub file_held : DiskFile → List ℕ
file_held f = disk_bytes f.held

-- its disk
abbrev pub file_disk : DiskFile → Disk
file_disk f = f.disk

-- one of its calls failed
abbrev pub has_failed : DiskFile → Bool
has_failed f = f.failed

-- it is locked for its program alone
abbrev pub is_alone : DiskFile → Type 0
is_alone f = f.lock ≡ locks.Alone

-- it is locked, so that nobody else writes it
abbrev pub is_locked : DiskFile → Type 0
is_locked f = f.lock ≢ locks.None

-- a write that fails leaves no part of itself
abbrev pub is_whole : DiskFile → Type 0
is_whole f = f.part ≡ 0
