-- How many reads a repair makes, by what the files own. Our own.
use Rattle.std.specs.Prelude.{ℕ, ◌≤◌, ◌+◌, List, OnOk, Result, flat_map, length}
use Rattle.d64_image.specs.History.{History}
use Rattle.disk_layout.specs.Layout.{File, file_owns}
use Rattle.disk_layout.specs.declared.faults.Fault.{Fault}

-- how many sectors these files own
abbrev pub owned_by : List File → ℕ
owned_by fs = length (flat_map file_owns fs)

-- a call that makes at most n reads, and at an error at most 732 more, those of one entry
pub record ReadsFew {D T : Type 0} (S : History D) (old new : D) (n : ℕ) (result : Result T Fault) : Type 0 where
  pub ok : OnOk result (S.reads new ≤ S.reads old + n)
  pub any : S.reads new ≤ S.reads old + (n + 732)
