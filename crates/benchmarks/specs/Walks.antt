-- The order in which the rounds go over the disk. Our own.
use Rattle.std.specs.Prelude.{ℕ, ◌+◌, nat_eq, if◌then◌else◌}

-- the index after this one, of 683
abbrev pub next_index : ℕ → ℕ
next_index n = if nat_eq n 682 then 0 else n + 1
