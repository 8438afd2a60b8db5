-- The quotation marks of a column (RFC 4180).
use Rattle.std.specs.Prelude.{◌-◌, ◌&&◌, ℕ, Bool, List, if◌then◌else◌, length, nat_eq, nat_le, slice_index, slice_range}

-- a column is between quotation marks
abbrev pub has_marks : List ℕ → Bool
has_marks column = nat_le 2 (length column)
    && (nat_eq (slice_index column 0) 34 && nat_eq (slice_index column (length column - 1)) 34)

-- a column without them
abbrev pub without_marks : List ℕ → List ℕ
without_marks column = if has_marks column then slice_range column 1 (length column - 1) else column
