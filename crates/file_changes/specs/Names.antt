-- Names of files, as they are typed. Our own.
use Rattle.std.specs.Prelude.{◌≡◌, ◌≢◌, ◌≤◌, ◌-◌, ℕ, List, Some, length, slice_get}
use Rattle.line_text.specs.bytes.Texts.{text_of}
use Rattle.file_changes.specs.declared.names.Name.{Name}

-- the bytes of a name
abbrev pub name_bytes : Name → List ℕ
name_bytes name = name.bytes.items

-- These bytes have this text, and are a name: sixteen at most, the last of which isn't a shifted space.
pub record IsNameOf (text bytes : List ℕ) : Type 0 where
  pub is : text ≡ text_of bytes
  pub short : length bytes ≤ 16
  pub ended : slice_get bytes (length bytes - 1) ≢ Some 160
