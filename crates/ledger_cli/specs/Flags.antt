-- Flags among the words. Our own.
use Rattle.std.specs.Prelude.{Bool, List, codes}
use Rattle.std.specs.Str.{bytes_eq}
use Rattle.clap.specs.Words.{Row, Text}
use Rattle.command_table.specs.Grammar.{value}

-- a flag is among the words
abbrev pub is_given : Text → List Row → Bool
is_given flag rows = bytes_eq (value flag rows) (codes "true")
