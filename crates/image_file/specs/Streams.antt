-- The standard streams, by their numbers, which are those of POSIX: 0 is standard input, 1 standard output, 2 standard
-- error.
use Rattle.std.specs.Prelude.{◌≡◌, ℤ, IfSome, Option, pos}
use Rattle.image_file.specs.declared.streams.ClosedStreams.{ClosedStreams}

-- the file has this number, if its type says which number it has
abbrev pub IsAt : {F : Type 0} → (F → Option ℤ) → ℤ → F → Type 0
IsAt number n file = IfSome (number file) (λ m. m ≡ n)

-- each of the files that are held stands in for its stream
pub record AreStreams {F : Type 0} (number : F → Option ℤ) (held : ClosedStreams F) : Type 0 where
  pub input : IfSome held.input (IsAt number (pos 0))
  pub output : IfSome held.output (IsAt number (pos 1))
  pub errors : IfSome held.errors (IsAt number (pos 2))
