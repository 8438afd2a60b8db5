-- Which file a name leads to. Our own.
use Rattle.std.specs.Prelude.{◌≡◌, ℕ, List}
use Rattle.std.specs.Fs.{metadata_len}
use Rattle.std.specs.declared.fs.attrs.Metadata.{Metadata}
use Rattle.image_file.specs.declared.paths.names.Identity.{Identity}
use Rattle.image_file.specs.paths.Traces.{Traces}

-- A path was looked at, and a file stood there that has as many bytes as this one. That it has its device and its number, too, no
-- contract can say.
pub record IsSeenAs {H F : Type 0} (traces : Traces H F) (host : H) (path : List ℕ) (file : Identity) : Type 0 where
  pub found : Metadata
  pub seen : traces.seen host path found
  pub bytes : metadata_len found ≡ file.bytes
