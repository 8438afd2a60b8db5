-- The files that are removed: which one stood there was seen before. Our own.
use Rattle.std.specs.Prelude.{◌≡◌, ◌⊎◌, ℕ, List}
use Rattle.std.specs.Fs.{IsFile, file_type, metadata_len}
use Rattle.std.specs.declared.fs.attrs.Metadata.{Metadata}
use Rattle.image_file.specs.declared.paths.names.Identity.{Identity}
use Rattle.image_file.specs.paths.Names.{IsSeenAs}
use Rattle.image_file.specs.paths.Traces.{Traces}
use Rattle.image_log.specs.life.LogRights.{log_of}

module _ {H F : Type 0} (traces : Traces H F) (host : H) where
  -- A path was looked at, and a regular file stood there that is empty, or as long as a log.
  pub record IsMakingSeen (path : List ℕ) : Type 0 where
    pub found : Metadata
    pub seen : traces.seen host path found
    pub file : IsFile (file_type found)
    pub bytes : (metadata_len found ≡ 0) ⊎ (metadata_len found ≡ 4198400)

  -- The name of an image's log was seen to lead to this one, and was taken away.
  pub record IsLogForgotten (image : List ℕ) (log : Identity) : Type 0 where
    pub seen : IsSeenAs traces host (log_of image) log
    pub removed : traces.removed host (log_of image)
