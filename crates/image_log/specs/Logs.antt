-- An open log, and the image that it stands for. Our own.
use Rattle.std.specs.Prelude.{ℕ, ◌+◌, ◌≡◌, ◌<◌, ◌||◌, Bool, List, Some, length, nat_lt, true}
use Rattle.d64_image.specs.Images.{Image}
use Rattle.image_log.specs.Files.{Only}
use Rattle.image_log.specs.Recovered.{EndsTorn, base_end, base_of, commits_end, recovered}
use Rattle.image_log.specs.declared.log.Log.{Log}
use Rattle.image_log.specs.declared.log_file.LogFile.{Ghosts}

module _ {F : Type 0} {G : Ghosts F} where
  -- the file
  abbrev pub log_file : Log F G → F
  log_file l = l.file

  -- how many blocks its commits take
  abbrev pub log_end : Log F G → ℕ
  log_end l = l.end

  -- no more commits: it was marked, or a call of its file failed
  abbrev pub is_closed : Log F G → Type 0
  is_closed l = l.closed ≡ true

  -- whether it takes no more commits: it is closed, or too full for one more
  abbrev pub takes_none : Log F G → Bool
  takes_none l = l.closed || nat_lt 1024 (l.end + 46)

  -- An open log whose file is known: its base, and the image that it stands for. A power loss leaves these bytes.
  pub record StandsFor (l : Log F G) (start now : Image) : Type 0 where
    pub is_open : is_closed l → ⊥
    pub bytes : List ℕ
    pub held : G.history.held l.file ≡ Some bytes
    pub durable : Only bytes (G.history.may_leave l.file)
    pub size : length bytes ≡ 4198400
    pub based : 0 < base_end bytes
    pub base : base_of bytes ≡ start
    pub image : recovered bytes ≡ now
    pub ends : EndsTorn bytes (commits_end bytes)
