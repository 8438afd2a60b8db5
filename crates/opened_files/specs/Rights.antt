-- What a job may do with the files that its words name, and with the logs beside them. Our own.
use Rattle.std.specs.Prelude.{◌≡◌, ◌≢◌, ℕ, List, ◌++◌, codes}
use Rattle.file_rescues.specs.rescue.Folders.{StaysInside}
use Rattle.image_log.specs.life.LogRights.{MayForgetLog, MayKeepLog, MayReadLog}
use Rattle.image_file.specs.paths.Rights.{Look, Make, May, MayRead, MayWrite, Read, Remove, Rights}

-- the path that stands for standard input, which is never opened
abbrev pub standard_input : List ℕ
standard_input = codes "/dev/stdin"

-- the path of a file in a folder
abbrev pub path_in : List ℕ → List ℕ → List ℕ
path_in folder name = folder ++ codes "/" ++ name

-- a name under which a file or a folder is made that gets this path when it is whole
abbrev pub aside_of : List ℕ → List ℕ → List ℕ
aside_of path end = path ++ codes ".new" ++ end

module _ {H : Type 0} (rights : Rights H) (host : H) where
  -- a file may be read, with the log beside it
  abbrev pub MayReadFile : List ℕ → Type 0
  MayReadFile path = MayRead rights host path × MayReadLog rights host path

  -- an image may be read
  abbrev pub MayReadImage : List ℕ → Type 0
  MayReadImage path = path ≢ standard_input → MayReadFile path

  -- a script, a text, or a file whose bytes are put on a disk may be read
  abbrev pub MayReadText : List ℕ → Type 0
  MayReadText path = path ≢ standard_input → May rights host Read path

  -- what stands at a path may be asked
  abbrev pub MayLook : List ℕ → Type 0
  MayLook path = path ≢ standard_input → May rights host Look path

  -- what stands at a path may be asked, and whether the names are taken under which something is made that gets this path
  abbrev pub MayLookAside : List ℕ → Type 0
  MayLookAside path = MayLook path × ((end : List ℕ) → May rights host Look (aside_of path end))

  -- an image may be written, and its log kept
  abbrev pub MayChangeImage : List ℕ → Type 0
  MayChangeImage path = MayWrite rights host path × MayKeepLog rights host path

  -- a file of this name may be made, and removed again
  abbrev pub MayTry : List ℕ → Type 0
  MayTry name = May rights host Look name × May rights host Make name × May rights host Remove name

  -- a file or a folder may be made where nothing is, under another name first
  abbrev pub MayMakeNew : List ℕ → Type 0
  MayMakeNew path = May rights host Look path × May rights host Make path × ((end : List ℕ) → MayTry (aside_of path end))

  -- an image may be made where nothing is
  abbrev pub MayMakeImage : List ℕ → Type 0
  MayMakeImage path = MayMakeNew path × MayForgetLog rights host path

  -- a folder may be made, and files in it
  abbrev pub MayFill : List ℕ → Type 0
  MayFill folder = MayMakeNew folder
      × ((end name : List ℕ) → StaysInside name → MayTry (path_in (aside_of folder end) name))

  -- the same of a path that may have a slash at its end
  abbrev pub MayFillAt : List ℕ → Type 0
  MayFillAt path = MayFill path × ((folder : List ℕ) → path ≡ folder ++ codes "/" → MayFill folder)
