-- What a host says of calls that were made. Our own.
use Rattle.std.specs.Prelude.{◌≡◌, [], ℕ, List, Option, Some, ⊤}
use Rattle.std.specs.declared.fs.attrs.Metadata.{Metadata}
use Rattle.image_file.specs.Remains.{Remains}
use Rattle.image_file.specs.Replacing.{NowAll}
use Rattle.image_file.specs.paths.Rights.{Make, Use, Write}

-- Facts that only calls of a host give.
pub record Traces (H F : Type 0) : Type 1 where
  -- this is what stood at a path when it was looked at
  pub seen : H → List ℕ → Metadata → Type 0
  -- this file was opened in this way at a path, or made there, and is as it was then
  pub opened : H → Use → List ℕ → F → Type 0
  -- what had the first path got the second one, at which nothing stood
  pub moved : H → (from to : List ℕ) → Type 0
  -- it got it in the place of the file that had it
  pub renamed : H → (from to : List ℕ) → Type 0
  -- a name was taken away, a folder was made, the names beside a path were synced
  pub removed : H → (path : List ℕ) → Type 0
  pub made : H → (path : List ℕ) → Type 0
  pub synced : H → (path : List ℕ) → Type 0

-- of a host that says nothing
abbrev pub untraced : {H F : Type 0} → Traces H F
untraced = record {
  seen = λ _ _ _. ⊤;
  opened = λ _ _ _ _. ⊤;
  moved = λ _ _ _. ⊤;
  renamed = λ _ _ _. ⊤;
  removed = λ _ _. ⊤;
  made = λ _ _. ⊤;
  synced = λ _ _. ⊤;
}

-- A file was made at a path, which is empty then. It was left so that it holds these bytes, and they remain if power goes.
pub record IsWrittenAt {H F : Type 0} (remains : Remains F) (traces : Traces H F) (host : H) (path bytes : List ℕ)
    : Type 0 where
  pub made : F
  pub left : F
  pub at : traces.opened host Make path made
  pub held : remains.held made ≡ Some [] → remains.held left ≡ Some bytes
  pub lasting : remains.held made ≡ Some [] → NowAll remains left (λ s. s ≡ bytes)

-- A file was opened at a path to be written, and left so that it holds these bytes, and they remain if power goes.
pub record IsWrittenOver {H F : Type 0} (remains : Remains F) (traces : Traces H F) (host : H) (path bytes : List ℕ)
    : Type 0 where
  pub opened : F
  pub left : F
  pub at : traces.opened host Write path opened
  pub held : (all : List ℕ) → remains.held opened ≡ Some all → remains.held left ≡ Some bytes
  pub lasting : NowAll remains left (λ s. s ≡ bytes)

-- the file was opened at a path to be changed, and holds what it held then
abbrev pub IsOpened : {H F : Type 0} → Traces H F → (held : F → Option (List ℕ)) → H → (path : List ℕ) → F → Type 0
IsOpened {H} {F} traces held host path file =
    (opened : F) × traces.opened host Write path opened × (held file ≡ held opened)
