-- What an image's folder stands for, and what a change of the image leaves of that at each moment. Our own.
use Rattle.std.specs.Prelude.{◌≡◌, ◌⊎◌, ◌<◌, ℕ, List, [], ◌∷◌, ◌++◌, codes, false, Option, Some}
use Rattle.one_host.specs.Worlds.{IsMix, Kept, Left, MayLeave, World}
use Rattle.one_host.specs.declared.parts.Entry.{Entry}
use Rattle.one_host.specs.declared.parts.Entry.TheVariants.{Leads, Nothing, Nowhere}

-- the path of an image's log
abbrev pub log_of : List ℕ → List ℕ
log_of path = path ++ codes "-log"

-- the path of a log in the making
abbrev pub making_of : List ℕ → List ℕ
making_of path = log_of path ++ codes ".new"

-- which image a log with these bytes stands for, beside an image's file with these bytes; None if it is refused
abbrev pub Logs : Type 0
Logs = (log image : List ℕ) → Option (List ℕ)

-- It stands for the new image, whichever mix of the old one and the new one the image's file has.
abbrev pub GivesBeside : Logs → (log old new : List ℕ) → Type 0
GivesBeside logs log old new = (image : List ℕ) → IsMix new (old ∷ []) image → logs log image ≡ Some new

-- what the image's file, and the entry of its log's name, stand for
abbrev pub ByLog : Logs → Left → List ℕ → Entry → List ℕ → Type 0
ByLog logs left image Nothing given = given ≡ image
ByLog logs left image Nowhere given = ⊥
ByLog logs left image (Leads n) given = logs (left.bytes n) image ≡ Some given

-- after a power loss the folder stands for this image
pub record Stands (logs : Logs) (path : List ℕ) (left : Left) (given : List ℕ) : Type 0 where
  pub image : ℕ
  pub led : left.names path ≡ Leads image
  pub by_log : ByLog logs left (left.bytes image) (left.names (log_of path)) given

-- whatever a power loss leaves at this moment, the folder stands for the old image, or for the new one
abbrev pub Gives : Logs → (path old new : List ℕ) → World → Type 0
Gives logs path old new w = (left : Left) → MayLeave w left → Stands logs path left old ⊎ Stands logs path left new

-- whatever a power loss leaves at this moment, the folder stands for this image
abbrev pub Always : Logs → (path given : List ℕ) → World → Type 0
Always logs path given w = (left : Left) → MayLeave w left → Stands logs path left given

-- what was synced since it changed
abbrev pub whole : {A : Type 0} → A → Kept A
whole x = record { now = x; before = []; in_doubt = false }

-- The image is in this file, has these bytes, and no log. All of that is synced.
pub record Rests (path : List ℕ) (file : ℕ) (bytes : List ℕ) (w : World) : Type 0 where
  pub led : w.names path ≡ whole (Leads file)
  pub name : w.names (log_of path) ≡ whole Nothing
  pub image : (w.files file).bytes ≡ whole bytes
  pub used : file < w.used
