-- What the file of an image holds while a script is played over it, and then. Our own.
use Rattle.std.specs.Prelude.{◌≡◌, List, ℕ, IfSome, OnOk, Some, length, take}
use Rattle.d64_image.specs.Images.{Image}
use Rattle.d64_image.specs.Memory.{sectors_in}
use Rattle.host_session.specs.events.Events.{HasNoReset, Message, messages_of}
use Rattle.host_session.specs.runs.Runs.{IsSomeBeginning}
use Rattle.host_session.specs.shop.Shop.{IsSettled, Shop}
use Rattle.image_file.specs.Durable.{AllStays}
use Rattle.image_file.specs.declared.durability.WritesAt.{Ghosts}
use Rattle.image_file.specs.paths.Traces.{IsOpened, Traces}
use Rattle.line_server.specs.logged.Serves.{shop_behind}
use Rattle.line_text.specs.scripts.Lines.{lines}
use Rattle.opened_files.specs.Ends.{JobEnd}
use Rattle.shop_jobs.specs.Replies.{IsShopOf}

-- the image is the shop's after a counted list of a prefix of the messages
abbrev pub IsAfterSome : Shop → List Message → Image → Type 0
IsAfterSome s messages = IsSomeBeginning s messages (λ _. Unit {0})

-- A script was played on the shop of an image, and the job ended so. The file was as `file` when the image was read, and is as
-- `left`.
pub record HoldsShop {F : Type 0} (G : Ghosts F) (s : Shop) (script : List ℕ) (file left : F) (end : JobEnd) : Type 0 where
  -- each image that it held, at any moment, is the shop after some first messages
  pub each : (all : List ℕ) → length all ≡ 174848 → G.whole.lasting.stayed left (G.whole.lasting.moment file) all
      → IsAfterSome s (messages_of (lines script)) (sectors_in all)
  -- when the job is done, the image is the shop after all of them, at rest
  pub done : OnOk end (HasNoReset (lines script) → (all : List ℕ) → length all ≡ 174848
      → G.whole.lasting.bytes left ≡ Some all → IsSettled (sectors_in all) (shop_behind s (lines script)))
  -- and stays if power goes
  pub stays : OnOk end (AllStays G.held G.lasting left)

-- A script was played on the shop of the image in the file at a path.
pub record IsPlayedAt {H F : Type 0} (G : Ghosts F) (traces : Traces H F) (host : H) (path image script : List ℕ)
    (end : JobEnd) : Type 0 where
  -- when the image was read, and as it was left
  pub file : F
  pub left : F
  pub at : IsOpened traces G.held host path file
  pub read : IfSome (G.held file) (λ all. image ≡ take 174849 all)
  -- of a file of which it is known what it holds at each moment
  pub shop : (s : Shop) → IsShopOf image s → G.whole.lasting.bytes file ≡ Some image → HoldsShop G s script file left end
