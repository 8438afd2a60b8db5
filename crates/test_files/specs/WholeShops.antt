-- What a file in memory holds of a shop at any moment of a run that syncs it at the end. Our own.
use Rattle.std.specs.Prelude.{ℕ, List, []}
use Rattle.d64_image.specs.Memory.{sectors_in}
use Rattle.host_session.specs.events.Events.{HasNoReset, Message, requests_of}
use Rattle.host_session.specs.events.Telling.{Output}
use Rattle.host_session.specs.runs.ScriptRuns.{AreToldSo}
use Rattle.host_session.specs.shop.Shop.{IsSettled, IsShop, Shop, start_of, with_state}
use Rattle.request_cards.specs.Ledgers.{plain, replies}
use Rattle.line_text.specs.scripts.Lines.{lines}
use Rattle.test_files.specs.Shops.{IsAfterSome, bytes_there}
use Rattle.test_files.specs.WholeFiles.{file_in, held_lasting, whole_held}
use Rattle.test_files.specs.declared.whole_file.WholeFile.{WholeFile}

-- these bytes were what the file held when it was `old`, when it is `new`, or between
abbrev pub WereHeld : (old new : WholeFile) → List ℕ → Type 0
WereHeld old new all = held_lasting.stayed new (held_lasting.moment old) all

-- Whenever the program dies from `old` to `new`, the file has the shop after a prefix of the messages.
pub record HoldsAShop (ms : List Message) (old new : WholeFile) : Type 0 where
  pub each : (s : Shop) → IsShop (sectors_in (whole_held old)) s → (all : List ℕ) → WereHeld old new all
      → IsAfterSome s ms all
  -- and so it has at the end
  pub now : (s : Shop) → IsShop (sectors_in (whole_held old)) s → IsAfterSome s ms (whole_held new)

-- A script without a reset was played. Each line has its reply over the lines before it, in order, and each counts. At
-- the end the disk has the shop after all of them, at rest.
pub record IsPlayedInFile {T : Type 0} (o : Output T) (script : List ℕ) (old new : WholeFile) (out new_out : T)
    : Type 0 where
  pub told : (s : Shop) → IsShop (sectors_in (whole_held old)) s → HasNoReset (lines script)
      → AreToldSo o out new_out (replies (start_of s) [] (lines script))
  pub there : (s : Shop) → IsShop (sectors_in (whole_held old)) s → HasNoReset (lines script)
      → IsSettled (sectors_in (bytes_there (file_in new)))
      (with_state s (plain (start_of s) (requests_of (lines script))))
