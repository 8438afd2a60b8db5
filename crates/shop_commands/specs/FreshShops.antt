-- The shop of a fresh disk, and what is printed of a script on it. All of it is our own.
use Rattle.std.specs.Prelude.{◌≡◌, ◌↔◌, ◌≤◌, ℕ, List, [], None, codes, length}
use Rattle.d64_image.specs.History.{History}
use Rattle.d64_image.specs.Images.{Image}
use Rattle.d64_image.specs.Memory.{sectors_in}
use Rattle.disk_layout.specs.BlankLayout.{blank_top}
use Rattle.host_session.specs.events.Events.{HasNoReset, messages_of}
use Rattle.host_session.specs.runs.Runs.{IsPlayedWhole}
use Rattle.host_session.specs.shop.Blank.{blank_shop}
use Rattle.host_session.specs.shop.Shop.{IsSettled, IsShop, Shop, start_of}
use Rattle.request_cards.specs.Ledgers.{replies, report}
use Rattle.request_cards.specs.declared.reply.Reply.{Reply}
use Rattle.line_text.specs.scripts.Lines.{first_reset, lines}
use Rattle.shop_commands.specs.Images.{AreFreshBytes, IsFreshDisk}
use Rattle.shop_commands.specs.Shows.{shown_shop, top_line}
use Rattle.shop_commands.specs.DryRuns.{dry_report, dry_start}

-- the blank image's shop, by the name and the id of our disks
abbrev pub fresh_shop : ℕ → Shop
fresh_shop tills = blank_shop (codes "STOCK LEDGER") (codes "01") tills

-- the bytes have the length of an image, and their sectors are a fresh disk's
pub record IsFreshImage (tills : ℕ) (bytes : List ℕ) : Type 0 where
  pub size : length bytes ≡ 174848
  pub disk : IsFreshDisk (sectors_in bytes) tills

-- the bytes of a fresh disk are a whole image, and that is a fresh disk
abbrev pub FreshBytesAreADisk : Type 0
FreshBytesAreADisk = (tills : ℕ) (bytes : List ℕ) → AreFreshBytes tills bytes → IsFreshImage tills bytes

-- each fresh disk is the fresh shop's, at rest
abbrev pub FreshIsAShop : Type 0
FreshIsAShop = (tills : ℕ) (img : Image) → 1 ≤ tills → tills ≤ 64 → IsFreshDisk img tills
    → IsSettled img (fresh_shop tills)

-- what is shown of a fresh disk is only its top: no card, and no request of any till
abbrev pub FreshShowsItsTop : Type 0
FreshShowsItsTop = (tills : ℕ) (img : Image) (s : Shop) → 1 ≤ tills → tills ≤ 64 → IsFreshDisk img tills
    → IsShop img s → shown_shop s.top s.state ≡ top_line (blank_top tills)

-- whatever shop a fresh disk with 64 tills is, a list of requests begins there in the state in which the dry run's does
abbrev pub DryBeginsFresh : Type 0
DryBeginsFresh = (img : Image) (s : Shop) → IsFreshDisk img 64 → IsShop img s → start_of s ≡ dry_start

-- the dry run prints of a script the replies over the lines before each, from the shop of a fresh disk with 64 tills on
abbrev pub DryTellsReplies : Type 0
DryTellsReplies = (img : Image) (s : Shop) (script : List ℕ) → IsFreshDisk img 64 → IsShop img s
    → dry_report script ≡ report (replies (start_of s) [] (lines script))

-- a script without a line that begins with @, as the dry run finds it and as a run on a disk means it
abbrev pub SamePlainScripts : Type 0
SamePlainScripts = (script : List ℕ) → (first_reset (lines script) ≡ None) ↔ HasNoReset (lines script)

-- if a script without a line that begins with @ was played whole on a fresh disk with 64 tills, what was printed is what
-- the dry run prints of it
abbrev pub RunTellsDry : {D : Type 0} → History D → Type 0
RunTellsDry {D} h = (old new : D) (s : Shop) (script : List ℕ) (told : List Reply) → IsFreshDisk (h.image old) 64
    → IsShop (h.image old) s → first_reset (lines script) ≡ None
    → IsPlayedWhole h s (messages_of (lines script)) old new told → report told ≡ dry_report script
