-- A shop's life over a log: services of lines, one after another, in any of which power may go. Each is what the contract of
-- `serve_batches` says. All of it is our own.
use Rattle.std.specs.Prelude.{◌≡◌, ◌≤◌, ◌+◌, ◌⊎◌, ℕ, List, [], ◌∷◌, ◌++◌, Err, Ok, Result, length, option_to_list}
use Rattle.d64_image.specs.Images.{Image}
use Rattle.d64_image.specs.Memory.{disk_image}
use Rattle.d64_image.specs.declared.mem_disk.MemDisk.{MemDisk}
use Rattle.host_session.specs.declared.runs.event_loop.LoopFault.{LoopFault}
use Rattle.host_session.specs.declared.runs.event_loop.LoopFault.TheVariants as faults
use Rattle.host_session.specs.runs.Chains.{told_in}
use Rattle.host_session.specs.shop.Shop.{IsShop, Shop, start_of}
use Rattle.image_log.specs.ImageLogs.{LeavesImages, LogHistory}
use Rattle.line_server.specs.Batches.{BatchInput}
use Rattle.line_server.specs.logged.Reporting.{LogOutput}
use Rattle.line_server.specs.logged.Serves.{AreFirst, IsServedOver, shop_behind}
use Rattle.line_text.specs.scripts.Lines.{lines}
use Rattle.request_cards.specs.Ledgers.{replies}
use Rattle.request_cards.specs.declared.reply.Reply.{Reply}

-- One service: what it was passed and what it left; the moment at which power went, if it did; and the image that stands
-- there afterwards.
pub record Service (L R T : Type 0) : Type 0 where
  pub disk : MemDisk
  pub old : L
  pub new : L
  pub old_in : R
  pub new_in : R
  pub old_out : T
  pub new_out : T
  pub result : Result MemDisk (LoopFault × MemDisk)
  pub at : ℕ
  pub next : Image

-- the service ended with this disk, for which the log stands
abbrev pub EndsWith : Result MemDisk (LoopFault × MemDisk) → MemDisk → Type 0
EndsWith (Ok e) d = e ≡ d
EndsWith (Err e) d = (e.1 ≡ d) × ((e.0 ≡ faults.Input) ⊎ (e.0 ≡ faults.Output))

-- the first n lines count, and with them each line from the k-th on whose reply was reported by that moment
abbrev pub AreKept : {L : Type 0} → LogHistory L → ℕ → ℕ → ℕ → List (Reply × L) → Type 0
AreKept h at n k [] = Unit {0}
AreKept h at n k (x ∷ xs) = (h.moment x.1 ≤ at → k + 1 ≤ n) × AreKept h at n (k + 1) xs

-- the image is the shop's after these lines and some first ones of those
abbrev pub IsBehindSome : Shop → (before ls : List (List ℕ)) → Image → Type 0
IsBehindSome s before ls c = (front : List (List ℕ)) × (rest : List (List ℕ)) × (front ++ rest ≡ ls)
    × IsShop c (shop_behind s (before ++ front))

module _ {L R T : Type 0} (h : LogHistory L) (i : BatchInput R) (o : LogOutput L T) where
  -- A service may be on this image: its log stood for the image, and it did what its contract says. Then it ended, or power
  -- went at a moment in it or after it, and left what log and image may leave then.
  pub record May (image : Image) (x : Service L R T) : Type 0 where
    pub disk : disk_image x.disk ≡ image
    pub stood : h.stands_for x.old (disk_image x.disk)
    pub served : IsServedOver h i o x.disk x.old x.new x.old_in x.new_in x.old_out x.new_out x.result
    pub left : ((d : MemDisk) × EndsWith x.result d × (x.next ≡ disk_image d))
        ⊎ ((h.moment x.old ≤ x.at) × ((t : ℕ) → t ≤ x.at → h.left_since x.new t x.next))

  -- each service is on the image that the one before left
  abbrev pub IsLife : Image → List (Service L R T) → Type 0
  IsLife image [] = Unit {0}
  IsLife image (x ∷ xs) = May image x × IsLife x.next xs

  -- One service, where these lines counted before it, and these of its own.
  pub record Keeps (s : Shop) (before : List (List ℕ)) (image : Image) (x : Service L R T) (may : May image x)
      (own : List (List ℕ)) : Type 0 where
    -- its own are first ones of those that it handled, with each whose reply was reported before power went
    pub rest : List (List ℕ)
    pub parts : own ++ rest ≡ lines may.served.handled
    pub kept : AreKept h x.at (length own) 0 (may.served.turns ++ option_to_list may.served.last)
    -- the replies that were reported are those to its first lines, over the shop after the lines before it
    pub told : AreFirst (told_in (may.served.turns ++ option_to_list may.served.last))
        (replies (start_of (shop_behind s before)) [] (lines may.served.handled))
    -- at each moment power leaves the shop after those before it, and first ones of its lines
    pub held : LeavesImages h x.old x.new (IsBehindSome s before (lines may.served.handled))
    -- and what stands there afterwards is the shop after all that count
    pub at : IsShop x.next (shop_behind s (before ++ own))

  -- each service keeps this
  abbrev pub KeepAll : Shop → List (List ℕ) → (image : Image) → (xs : List (Service L R T)) → IsLife image xs
      → List (List (List ℕ)) → Type 0
  KeepAll s before image [] life [] = Unit {0}
  KeepAll s before image (x ∷ xs) life (n ∷ ns) =
      Keeps s before image x life.0 n × KeepAll s (before ++ n) x.next xs life.1 ns
  KeepAll s before image _ life _ = ⊥

  -- One list of lines goes with the life, a part of it for each service.
  abbrev pub HasOneList : Shop → (image : Image) → (xs : List (Service L R T)) → IsLife image xs → Type 0
  HasOneList s image xs life = (parts : List (List (List ℕ))) × KeepAll s [] image xs life parts
