-- A shop that is served over one host. Our own.
use Rattle.std.specs.Prelude.{◌≡◌, ◌≤◌, ◌⊎◌, ◌==◌, ◌++◌, ℕ, List, [], false, length, take, true}
use Rattle.d64_image.specs.Images.{Image}
use Rattle.one_host.specs.Worlds.{World}
use Rattle.request_cards.specs.Ledgers.{replies, report}
use Rattle.line_text.specs.scripts.Lines.{lines}
use Rattle.host_session.specs.shop.Shop.{IsSettled, Shop, start_of}
use Rattle.image_log.specs.Recovered.{base_of, recovered}
use Rattle.kept_logs.specs.Files.{Leaves}
use Rattle.kept_logs.specs.Logs.{Stands, log_file}
use Rattle.kept_logs.specs.declared.logs.KeptLog.{KeptLog}
use Rattle.line_server.specs.Read.{AreWhole, LacksLf}
use Rattle.line_server.specs.logged.Serves.{HoldsFirst, shop_behind}

-- w is the world v, but for what was read and printed, and for the bytes of this file
pub record OnlyService (v : World) (n : ℕ) (w : World) : Type 0 where
  pub file : w.files n ≡ record (v.files n) { bytes = (w.files n).bytes }
  pub others : (m : ℕ) → (m == n) ≡ false → w.files m ≡ v.files m
  pub rest : w ≡ record v { files = w.files; heard = w.heard; ended = w.ended; said = w.said }

-- the shop of some first lines, of which there are so many at least; or, if none has to be there, the image as it was
abbrev pub StandsForFirst : Shop → Image → List (List ℕ) → ℕ → Image → Type 0
StandsForFirst s image ls least c = ((c ≡ image) × (least ≡ 0)) ⊎ HoldsFirst s ls least c

-- the text of the replies to the first of these lines, so many
abbrev pub first_replies : Shop → List (List ℕ) → ℕ → List ℕ
first_replies s ls count = report (take count (replies (start_of s) [] ls))

-- A moment of a service that began in the world v, with the shop s of this image, over a log with this base in this file. Each reply of which a byte
-- was printed is one of the first `told`; and whatever a power loss leaves of the log has at least the lines of these.
pub record Answers (s : Shop) (start image : Image) (v : World) (n : ℕ) (w : World) : Type 0 where
  pub only : OnlyService v n w
  -- the lines that were read, each with its LF, and what was read after them
  pub handled : List ℕ
  pub rest : List ℕ
  pub whole : AreWhole handled
  pub heard : w.heard ≡ v.heard ++ (handled ++ rest)
  pub told : ℕ
  pub unsaid : List ℕ
  pub said : w.said ++ unsaid ≡ v.said ++ first_replies s (lines handled) told
  pub left : Leaves n (λ c. (base_of c ≡ start) × StandsForFirst s image (lines handled) told (recovered c)) w

-- The service has ended with its input: all lines that were read were answered, and the log stands for the shop after them.
pub record HasServed (s : Shop) (start : Image) (v : World) (now : Image) (log : KeptLog) (w : World) : Type 0 where
  pub only : OnlyService v (log_file log) w
  pub handled : List ℕ
  pub rest : List ℕ
  pub whole : AreWhole handled
  pub heard : w.heard ≡ v.heard ++ (handled ++ rest)
  -- what came after them is no line; or as many bytes were read as can be counted
  pub over : ((w.ended ≡ true) × LacksLf rest) ⊎ (18446744073709551615 ≤ length w.heard)
  pub said : w.said ≡ v.said ++ report (replies (start_of s) [] (lines handled))
  pub stands : Stands log start now w
  pub rests : IsSettled now (shop_behind s (lines handled))
