-- The steps of a service, from batch to batch. Our own.
use Rattle.std.specs.Prelude.{◌≡◌, ◌++◌, ℕ, List, []}
use Rattle.d64_image.specs.Images.{Image}
use Rattle.one_host.specs.Worlds.{World}
use Rattle.request_cards.specs.Ledgers.{replies, report}
use Rattle.line_text.specs.scripts.Lines.{lines}
use Rattle.host_session.specs.session.Standing.{View}
use Rattle.host_session.specs.shop.Shop.{Shop, start_of}
use Rattle.kept_logs.specs.Logs.{Stands, log_file}
use Rattle.kept_logs.specs.declared.logs.KeptLog.{KeptLog}
use Rattle.line_server.specs.Batches.{AreSame}
use Rattle.line_server.specs.Read.{AreWhole}
use Rattle.line_server.specs.logged.Handling.{IsAtRest}
use Rattle.line_server.specs.logged.Memory.{Memory, image_of}
use Rattle.line_server.specs.logged.Serves.{shop_behind}
use Rattle.served_lines.specs.Readings.{Awaits}
use Rattle.served_lines.specs.Services.{OnlyService}
use Rattle.served_lines.specs.declared.reading.LineInput.{LineInput}

-- These lines were answered, and the log stands for the shop after them. Then `more` was taken of the input.
pub record Rests (s : Shop) (start : Image) (v : World) (session : View Memory) (kept : Image) (log : KeptLog) (input : LineInput)
    (handled more : List ℕ) (w : World) : Type 0 where
  pub only : OnlyService v (log_file log) w
  pub whole : AreWhole handled
  pub awaits : Awaits input (v.heard ++ (handled ++ more)) w
  pub stands : Stands log start kept w
  pub kept_is : kept ≡ image_of session.disk
  pub rests : IsAtRest session (shop_behind s (lines handled))
  pub said : w.said ≡ v.said ++ report (replies (start_of s) [] (lines handled))

-- All lines that were taken of the input were answered.
pub record Serves (s : Shop) (start image : Image) (v : World) (session : View Memory) (kept : Image) (log : KeptLog) (input : LineInput)
    (w : World) : Type 0 where
  pub handled : List ℕ
  pub at_rest : Rests s start v session kept log input handled [] w

-- And some more were taken, of which these texts were kept.
pub record Pends (s : Shop) (start image : Image) (v : World) (session : View Memory) (kept : Image) (log : KeptLog) (input : LineInput)
    (texts : List (List ℕ)) (w : World) : Type 0 where
  pub handled : List ℕ
  pub more : List ℕ
  pub whole : AreWhole more
  pub same : AreSame texts (lines more)
  pub at_rest : Rests s start v session kept log input handled more w
