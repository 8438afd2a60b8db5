-- A log's file in memory. Our own.
use Rattle.std.specs.Prelude.{ℕ, List, Some, length}
use Rattle.image_log.specs.Files.{FileHistory}
use Rattle.image_log.specs.MemCalls.{left_after, left_last, leaves}
use Rattle.image_log.specs.declared.mem_log.MemLog.{MemLog}

-- the bytes that it holds
abbrev pub mem_bytes : MemLog → List ℕ
mem_bytes m = m.bytes.items

-- It knows all that a power loss may leave, at each moment.
abbrev pub memory : FileHistory MemLog
memory = record {
  held = λ m. Some m.bytes.items;
  may_leave = λ m. leaves m.first.items m.calls.items;
  moment = λ m. length m.calls.items;
  left_since = λ m. left_after m.first.items m.calls.items;
  has_failed = λ m. m.failed;
  only_now = λ m. left_last m.first.items m.calls.items;
}
