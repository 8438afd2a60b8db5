-- A meter on a disk: how many reads and writes passed. Our own.
use Rattle.std.specs.Prelude.{ℕ}
use Rattle.d64_image.specs.Counts.{calls_of}
use Rattle.d64_image.specs.History.{History, through}
use Rattle.d64_image.specs.declared.meter.Meter.{Meter}

-- the disk beneath
abbrev pub meter_disk : {D : Type 0} → Meter D → D
meter_disk m = m.disk

-- how many reads passed; the count stays at its greatest value once there
abbrev pub meter_reads : {D : Type 0} → Meter D → ℕ
meter_reads m = calls_of m.reads

-- how many writes passed; the count stays at its greatest value once there
abbrev pub meter_writes : {D : Type 0} → Meter D → ℕ
meter_writes m = calls_of m.writes

-- everything is as in the disk beneath, except the counts
abbrev pub meter : {D : Type 0} → History D → History (Meter D)
meter h = record (through meter_disk h) { reads = meter_reads; writes = meter_writes }
