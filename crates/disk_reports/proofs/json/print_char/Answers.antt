-- A byte is written as its text.
use Rattle.std.proofs.Common.{inl, inr}
use Rattle.disk_reports.proofs.Spelled.{control-char, plain-char, quoted-char}
use Rattle.disk_reports.proofs.json.print_char.Goals as goal
use Rattle.disk_reports.proofs.json.print_char.Goals.{then-byte-eq34-via-then-byte-eq34, then-byte-eq34-via-else-byte-eq34+then-byte-eq92}
use Rattle.disk_reports.proofs.json.print_char.Goals.{then-byte-lt32-via-then-byte-lt32, then-byte-lt32-via-else-byte-lt32+then-byte-eq127}

pub returns-then-byte-eq34 : goal.returns-then-byte-eq34
returns-then-byte-eq34 g c =
    rw (quoted-char c.args.byte (elim c.then-byte-eq34.branch [
      | then-byte-eq34-via-then-byte-eq34 w ↦ inl w.if-byte-eq34.true
      | then-byte-eq34-via-else-byte-eq34+then-byte-eq92 w ↦ inr w.if-byte-eq92.true
    ])) c.write_all.ensures.bytes

pub returns-then-byte-lt32 : goal.returns-then-byte-lt32
returns-then-byte-lt32 g c =
    rw (control-char c.args.byte c.if-byte-eq34.false c.if-byte-eq92.false
    (elim c.then-byte-lt32.branch [
      | then-byte-lt32-via-then-byte-lt32 w ↦ inl w.if-byte-lt32.true
      | then-byte-lt32-via-else-byte-lt32+then-byte-eq127 w ↦ inr w.if-byte-eq127.true
    ])) c.print_control.ensures

pub returns : goal.returns
returns g c =
    rw (plain-char c.args.byte c.if-byte-eq34.false c.if-byte-eq92.false c.if-byte-lt32.false c.if-byte-eq127.false)
    c.write_all-2.ensures.bytes
