-- A byte is written as its text.
use Rattle.std.proofs.Common.{inl, inr}
use Rattle.disk_reports.proofs.Spelled.{control-field, plain-field, quoted-field}
use Rattle.disk_reports.proofs.rows.print_field_char.Goals as goal
use Rattle.disk_reports.proofs.rows.print_field_char.Goals.{then-byte-lt32-via-then-byte-lt32, then-byte-lt32-via-else-byte-lt32+then-byte-eq127}

pub returns-then-byte-eq34 : goal.returns-then-byte-eq34
returns-then-byte-eq34 g c = rw (quoted-field c.args.byte c.if-byte-eq34.true) c.write_all.ensures.bytes

pub returns-then-byte-lt32 : goal.returns-then-byte-lt32
returns-then-byte-lt32 g c =
    rw (control-field c.args.byte c.if-byte-eq34.false (elim c.then-byte-lt32.branch [
      | then-byte-lt32-via-then-byte-lt32 w ↦ inl w.if-byte-lt32.true
      | then-byte-lt32-via-else-byte-lt32+then-byte-eq127 w ↦ inr w.if-byte-eq127.true
    ])) c.print_control.ensures

pub returns : goal.returns
returns g c =
    rw (plain-field c.args.byte c.if-byte-eq34.false c.if-byte-lt32.false c.if-byte-eq127.false) c.write_all-2.ensures.bytes
