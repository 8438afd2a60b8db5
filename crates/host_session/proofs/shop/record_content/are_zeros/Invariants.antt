use Rattle.std.proofs.Common.{◌≡◌, ◌↔◌, IsTrue}
use Rattle.std.specs.Prelude.{replicate, take}
use Rattle.host_session.proofs.shop.record_content.are_zeros.Given as goal

-- whether the bytes so far are zeros
abbrev pub invariant-loop-byte : goal.invariant-loop-byte
invariant-loop-byte l = IsTrue l.all ↔ (take l.byte-index l.bytes ≡ replicate l.byte-index 0)
