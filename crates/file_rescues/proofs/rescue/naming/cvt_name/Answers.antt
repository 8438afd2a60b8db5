-- The last three letters are others.
use Rattle.std.proofs.Common.{◌-◌, ℕ, ap, arith, length, ◌∙◌}
use Rattle.file_rescues.proofs.lemmas.rescue.Cvt.{cvt-named, holds, prg-long}
use Rattle.file_rescues.proofs.rescue.naming.cvt_name.Goals as goal

pub returns : goal.returns
returns c =
    let long = prg-long c.args.number c.args.name.now in
    let same = ap length c.file_name-text.ensures in
    cvt-named c.args.number c.saturating_sub.result c.args.name.now c.file_name-text.result.items
    c.truncate.new.self.items _ c.file_name-text.ensures
    (c.saturating_sub.ensures ∙ ap (λ (n : ℕ). n - 3) c.len.ensures.value) c.truncate.ensures.items
    (holds c.try_extend_from_slice.result (c.try_extend_from_slice.ensures.variant.1
    (omega (arith, long, same, c.len.ensures.value, c.len.ensures.fits, c.saturating_sub.ensures, c.truncate.ensures.len)))
    c.try_extend_from_slice.ensures.ok)
