-- The digits end where they have to.
use Rattle.std.proofs.Common.{◌++◌, ◌+◌, ◌∙◌, ℕ, ap, arith, length, take}
use Rattle.std.specs.Prelude.{decimal}
use Rattle.line_text.proofs.lemmas.bytes.Rooms.{digits-put}
use Rattle.line_text.proofs.bytes.putting.append_number.Goals as goal

pub returns-clause-written : goal.returns-clause-written
returns-clause-written c =
    let long = ap (λ (n : ℕ). length (decimal n)) c.from.ensures in
    digits-put c.write_digits.new.buf c.args.room.now (decimal c.from.result) _ c.args.start c.write_digits.result
    (c.args.start + c.count_digits.result) (omega (arith, c.requires, c.write_digits.auto.buf))
    c.write_digits.ensures.start
    (omega (arith, long, c.count_digits.ensures.digits)) c.write_digits.ensures.written c.write_digits.ensures.before
    ∙ ap (λ (n : ℕ). take c.args.start c.args.room.now ++ decimal n) c.from.ensures
