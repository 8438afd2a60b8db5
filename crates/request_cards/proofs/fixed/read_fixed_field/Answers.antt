-- A comma stands behind the digits.
use Rattle.std.proofs.Common.{◌∷◌, ◌+◌, refl}
use Rattle.request_cards.specs.CardTexts.{fixed}
use Rattle.request_cards.proofs.Widths.{byte_of, fixed_length, piece_at}
use Rattle.request_cards.proofs.fixed.read_fixed_field.Goals as goal

pub returns-then-bytes-at-ne44-clause-none : goal.returns-then-bytes-at-ne44-clause-none
returns-then-bytes-at-ne44-clause-none c = λ n rest e.
    let w = c.args.width in
    let cut = piece_at (fixed w n) w c.args.at (c.args.at + w) c.args.bytes.now (44 ∷ rest) (fixed_length w n) e refl in
    c.if-bytes-at-ne44.true (byte_of c.args.bytes.now rest (c.args.at + w) 44 cut.1)
