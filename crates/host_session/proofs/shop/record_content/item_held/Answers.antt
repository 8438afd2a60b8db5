-- The bytes are a record's of STOCK, and all of them are judged.
use Rattle.std.proofs.Common.{List, arith, length, subst, sym, ℕ}
use Rattle.std.proofs.lemmas.Option.{MatchOption-at_some}
use Rattle.request_cards.specs.CardReading.{stock_card_of}
use Rattle.host_session.specs.shop.Found.{Tells}
use Rattle.host_session.proofs.lemmas.judging.Readings.{whole-chunk}
use Rattle.host_session.proofs.shop.record_content.item_held.Goals as goal

pub unwrap-bytes-requires : goal.unwrap-bytes-requires
unwrap-bytes-requires c = c.first_chunk.ensures.variant.1 (omega (arith, c.requires))

pub returns : goal.returns
returns c =
    let chunk = MatchOption-at_some _ _ c.unwrap-bytes.result c.unwrap-bytes.ensures
    c.first_chunk.ensures.cases in
    let same = whole-chunk _ _ 18 c.requires chunk in
    subst (λ n. Tells stock_card_of n c.args.bytes.now c.what_is_held.result) c.requires
    (subst (λ (xs : List ℕ). Tells stock_card_of (length xs) xs c.what_is_held.result) same
    (c.what_is_held.ensures stock_card_of (sym c.parse.ensures.exact)))
