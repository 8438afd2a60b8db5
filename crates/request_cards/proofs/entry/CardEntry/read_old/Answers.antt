-- An entry of version 1 is read exactly where its text stands.
use Rattle.std.proofs.Common.{arith}
use Rattle.std.proofs.Common.{◌∷◌, sym}
use Rattle.std.proofs.lemmas.Option.{IfSome_then}
use Rattle.request_cards.proofs.Entries.{goes_nowhere, old_cut, old_found, one_quantity, plain_kind}
use Rattle.request_cards.proofs.Widths.{byte_of, none_then}
use Rattle.request_cards.proofs.entry.CardEntry.read_old.Goals as goal

pub returns-then-bytes-ne13-clause-none : goal.returns-then-bytes-ne13-clause-none
returns-then-bytes-ne13-clause-none c = λ pending e rest is kind text.
    c.if-bytes-ne13.true (byte_of c.args.bytes.now rest 41 13 (old_cut c.args.bytes.now pending e rest text).1)

pub returns-clause-none : goal.returns-clause-none
returns-clause-none c = none_then c.read_fields.result _ _ c.read_fields.ensures.none
    (λ none pending e rest is kind text.
    let plain = plain_kind e.body.kind kind in
    none pending e (13 ∷ rest) is (sym (goes_nowhere e.body.kind e.body.item e.body.to plain is.body.to))
    (sym (one_quantity e.body.kind e.answer plain is.fits)) (old_cut c.args.bytes.now pending e rest text).0)

pub bounds-bytes-41 : goal.bounds-bytes-41
bounds-bytes-41 c = omega arith

pub read_fields-requires : goal.read_fields-requires
read_fields-requires c = omega arith

pub returns-clause-found : goal.returns-clause-found
returns-clause-found c = IfSome_then c.read_fields.result c.read_fields.ensures.found (λ p text.
    old_found c.args.bytes.now p.0 p.1 c.told-bytes c.if-bytes-ne13.false text.0)

pub returns-clause-plain : goal.returns-clause-plain
returns-clause-plain c = IfSome_then c.read_fields.result c.read_fields.ensures.found (λ p text. (text.1, text.2))

pub returns-clause-range : goal.returns-clause-range
returns-clause-range c = c.read_fields.ensures.range
