-- A record of REQUESTS has 127 bytes, and all of them are judged.
use Rattle.std.proofs.Common.{arith, ap, length, subst, sym, ◌∙◌}
use Rattle.std.specs.Prelude.{Some}
use Rattle.std.proofs.lemmas.Option.{MatchOption-at_some}
use Rattle.host_session.specs.shop.Files.{record_at}
use Rattle.request_cards.specs.CardReading.{request_card_of}
use Rattle.host_session.specs.shop.Found.{Tells}
use Rattle.host_session.proofs.lemmas.judging.Readings.{absent-told, past-last, till-read, whole-chunk}
use Rattle.host_session.proofs.shop.record_content.read_till.Goals as goal

pub read_next-requires-clause-of : goal.read_next-requires-clause-of
read_next-requires-clause-of g c =
    let (f, a) = c.requires.of in
    (a.has.layout, a.has.requests_place, a.has.requests_file, a.requests_of)

pub read_next-requires-clause-kept : goal.read_next-requires-clause-kept
read_next-requires-clause-kept g c = c.requires.kept

pub unwrap-bytes-requires : goal.unwrap-bytes-requires
unwrap-bytes-requires g c =
    let S = g.D.Sectors.history in
    let (f, a) = c.requires.of in
    let is = c.in-Ok.ensures.text.ok a.has.layout a.has.requests_place a.has.requests_file a.requests_of in
    let read = till-read (S.image c.args.disk.now) (S.whole c.args.disk.now) f c.args.files.now a c.from.result
    c.read_next.new.text.items is in
    c.first_chunk.ensures.variant.1 (omega (arith, read.1, ap length c.as_slice.ensures.value))

pub returns-in-Ok : goal.returns-in-Ok
returns-in-Ok g c =
    let S = g.D.Sectors.history in
    let text = c.in-Ok.ensures.text in
    record {
      ok = λ f a.
          let is = text.ok a.has.layout a.has.requests_place a.has.requests_file a.requests_of in
          let read = till-read (S.image c.args.disk.now) (S.whole c.args.disk.now) f c.args.files.now a c.from.result
          c.read_next.new.text.items is in
          let chunk = MatchOption-at_some _ _ c.unwrap-bytes.result c.unwrap-bytes.ensures
          c.first_chunk.ensures.cases in
          let long = ap length c.as_slice.ensures.value ∙ read.1 in
          let same = whole-chunk _ _ 127 long chunk ∙ c.as_slice.ensures.value in (
            c.unwrap-bytes.result.now,
            ap (λ r. record_at f.requests r) (sym c.from.ensures) ∙ read.0 ∙ ap Some (sym same),
            subst (λ n. Tells request_card_of n c.unwrap-bytes.result.now c.what_is_held.result)
                (ap length same ∙ read.1) (c.what_is_held.ensures request_card_of (sym c.parse.ensures.exact)),
          );
      err = λ f a. tt;
      kept = c.in-Ok.ensures.kept;
      reads = text.reads;
      failures = text.failures;
    }

pub returns-in-Err-NotPresent : goal.returns-in-Err-NotPresent
returns-in-Err-NotPresent g c =
    let text = c.in-Err-NotPresent.ensures.text in
    let is = c.in-Err-NotPresent.field-0-is in
    record {
      ok = λ f a.
          let absent = text.not_present a.has.layout a.has.requests_place a.has.requests_file a.requests_of is in
          omega (
            arith,
            past-last _ f.requests c.from.result a.has.requests (omega (arith, c.requires.low, c.from.ensures)) absent,
            c.from.ensures,
          );
      err = λ f a. tt;
      kept = c.in-Err-NotPresent.ensures.kept;
      reads = text.reads;
      failures = absent-told g.D.Sectors.history c.args.disk.now c.read_next.new.disk c.in-Err-NotPresent.field-0
          text.failures is;
    }
