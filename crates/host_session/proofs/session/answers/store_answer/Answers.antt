-- The writes of each case are within those of the answer.
use Rattle.std.proofs.Common.{ap, arith, sym, ◌∙◌}
use Rattle.std.specs.Prelude.{is_none, is_some}
use Rattle.std.proofs.lemmas.Bool.{false≢true}
use Rattle.host_session.proofs.lemmas.Held.{changes_weaker}
use Rattle.host_session.proofs.lemmas.session.Keepings.{intent-writes, known-items, refused-writes}
use Rattle.host_session.proofs.session.answers.store_answer.Goals as goal

pub write_refusal-requires : goal.write_refusal-requires
write_refusal-requires g c =
    let (f, h, k, e) = c.requires.keeping in
    record { ready = c.requires.ready; keeping = (f, h, k); refused = sym c.pending.ensures ∙ c.if-not-pending.true }

pub returns-then-not-pending : goal.returns-then-not-pending
returns-then-not-pending g c =
    let put = c.write_refusal.ensures.puts in
    record {
      puts = record {
        ready = put.ready;
        ok = put.ok;
        moments = λ f p.
            changes_weaker g.D.Sectors.history c.args.drive.now.disk c.write_refusal.new.drive.disk 1 _ _ _
            (refused-writes f c.args.request.now c.args.card.now p.1 (sym c.pending.ensures ∙ c.if-not-pending.true)
            p.0.stock_file) (λ i x. x) (put.moments f p);
        failures = put.failures;
        dies = put.dies;
      };
      counted = λ _. c.write_refusal.ensures.counted;
      refused = λ _. c.write_refusal.ensures.counted;
      onward = c.write_refusal.ensures.onward;
    }

pub write_first_set-requires : goal.write_first_set-requires
write_first_set-requires g c =
    let (f, h, k, e) = c.requires.keeping in
    record {
      ready = c.requires.ready;
      keeping = (f, h, k, ap is_none (sym e ∙ c.in-None.is));
      intent =
          sym c.pending.ensures ∙ c.if-not-pending.false;
    }

pub returns-in-None : goal.returns-in-None
returns-in-None g c =
    let set = c.write_first_set.ensures.puts in
    record {
      puts = record {
        ready = set.ready;
        ok = set.ok;
        moments = λ f p.
            changes_weaker g.D.Sectors.history c.args.drive.now.disk c.write_first_set.new.drive.disk _ _ _ _
            (intent-writes f c.args.request.now c.args.card.now p.1 (sym c.pending.ensures ∙ c.if-not-pending.false)
            p.0.stock_file) (λ i x. x) (set.moments f p);
        failures = set.failures;
        dies = set.dies;
      };
      counted = λ old. absurd (false≢true (sym (ap is_some c.in-None.is) ∙ old));
      refused = λ no. absurd (false≢true (sym no ∙ sym c.pending.ensures ∙ c.if-not-pending.false));
      onward = c.write_first_set.ensures.onward;
    }

pub write_intent-requires : goal.write_intent-requires
write_intent-requires g c =
    let (f, h, k, e) = c.requires.keeping in
    record {
      ready = c.requires.ready;
      keeping = (
        f,
        h,
        k,
        known-items f c.args.request.now c.args.card.now k
            (ap is_some (sym e ∙ c.in-Some.is)),
      );
      intent = sym c.pending.ensures ∙ c.if-not-pending.false;
    }

pub returns-in-Some : goal.returns-in-Some
returns-in-Some g c =
    let put = c.write_intent.ensures.puts in
    record {
      puts = record {
        ready = put.ready;
        ok = put.ok;
        moments = λ f p.
            changes_weaker g.D.Sectors.history c.args.drive.now.disk c.write_intent.new.drive.disk _ _ _ _
            (omega (
              arith,
              intent-writes f c.args.request.now c.args.card.now p.1 (sym c.pending.ensures
                  ∙ c.if-not-pending.false) p.0.stock_file,
            )) (λ i x. x) (put.moments f p);
        failures = put.failures;
        dies = put.dies;
      };
      counted = λ _. c.write_intent.ensures.counted;
      refused = λ no. absurd (false≢true (sym no ∙ sym c.pending.ensures ∙ c.if-not-pending.false));
      onward = c.write_intent.ensures.onward;
    }
