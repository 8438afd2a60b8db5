-- The lines at hand, one by one.
use Rattle.std.proofs.Common.{◌≡◌, ◌∙◌, ◌+◌, ◌++◌, ◌∷◌, [], ℕ, List, Option, Some, ap, append-nil, arith, length, refl, subst, sym, take}
use Rattle.std.specs.Prelude.{is_some}
use Rattle.std.specs.Io.KnownBytes.{Consumes}
use Rattle.std.proofs.lemmas.List.{length-map, length_push, map-append}
use Rattle.arrayvec.specs.ArrayVec.{ArrayVec}
use Rattle.request_cards.specs.Reading.{request_of}
use Rattle.line_text.specs.scripts.Lines.{without_cr}
use Rattle.host_session.specs.declared.events.sources.Next.TheVariants as next
use Rattle.line_server.specs.Batches.{texts_of}
use Rattle.line_server.specs.Read.{LacksLf, lf_after}
use Rattle.line_server.proofs.Long.{same_message}
use Rattle.line_server.proofs.Together.{HasLines, line_more, taken}
use Rattle.line_server.proofs.batches.take_batch.Goals as goal

-- a line more in the list
pushed : (old now new seen : Option (List ℕ)) (lines after : List (ArrayVec ℕ)) (line : ArrayVec ℕ) (kept raw : List ℕ)
    (left : ℕ) (some : Option ℕ) → some ≡ Some left
    → HasLines old now (texts_of lines) → after ≡ lines ++ line ∷ [] → line.items ≡ without_cr kept
    → LacksLf raw → kept ≡ take 40 raw → Consumes now new (raw ++ lf_after (is_some some)) → Consumes new seen []
    → HasLines old seen (texts_of after)
pushed old now new seen lines after line kept raw left some is x more dropped lacks cut read look =
    subst (HasLines old seen) (sym (ap texts_of more ∙ map-append (λ (l : ArrayVec ℕ). l.items) lines (line ∷ [])))
    (line_more old now new seen (texts_of lines) raw line.items x lacks
    (ap request_of dropped ∙ same_message raw kept cut)
    (subst (λ (o : Option ℕ). Consumes now new (raw ++ lf_after (is_some o))) is read) look)

pub loop-preserved : goal.loop-preserved
loop-preserved g c =
    let x = c.in-Ok-Some.ensures.ok in (
      pushed _ _ _ _ c.loop.lines.items c.push_reserved.new.self.items c.drop_cr.new.line c.read_line.new.line.items x.0
          c.in-Ok-Some.at_hand c.in-Ok-Some.field-0 c.in-Ok-Some.field-0-is c.loop.invariant.0 c.push_reserved.ensures.items c.drop_cr.ensures x.1 x.2 x.3
          c.has_line.ensures,
      ap length c.push_reserved.ensures.items ∙ length_push c.loop.lines.items c.drop_cr.new.line
          ∙ ap (λ n. n + 1) c.loop.invariant.1,
      omega (arith, c.loop.invariant.2, c.push_reserved.ensures.capacity),
    )

pub returns-in-Ok-None-clause-taken : goal.returns-in-Ok-None-clause-taken
returns-in-Ok-None-clause-taken g c =
    let x = c.in-Ok-None.ensures.ok in
    let read = subst (λ (o : Option ℕ). Consumes (g.R.Read.remaining c.loop.input) (g.R.Read.remaining c.read_line.new.input)
    (x.0 ++ lf_after (is_some o))) c.in-Ok-None.field-0-is x.3 in
    taken _ _ _ (texts_of c.loop.lines.items) x.0 next.End c.loop.invariant.0
    (omega (arith, length-map c.loop.lines.items (λ (l : ArrayVec ℕ). l.items), c.loop.invariant.1, c.loop-test.true))
    x.1 (subst (Consumes _ _) (append-nil x.0) read)
    (λ e. cc) (λ e. x.4 c.in-Ok-None.field-0-is)

pub returns-then-not-has_line-clause-taken : goal.returns-then-not-has_line-clause-taken
returns-then-not-has_line-clause-taken g c =
    let x = c.in-Ok-Some.ensures.ok in
    let has = pushed _ _ _ _ c.loop.lines.items c.push_reserved.new.self.items c.drop_cr.new.line c.read_line.new.line.items x.0
    c.in-Ok-Some.at_hand c.in-Ok-Some.field-0 c.in-Ok-Some.field-0-is c.loop.invariant.0 c.push_reserved.ensures.items c.drop_cr.ensures x.1 x.2 x.3
    c.has_line.ensures in
    let many = length-map c.push_reserved.new.self.items (λ (l : ArrayVec ℕ). l.items) in
    let longer = ap length c.push_reserved.ensures.items ∙ length_push c.loop.lines.items c.drop_cr.new.line in
    record {
      handled = has.handled;
      rest = [];
      whole = has.whole;
      lacks = tt;
      read = subst (Consumes _ _) (sym (append-nil has.handled)) has.read;
      same = has.same;
      most = omega (arith, many, longer, c.loop.invariant.1, c.loop-test.true);
      ahead = λ e. (refl, omega (arith, many, longer));
      end = λ e. cc;
    }
