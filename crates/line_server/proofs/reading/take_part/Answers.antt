-- What the input had at hand, up to its first LF.
use Rattle.std.proofs.Common.{◌≡◌, ◌≢◌, ◌<◌, ◌≤◌, ◌+◌, ◌++◌, ◌∷◌, [], ℕ, List, Option, false, get_or, length, take, sym}
use Rattle.std.proofs.Common.{subst, ap, ◌∙◌, arith, append-nil}
use Rattle.std.specs.Prelude.{OnSome}
use Rattle.std.proofs.lemmas.List.{take_all, take_more}
use Rattle.std.proofs.BufReadLemmas.{Consumes_shown}
use Rattle.std.proofs.KnownBytes.{Consumes-kept, Consumes-nil}
use Rattle.std.specs.Io.BufRead.{FillKeeps}
use Rattle.std.specs.Io.KnownBytes.{Consumes, IsAtEnd}
use Rattle.line_text.proofs.lemmas.scripts.Lines.{lacks_before}
use Rattle.line_server.specs.Read.{TookPart, has_end, lf_after}
use Rattle.line_server.specs.declared.reading.Part.{Part}
use Rattle.line_server.specs.declared.reading.Part.TheVariants.{Over}
use Rattle.line_server.proofs.reading.take_part.Goals.{else-count-eq0, then-count-eq0}
use Rattle.line_server.proofs.reading.take_part.Goals as goal

-- a part without an LF
took_part : (old new : Option (List ℕ)) (before after shown : List ℕ) (count : ℕ) (part : Part) → count ≤ length shown
    → ((k : ℕ) → k < count → get_or shown k 0 ≢ 10) → after ≡ take 40 (before ++ take count shown)
    → has_end part ≡ false
    → Consumes old new (take count shown) → (part ≡ Over → OnSome old (IsAtEnd new))
    → TookPart old new before after part
took_part old new before after shown count part within lacks kept unended moved over = record {
  raw = take count shown;
  lacks = lacks_before 10 shown count within lacks;
  kept = λ _. kept;
  consumed = subst (λ t. Consumes old new (take count shown ++ lf_after t)) (sym unended)
      (subst (Consumes old new) (sym (append-nil (take count shown))) moved);
  over = over;
}

pub returns-in-Err-clause-ok : goal.returns-in-Err-clause-ok
returns-in-Err-clause-ok g c = record {
  raw = [];
  lacks = tt;
  kept = λ short. sym (ap (take 40) (append-nil c.args.line.now.items) ∙ take_all 40 c.args.line.now.items short);
  consumed = Consumes-kept _ _ _ [] (Consumes-nil _) c.fill_buf.follows.holds-at-none.0;
  over = λ e. cc;
}

pub returns-then-count-available-clause-ok : goal.returns-then-count-available-clause-ok
returns-then-count-available-clause-ok g c =
    let shown = c.in-Ok.available.now in
    let count = c.before_lf-count.result in
    let below : count < length shown = c.if-count-available.true in
    let rested = c.fill_buf.follows.lender-at-none in
    let filled = subst (FillKeeps _ (g.R.Read.remaining rested) (g.R.BufRead.consumable_len rested)) c.in-Ok.is
    c.fill_buf.follows.holds-at-none in
    let moved = Consumes_shown _ _ _ _ shown (count + 1) (omega (arith, below)) c.in-Ok.ensures.front
    c.in-Ok.ensures.end filled.0 filled.1 c.consume.ensures.bytes in
    record {
      raw = take count shown;
      lacks = lacks_before 10 shown count (omega (arith, below)) c.before_lf-count.ensures.before;
      kept = λ _. c.append_part.ensures;
      consumed = subst (Consumes _ _) (take_more shown count 0 below
          ∙ ap (λ b. take count shown ++ b ∷ []) (c.before_lf-count.ensures.here below)) moved.0;
      over = λ e. cc;
    }

pub returns-clause-ok : goal.returns-clause-ok
returns-clause-ok g c =
    let shown = c.in-Ok.available.now in
    let count = c.before_lf-count.result in
    let rested = c.fill_buf.follows.lender-at-none in
    let filled = subst (FillKeeps _ (g.R.Read.remaining rested) (g.R.BufRead.consumable_len rested)) c.in-Ok.is
    c.fill_buf.follows.holds-at-none in
    let moved = Consumes_shown _ _ _ _ shown count c.before_lf-count.ensures.bound c.in-Ok.ensures.front
    c.in-Ok.ensures.end filled.0 filled.1 c.consume-2.ensures.bytes in
    elim c.if-count-eq0.branch [
      | then-count-eq0 w ↦
          let none : length shown ≡ 0 = omega (arith, w.if-count-eq0.true, c.if-count-available.false) in
          took_part _ _ _ _ shown count c.if-count-eq0.part c.before_lf-count.ensures.bound
          c.before_lf-count.ensures.before c.append_part.ensures
          (ap has_end w.part-is) moved.0 (λ e. moved.1 none)
      | else-count-eq0 w ↦
          took_part _ _ _ _ shown count c.if-count-eq0.part c.before_lf-count.ensures.bound
          c.before_lf-count.ensures.before c.append_part.ensures
          (ap has_end w.part-is) moved.0 (λ e. absurd (let is = sym w.part-is ∙ e in cc))
    ]
