-- One sector with the entry, or two.
use Rattle.std.proofs.Common.{arith, refl, subst, sym, inl, inr, List, [], ◌∷◌, ◌∙◌, ap}
use Rattle.std.proofs.lemmas.Result.{on_ok_weaker}
use Rattle.d64_image.proofs.Moments.{then, weaker}
use Rattle.d64_image.specs.Images.{Image, Sector, put}
use Rattle.d64_image.specs.declared.place.Place.{Place}
use Rattle.rel_records.proofs.creation.new_file.write_entry.Goals as goal
use Rattle.rel_records.proofs.lemmas.Told.{not-done, tells-after, tells-failed}
use Rattle.rel_records.proofs.lemmas.steps.Sided.{counted_once}
use Rattle.rel_records.specs.Puts.{IsPutSoFar}
use Rattle.rel_records.specs.creation.Site.{ArePutsOf}

pub returns-in-None : goal.returns-in-None
returns-in-None g c =
    let S = g.D.Sectors.history in
    let st = c.args.site.now in
    let puts : List (Place × Sector) = (st.place, c.set_entry.new.bytes) ∷ [] in
    record {
      puts = puts;
      are = subst (λ o. ArePutsOf st c.args.entry.now o puts) (sym c.in-None.is)
          (c.set_entry.new.bytes, c.set_entry.ensures, refl);
      ok = c.write-in-None.ensures.ok;
      held = c.write-in-None.ensures.held;
      writes = counted_once S _ _ c.write-in-None.result c.write-in-None.ensures.counted
          c.write-in-None.ensures.uncounted;
      reads = omega (arith, c.write-in-None.ensures.reads);
      failures = c.write-in-None.ensures.failures;
    }

pub returns-in_err-write-in-Some : goal.returns-in_err-write-in-Some
returns-in_err-write-in-Some g c =
    let S = g.D.Sectors.history in
    let st = c.args.site.now in
    let puts : List (Place × Sector) = (c.in-Some.fresh, c.directory_with.result) ∷ (st.place, c.link_to.new.bytes) ∷ [] in
    record {
      puts = puts;
      are = subst (λ o. ArePutsOf st c.args.entry.now o puts) (sym c.in-Some.is)
          (c.directory_with.result, c.link_to.new.bytes, c.directory_with.ensures, c.link_to.ensures, refl);
      ok = not-done c.from_residual.result _ c.from_residual.ensures.1 _;
      held = weaker S _ _ _ _ (λ x h. elim h [ inl e ↦ inl e | inr e ↦ inr (inl e) ]) c.write.ensures.held;
      writes = omega (arith, c.in_err-write-in-Some.ensures.uncounted);
      reads = omega (arith, c.in_err-write-in-Some.ensures.reads);
      failures = tells-failed S _ _ _ refl c.from_residual.result _ c.from_residual.ensures.1
          c.in_err-write-in-Some.ensures.failures;
    }

pub returns-in_ok-write-in-Some : goal.returns-in_ok-write-in-Some
returns-in_ok-write-in-Some g c =
    let S = g.D.Sectors.history in
    let st = c.args.site.now in
    let puts : List (Place × Sector) = (c.in-Some.fresh, c.directory_with.result) ∷ (st.place, c.link_to.new.bytes) ∷ [] in
    let P : Image → Image → Type 0 = λ i x. IsPutSoFar ((st.place, c.link_to.new.bytes) ∷ []) i x in
    let now = c.in_ok-write-in-Some.ensures in
    record {
      puts = puts;
      are = subst (λ o. ArePutsOf st c.args.entry.now o puts) (sym c.in-Some.is)
          (c.directory_with.result, c.link_to.new.bytes, c.directory_with.ensures, c.link_to.ensures, refl);
      ok = on_ok_weaker c.write-in-Some.result (λ is. is ∙ ap (λ i. put i st.place c.link_to.new.bytes) now.ok)
          c.write-in-Some.ensures.ok;
      held = then S _ _ _ _
          (weaker S _ _ _ _ (λ x h. elim h [ inl e ↦ inl e | inr e ↦ inr (inl e) ]) c.write.ensures.held)
          (weaker S _ _ _ _ (λ x h. inr (subst (λ i. P i x) now.ok h)) c.write-in-Some.ensures.held);
      writes = omega (
        arith,
        now.counted,
        counted_once S _ _ c.write-in-Some.result c.write-in-Some.ensures.counted
            c.write-in-Some.ensures.uncounted,
      );
      reads = omega (arith, c.write-in-Some.ensures.reads, now.reads);
      failures = tells-after S _ _ _ now.failures c.write-in-Some.result c.write-in-Some.ensures.failures;
    }
