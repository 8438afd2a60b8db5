use Rattle.std.proofs.Common.{ℕ, arith, ◌≡◌, ◌≤◌, [], inl, inr, Err, ap, refl, sym, subst}
use Rattle.std.proofs.lemmas.Bool.{false≢true}
use Rattle.drive_channels.proofs.Refusals.{calm, device-failed, not-err}
use Rattle.drive_channels.proofs.Rows.{at-file}
use Rattle.drive_channels.proofs.Writes.{grown-at, grown-row, had-is, keeps-left, keeps-same, leaves-has, ok-done}
use Rattle.drive_channels.proofs.Writes.{refused-row, same-spot}
use Rattle.drive_channels.proofs.writing.grow_at.Goals as goal
use Rattle.drive_channels.specs.Inside.{IsSpot}
use Rattle.drive_channels.specs.declared.open_file.NamedFile.{NamedFile}
use Rattle.rel_records.proofs.lemmas.Usable.{clean-usable}
use Rattle.rel_records.specs.File.{entry_of}

pub grow_to-requires-clause-usable : goal.grow_to-requires-clause-usable
grow_to-requires-clause-usable g c = clean-usable (g.D.Sectors.history.image c.args.disk.now) c.requires.clean

pub returns-in-Ok : goal.returns-in-Ok
returns-in-Ok g c =
    record {
      row = λ s b.
          grown-row (g.D.Sectors.history.image c.args.disk.now) _ c.args.found.now
          (record { name = c.args.found.now.name; file = c.grow_to.new.file }) c.args.spot s b c.requires.found
          c.in-Ok.ensures.entry
          (λ l f of. (
            (λ bad. not-err _ _ (((c.in-Ok.ensures.file l _ f of).too_large).1 bad)),
            (c.in-Ok.ensures.file l _ f of).fits,
            leaves-has _ _ _ _ _ _ ((c.in-Ok.ensures.file l _ f of).ok),
          ));
      found = keeps-left _ _ _ _ _ c.requires.clean c.requires.found refl c.in-Ok.ensures.entry
          ((c.in-Ok.ensures.file _ _ _ c.requires.found.of).ok);
      spot = same-spot c.args.found.now _ c.args.spot c.requires.spot c.in-Ok.ensures.same;
      writes = λ l f rel.
          let of = at-file _ _ l f c.requires.found rel in
          grown-at g.D.Sectors.history _ _ _ l f _ ((c.in-Ok.ensures.file l _ f of).moments) (λ _ _. tt);
      refused = λ is. absurd (ok-done is);
      reads = omega (arith, c.in-Ok.ensures.reads);
      failures = c.in-Ok.ensures.failures;
    }

pub returns-in-Device : goal.returns-in-Device
returns-in-Device g c =
    record {
      row = tt;
      found = tt;
      spot = tt;
      writes = λ l f rel.
          let of = at-file _ _ l f c.requires.found rel in
          grown-at g.D.Sectors.history _ _ _ l f _ ((c.in-Err.ensures.file l _ f of).moments)
          (λ le _. absurd
          (false≢true (c.in-Err.ensures.quiet
          (subst (λ (k : ℕ). c.args.spot.record_number ≤ k) (sym (had-is f c.args.found.now.file of.shows))
          le)).0));
      refused = tt;
      reads = omega (arith, c.in-Err.ensures.reads);
      failures = device-failed (Unit {0}) g.D.Sectors.history _ _ _ c.in-Device.is c.in-Err.ensures.failures;
    }

pub returns-in_default : goal.returns-in_default
returns-in_default g c =
    let S = g.D.Sectors.history in
    let left = c.in-Err.ensures.refused c.in_default.not-Device in
    let same : record { name = c.args.found.now.name; file = c.grow_to.new.file } ≡ c.args.found.now = ap
    (λ v. record { name = c.args.found.now.name; file = v }) left.0 in
    let entry : entry_of c.grow_to.new.file ≡ entry_of c.args.found.now.file = ap entry_of left.0 in
    record {
      row = λ s b. refused-row (S.image c.args.disk.now) _ c.args.found.now
          (record { name = c.args.found.now.name; file = c.grow_to.new.file }) c.args.spot s b c.requires.found entry []
          left.1.image
          (λ l f of. elim c.in-Err.ensures.told [
            | inl x ↦ inl (((c.in-Err.ensures.file l _ f of).too_large).0 (ap Err x))
            | inr (inl x) ↦ inr ((c.in-Err.ensures.file l _ f of).full x)
            | inr (inr x) ↦ absurd (c.in_default.not-Device x)
          ]);
      found = keeps-same _ _ _ _ (sym left.1.image) (sym same) c.requires.clean c.requires.found;
      spot = subst (λ (e : NamedFile). IsSpot e c.args.spot) (sym same) c.requires.spot;
      writes = λ l f rel. let of = at-file _ _ l f c.requires.found rel in
          grown-at S _ _ _ l f _ ((c.in-Err.ensures.file l _ f of).moments) (λ _ _. tt);
      refused = λ _. left.1;
      reads = omega (arith, c.in-Err.ensures.reads);
      failures = calm (Unit {0}) S _ _ _ c.in_default.not-Device c.in-Err.ensures.failures;
    }
