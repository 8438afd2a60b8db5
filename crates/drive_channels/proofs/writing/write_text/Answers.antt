use Rattle.std.proofs.Common.{ℕ, ◌≡◌, ◌≤◌, inl, inr, Err, ap, refl, sym, subst}
use Rattle.drive_channels.proofs.Refusals.{calm, device-failed, device-other, not-err, over, over-device, over-fits}
use Rattle.drive_channels.proofs.Rows.{at-file}
use Rattle.drive_channels.proofs.Writes.{cut, had-is, keeps-left, keeps-same, leaves-has, next-spot, not-cut, ok-done}
use Rattle.drive_channels.proofs.Writes.{overflow-done, refused-row, written-at, written-row}
use Rattle.drive_channels.proofs.writing.write_text.Goals as goal
use Rattle.drive_channels.specs.Inside.{IsSpot}
use Rattle.drive_channels.specs.declared.open_file.NamedFile.{NamedFile}
use Rattle.rel_records.proofs.lemmas.Usable.{clean-usable}
use Rattle.rel_records.specs.File.{entry_of}
use Rattle.rel_records.specs.Written.{IsInOneBlock}

pub write_record-requires-clause-usable : goal.write_record-requires-clause-usable
write_record-requires-clause-usable g c = clean-usable (g.D.Sectors.history.image c.args.disk.now)
    c.requires.place.clean

pub returns-in-Ok : goal.returns-in-Ok
returns-in-Ok g c =
    let S = g.D.Sectors.history in
    let e' : NamedFile = record { name = c.args.found.now.name; file = c.write_record.new.file } in
    record {
      row = rw c.advance.ensures
          (λ s b. written-row (S.image c.args.disk.now) _ c.args.found.now e' c.args.spot.now s b c.requires.place.found
          c.in-Ok.ensures.entry c.args.text.now _ c.requires.some
          (λ l f of. (
            (λ bad. not-err _ _ (((c.in-Ok.ensures.file l _ f of).too_large).1 bad)),
            (c.in-Ok.ensures.file l _ f of).fits tt,
            leaves-has _ _ _ _ _ _ ((c.in-Ok.ensures.file l _ f of).done tt),
            not-cut f c.args.found.now.file of.shows c.args.text.now c.args.spot.now.position c.in-Ok.ensures.ok,
          )));
      found = keeps-left _ _ _ e' _ c.requires.place.clean c.requires.place.found refl c.in-Ok.ensures.entry
          ((c.in-Ok.ensures.file _ _ _ c.requires.place.found.of).done tt);
      spot = rw c.advance.ensures
          (next-spot c.args.found.now e' c.args.spot.now c.requires.place.spot (c.in-Ok.ensures.same tt)
          (c.in-Ok.ensures.there tt).1);
      writes = λ l f rel. let of = at-file _ _ l f c.requires.place.found rel in
          written-at S _ _ _ l f _ c.args.text.now c.requires.some ((c.in-Ok.ensures.file l _ f of).moments)
          (λ _ _. tt);
      refused = λ is. absurd (ok-done is);
      reads = c.in-Ok.ensures.reads;
      failures = c.in-Ok.ensures.failures;
    }

pub returns-in-Overflow : goal.returns-in-Overflow
returns-in-Overflow g c =
    let S = g.D.Sectors.history in
    let e' : NamedFile = record { name = c.args.found.now.name; file = c.write_record.new.file } in
    let done = over c.in-Err.fault c.in-Overflow.is in
    record {
      row = rw c.advance-in-Overflow.ensures
          (λ s b. written-row (S.image c.args.disk.now) _ c.args.found.now e' c.args.spot.now s b c.requires.place.found
          c.in-Err.ensures.entry c.args.text.now _ c.requires.some
          (λ l f of. (
            (λ bad. over-fits _ c.in-Overflow.is (((c.in-Err.ensures.file l _ f of).too_large).1 bad)),
            (c.in-Err.ensures.file l _ f of).fits done,
            leaves-has _ _ _ _ _ _ ((c.in-Err.ensures.file l _ f of).done done),
            cut f c.args.found.now.file of.shows c.args.text.now c.args.spot.now.position
                (c.in-Err.ensures.overflow c.in-Overflow.is),
          )));
      found = keeps-left _ _ _ e' _ c.requires.place.clean c.requires.place.found refl c.in-Err.ensures.entry
          ((c.in-Err.ensures.file _ _ _ c.requires.place.found.of).done done);
      spot = rw c.advance-in-Overflow.ensures
          (next-spot c.args.found.now e' c.args.spot.now c.requires.place.spot (c.in-Err.ensures.same done)
          (c.in-Err.ensures.there done).1);
      writes = λ l f rel. let of = at-file _ _ l f c.requires.place.found rel in
          written-at S _ _ _ l f _ c.args.text.now c.requires.some ((c.in-Err.ensures.file l _ f of).moments)
          (λ _ _. tt);
      refused = λ is. absurd (overflow-done is);
      reads = c.in-Err.ensures.reads;
      failures = calm (Unit {0}) S _ _ _ (over-device _ c.in-Overflow.is) c.in-Err.ensures.failures;
    }

pub returns-in-Device : goal.returns-in-Device
returns-in-Device g c =
    record {
      row = tt;
      found = tt;
      spot = tt;
      writes = λ l f rel.
          let of = at-file _ _ l f c.requires.place.found rel in
          written-at g.D.Sectors.history _ _ _ l f _ c.args.text.now c.requires.some
          ((c.in-Err.ensures.file l _ f of).moments)
          (λ le one. c.in-Err.ensures.one_step
          (subst (λ (k : ℕ). c.args.spot.now.record_number ≤ k) (sym (had-is f c.args.found.now.file of.shows)) le)
          (subst (λ (L : ℕ). IsInOneBlock L c.args.spot.now.record_number) (sym of.shows.size) one)
          (device-other _ c.in-Device.is));
      refused = tt;
      reads = c.in-Err.ensures.reads;
      failures = device-failed (Unit {0}) g.D.Sectors.history _ _ _ c.in-Device.is c.in-Err.ensures.failures;
    }

pub returns-in_default : goal.returns-in_default
returns-in_default g c =
    let S = g.D.Sectors.history in
    let e' : NamedFile = record { name = c.args.found.now.name; file = c.write_record.new.file } in
    let left = c.in-Err.ensures.refused c.in_default.not-Device c.in_default.not-Overflow in
    let same : e' ≡ c.args.found.now = ap (λ v. record { name = c.args.found.now.name; file = v }) left.0 in
    let entry : entry_of c.write_record.new.file ≡ entry_of c.args.found.now.file = ap entry_of left.0 in
    record {
      row = λ s b. refused-row (S.image c.args.disk.now) _ c.args.found.now e' c.args.spot.now s b
          c.requires.place.found entry c.args.text.now left.1.image
          (λ l f of. elim c.in-Err.ensures.told [
            | inl x ↦ absurd (c.in_default.not-Overflow x)
            | inr (inl x) ↦ inl (((c.in-Err.ensures.file l _ f of).too_large).0 (ap Err x))
            | inr (inr (inl x)) ↦ inr ((c.in-Err.ensures.file l _ f of).full x)
            | inr (inr (inr x)) ↦ absurd (c.in_default.not-Device x)
          ]);
      found = keeps-same _ _ _ _ (sym left.1.image) (sym same) c.requires.place.clean c.requires.place.found;
      spot = subst (λ (e : NamedFile). IsSpot e c.args.spot.now) (sym same) c.requires.place.spot;
      writes = λ l f rel. let of = at-file _ _ l f c.requires.place.found rel in
          written-at S _ _ _ l f _ c.args.text.now c.requires.some ((c.in-Err.ensures.file l _ f of).moments)
          (λ _ _. tt);
      refused = λ _. left.1;
      reads = c.in-Err.ensures.reads;
      failures = calm (Unit {0}) S _ _ _ c.in_default.not-Device c.in-Err.ensures.failures;
    }
