-- A record is written: growth refused, a device that fails, or a text that is put, whole or cut.
use Rattle.std.proofs.Common.{Err, IfErr, List, Ok, Result, arith, inl, inr, length, refl, subst, sym, ℕ, ◌+◌, ◌<◌, ◌∙◌, ◌≡◌, ◌≤◌}
use Rattle.std.proofs.lemmas.Result.{IfErr-weaker, on_ok_weaker}
use Rattle.std.specs.Prelude.{OnOk}
use Rattle.d64_image.proofs.Moments.{at_end, read_fails, reads_then_fails}
use Rattle.d64_image.specs.History.{Changes, History}
use Rattle.disk_layout.specs.Layout.{File, Layout, record_length}
use Rattle.rel_records.proofs.lemmas.Told.{cut-tells, device-not-full, device-not-overflow, overflow-not-full}
use Rattle.rel_records.proofs.lemmas.Told.{refusal-no-overflow, refused-undone, tells-rel-after}
use Rattle.rel_records.proofs.lemmas.reading.Readings.{placed}
use Rattle.rel_records.proofs.lemmas.writing.Grown.{changes-grown, changes-growing, size-kept, writing-others, written-then}
use Rattle.rel_records.specs.Calls.{Grows, WritesRecord, WritesThere}
use Rattle.rel_records.specs.File.{IsFileOf, IsOf, length_of}
use Rattle.rel_records.specs.Others.{KeepsRelFiles}
use Rattle.rel_records.specs.Written.{IsDone, IsInOneBlock, IsWriting, touched}
use Rattle.rel_records.specs.declared.faults.RelFault.{RelFault}
use Rattle.rel_records.specs.declared.faults.RelFault.TheVariants.{Overflow, TooLarge}
use Rattle.rel_records.specs.declared.rel_file.RelFile.{RelFile}
use Rattle.rel_records.specs.growth.Growth.{IsTooLarge, added, growth_writes, records_had}

-- growth is refused, or fails
pub growth-refused : {D : Type 0} (S : History D) (a b : D) (v w : RelFile) (r pos : ℕ) (text : List ℕ) (e : RelFault)
    → Grows S a b v w r (Err e) → WritesRecord S a b v w r pos text (Err e)
growth-refused S a b v w r pos text e g = record {
  file = λ l n f of. let h = g.file l n f of in record {
    done = refused-undone (Err e) e refl g.told;
    too_large = h.too_large;
    full = h.full;
    fits = refused-undone (Err e) e refl g.told;
    moments = changes-growing S a b l n f (added (record_length f.slot) (records_had f) r) (growth_writes f r)
        (touched (record_length f.slot) r pos) r pos text h.moments;
    others = h.others;
  };
  ok = tt;
  overflow = refusal-no-overflow e g.told;
  there = refused-undone (Err e) e refl g.told;
  same = refused-undone (Err e) e refl g.told;
  told = inr g.told;
  refused = λ ne over. g.refused ne;
  one_step = λ le one over. read_fails S a b 0 (g.quiet le).2;
  reads = omega (arith, g.reads);
  few = λ le. omega (arith, (g.quiet le).2.reads);
  entry = g.entry;
  failures = g.failures;
}

-- the record is there, and its blocks are put
module _ {D : Type 0} (S : History D) (a b c : D) (v w : RelFile) (r pos : ℕ) (text : List ℕ) (u : Unit {0})
    (g : Grows S a b v w r (Ok u)) where
  moments : (put : Result (Unit {0}) RelFault) → WritesThere S b c w r pos text (touched (length_of w) r pos) 3 put
      → (l : Layout) (n : ℕ) (f : File) → IsFileOf (S.image a) l n f v
      → Changes S a c (growth_writes f r + touched (record_length f.slot) r pos)
      (IsWriting (S.image a) l n f (added (record_length f.slot) (records_had f) r) r pos text)
  moments put h l n f of =
      let k = (g.file l n f of).ok in
      let T : ℕ → Type 0 = λ L. Changes S b c (touched L r pos) (IsWriting (S.image b) k.layout n k.file 0 r pos text) in
      changes-grown S a b c l n f _ w k (size-kept (S.image a) (S.image b) l k.layout n n f k.file v w of k.of g.same)
      (growth_writes f r) (touched (record_length f.slot) r pos) r pos text (g.file l n f of).moments
      (subst T (g.same ∙ of.shows.size) (h.file k.layout n k.file k.of).moments)

  others : (put : Result (Unit {0}) RelFault) → WritesThere S b c w r pos text (touched (length_of w) r pos) 3 put
      → (l : Layout) (n : ℕ) (f : File) → IsFileOf (S.image a) l n f v → KeepsRelFiles (S.image a) (S.image c) l n
  others put h l n f of = writing-others (S.image a) (S.image c) l n f _ r pos text (at_end S a c _
      (moments put h l n f of).held)

  -- growth wasn't too large
  fitting : {X : Type 0} (l : Layout) (n : ℕ) (f : File) → IsFileOf (S.image a) l n f v → IsTooLarge f r → X
  fitting l n f of t = let full = (g.file l n f of).too_large.1 t in cc

  -- the device fails
  pub put-fails : (e : RelFault) → WritesThere S b c w r pos text (touched (length_of w) r pos) 3 (Err e)
      → WritesRecord S a c v w r pos text (Err e)
  put-fails e h = record {
    file = λ l n f of. record {
      done = undone;
      too_large = (λ x. let device = h.err in cc, fitting l n f of);
      full = device-not-full e h.err;
      fits = undone;
      moments = moments (Err e) h l n f of;
      others = others (Err e) h l n f of;
    };
    ok = tt;
    overflow = device-not-overflow e h.err;
    there = undone;
    same = undone;
    told = inr (inr (inr h.err));
    refused = λ ne. absurd (ne h.err);
    one_step = λ le one over.
        let P : ℕ → Type 0 = λ s. IsInOneBlock s r in
        reads_then_fails S a b c 0 (g.quiet le).2 (h.one_step (subst P (sym g.same) one));
    reads = omega (arith, h.reads, g.reads);
    few = λ le. omega (arith, h.reads, (g.quiet le).2.reads);
    entry = g.entry;
    failures = tells-rel-after S a b c g.failures {T = Unit {0}} (Err e) h.failures;
  }
    where
      undone : {X : Type 0} → IsDone {T = Unit {0}} (Err e) → X
      undone = refused-undone (Err e) e refl (inr (inr h.err))

  -- the record is written, and this is told of the text
  pub put-told : (k : Unit {0}) (told : Result (Unit {0}) RelFault)
      → WritesThere S b c w r pos text (touched (length_of w) r pos) 3 (Ok k) → IsOf (S.image a) v → 1 ≤ r
      → OnOk told (length text + pos ≤ length_of w + 1)
      → IfErr told (λ e. (e ≡ Overflow) × (length_of w + 1 < length text + pos))
      → WritesRecord S a c v w r pos text told
  put-told k told h (l0, n0, f0, of0) low fit over = record {
    file = λ l n f of.
        let j = (g.file l n f of).ok in
        record {
          done = λ done. written-then (S.image a) (S.image b) l n f _ w j
              (size-kept (S.image a) (S.image b) l j.layout n n f j.file v w of j.of g.same) (S.image c) r pos text
              (h.file j.layout n j.file j.of).ok;
          too_large = (never told over, fitting l n f of);
          full = IfErr-weaker told _ _ (λ e o. overflow-not-full e o.0) over;
          fits = λ done. (g.file l n f of).fits;
          moments = moments (Ok k) h l n f of;
          others = others (Ok k) h l n f of;
        };
    ok = on_ok_weaker told (λ x. omega (arith, x, g.same)) fit;
    overflow = IfErr-weaker told _ _ (λ e o is. omega (arith, o.1, g.same)) over;
    there = λ done. let j = (g.file l0 n0 f0 of0).ok in (
      g.there,
      placed (S.image b) w r (j.layout, n0, j.file, j.of)
          (S.whole b) low g.there,
    );
    same = λ done. g.same;
    told = IfErr-weaker told _ _ (λ e o. inl o.0) over;
    refused = IfErr-weaker told _ _ (λ e o ne not. absurd (not o.0)) over;
    one_step = λ le one. IfErr-weaker told _ _ (λ e o not. absurd (not o.0)) over;
    reads = omega (arith, h.reads, g.reads);
    few = λ le. omega (arith, h.reads, (g.quiet le).2.reads);
    entry = g.entry;
    failures = cut-tells S a c told _ over (h.failures ∙ g.failures);
  }
    where
      never : {X : Type 0} (t : Result (Unit {0}) RelFault)
          → IfErr t (λ e. (e ≡ Overflow) × (length_of w + 1 < length text + pos)) → t ≡ Err TooLarge → X
      never (Ok x) o is = cc
      never (Err e) o is = let d = o.0 in cc
