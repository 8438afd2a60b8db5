-- What is left of a record, and what was held, after its blocks were put.
use Rattle.std.proofs.Common.{Err, List, Some, ⊎_elim, arith, slice_index, subst, sym, ℕ, ◌*◌, ◌+◌, ◌-◌, ◌<◌, ◌≡◌, ◌≤◌, ◌∷◌, []}
use Rattle.std.proofs.Common.{Result, length, refl}
use Rattle.std.proofs.lemmas.Result.{on_ok_weaker}
use Rattle.std.specs.Prelude.{IfSome, slice_get}
use Rattle.d64_image.proofs.Moments.{changes_weaker, read_fails, reads_change, weaker}
use Rattle.d64_image.specs.History.{History}
use Rattle.d64_image.specs.Images.{Image, sector}
use Rattle.d64_image.specs.declared.place.Place.{Place}
use Rattle.disk_layout.specs.Chain.{named_at}
use Rattle.disk_layout.specs.Layout.{record_length}
use Rattle.disk_layout.specs.Records.{records}
use Rattle.rel_records.proofs.lemmas.Usable.{usable-of}
use Rattle.rel_records.proofs.lemmas.whole.Written.{both-whole, half-whole, one-whole}
use Rattle.rel_records.proofs.lemmas.writing.Across.{leaves-both, leaves-half}
use Rattle.rel_records.proofs.lemmas.writing.OneBlock.{half-moment, leaves-one, old-moment, one-more, whole-moment}
use Rattle.rel_records.proofs.lemmas.reading.Readings.{block-there, inside-of, link-named}
use Rattle.rel_records.specs.Calls.{IsPosition, ReadsAtMost, WritesThere}
use Rattle.rel_records.specs.File.{OfItsFile, length_of}
use Rattle.rel_records.specs.Others.{LeavesRecords}
use Rattle.rel_records.specs.Puts.{PutsEach, in_block, in_two}
use Rattle.rel_records.specs.Written.{IsWriting, touched, with_written}
use Rattle.rel_records.specs.declared.faults.RelFault.{RelFault}
use Rattle.rel_records.specs.declared.rel_file.RelFile.{RelFile}

-- its block wasn't found
pub wrote-none : {D T : Type 0} (S : History D) (a b : D) (v : RelFile) (r pos : ℕ) (text : List ℕ) (m most : ℕ)
    (e : RelFault) (P : T → Type 0) → m ≤ most → ReadsAtMost S a b m (Err e) P
    → WritesThere S a b v r pos text (touched (length_of v) r pos) most (Err e)
wrote-none S a b v r pos text m most e P few h = record {
  file = λ l n f of. record {
    ok = tt;
    moments = changes_weaker S a b 0 _ _ _ (omega arith) (λ c is. is) (reads_change S a b m
        (IsWriting (S.image a) l n f 0 r pos text) h.reads (old-moment (S.image a) (S.image a) l n f v r pos text of));
  };
  err = h.err;
  one_step = λ one. read_fails S a b m h.reads;
  reads = omega (arith, h.reads.reads, few);
  failures = h.failures;
}

-- the bytes of record r from the position on begin in the block of this number, at p
module _ {D : Type 0} (S : History D) (a b : D) (v : RelFile) (r pos block : ℕ) (p : Place) (text : List ℕ)
    (small : (i : ℕ) → slice_index text i < 256) (there : IsPosition (S.image a) v r pos)
    (at : OfItsFile (S.image a) v (λ l n f. slice_get f.blocks block ≡ Some p)) (m most : ℕ) (few : m ≤ most)
    (result : Result (Unit {0}) RelFault) (from : 254 * block ≤ (r - 1) * length_of v + (pos - 1)) where
  abbrev pub start : ℕ
  start = (r - 1) * length_of v + (pos - 1) - 254 * block

  abbrev pub PutsTwo : Place → Type 0
  PutsTwo q = PutsEach S a b (in_two (S.image a) p q start (r * length_of v - 254 * block - 254) text) m result

  -- all of them
  pub wrote-one : r * length_of v ≤ 254 * block + 254
      → PutsEach S a b (in_block (S.image a) p start (r * length_of v - 254 * block) text ∷ []) m result
      → WritesThere S a b v r pos text (touched (length_of v) r pos) most result
  wrote-one to put = record {
    file = λ l n f of.
        let i = S.image a in
        let (strays, clean) = usable-of i l of.layout there.usable in
        let leaves = leaves-one i l n f v of (S.whole a) block r pos p text small (at l n f of) there.low there.high
        there.position_low there.position_high from to in
        let whole = one-whole i l n f v of (S.whole a) block r pos p text small clean (at l n f of) there.low there.high
        there.position_low there.position_high from to in
        record {
          ok = on_ok_weaker result (λ is. let P : Image → Type 0 = λ j. LeavesRecords i j l n (with_written
              (record_length f.slot) r pos text (records i f)) v in subst P (sym is) leaves) put.ok;
          moments = record {
            held = weaker S a b _ _ (λ c. ⊎_elim
                (λ e. subst (IsWriting i l n f 0 r pos text) (sym e) (old-moment i i l n f v r pos text of))
                (λ e. subst (IsWriting i l n f 0 r pos text) (sym e) (whole-moment i _ l n f v r pos text leaves whole)))
                put.held;
            writes = omega (arith, put.writes);
          };
        };
    err = put.err;
    one_step = λ one. put.one_step (omega arith);
    reads = omega (arith, put.reads, few);
    failures = put.failures;
  }

  -- those up to the block's end, and the rest in the block to which it links
  pub wrote-two : (r - 1) * length_of v + (pos - 1) < 254 * block + 254 → 254 * block + 254 < r * length_of v
      → IfSome (named_at (sector (S.image a) p) 0) PutsTwo
      → WritesThere S a b v r pos text (touched (length_of v) r pos) most result
  wrote-two inside over puts = record {
    file = λ l n f of.
        let i = S.image a in
        let (q, to, put) = both l n f of in
        let (strays, clean) = usable-of i l of.layout there.usable in
        let P : Image → Type 0 = λ j. LeavesRecords i j l n (with_written
        (record_length f.slot) r pos text (records i f)) v in
        let half = leaves-half i l n f v (S.whole a) of block r pos p q text small (at l n f of) to there.low there.high
        there.position_low there.position_high from inside over in
        let all = leaves-both i l n f v (S.whole a) of block r pos p q text small (at l n f of) to there.low there.high
        there.position_low there.position_high from inside over in
        let first-whole = half-whole i l n f v (S.whole a) of clean block r pos p q text small (at l n f of) to there.low there.high
        there.position_low there.position_high from inside over in
        let all-whole = both-whole i l n f v (S.whole a) of clean block r pos p q text small (at l n f of) to there.low there.high
        there.position_low there.position_high from inside over in
        record {
          ok = on_ok_weaker result (λ is. subst P (sym is) all) put.ok;
          moments = record {
            held = weaker S a b _ _ (λ c. ⊎_elim
                (λ e. subst (IsWriting i l n f 0 r pos text) (sym e) (old-moment i i l n f v r pos text of))
                (⊎_elim
                (λ e. subst (IsWriting i l n f 0 r pos text) (sym e) (half-moment i _ l n f v r pos text half first-whole))
                (λ e. subst (IsWriting i l n f 0 r pos text) (sym e) (whole-moment i _ l n f v r pos text all all-whole))))
                put.held;
            writes = omega (arith, put.writes, over, inside);
          };
        };
    err = let (l, n, f, of) = there.of in (both l n f of).2.err;
    one_step = λ one. absurd (omega (arith, one, over, inside, one-more r (length_of v) there.low));
    reads = let (l, n, f, of) = there.of in omega (arith, (both l n f of).2.reads, few);
    failures = let (l, n, f, of) = there.of in (both l n f of).2.failures;
  }
    where
      both : OfItsFile (S.image a) v (λ l n f. (q : Place) × (slice_get f.blocks (block + 1) ≡ Some q)
          × PutsTwo q)
      both l n f of =
          let more : block + 1 < length f.blocks = omega (
            arith,
            over,
            of.shows.blocks,
            one-more r (length_of v) there.low,
            inside-of (S.image a) v r there.of (S.whole a) there.low there.high,
          ) in
          let (q, to) = block-there (S.image a) l n f v of (block + 1) p more in
          let link = link-named (S.image a) l n f v of block p q (sector (S.image a) p) (at l n f of) to refl in
          (q, to, subst (λ o. IfSome o PutsTwo) link puts)
