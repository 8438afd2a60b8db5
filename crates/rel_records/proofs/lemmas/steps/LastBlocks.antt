-- What the last two blocks of a file hold with its next one: all whole records that fit, the new ones empty.
use Rattle.std.proofs.Common.{◌≡◌, ℕ, ◌+◌, ◌-◌, ◌*◌, ◌<◌, ◌≤◌, length, refl, sym, ◌∙◌, ap, arith, subst, slice_index}
use Rattle.d64_image.specs.Images.{Image, Sector, sector}
use Rattle.d64_image.specs.declared.place.Place.{Place}
use Rattle.disk_layout.proofs.lemmas.growth.GrowthRecords.{count-full}
use Rattle.disk_layout.specs.Layout.{File, Layout, record_length}
use Rattle.disk_layout.specs.Records.{IsFilled, filler, record_count}
use Rattle.rel_records.proofs.lemmas.filling.Fulls.{full-inside, full-last, full-more}
use Rattle.rel_records.specs.growth.Growth.{full}
use Rattle.rel_records.specs.growth.Next.{IsFresh, IsLinked}
use Rattle.rel_records.specs.growth.Steps.{IsFilledUp}
use Rattle.rel_records.specs.declared.growth.step_parts.Growing.{Growing}
use Rattle.rel_records.proofs.lemmas.steps.LaidOut.{IsStep, blocks-some, many, rel-file}

-- how many empty records the next block brings
abbrev pub records_more : File → ℕ
records_more f = full (record_length f.slot) (length f.blocks + 1) - full (record_length f.slot) (length f.blocks)

module _ {a : Image} {l : Layout} {n : ℕ} {f : File} {p q : Growing} {fresh : Place} {block : Sector}
    (step : IsStep a l n f p q fresh block) where
  open step use {at, laid}

  abbrev L : ℕ
  L = record_length f.slot

  abbrev N : ℕ
  N = length f.blocks

  pos : 0 < L
  pos = omega (arith, (rel-file step).length_low)

  pub some-more : 0 < records_more f
  some-more = omega (arith, full-more L N pos (rel-file step).length_high)

  pub total-is : full L (N + 1) ≡ full L N + records_more f
  total-is = omega (arith, full-more L N pos (rel-file step).length_high)

  pub made : IsFresh N L block
  made =
      let P : ℕ → Type 0 = λ k. IsFresh k L block in
      let Q : ℕ → Type 0 = λ s. IsFresh (length p.blocks.items) s block in
      subst P (many step) (subst Q at.size laid.made)

  pub linked : IsLinked N L fresh (sector a at.last_place) q.last
  linked =
      let P : ℕ → Type 0 = λ k. IsLinked k L fresh (sector a at.last_place) q.last in
      let Q : ℕ → Type 0 = λ s. IsLinked (length p.blocks.items) s fresh (sector a at.last_place) q.last in
      let R : Sector → Type 0 = λ b. IsLinked (length p.blocks.items) p.size fresh b q.last in
      subst P (many step) (subst Q at.size (subst R at.last laid.last))

  -- what the last two blocks hold then
  filled-total : IsFilledUp f → IsFilled a f at.front at.last_place (full L N) (full L (N + 1)) q.last block
  filled-total up =
      let r = length at.front in
      let e : N - 1 ≡ r = omega (arith, blocks-some step) in
      let inside : full L N * L ≤ 254 * N = full-inside L N in
      let last : 254 * r < full L (r + 1) * L + 1 = full-last L r pos (rel-file step).length_high in
      let P : ℕ → Type 0 = λ k. 254 * r < full L k * L + 1 in
      let low : 254 * r < full L N * L + 1 = subst P (sym (blocks-some step)) last in
      let top : full L (N + 1) * L ≤ 254 * (N + 1) = full-inside L (N + 1) in
      record {
        positive = pos;
        blocks = at.last_is;
        records_there = up;
        from_last = omega (arith, low);
        inside = omega (arith, inside, blocks-some step);
        within = omega (arith, top, blocks-some step);
        kept = λ j lt h. linked.kept j lt (let P : ℕ → Type 0 = λ k. 254 * k + j < full L N * L in
            subst P (sym e) h);
        tail = λ j lt h. linked.tail j lt (let P : ℕ → Type 0 = λ k. full L N * L ≤ 254 * k + j in
            subst P (sym e) h) ∙ ap (λ k. filler L (full L (N + 1)) (254 * k + j)) e;
        block = λ j lt. made.filled j lt ∙ ap (filler L (full L (N + 1)))
            (let s : 254 * N + j ≡ 254 * r + 254 + j = omega (arith, blocks-some step) in s);
      }

  pub filled : IsFilledUp f → IsFilled a f at.front at.last_place (full L N) (full L N + records_more f) q.last block
  filled up =
      let P : ℕ → Type 0 = λ k. IsFilled a f at.front at.last_place (full L N) k q.last block in
      subst P total-is (filled-total up)

  -- all whole records are there
  pub counts : record_count (N + 1) (slice_index block 1) L ≡ full L (N + 1)
  counts = count-full N (slice_index block 1) L _ pos (rel-file step).length_high refl made.index
