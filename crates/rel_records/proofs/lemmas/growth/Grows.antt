-- Growth as a whole: what is read, then the last blocks filled, then blocks one after another.
use Rattle.std.proofs.Common.{◌≡◌, ℕ, ◌+◌, ◌-◌, ◌≤◌, length, sym, ◌∙◌, ap, arith, subst}
use Rattle.d64_image.proofs.Moments.{changes_then, changes_weaker, reads_change}
use Rattle.d64_image.specs.History.{Changes, History, OnlyReads}
use Rattle.d64_image.specs.Images.{Image}
use Rattle.disk_layout.specs.Layout.{File, Layout, record_length, sides_for}
use Rattle.disk_layout.specs.Records.{record_count, records}
use Rattle.disk_layout.specs.View.{blocks_free}
use Rattle.disk_layout.proofs.lemmas.records.Pieces.{length-pieces}
use Rattle.rel_records.proofs.lemmas.filling.BeforeLast.{old-grows}
use Rattle.rel_records.proofs.lemmas.growth.Running.{growing-more, run-held, run-run}
use Rattle.rel_records.proofs.lemmas.growth.RunCosts.{full-mono}
use Rattle.rel_records.proofs.lemmas.reading.Opened.{rel-of}
use Rattle.rel_records.proofs.lemmas.filling.Standing.{blocks-some, had-full, pos}
use Rattle.rel_records.specs.File.{IsFileOf, records_in}
use Rattle.rel_records.specs.growth.Growth.{fill_writes, full, needed, records_had, run_writes}
use Rattle.rel_records.specs.growth.Steps.{HasFilled, HasRun, IsAt, IsKeptOf, IsRunTo, StandsFilled}
use Rattle.rel_records.specs.Written.{IsGrowingBy}
use Rattle.rel_records.specs.declared.rel_file.RelFile.{RelFile}
use Rattle.rel_records.specs.declared.growth.step_parts.Growing.{Growing}

-- what is kept of a file tells how many records it has
pub had-of : (img : Image) (l : Layout) (n : ℕ) (f : File) (v : RelFile) → IsFileOf img l n f v
    → records_in v ≡ records_had f
had-of img l n f v of =
    ap (λ k. record_count k v.last v.size) of.shows.blocks
    ∙ ap (λ u. record_count (length f.blocks) u v.size) of.shows.last
    ∙ ap (record_count (length f.blocks) f.last) of.shows.size

-- as many as it counts
pub count-is : (img : Image) (f : File) → length (records img f) ≡ records_had f
unfolding records
count-is img f = length-pieces _ _ _

-- what stands in memory of a relative file with blocks
pub at-sides : (img : Image) (l : Layout) (n : ℕ) (f : File) (p : Growing) → IsAt img l n f p
    → length p.sides.items ≡ sides_for (length p.blocks.items)
at-sides img l n f p at =
    ap length at.sides ∙ (rel-of img l n f at.clean.layout at.there at.rel).count
    ∙ ap (λ xs. sides_for (length xs)) (sym at.blocks)

pub at-some : (img : Image) (l : Layout) (n : ℕ) (f : File) (p : Growing) → IsAt img l n f p → 1 ≤ length p.blocks.items
at-some img l n f p at = omega (arith, ap length at.blocks, blocks-some img l n f p at)

module _ {D : Type 0} (S : History D) (d b : D) (l : Layout) (n : ℕ) (f : File) (p : Growing) (w : ℕ)
    (reads : OnlyReads S d b 8) (at : IsAt (S.image d) l n f p) (more : length f.blocks ≤ w) where
  abbrev Grows : Image → Type 0
  Grows = IsGrowingBy (S.image d) l n f (full (record_length f.slot) w - records_had f)

  pub at-now : IsAt (S.image b) l n f p
  at-now = let P : Image → Type 0 = λ i. IsAt i l n f p in subst P (sym reads.image) at

  fewer : full (record_length f.slot) (length f.blocks) - records_had f ≤ full (record_length f.slot) w - records_had f
  fewer = omega (arith, full-mono (record_length f.slot) (length f.blocks) w (pos (S.image d) l n f p at) more)

  module _ (x : D) (fill : Changes S b x (fill_writes f)
      (IsGrowingBy (S.image b) l n f (full (record_length f.slot) (length f.blocks) - records_had f))) where
    filled-so-far : Changes S d x (fill_writes f) Grows
    filled-so-far =
        let P : Image → Type 0 =
        λ i. Changes S b x (fill_writes f)
        (IsGrowingBy i l n f (full (record_length f.slot) (length f.blocks) - records_had f)) in
        changes_then S d b x 0 (fill_writes f) (fill_writes f) Grows (omega arith)
        (reads_change S d b 8 Grows reads (old-grows (S.image d) l n f p (S.whole d) at _))
        (changes_weaker S b x _ _ _ Grows (omega arith) (λ c h. growing-more (S.image d) c l n f _ _ fewer h)
        (subst P reads.image fill))

    pub fill-moments : Changes S d x (fill_writes f + run_writes (length f.blocks) w) Grows
    fill-moments = changes_weaker S d x _ _ Grows Grows (omega arith) (λ c h. h) filled-so-far

    module _ (q : Growing) (filled : HasFilled (S.image b) (S.image x) l n f p q) where
      pub run : IsRunTo (S.image d) (S.image x) l n f (length f.blocks) q
      run = let P : Image → Type 0 = λ i. IsRunTo i (S.image x) l n f (length f.blocks) q in
          subst P reads.image filled.run

      pub standing : StandsFilled (S.image x) q
      standing = (run.layout, n, run.file, run.at, run.filled)

      pub long : length q.blocks.items ≡ length f.blocks
      long = ap length run.at.blocks ∙ run.count

      pub room : needed (length f.blocks) w ≤ blocks_free p.map.bytes
          → needed (length q.blocks.items) w ≤ blocks_free q.map.bytes
      room le = let P : ℕ → Type 0 = λ k. needed k w ≤ blocks_free q.map.bytes in
          subst P (sym long) (omega (arith, le, ap blocks_free filled.map))

      module _ (y : D) (blocks : Changes S x y (run_writes (length run.file.blocks) w)
          (IsGrowingBy (S.image x) run.layout n run.file (full (record_length run.file.slot) w - records_had run.file)))
        where
          pub run-moments : Changes S d y (fill_writes f + run_writes (length f.blocks) w) Grows
          run-moments =
              changes_then S d x y (fill_writes f) (run_writes (length run.file.blocks) w) _ Grows
              (omega (arith, ap (λ k. run_writes k w) run.count)) filled-so-far
              (changes_weaker S x y _ _ _ Grows (omega arith) (λ c h. run-held (S.image d) (S.image x) l n f
              (length f.blocks) w q (had-full (S.image d) l n f p at (S.whole d)) more (pos (S.image d) l n f p at)
              at.there run at.clean.layout c h) blocks)

          pub has-run : (z : Growing) (v : RelFile) → IsRunTo (S.image x) (S.image y) run.layout n run.file w z
              → IsKeptOf v z → HasRun (S.image d) (S.image y) l n f w v
          has-run z v h kept = record {
            parts = z;
            run = run-run (S.image d) (S.image x) l n f (length f.blocks) w q
                (had-full (S.image d) l n f p at (S.whole d)) more (pos (S.image d) l n f p at) at.there run (S.image y)
                z
                h;
            kept = kept;
          }
