-- Growth to a record: what its refusals and its result mean for that record.
use Rattle.std.proofs.Common.{◌≡◌, ℕ, ◌+◌, ◌-◌, ◌*◌, ◌<◌, ◌≤◌, ◌⊎◌, inl, inr, false, List, Some, length}
use Rattle.std.proofs.Common.{refl, sym, ◌∙◌, ap, arith, subst, append-nil}
use Rattle.std.specs.Prelude.{if◌then◌else◌, nat_le}
use Rattle.std.proofs.lemmas.Bool.{lt-leb}
use Rattle.std.proofs.lemmas.Nat.{le-div}
use Rattle.d64_image.specs.Images.{Image, sector}
use Rattle.disk_layout.proofs.lemmas.records.Pieces.{row-le}
use Rattle.disk_layout.specs.Directory.{map_place}
use Rattle.disk_layout.specs.Layout.{File, Layout, record_length}
use Rattle.disk_layout.specs.Records.{records}
use Rattle.disk_layout.specs.View.{blocks_free}
use Rattle.rel_records.proofs.lemmas.filling.ReadyToEnd.{last-index}
use Rattle.rel_records.proofs.lemmas.growth.Grows.{had-of}
use Rattle.rel_records.proofs.lemmas.growth.RunCosts.{added-none}
use Rattle.d64_image.proofs.Moments.{at_end, changes_then, changes_weaker, reads_change}
use Rattle.d64_image.specs.History.{Changes, History, OnlyReads}
use Rattle.rel_records.proofs.lemmas.Kept.{growing_same, has-others, has_same, keeps_same, places-stay}
use Rattle.rel_records.proofs.lemmas.filling.Standing.{count-low}
use Rattle.rel_records.proofs.lemmas.reading.Opened.{file-rel, some-blocks}
use Rattle.rel_records.proofs.lemmas.writing.Grown.{growing-others}
use Rattle.rel_records.specs.File.{IsFileOf, blocks_of, length_of, records_in}
use Rattle.rel_records.specs.Others.{KeepsPlaces, KeepsRelFiles, LeavesRecords}
use Rattle.rel_records.specs.Written.{IsGrowingBy, grown_by, grown_to}
use Rattle.rel_records.specs.declared.rel_file.RelFile.{RelFile}
use Rattle.rel_records.specs.growth.Growth.{IsFull, IsTooLarge, added, blocks_for, fill_writes, full, growth_writes}
use Rattle.rel_records.specs.growth.Growth.{needed, records_had, run_writes}
use Rattle.rel_records.specs.growth.Steps.{HasRun, IsAt}

module _ (a : Image) (l : Layout) (n : ℕ) (f : File) (v : RelFile) (of : IsFileOf a l n f v) (r : ℕ) where
  abbrev L : ℕ
  L = record_length f.slot

  had : records_in v ≡ records_had f
  had = had-of a l n f v of

  -- a record that is there
  module _ (le : r ≤ records_in v) where
    pub none-added : added L (records_had f) r ≡ 0
    none-added = added-none L (records_had f) r (omega (arith, had, le))

    pub leaves-here : LeavesRecords a a l n (grown_to a f r) v
    leaves-here =
        let P : ℕ → Type 0 = λ k. LeavesRecords a a l n (grown_by L k (records a f)) v in
        let Q : List (List ℕ) → Type 0 = λ rs. LeavesRecords a a l n rs v in
        subst P (sym none-added) (subst Q (sym (append-nil (records a f))) (record {
          layout = l;
          clean = λ strays clean. clean;
          others = keeps_same a l n;
          file = f;
          of = of;
          records = refl;
          places = places-stay a l n f (records a f) of.there (omega arith);
        }))

    pub there-fits : ¬ (IsFull a f r)
    there-fits (lt, less) = omega (arith, lt, had, le)

    pub there-small : ¬ (IsTooLarge f r)
    there-small (lt, x) = omega (arith, lt, had, le)

  -- a record that is not there
  module _ (lt : records_in v < r) where
    absent : nat_le r (records_had f) ≡ false
    absent = lt-leb r (records_had f) (omega (arith, had, lt))

    pub some-added : added L (records_had f) r ≡ full L (blocks_for L r) - records_had f
    some-added = ap (λ b. if b then 0 else (full L (blocks_for L r) - records_had f)) absent

    pub writes-are : growth_writes f r ≡ fill_writes f + run_writes (length f.blocks) (blocks_for L r)
    writes-are = ap (λ b. if b then 0 else (fill_writes f + run_writes (length f.blocks) (blocks_for L r))) absent

    pub blocks-more : length f.blocks ≤ blocks_for L r
    blocks-more =
        let low : 254 * (length f.blocks - 1) < records_had f * L + L =
        count-low (length f.blocks) f.last L (omega (arith, (file-rel a l n f v of).length_low)) in
        let row = row-le (records_had f) r L (omega (arith, had, lt)) in
        omega (arith, low, row, some-blocks a l n f v of)

    pub is-too-large : (720 < blocks_for (length_of v) r) ⊎ (65535 < r) → IsTooLarge f r
    is-too-large x =
        let P : ℕ → Type 0 = λ s. (720 < blocks_for s r) ⊎ (65535 < r) in
        (omega (arith, had, lt), subst P of.shows.size x)

    pub not-too-large : blocks_for (length_of v) r ≤ 720 → r ≤ 65535 → ¬ (IsTooLarge f r)
    not-too-large few low (h, inl x) = omega (arith, x, few, ap (λ s. blocks_for s r) of.shows.size)
    not-too-large few low (h, inr x) = omega (arith, x, low)

    pub is-full : (map : List ℕ) → map ≡ sector a map_place
        → blocks_free map < needed (blocks_of v) (blocks_for (length_of v) r) → IsFull a f r
    is-full map e less = (
      omega (arith, had, lt),
      omega (
        arith,
        less,
        ap blocks_free e,
        ap (λ k. needed k (blocks_for (length_of v) r))
            of.shows.blocks,
        ap (λ s. needed (length f.blocks) (blocks_for s r)) of.shows.size,
      ),
    )

    pub not-full : (map : List ℕ) → map ≡ sector a map_place → needed (blocks_of v) (blocks_for (length_of v) r)
        ≤ blocks_free map → ¬ (IsFull a f r)
    not-full map e le (h, less) =
        omega (
          arith,
          less,
          le,
          ap blocks_free e,
          ap (λ k. needed k (blocks_for (length_of v) r)) of.shows.blocks,
          ap (λ s. needed (length f.blocks) (blocks_for s r)) of.shows.size,
        )

    -- what a run leaves
    module _ (b : Image) (w : ℕ) (z : RelFile) (wanted : w ≡ blocks_for (length_of v) r) (h : HasRun a b l n f w z)
      where
        w-is : w ≡ blocks_for L r
        w-is = wanted ∙ ap (λ s. blocks_for s r) of.shows.size

        at : IsAt b h.run.layout n h.run.file h.parts
        at = h.run.at

        shown : IsFileOf b h.run.layout n h.run.file z
        shown = record {
          layout = at.clean.layout;
          there = at.there;
          rel = at.rel;
          shows = record {
            sector = h.kept.sector ∙ at.place;
            number = h.kept.number ∙ at.number;
            size = h.kept.size ∙ at.size;
            sides = h.kept.sides ∙ at.sides;
            blocks = h.kept.blocks ∙ ap length at.blocks;
            last = h.kept.last ∙ last-index b h.run.layout n h.run.file h.parts at;
          };
        }

        all-more : grown_by L (full L w - records_had f) (records a f) ≡ grown_to a f r
        all-more = ap (λ k. grown_by L (full L k - records_had f) (records a f)) w-is
            ∙ ap (λ j. grown_by L j (records a f)) (sym some-added)

        pub leaves-run : LeavesRecords a b l n (grown_to a f r) z
        leaves-run = record {
          layout = h.run.layout;
          clean = h.run.stays;
          others = h.run.others;
          file = h.run.file;
          of = shown;
          records = h.run.records_are ∙ all-more;
          places = λ g e.
              let same : f ≡ g = one g (sym of.there ∙ e) in
              let P : File → Type 0 = λ x. KeepsPlaces a x h.run.file (grown_to a f r) in
              let Q : List (List ℕ) → Type 0 = KeepsPlaces a f h.run.file in
              subst P same (subst Q all-more h.run.places);
        }
          where
            one : (g : File) → Some f ≡ Some g → f ≡ g
            one g e = cc

        -- and so record r is there
        pub there-now : r ≤ records_in z
        there-now =
            let n-is : records_in z ≡ full L w = had-of b h.run.layout n h.run.file z shown ∙ h.run.filled
            ∙ ap (λ s. full s (length h.run.file.blocks)) h.run.same_size ∙ ap (full L) h.run.count in
            let fits : r * L ≤ 254 * w = omega (arith, w-is) in
            omega (arith, n-is, le-div r (254 * w) L (omega (arith, (file-rel a l n f v of).length_low)) fits)

        pub size-now : length_of z ≡ length_of v
        size-now = h.kept.size ∙ at.size ∙ h.run.same_size ∙ sym of.shows.size

-- the map is read, and then the file grows
module _ {D : Type 0} (S : History D) (d b : D) (l : Layout) (n : ℕ) (f : File) (v : RelFile)
    (of : IsFileOf (S.image d) l n f v) (r : ℕ) (reads : OnlyReads S d b 1) where
  abbrev Grows : Image → Type 0
  Grows = IsGrowingBy (S.image d) l n f (added (record_length f.slot) (records_had f) r)

  pub of-now : IsFileOf (S.image b) l n f v
  of-now = let P : Image → Type 0 = λ i. IsFileOf i l n f v in subst P (sym reads.image) of

  pub read-moments : Changes S d b (growth_writes f r) Grows
  read-moments = changes_weaker S d b 0 _ Grows Grows (omega arith) (λ c h. h)
      (reads_change S d b 1 Grows reads (growing_same (S.image d) l n f v _ of))

  pub read-others : KeepsRelFiles (S.image d) (S.image b) l n
  read-others =
      let P : Image → Type 0 = λ i. KeepsRelFiles (S.image d) i l n in
      subst P (sym reads.image) (has-others (S.image d) (S.image d) l n _ (has_same (S.image d) l n f v of))

  module _ (lt : records_in v < r) (w : ℕ) (wanted : w ≡ blocks_for (length_of v) r) (y : D) where
    same-sum : full (record_length f.slot) w - records_had f ≡ added (record_length f.slot) (records_had f) r
    same-sum = ap (λ k. full (record_length f.slot) k - records_had f) (wanted ∙ ap (λ s. blocks_for s r) of.shows.size)
        ∙ sym (some-added (S.image d) l n f v of r lt)

    same-writes : fill_writes f + run_writes (length f.blocks) w ≡ growth_writes f r
    same-writes = ap (λ k. fill_writes f + run_writes (length f.blocks) k) (wanted
        ∙ ap (λ s. blocks_for s r) of.shows.size) ∙ sym (writes-are (S.image d) l n f v of r lt)

    pub grow-moments : Changes S b y (fill_writes f + run_writes (length f.blocks) w)
        (IsGrowingBy (S.image b) l n f (full (record_length f.slot) w - records_had f))
        → Changes S d y (growth_writes f r) Grows
    grow-moments h =
        let P : Image → Type 0 = λ i. Changes S b y (fill_writes f + run_writes (length f.blocks) w)
        (IsGrowingBy i l n f (full (record_length f.slot) w - records_had f)) in
        let Q : ℕ → Type 0 = λ k. Changes S b y (fill_writes f + run_writes (length f.blocks) w)
        (IsGrowingBy (S.image d) l n f k) in
        changes_then S d b y 0 _ (growth_writes f r) Grows (omega (arith, same-writes))
        (reads_change S d b 1 Grows reads (growing_same (S.image d) l n f v _ of))
        (subst Q same-sum (subst P reads.image h))

    pub grow-others : Changes S d y (growth_writes f r) Grows → KeepsRelFiles (S.image d) (S.image y) l n
    grow-others h = growing-others (S.image d) (S.image y) l n f _ (at_end S d y Grows h.held)

    pub grow-leaves : (z : RelFile) → HasRun (S.image b) (S.image y) l n f w z
        → LeavesRecords (S.image d) (S.image y) l n (grown_to (S.image d) f r) z
    grow-leaves z h =
        let P : Image → Type 0 = λ i. LeavesRecords i (S.image y) l n (grown_to i f r) z in
        subst P reads.image (leaves-run (S.image b) l n f v of-now r lt (S.image y) w z wanted h)
