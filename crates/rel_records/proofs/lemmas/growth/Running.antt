-- Growth block by block: what its steps leave together.
use Rattle.std.proofs.Common.{◌≡◌, ◌≢◌, ℕ, ◌+◌, ◌-◌, ◌%◌, ◌<◌, ◌≤◌, Bool, true, false, List, length, refl, sym, ◌∙◌, ap}
use Rattle.std.proofs.Common.{arith, subst}
use Rattle.std.specs.Prelude.{Some, if◌then◌else◌, nat_eq, slice_get}
use Rattle.std.proofs.lemmas.Bool.{eqb-false, eqb-true}
use Rattle.d64_image.proofs.Moments.{changes_then, changes_weaker}
use Rattle.d64_image.specs.History.{Changes, History}
use Rattle.d64_image.specs.Images.{Image, IsImage}
use Rattle.disk_layout.specs.Layout.{File, IsLayout, Layout, record_length}
use Rattle.disk_layout.specs.Records.{records}
use Rattle.rel_records.proofs.lemmas.Kept.{has_then, keeps_then, places-then}
use Rattle.rel_records.proofs.lemmas.filling.BeforeLast.{filled-already}
use Rattle.rel_records.specs.Others.{HasRecords, KeepsPlaces}
use Rattle.rel_records.specs.Written.{IsGrowingBy, grown_by}
use Rattle.rel_records.specs.declared.growth.step_parts.Growing.{Growing}
use Rattle.rel_records.specs.growth.Growth.{full, needed, records_had, run_writes, side_writes}
use Rattle.rel_records.specs.growth.Steps.{IsAt, IsFilledUp, IsRunTo, step_writes, taken_next}
use Rattle.rel_records.proofs.lemmas.whole.Filled.{never-back, run-whole}
use Rattle.rel_records.proofs.lemmas.growth.RunCosts.{full-mono, grown-grown, run-step, side-mono}

-- nothing is done yet
pub run-here : (a : Image) (l : Layout) (n : ℕ) (f : File) (p : Growing) (k : ℕ) → IsImage a → IsAt a l n f p
    → IsFilledUp f → length f.blocks ≡ k → IsRunTo a a l n f k p
run-here a l n f p k w at up e = let P : ℕ → Type 0 = λ c. IsRunTo a a l n f c p in
    subst P e (filled-already a l n f p w at up).run

-- so many records fit into the blocks that the file has
pub low-full : (f : File) (k : ℕ) → 0 < record_length f.slot → IsFilledUp f → length f.blocks ≤ k
    → records_had f ≤ full (record_length f.slot) k
low-full f k pos up le = omega (arith, up, full-mono (record_length f.slot) (length f.blocks) k pos le)

module _ (a x : Image) (l : Layout) (n : ℕ) (f : File) (k w : ℕ) (p : Growing)
    (low : records_had f ≤ full (record_length f.slot) k) (more : k ≤ w) (pos : 0 < record_length f.slot)
    (there : slice_get l.files n ≡ Some f) (run : IsRunTo a x l n f k p) where
  abbrev L : ℕ
  L = record_length f.slot

  -- what the first run left
  had-now : records_had run.file ≡ full L k
  had-now = run.filled ∙ ap (λ s. full s (length run.file.blocks)) run.same_size ∙ ap (full L) run.count

  sums : full L k - records_had f + (full L w - full L k) ≡ full L w - records_had f
  sums = omega (arith, low, full-mono L k w pos more)

  same-sum : full (record_length run.file.slot) w - records_had run.file ≡ full L w - full L k
  same-sum = ap (λ s. full s w - records_had run.file) run.same_size ∙ ap (λ c. full L w - c) had-now

  -- so many records more, in the terms of the file at the start
  same-more : (j : ℕ) → grown_by (record_length run.file.slot) j (records x run.file) ≡ grown_by L
      (full L k - records_had f + j) (records a f)
  same-more j = ap (λ s. grown_by s j (records x run.file)) run.same_size ∙ ap (grown_by L j) run.records_are
      ∙ grown-grown L (full L k - records_had f) j (records a f)

  all-more : grown_by (record_length run.file.slot) (full (record_length run.file.slot) w - records_had run.file)
      (records x run.file) ≡ grown_by L (full L w - records_had f) (records a f)
  all-more = same-more _ ∙ ap (λ j. grown_by L (full L k - records_had f + j) (records a f)) same-sum
      ∙ ap (λ j. grown_by L j (records a f)) sums

  -- a run and then a run
  pub run-run : (y : Image) (q : Growing) → IsRunTo x y run.layout n run.file w q → IsRunTo a y l n f w q
  run-run y q h = record {
    layout = h.layout;
    file = h.file;
    at = h.at;
    stays = λ strays clean. h.stays strays (run.stays strays clean);
    others = keeps_then a x y l run.layout h.layout n run.others h.others;
    count = h.count;
    filled = h.filled;
    same_size = h.same_size ∙ run.same_size;
    records_are = h.records_are ∙ all-more;
    places =
        let P : List (List ℕ) → Type 0 = KeepsPlaces x run.file h.file in
        places-then a x f run.file h.file (grown_by L (full L k - records_had f) (records a f))
        (grown_by L (full L w - records_had f) (records a f)) run.records_are run.places
        (subst P all-more h.places);
  }

  -- an image held during the second
  pub run-held : IsLayout a l → (y : Image)
      → IsGrowingBy x run.layout n run.file (full (record_length run.file.slot) w - records_had run.file) y
      → IsGrowingBy a l n f (full L w - records_had f) y
  run-held is y (j, few, h, kept) =
      let first : HasRecords a x l n (grown_by L (full L k - records_had f) (records a f)) = record {
        layout = run.layout;
        is_layout = run.at.clean.layout;
        others = run.others;
        file = run.file;
        there = run.at.there;
        records = run.records_are;
        places = at-place;
      } in
      let P : List (List ℕ) → Type 0 = HasRecords x y run.layout n in (
        full L k - records_had f + j,
        omega (arith, few, same-sum, sums),
        has_then a x y l n _ _ first (subst P (same-more j) h),
        λ never wa. kept (λ h'. omega (
          arith,
          never (never-back a x l run.layout n run.others f run.file there run.at.there
              h'),
          same-sum,
          low,
          full-mono L k w pos more,
        )) (run-whole a x l n f k p is run wa),
      )
    where
      at-place : (g : File) → slice_get l.files n ≡ Some g
          → KeepsPlaces a g run.file (grown_by L (full L k - records_had f) (records a f))
      at-place g e =
          let same : f ≡ g = cc in
          let P : File → Type 0 = λ z. KeepsPlaces a z run.file (grown_by L (full L k - records_had f) (records a f)) in
          subst P same run.places

-- fewer records are grown on the way to more
pub growing-more : (a c : Image) (l : Layout) (n : ℕ) (f : File) (i j : ℕ) → i ≤ j → IsGrowingBy a l n f i c
    → IsGrowingBy a l n f j c
growing-more a c l n f i j le (k, few, h, kept) =
    (k, omega (arith, few, le), h, λ never. kept (λ h'. omega (arith, never h', le)))

-- a longer run costs no less
pub run-mono : (n k w : ℕ) → n ≤ k → k ≤ w → run_writes n k ≤ run_writes n w
run-mono n k w le more =
    let e : k + (w - k) ≡ w = omega arith in
    omega (arith, side-mono k (w - k), ap side_writes e)

-- room for the blocks that are left
pub room-step : (c w free had : ℕ) → c < w → needed c w ≤ had → free + taken_next c ≡ had → needed (c + 1) w ≤ free
room-step c w free had lt le e = by (nat_eq (c % 120) 0) refl
  where
    by : (b : Bool) → nat_eq (c % 120) 0 ≡ b → needed (c + 1) w ≤ free
    by true t =
        let two : taken_next c ≡ 2 = ap (λ b. if b then 2 else 1) t in
        let z : c % 120 ≡ 0 = eqb-true (c % 120) 0 t in
        omega (arith, two, le, e, z, lt)
    by false t =
        let one : taken_next c ≡ 1 = ap (λ b. if b then 2 else 1) t in
        let ne : c % 120 ≢ 0 = eqb-false (c % 120) 0 t in
        omega (arith, one, le, e, ne, lt)

pub room-next : (c w had : ℕ) → c < w → needed c w ≤ had → taken_next c ≤ had
room-next c w had lt le = by (nat_eq (c % 120) 0) refl
  where
    by : (b : Bool) → nat_eq (c % 120) 0 ≡ b → taken_next c ≤ had
    by true t =
        let two : taken_next c ≡ 2 = ap (λ b. if b then 2 else 1) t in
        let z : c % 120 ≡ 0 = eqb-true (c % 120) 0 t in
        omega (arith, two, le, z, lt)
    by false t =
        let one : taken_next c ≡ 1 = ap (λ b. if b then 2 else 1) t in
        omega (arith, one, le, lt)

-- the moments of a run and one more block
module _ {D : Type 0} (S : History D) (d x y : D) (l : Layout) (n : ℕ) (f : File) (k w : ℕ) (p : Growing)
    (low : records_had f ≤ full (record_length f.slot) k) (first : length f.blocks ≤ k) (more : k + 1 ≤ w)
    (pos : 0 < record_length f.slot) (there : slice_get l.files n ≡ Some f) (is : IsLayout (S.image d) l)
    (run : IsRunTo (S.image d) (S.image x) l n f k p) where
  pub block-then : Changes S d x (run_writes (length f.blocks) k)
      (IsGrowingBy (S.image d) l n f (full (record_length f.slot) w - records_had f))
      → Changes S x y (step_writes (length run.file.blocks)) (IsGrowingBy (S.image x) run.layout n run.file
      (full (record_length run.file.slot) (length run.file.blocks + 1) - full (record_length run.file.slot)
      (length run.file.blocks)))
      → Changes S d y (run_writes (length f.blocks) (k + 1))
      (IsGrowingBy (S.image d) l n f (full (record_length f.slot) w - records_had f))
  block-then so_far next =
      let writes : run_writes (length f.blocks) k + step_writes k ≡ run_writes (length f.blocks) (k + 1) =
      run-step (length f.blocks) k first in
      let steps : step_writes (length run.file.blocks) ≡ step_writes k = ap step_writes run.count in
      let size = run.same_size in
      let fewer : full (record_length run.file.slot) (length run.file.blocks + 1) - full (record_length run.file.slot)
      (length run.file.blocks) ≤ full (record_length run.file.slot) w - records_had run.file =
      omega (
        arith,
        run.filled,
        full-mono (record_length run.file.slot) (length run.file.blocks + 1) w (let P : ℕ
            → Type 0 = λ s. 0 < s in subst P (sym size) pos) (omega (arith, run.count, more)),
      ) in
      changes_then S d x y (run_writes (length f.blocks) k) (step_writes (length run.file.blocks))
      (run_writes (length f.blocks) (k + 1)) _ (omega (arith, writes, steps)) so_far
      (changes_weaker S x y _ _ _ _ (omega arith) (λ c h. run-held (S.image d) (S.image x) l n f k w p low
      (omega (arith, more)) pos there run is c (growing-more (S.image x) c run.layout n run.file _ _ fewer h)) next)
