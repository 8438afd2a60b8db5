-- Records of one image's file, stored into another's and printed again; and a text that is stored once more.
use Rattle.std.proofs.Common.{◌≡◌, ◌≤◌, ◌<◌, ◌⊎◌, ⊎_elim, ℕ, ◌+◌, ◌-◌, ◌*◌, List, [], ◌++◌, Some, length, replicate}
use Rattle.std.proofs.Common.{length-append, refl, subst, sym, ap, ◌∙◌, arith}
use Rattle.std.proofs.lemmas.Bool.{cases_lt, lt-leb}
use Rattle.std.proofs.lemmas.List.{append-nil, drop_all, length-replicate}
use Rattle.std.proofs.lemmas.Nat.{le-div}
use Rattle.d64_image.specs.History.{History, WritesNothing}
use Rattle.d64_image.specs.Images.{Image}
use Rattle.disk_layout.proofs.lemmas.counts.Counts.{uncounted-face}
use Rattle.disk_layout.proofs.lemmas.kept.Kept.{entry-alike, first-kept}
use Rattle.disk_layout.proofs.lemmas.layouts.Layouts.{IsLayout-one}
use Rattle.disk_layout.proofs.lemmas.layouts.Uniques.{IsFirst-one}
use Rattle.disk_layout.specs.Layout.{File, IsLayout, Layout, record_length}
use Rattle.disk_layout.specs.Records.{empty_record, records}
use Rattle.disk_layout.specs.Rest.{IsFirst}
use Rattle.rel_records.proofs.lemmas.growth.RunCosts.{added-none}
use Rattle.rel_records.specs.Others.{HasRecords}
use Rattle.rel_records.specs.Written.{grown_to}
use Rattle.rel_records.specs.growth.Growth.{added, blocks_for, full, records_had}
use Rattle.rel_records.proofs.lemmas.growth.Grows.{count-is}
use Rattle.line_text.specs.scripts.Lines.{lines}
use Rattle.disk_changes.proofs.lemmas.lines.Again.{so-again, so-unprinted}
use Rattle.disk_changes.proofs.lemmas.lines.LastOnes.{ones-greatest}
use Rattle.disk_changes.proofs.lemmas.lines.Numbered.{lines-one, lines-only, numbered-greatest, stored-first}
use Rattle.disk_changes.proofs.lemmas.lines.OneStored.{grown-none}
use Rattle.disk_changes.proofs.lemmas.lines.Reached.{so-there}
use Rattle.file_rescues.specs.Records.{records_text}
use Rattle.disk_changes.specs.lines.Stores.{AreRecords, AreSo, NewRecord, changed_text, greatest, last_ones, numbered}
use Rattle.disk_changes.specs.lines.Stores.{stored}
use Rattle.disk_changes.specs.lines.Storing.{IsStoredDisk, put_over}

-- how many records a file has when it has grown
grown-count : (img : Image) (f : File) (r : ℕ)
    → length (grown_to img f r) ≡ records_had f + added (record_length f.slot) (records_had f) r
grown-count img f r =
    let L = record_length f.slot in
    let empty : length (replicate (added L (records_had f) r) (empty_record L)) ≡ added L (records_had f) r =
    length-replicate {A = List ℕ} (added L (records_had f) r) (empty_record L) in
    omega (
      arith,
      length-append (records img f) (replicate (added L (records_had f) r) (empty_record L)),
      empty,
      count-is img f,
    )

added-some : (L had r : ℕ) → had < r → added L had r ≡ full L (blocks_for L r) - had
added-some L had r lt = rw (lt-leb r had lt) refl

full-enough : (L r : ℕ) → 1 ≤ L → r ≤ full L (blocks_for L r)
full-enough L r low = le-div r (254 * blocks_for L r) L low (omega arith)

pub grown-long : (img : Image) (f : File) (r : ℕ) → 1 ≤ record_length f.slot → r ≤ length (grown_to img f r)
grown-long img f r low = ⊎_elim
    (λ (lt : records_had f < r). omega (
      arith,
      grown-count img f r,
      added-some (record_length f.slot) (records_had f) r lt,
      full-enough (record_length f.slot) r low,
    ))
    (λ (le : r ≤ records_had f). omega (arith, grown-count img f r, le))
    (cases_lt (records_had f) r)

-- where the file has as many, or fewer and these fill their blocks, nothing is behind them
pub none-behind : (img : Image) (f : File) (rs : List (List ℕ)) → records_had f ≤ length rs
    → (records_had f ≡ length rs)
    ⊎ (length rs ≡ full (record_length f.slot) (blocks_for (record_length f.slot) (length rs)))
    → put_over rs img f ≡ rs
none-behind img f rs few either =
    let L = record_length f.slot in
    let long : length (grown_to img f (length rs)) ≤ length rs = ⊎_elim
    (λ (lt : records_had f < length rs). ⊎_elim
    (λ (same : records_had f ≡ length rs). absurd (omega (arith, lt, same)))
    (λ (fills : length rs ≡ full L (blocks_for L (length rs))). omega (
      arith,
      grown-count img f (length rs),
      added-some L (records_had f) (length rs) lt,
      fills,
      lt,
    ))
    either)
    (λ (le : length rs ≤ records_had f).
    omega (arith, grown-count img f (length rs), added-none L (records_had f) (length rs) le, few))
    (cases_lt (records_had f) (length rs)) in
    ap (λ (ts : List (List ℕ)). rs ++ ts) (drop_all (length rs) (grown_to img f (length rs)) long) ∙ append-nil rs

-- the first file of the name, found again in what a call leaves of the file
module _ (old new : Image) (l : Layout) (n : ℕ) (f : File) (name : List ℕ) (rs : List (List ℕ))
    (has : HasRecords old new l n rs) (first : IsFirst l name n f) (m : Layout) (k : ℕ) (g : File)
    (layout : IsLayout new m) (again : IsFirst m name k g) where
  same-file : has.file ≡ g
  same-file =
      let one : m ≡ has.layout = IsLayout-one new m has.layout layout has.is_layout in
      let there = first-kept l has.layout name n f has.file has.others.entries has.there first in
      (IsFirst-one has.layout name n k has.file g there (subst (λ (x : Layout). IsFirst x name k g) one again)).1

  pub again-records : records new g ≡ rs
  again-records = ap (records new) (sym same-file) ∙ has.records

  pub again-length : record_length g.slot ≡ record_length f.slot
  again-length =
      let (own, at, e) = entry-alike l.files has.layout.files n has.file has.others.entries has.there in
      let was : f ≡ own = (let both : Some f ≡ Some own = sym first.file ∙ at in cc) in
      sym (ap (λ (x : File). record_length x.slot) was
      ∙ (uncounted-face own.slot has.file.slot e).length
      ∙ ap (λ (x : File). record_length x.slot) same-file)

module _ {D : Type 0} (S : History D) (image name : List ℕ) (a b : D) (rs : List (List ℕ)) (L : ℕ) (low : 1 ≤ L)
    (are : AreRecords L rs) (few : length rs ≤ 182880) (done : IsStoredDisk S image name (records_text rs) a b)
    (same : record_length done.run.file.slot ≡ L) where
  all-is : done.run.all ≡ numbered 1 rs
  all-is = lines-only (record_length done.run.file.slot) (records_had done.run.file) rs done.run.all few
      done.run.are_lines

  stored-is : stored (record_length done.run.file.slot) done.run.all
      (grown_to (S.image a) done.run.file (greatest done.run.all))
      ≡ put_over rs (S.image a) done.run.file
  stored-is =
      let f = done.run.file in
      let grown = grown_to (S.image a) f (length rs) in
      ap (λ (ys : List NewRecord). stored (record_length f.slot) ys (grown_to (S.image a) f (greatest ys))) all-is
      ∙ ap (λ (m : ℕ). stored (record_length f.slot) (numbered 1 rs) (grown_to (S.image a) f m)) (numbered-greatest rs)
      ∙ ap (λ (K : ℕ). stored K (numbered 1 rs) grown) same
      ∙ stored-first L rs grown are
      (grown-long (S.image a) f (length rs) (subst (λ (K : ℕ). 1 ≤ K) (sym same) low))

  -- the file has the records first, and then those behind them
  pub put-back : HasRecords (S.image a) (S.image b) done.run.layout done.run.number
      (put_over rs (S.image a) done.run.file)
  put-back = subst (HasRecords (S.image a) (S.image b) done.run.layout done.run.number) stored-is done.has

  -- and so they are found
  pub found-back : (m : Layout) (k : ℕ) (g : File) → IsLayout (S.image b) m → IsFirst m name k g
      → records (S.image b) g ≡ put_over rs (S.image a) done.run.file
  found-back m k g layout first = again-records (S.image a) (S.image b) done.run.layout done.run.number done.run.file
      name
      (put_over rs (S.image a) done.run.file) put-back done.run.first m k g layout first

-- a text that was stored, stored once more
module _ {D : Type 0} (S : History D) (image again name text : List ℕ) (a b c d : D) (held : S.image c ≡ S.image b)
    (one : IsStoredDisk S image name text a b) (two : IsStoredDisk S again name text c d)
    (low : 1 ≤ record_length one.run.file.slot) where
  abbrev left : List (List ℕ)
  left = stored (record_length one.run.file.slot) one.run.all (grown_to (S.image a) one.run.file (greatest one.run.all))

  layout-b : IsLayout (S.image b) two.run.layout
  layout-b = subst (λ (i : Image). IsLayout i two.run.layout) held two.run.usable.clean.layout

  records-are : records (S.image c) two.run.file ≡ left
  records-are =
      ap (λ (i : Image). records i two.run.file) held
      ∙ again-records (S.image a) (S.image b) one.run.layout one.run.number one.run.file name left one.has one.run.first
      two.run.layout two.run.number two.run.file layout-b two.run.first

  length-is : record_length two.run.file.slot ≡ record_length one.run.file.slot
  length-is = again-length (S.image a) (S.image b) one.run.layout one.run.number one.run.file name left one.has
      one.run.first two.run.layout two.run.number two.run.file layout-b two.run.first

  all-same : two.run.all ≡ one.run.all
  all-same = lines-one (record_length two.run.file.slot) (records_had two.run.file)
      (record_length one.run.file.slot) (records_had one.run.file) (lines text) two.run.all one.run.all
      two.run.are_lines one.run.are_lines

  pub are-so : AreSo (record_length two.run.file.slot) (records (S.image c) two.run.file) (last_ones two.run.all)
  are-so =
      let L = record_length one.run.file.slot in
      let so : AreSo L left (last_ones one.run.all) =
      so-again L (records_had one.run.file) (lines text) one.run.all
      (grown_to (S.image a) one.run.file (greatest one.run.all)) one.run.are_lines
      (grown-long (S.image a) one.run.file (greatest one.run.all) low) in
      subst (λ (K : ℕ). AreSo K (records (S.image c) two.run.file) (last_ones two.run.all)) (sym length-is)
      (subst (λ (rs : List (List ℕ)). AreSo L rs (last_ones two.run.all)) (sym records-are)
      (subst (λ (xs : List NewRecord). AreSo L left (last_ones xs)) (sym all-same) so))

  pub writes-none : WritesNothing S c d
  writes-none = two.quiet are-so

  pub prints-none : changed_text (record_length two.run.file.slot) (last_ones two.run.all)
      (grown_to (S.image c) two.run.file (greatest two.run.all)) ≡ []
  prints-none =
      let L = record_length two.run.file.slot in
      let there = so-there L (records (S.image c) two.run.file) (last_ones two.run.all) are-so in
      let few : greatest two.run.all ≤ records_had two.run.file =
      omega (arith, there, ones-greatest two.run.all, count-is (S.image c) two.run.file) in
      ap (changed_text L (last_ones two.run.all)) (grown-none (S.image c) two.run.file (greatest two.run.all) few)
      ∙ so-unprinted L (last_ones two.run.all) (records (S.image c) two.run.file) are-so
