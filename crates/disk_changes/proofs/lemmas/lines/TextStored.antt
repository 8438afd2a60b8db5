-- A text stored in the file that has grown to its lines: the file has their records; or why not.
use Rattle.std.proofs.Common.{◌≡◌, ◌≤◌, inl, inr, ℕ, ◌+◌, ◌*◌, List, [], Option, Result, Ok, Err, length}
use Rattle.std.proofs.Common.{refl, subst, sym, ap, ap₂, ◌∙◌, arith}
use Rattle.std.specs.Io.KnownBytes.{Appends, Keeps}
use Rattle.std.proofs.KnownBytes.{Appends-kept, Appends-nil}
use Rattle.d64_image.proofs.Moments.{at_end, changes_then, changes_weaker, failed_later, no_write_then, reads_no_write}
use Rattle.d64_image.proofs.Moments.{then}
use Rattle.d64_image.specs.History.{Failed, History, WritesNothing}
use Rattle.d64_image.specs.Images.{Image}
use Rattle.disk_layout.specs.Layout.{File, Layout, record_length}
use Rattle.disk_layout.specs.Records.{records}
use Rattle.disk_layout.specs.Rest.{IsFirst}
use Rattle.disk_layout.specs.Whole.{IsWhole}
use Rattle.rel_records.proofs.lemmas.Kept.{leaves_has, leaves_then}
use Rattle.rel_records.proofs.lemmas.Usable.{as-clean-then}
use Rattle.rel_records.specs.Calls.{FindsFile, Grows, GrowsFile}
use Rattle.rel_records.specs.File.{IsFileOf, entry_of, length_of, records_in}
use Rattle.rel_records.specs.Others.{HasRecords, LeavesRecords}
use Rattle.rel_records.specs.Usable.{IsAsClean}
use Rattle.rel_records.specs.Written.{grown_to}
use Rattle.rel_records.specs.declared.rel_file.RelFile.{RelFile}
use Rattle.rel_records.specs.growth.Growth.{IsFull, growth_writes, records_had}
use Rattle.rel_records.proofs.lemmas.growth.Grows.{had-of, count-is}
use Rattle.line_text.specs.scripts.Lines.{lines}
use Rattle.disk_changes.proofs.lemmas.lines.Composed.{stopped-behind}
use Rattle.disk_changes.proofs.lemmas.lines.LastOnes.{lines-numbers, ones-greatest, stored-ones}
use Rattle.disk_changes.proofs.lemmas.lines.OneStored.{grown-none}
use Rattle.disk_changes.proofs.lemmas.lines.Reached.{so-there}
use Rattle.disk_changes.proofs.lemmas.lines.TextGrown.{found-of, grown-are, growing-whole, run-over, same-length}
use Rattle.disk_changes.proofs.lemmas.mended.Mendings.{by-tell}
use Rattle.disk_changes.specs.Judged.{HasStraysAlone}
use Rattle.disk_changes.specs.lines.Stores.{AreLinesOf, AreSo, IsPartStored, NewRecord, TellsLast}
use Rattle.disk_changes.specs.lines.Stores.{changed_text, greatest, last_ones, stored}
use Rattle.disk_changes.specs.lines.Storing.{IsStoreDone, IsStoreFault, IsStoreRun, IsStoredDisk, IsStoring, IsStoringOver}
use Rattle.disk_changes.specs.lines.Storing.{IsStopped, IsStoppedRun, IsStorePart, StoresLines}
use Rattle.command_faults.specs.declared.faults.CommandFault.{CommandFault}
use Rattle.command_faults.specs.declared.faults.CommandFault.TheVariants as faults

module _ {D W : Type 0} (S : History D) (image name text : List ℕ) (a b : D) (size : length image ≡ 174848)
    (usable : HasStraysAlone (S.image a)) (o : W) (v : RelFile) (found : FindsFile S a b name (Ok v)) (xs : List NewRecord)
    (are : AreLinesOf (length_of v) (records_in v) (lines text) xs) (table : List ℕ) (tells : TellsLast table xs)
    (c : D) (w : RelFile) (grows : Grows S b c v w (greatest xs) (Ok tt)) where
  abbrev it : (f : File) × IsFirst usable.0 name (entry_of v) f × IsFileOf (S.image a) usable.0 (entry_of v) f v
  it = found.ok usable.0 usable.2.clean.layout

  abbrev has-grown : GrowsFile S b c usable.0 (entry_of v) it.0 w (greatest xs) (Ok tt)
  has-grown = grows.file usable.0 (entry_of v) it.0 (found-of S image name text a b size usable o v found)

  -- the file as it has grown
  abbrev grown : LeavesRecords (S.image b) (S.image c) usable.0 (entry_of v)
      (grown_to (S.image b) it.0 (greatest xs)) w
  grown = has-grown.ok

  abbrev lines-are : AreLinesOf (length_of w) (records_in v) (lines text) xs
  lines-are = grown-are S image name text a b size usable o v found xs are table tells c w grows

  abbrev long-as : record_length grown.file.slot ≡ record_length it.0.slot
  long-as = same-length S image name text a b size usable o v found xs are table tells c w grows

  module _ (contents : W → Option (List ℕ)) (d : D) (q : W) (u : RelFile) (r : Result (Unit {0}) CommandFault)
      (stores : (m : Layout) (j : ℕ) (e : File) → IsFileOf (S.image c) m j e w → (h : ℕ) (ys : List NewRecord)
      → AreLinesOf (length_of w) h (lines text) ys → greatest ys ≤ records_in w → TellsLast table ys
      → StoresLines S contents c d o q m j e w u (last_ones ys) r) where
    abbrev then-stored : StoresLines S contents c d o q grown.layout (entry_of v) grown.file w u (last_ones xs) r
    then-stored = stores grown.layout (entry_of v) grown.file grown.of (records_in v) xs lines-are grows.there
        tells

    over : (i : Image) → IsStoringOver (S.image c) grown.layout (entry_of v) (record_length grown.file.slot)
        (last_ones xs) (records (S.image c) grown.file) i
        → IsStoring (S.image b) usable.0 (entry_of v) it.0 xs i
    over i (ts, part, has) = inr (
      ts,
      subst (λ (rs : List (List ℕ)). IsPartStored (record_length it.0.slot) (last_ones xs) rs ts) grown.records
          (subst (λ (L : ℕ). IsPartStored L (last_ones xs) (records (S.image c) grown.file) ts) long-as part),
      leaves_then (S.image b) (S.image c) i usable.0 (entry_of v) _ ts w grown has,
    )

    abbrev run-all : IsStoreRun S image name text a d
    run-all = run-over S image name text a b size usable o v found xs are table tells c w d
        (changes_then S b c d (growth_writes it.0 (greatest xs)) (2 * length (last_ones xs))
        (growth_writes it.0 (greatest xs) + 2 * length (last_ones xs)) _ (omega arith)
        (changes_weaker S b c (growth_writes it.0 (greatest xs)) (growth_writes it.0 (greatest xs)) _ _
        (omega arith) (λ i g. inl g) has-grown.moments)
        (changes_weaker S c d (2 * length (last_ones xs)) (2 * length (last_ones xs)) _ _ (omega arith) over
        then-stored.moments))
        (λ few h. let grown-whole = growing-whole S image name text a b size usable o v found xs are table tells c w grows
        few h in
        then S b c d IsWhole grown-whole (then-stored.whole (at_end S b c IsWhole grown-whole)))

    -- where those that count were so already nothing was written
    none-written : AreSo (record_length it.0.slot) (records (S.image a) it.0) (last_ones xs) → WritesNothing S a d
    none-written so =
        let had = had-of (S.image a) usable.0 (entry_of v) it.0 v it.2 in
        let there = so-there (record_length it.0.slot) (records (S.image a) it.0) (last_ones xs) so in
        let few : greatest xs ≤ records_had it.0 =
        omega (arith, there, ones-greatest xs, count-is (S.image a) it.0) in
        let quiet = (grows.quiet (subst (λ (m : ℕ). greatest xs ≤ m) (sym had) few)).2 in
        let same : records (S.image c) grown.file ≡ records (S.image a) it.0
        = grown.records ∙ grown-none (S.image b) it.0 (greatest xs) few
        ∙ ap (λ (i : Image). records i it.0) found.reads.image in
        no_write_then S a b d (reads_no_write S a b 702 found.reads)
        (no_write_then S b c d (reads_no_write S b c 0 quiet)
        (then-stored.quiet
        (subst (λ (L : ℕ). AreSo L (records (S.image c) grown.file) (last_ones xs)) (sym long-as)
        (subst (λ (rs : List (List ℕ)). AreSo (record_length it.0.slot) rs (last_ones xs)) (sym same) so))))

    grown-is : records (S.image c) grown.file ≡ grown_to (S.image a) it.0 (greatest xs)
    grown-is = grown.records ∙ ap (λ (i : Image). grown_to i it.0 (greatest xs)) found.reads.image

    stored-is : stored (record_length grown.file.slot) (last_ones xs) (records (S.image c) grown.file)
        ≡ stored (record_length it.0.slot) xs (grown_to (S.image a) it.0 (greatest xs))
    stored-is =
        ap₂ (λ (L : ℕ) (rs : List (List ℕ)). stored L (last_ones xs) rs) long-as grown-is
        ∙ stored-ones (record_length it.0.slot) xs (grown_to (S.image a) it.0 (greatest xs))
        (lines-numbers (length_of v) (records_in v) (lines text) xs are)

    printed-is : changed_text (record_length grown.file.slot) (last_ones xs) (records (S.image c) grown.file)
        ≡ changed_text (record_length it.0.slot) (last_ones xs) (grown_to (S.image a) it.0 (greatest xs))
    printed-is = ap₂ (λ (L : ℕ) (rs : List (List ℕ)). changed_text L (last_ones xs) rs) long-as grown-is

    has-all : LeavesRecords (S.image c) (S.image d) grown.layout (entry_of v)
        (stored (record_length grown.file.slot) (last_ones xs) (records (S.image c) grown.file)) u
        → HasRecords (S.image a) (S.image d) usable.0 (entry_of v)
        (stored (record_length it.0.slot) xs (grown_to (S.image a) it.0 (greatest xs)))
    has-all leaves =
        subst (λ (i : Image). HasRecords i (S.image d) usable.0 (entry_of v)
        (stored (record_length it.0.slot) xs (grown_to (S.image a) it.0 (greatest xs)))) found.reads.image
        (subst (HasRecords (S.image b) (S.image d) usable.0 (entry_of v)) stored-is
        (leaves_then (S.image b) (S.image c) (S.image d) usable.0 (entry_of v) _ _ w grown
        (leaves_has (S.image c) (S.image d) grown.layout (entry_of v) _ u leaves)))

    -- as clean as the first
    as-clean : IsAsClean (S.image c) grown.layout (S.image d) → IsAsClean (S.image a) usable.0 (S.image d)
    as-clean after = subst (λ (i : Image). IsAsClean i usable.0 (S.image d)) found.reads.image
        (as-clean-then (S.image b) (S.image c) (S.image d) usable.0 grown.layout grown.clean after)

    abbrev stored-disk : LeavesRecords (S.image c) (S.image d) grown.layout (entry_of v)
        (stored (record_length grown.file.slot) (last_ones xs) (records (S.image c) grown.file)) u
        → IsStoredDisk S image name text a d
    stored-disk leaves = record {
      run = run-all;
      fits = λ full. has-grown.fits
          (subst (λ (i : Image). IsFull i it.0 (greatest xs)) (sym found.reads.image) full);
      clean = as-clean (leaves.layout, leaves.clean);
      has = has-all leaves;
      quiet = none-written;
    }

    -- where it stopped at one of them
    run-stopped : (fault : CommandFault) → IsStopped (S.image c) (S.image d) (contents o) (contents q) grown.layout
        (entry_of v) (record_length grown.file.slot) (last_ones xs) (records (S.image c) grown.file) fault
        → IsStoppedRun S contents image name text a d o q fault
    run-stopped fault s = (
      run-all,
      subst (λ (i : Image). IsStopped i (S.image d) (contents o) (contents q) usable.0 (entry_of v)
          (record_length it.0.slot) (last_ones xs) (grown_to i it.0 (greatest xs)) fault) found.reads.image
          (stopped-behind (S.image b) (S.image c) (S.image d) (contents o) (contents o) (contents q) usable.0 (entry_of v)
          (record_length it.0.slot) [] (last_ones xs) (grown_to (S.image b) it.0 (greatest xs)) w grown
          (Appends-nil (contents o)) fault
          (subst (λ (rs : List (List ℕ)). IsStopped (S.image c) (S.image d) (contents o) (contents q) grown.layout
          (entry_of v) (record_length it.0.slot) (last_ones xs) rs fault) grown.records
          (subst (λ (L : ℕ). IsStopped (S.image c) (S.image d) (contents o) (contents q) grown.layout
          (entry_of v) L (last_ones xs) (records (S.image c) grown.file) fault) long-as s))),
    )

    no-failure : S.failures c ≡ S.failures a
    no-failure = grows.failures ∙ found.failures

    device-run : Failed S c d → IsStoreFault S image name text a d o q faults.Device
    device-run failed = (failed_later S a c d no-failure failed, inr run-all)

  -- the device or the output failed while records were stored
  pub store-refused : (contents : W → Option (List ℕ)) (d : D)
      (q : W) (u : RelFile) (fault : CommandFault)
      → ((m : Layout) (j : ℕ) (e : File) → IsFileOf (S.image c) m j e w → (h : ℕ) (ys : List NewRecord)
      → AreLinesOf (length_of w) h (lines text) ys → greatest ys ≤ records_in w → TellsLast table ys
      → StoresLines S contents c d o q m j e w u (last_ones ys) (Err fault))
      → IsStoreFault S image name text a d o q fault
  store-refused contents d q u fault stores = by-tell S c d
      (λ f. ((m : Layout) (j : ℕ) (e : File) → IsFileOf (S.image c) m j e w → (h : ℕ) (ys : List NewRecord)
      → AreLinesOf (length_of w) h (lines text) ys → greatest ys ≤ records_in w → TellsLast table ys
      → StoresLines S contents c d o q m j e w u (last_ones ys) (Err f)) → IsStoreFault S image name text a d o q f)
      (λ told stores. (
        run-all contents d q u (Err faults.File) stores,
        as-clean contents d q u (Err faults.File) stores
            ((then-stored contents d q u (Err faults.File) stores).clean refl),
      ))
      (λ told stores. device-run contents d q u (Err faults.Device) stores told)
      fault (then-stored contents d q u (Err fault) stores).told stores

  -- and then it stopped at one of them
  pub stopped-part : (contents : W → Option (List ℕ)) (d : D) (q : W) (u : RelFile) (fault : CommandFault)
      → ((m : Layout) (j : ℕ) (e : File) → IsFileOf (S.image c) m j e w → (h : ℕ) (ys : List NewRecord)
      → AreLinesOf (length_of w) h (lines text) ys → greatest ys ≤ records_in w → TellsLast table ys
      → StoresLines S contents c d o q m j e w u (last_ones ys) (Err fault))
      → IsStorePart S contents image name text a d o q fault
  stopped-part contents d q u fault stores = inr (inr (run-stopped contents d q u (Err fault) stores fault
      (then-stored contents d q u (Err fault) stores).stopped))

  module _ (contents : W → Option (List ℕ)) (d : D) (p q : W)
      (u : RelFile)
      (stores : (m : Layout) (j : ℕ) (e : File) → IsFileOf (S.image c) m j e w → (h : ℕ) (ys : List NewRecord)
      → AreLinesOf (length_of w) h (lines text) ys → greatest ys ≤ records_in w → TellsLast table ys
      → StoresLines S contents c d o p m j e w u (last_ones ys) (Ok tt)) where
    abbrev whole : StoresLines S contents c d o p grown.layout (entry_of v) grown.file w u
        (last_ones xs) (Ok tt)
    whole = then-stored contents d p u (Ok tt) stores

    -- all is stored, and the output handed on, or not
    pub store-done : Keeps (contents p) (contents q) → IsStoreDone S contents image name text a d o q
    store-done kept = record {
      disk = stored-disk contents d p u (Ok tt) stores whole.ok.0;
      printed = Appends-kept _ _ _ _ (subst (Appends (contents o) (contents p))
          (printed-is contents d p u (Ok tt) stores) whole.ok.2) kept;
    }

    pub store-unprinted : IsStoreFault S image name text a d o q faults.File
    store-unprinted = (
      run-all contents d p u (Ok tt) stores,
      as-clean contents d p u (Ok tt) stores (whole.ok.0.layout, whole.ok.0.clean),
    )

    pub all-part : Keeps (contents p) (contents q) → IsStorePart S contents image name text a d o q faults.File
    all-part kept = inr (inl (refl, store-done kept))
