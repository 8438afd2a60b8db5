-- The file that a text is stored in: it is found, its lines are judged, and it grows; or why not.
use Rattle.std.proofs.Common.{◌≡◌, ◌≢◌, ◌≤◌, ◌⊎◌, ⊎_elim, inl, inr, ℕ, ◌+◌, ◌*◌, List, Result, Ok, Err, length}
use Rattle.std.proofs.Common.{refl, subst, sym, ap, arith}
use Rattle.d64_image.proofs.Moments.{changes_weaker, failed_later, no_write_then, reads_change, reads_no_write, then, weaker}
use Rattle.d64_image.specs.History.{Changes, History, WritesNothing}
use Rattle.d64_image.specs.Images.{Image}
use Rattle.disk_layout.specs.Layout.{File, Layout, record_length}
use Rattle.disk_layout.specs.Listed.{HasStock, NeverGrows}
use Rattle.disk_layout.specs.Rest.{IsFirst}
use Rattle.disk_layout.specs.Whole.{HoldsWhole, IsWhole}
use Rattle.rel_records.proofs.lemmas.Usable.{still-usable}
use Rattle.rel_records.proofs.lemmas.Kept.{growing_same}
use Rattle.rel_records.proofs.lemmas.growth.Grows.{had-of}
use Rattle.rel_records.proofs.lemmas.growth.RunCosts.{added-none}
use Rattle.rel_records.proofs.lemmas.writing.Composed.{reads_first}
use Rattle.rel_records.proofs.lemmas.writing.Grown.{size-kept}
use Rattle.rel_records.specs.Calls.{FindsFile, Grows}
use Rattle.rel_records.specs.File.{IsFileOf, entry_of, length_of, records_in}
use Rattle.rel_records.specs.Others.{LeavesRecords}
use Rattle.rel_records.specs.Usable.{IsUsable}
use Rattle.rel_records.specs.Written.{IsGrowingTo, grown_to}
use Rattle.rel_records.specs.declared.faults.RelFault.{RelFault}
use Rattle.rel_records.specs.declared.faults.RelFault.TheVariants as rel
use Rattle.rel_records.specs.declared.rel_file.RelFile.{RelFile}
use Rattle.rel_records.specs.growth.Growth.{IsFull, growth_writes, records_had}
use Rattle.line_text.specs.scripts.Lines.{lines}
use Rattle.disk_changes.proofs.lemmas.lines.Reached.{not-too-large}
use Rattle.command_faults.specs.Faults.{record_fault}
use Rattle.disk_changes.specs.lines.Refusals.{IsLeft}
use Rattle.disk_changes.specs.Judged.{HasStraysAlone}
use Rattle.disk_changes.specs.lines.Stores.{AreLinesOf, IsFirstBad, NewRecord, TellsLast}
use Rattle.disk_changes.specs.lines.Stores.{greatest, last_ones}
use Rattle.disk_changes.specs.lines.Storing.{IsStoreFault, IsStoreRun, IsStoring}
use Rattle.command_faults.specs.declared.faults.CommandFault.TheVariants as faults

-- a call on a relative file never fails as an output does
pub no-output : (fault : RelFault) → record_fault fault ≢ faults.File
no-output rel.NotFound = λ e. cc
no-output rel.Device = λ e. cc
no-output rel.Exists = λ e. cc
no-output rel.Full = λ e. cc
no-output rel.NotPresent = λ e. cc
no-output rel.Overflow = λ e. cc
no-output rel.TooLarge = λ e. cc

module _ {D W : Type 0} (S : History D) (image name text : List ℕ) (a b : D) (size : length image ≡ 174848)
    (usable : HasStraysAlone (S.image a)) (o : W) where
  left : {Why : Layout → Type 0} (c : D) → Why usable.0 → WritesNothing S a c → IsLeft S image a c o o Why
  left c why quiet = record {
    size = size;
    layout = usable.0;
    strays = usable.1;
    usable = usable.2;
    why = why;
    quiet = quiet;
    unprinted = refl;
  }

  -- the file isn't there, or the device failed while it was looked for
  not-found : FindsFile S a b name (Err rel.NotFound) → IsStoreFault S image name text a b o o faults.NoFile
  not-found found = left b (found.not_found usable.0 usable.2.clean.layout refl) (reads_no_write S a b 702 found.reads)

  no-other : (e : RelFault) → e ≢ rel.NotFound → e ≢ rel.Device → (e ≡ rel.NotFound) ⊎ (e ≡ rel.Device) → ⊥
  no-other e x y told = ⊎_elim x y told

  pub find-refused : (fault : RelFault) → FindsFile S a b name (Err fault)
      → IsStoreFault S image name text a b o o (record_fault fault)
  find-refused rel.NotFound found = not-found found
  find-refused rel.Device found = (found.failures, inl (left b tt (reads_no_write S a b 702 found.reads)))
  find-refused rel.Exists found = absurd (no-other rel.Exists (λ e. cc) (λ e. cc) found.told)
  find-refused rel.Full found = absurd (no-other rel.Full (λ e. cc) (λ e. cc) found.told)
  find-refused rel.NotPresent found = absurd (no-other rel.NotPresent (λ e. cc) (λ e. cc) found.told)
  find-refused rel.Overflow found = absurd (no-other rel.Overflow (λ e. cc) (λ e. cc) found.told)
  find-refused rel.TooLarge found = absurd (no-other rel.TooLarge (λ e. cc) (λ e. cc) found.told)

  module _ (v : RelFile) (found : FindsFile S a b name (Ok v)) where
    abbrev it : (f : File) × IsFirst usable.0 name (entry_of v) f × IsFileOf (S.image a) usable.0 (entry_of v) f v
    it = found.ok usable.0 usable.2.clean.layout

    pub found-of : IsFileOf (S.image b) usable.0 (entry_of v) it.0 v
    found-of = subst (λ (i : Image). IsFileOf i usable.0 (entry_of v) it.0 v) (sym found.reads.image) it.2

    pub found-file : (m : Layout) × (j : ℕ) × (e : File) × IsFileOf (S.image b) m j e v
    found-file = (usable.0, entry_of v, it.0, found-of)

    pub file-lines : (ls : List (List ℕ)) (xs : List NewRecord) → AreLinesOf (length_of v) (records_in v) ls xs
        → AreLinesOf (record_length it.0.slot) (records_had it.0) ls xs
    file-lines ls xs are =
        subst (λ (L : ℕ). AreLinesOf L (records_had it.0) ls xs) it.2.shows.size
        (subst (λ (had : ℕ). AreLinesOf (length_of v) had ls xs) (had-of (S.image a) usable.0 (entry_of v) it.0 v it.2)
        are)

    -- a line is bad
    pub bad-line : (k : ℕ) → IsFirstBad (length_of v) (records_in v) (lines text) k
        → IsStoreFault S image name text a b o o (faults.RecordsLine k)
    bad-line k bad = left b (
      entry_of v,
      it.0,
      it.1,
      subst (λ (L : ℕ). IsFirstBad L (records_had it.0) (lines text) k) it.2.shows.size
          (subst (λ (had : ℕ). IsFirstBad (length_of v) had (lines text) k)
          (had-of (S.image a) usable.0 (entry_of v) it.0 v it.2) bad),
    )
        (reads_no_write S a b 702 found.reads)

    module _ (xs : List NewRecord) (are : AreLinesOf (length_of v) (records_in v) (lines text) xs) (table : List ℕ)
        (tells : TellsLast table xs) (c : D) (w : RelFile) where
      -- there is no room
      no-room : Grows S b c v w (greatest xs) (Err rel.Full) → IsStoreFault S image name text a c o o faults.DiskFull
      no-room grows = left c (
        entry_of v,
        it.0,
        xs,
        it.1,
        file-lines (lines text) xs are,
        subst (λ (i : Image). IsFull i it.0 (greatest xs)) found.reads.image
            ((grows.file usable.0 (entry_of v) it.0 found-of).full refl),
      )
          (no_write_then S a b c (reads_no_write S a b 702 found.reads)
          (reads_no_write S b c 1 (grows.refused (λ e. cc)).1))

      abbrev pub run-over : (d : D) → Changes S b d (growth_writes it.0 (greatest xs) + 2 * length (last_ones xs))
          (IsStoring (S.image b) usable.0 (entry_of v) it.0 xs)
          → ((NeverGrows (HasStock usable.0) it.0.slot → greatest xs ≤ records_had it.0) → HoldsWhole S b d)
          → IsStoreRun S image name text a d
      run-over d changes whole = record {
        size = size;
        layout = usable.0;
        strays = usable.1;
        usable = usable.2;
        number = entry_of v;
        file = it.0;
        first = it.1;
        all = xs;
        are_lines = file-lines (lines text) xs are;
        moments = reads_first S a b d 702 (growth_writes it.0 (greatest xs) + 2 * length (last_ones xs))
            (growth_writes it.0 (greatest xs) + 2 * length (last_ones xs))
            (λ (i : Image). IsStoring i usable.0 (entry_of v) it.0 xs) (omega arith) found.reads
            (inl (growing_same (S.image a) usable.0 (entry_of v) it.0 v _ it.2)) changes;
        whole = λ few h. then S a b d IsWhole (reads_change S a b 702 IsWhole found.reads h).held
            (whole few (subst IsWhole (sym found.reads.image) h));
      }

      growing : {r : Result (Unit {0}) RelFault} → Grows S b c v w (greatest xs) r
          → Changes S b c (growth_writes it.0 (greatest xs) + 2 * length (last_ones xs))
          (IsStoring (S.image b) usable.0 (entry_of v) it.0 xs)
      growing grows = changes_weaker S b c (growth_writes it.0 (greatest xs))
          (growth_writes it.0 (greatest xs) + 2 * length (last_ones xs)) _ _ (omega arith)
          (λ i g. inl g) (grows.file usable.0 (entry_of v) it.0 found-of).moments

      -- where REQUESTS of a shop doesn't grow
      pub growing-whole : {r : Result (Unit {0}) RelFault} → Grows S b c v w (greatest xs) r
          → (NeverGrows (HasStock usable.0) it.0.slot → greatest xs ≤ records_had it.0) → HoldsWhole S b c
      growing-whole grows few h = weaker S b c (IsGrowingTo (S.image b) usable.0 (entry_of v) it.0 (greatest xs)) IsWhole
          (λ i g. g.3 (λ never. added-none (record_length it.0.slot) (records_had it.0) (greatest xs) (few never)) h)
          (grows.file usable.0 (entry_of v) it.0 found-of).moments.held

      no-such : (e : RelFault) → e ≢ rel.Full → e ≢ rel.Device → Grows S b c v w (greatest xs) (Err e) → ⊥
      no-such e x y grows = ⊎_elim
          (λ t. not-too-large it.0 (lines text) xs (file-lines (lines text) xs are)
          ((grows.file usable.0 (entry_of v) it.0 found-of).too_large.0 (ap Err t)))
          (⊎_elim x y) grows.told

      -- the device failed while the file grew, or there is no room
      pub grow-refused : (e : RelFault) → Grows S b c v w (greatest xs) (Err e)
          → IsStoreFault S image name text a c o o (record_fault e)
      grow-refused rel.Full grows = no-room grows
      grow-refused rel.Device grows =
          (failed_later S a b c found.failures grows.failures, inr (run-over c (growing grows) (growing-whole grows)))
      grow-refused rel.TooLarge grows = absurd (no-such rel.TooLarge (λ e. cc) (λ e. cc) grows)
      grow-refused rel.Overflow grows = absurd (no-such rel.Overflow (λ e. cc) (λ e. cc) grows)
      grow-refused rel.NotFound grows = absurd (no-such rel.NotFound (λ e. cc) (λ e. cc) grows)
      grow-refused rel.NotPresent grows = absurd (no-such rel.NotPresent (λ e. cc) (λ e. cc) grows)
      grow-refused rel.Exists grows = absurd (no-such rel.Exists (λ e. cc) (λ e. cc) grows)

      module _ (grows : Grows S b c v w (greatest xs) (Ok tt)) where
        -- the file as it has grown
        abbrev grown : LeavesRecords (S.image b) (S.image c) usable.0 (entry_of v)
            (grown_to (S.image b) it.0 (greatest xs)) w
        grown = (grows.file usable.0 (entry_of v) it.0 found-of).ok

        pub grown-usable : IsUsable (S.image c)
        grown-usable = still-usable (S.image b) (S.image c) usable.0 grown.layout found-of.layout
            (subst IsUsable (sym found.reads.image) (usable.0, (usable.1, usable.2.clean))) grown.clean

        pub grown-file : (m : Layout) × (j : ℕ) × (e : File) × IsFileOf (S.image c) m j e w
        grown-file = (grown.layout, entry_of v, grown.file, grown.of)

        pub grown-are : AreLinesOf (length_of w) (records_in v) (lines text) xs
        grown-are = subst (λ (L : ℕ). AreLinesOf L (records_in v) (lines text) xs) (sym grows.same) are

        pub grown-lines : (h : ℕ) × (ys : List NewRecord) × AreLinesOf (length_of w) h (lines text) ys
            × (greatest ys ≤ records_in w)
            × TellsLast table ys
        grown-lines = (records_in v, xs, grown-are, grows.there, tells)

        pub same-length : record_length grown.file.slot ≡ record_length it.0.slot
        same-length = size-kept (S.image b) (S.image c) usable.0 grown.layout (entry_of v) (entry_of v) it.0 grown.file v
            w found-of grown.of grows.same
