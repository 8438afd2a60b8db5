-- What comes of the repair of a disk, from what the repair tells and what is read afterwards.
use Rattle.std.proofs.Common.{◌≡◌, ◌≢◌, ◌≤◌, ◌+◌, ℕ, Bool, true, false, List, [], Option, Result, Ok, Err, inr, arith, length, refl, subst, sym}
use Rattle.std.specs.Prelude.{IfErr}
use Rattle.std.proofs.lemmas.Bool.{false≢true}
use Rattle.d64_image.proofs.Moments.{at_end, failed_later, reads_no_write, then, weaker}
use Rattle.d64_image.specs.History.{Changes, HeldOnly, History, OnlyReads, WritesNothing}
use Rattle.d64_image.specs.Images.{Image, Sector, sector}
use Rattle.d64_image.specs.declared.place.Place.{Place}
use Rattle.disk_layout.proofs.lemmas.layouts.Twice.{told-sound}
use Rattle.disk_layout.specs.Directory.{map_place}
use Rattle.disk_layout.specs.Fault.{Holds, TellsFault, nowhere}
use Rattle.disk_layout.specs.InOrder.{GoesOver, IsUnderWay}
use Rattle.disk_layout.specs.Layout.{IsLayout, IsSound, Layout}
use Rattle.disk_layout.specs.Whole.{IsWhole}
use Rattle.disk_layout.specs.declared.faults.Fault.{Fault}
use Rattle.disk_layout.specs.declared.faults.Fault.TheVariants as faults
use Rattle.layout_check.specs.Mended.{IsMended}
use Rattle.layout_check.specs.Keeping.{FreesNothing, RepairsKeeping}
use Rattle.layout_check.specs.RepairOrder.{ClearsSpare, IsRightBut, repair_order}
use Rattle.layout_check.specs.Repaired.{Repairs}
use Rattle.layout_check.specs.declared.survey_outcome.Survey.{Survey}
use Rattle.command_faults.specs.Faults.{IsLoadFault}
use Rattle.disk_changes.specs.mended.Kinds.{IsKindFault, IsPlainDisk}
use Rattle.disk_changes.specs.mended.Repairs.{GoesInOrder, IsMendedAs, IsMendedDisk, IsRepairFault, IsRepairPart, IsRepairRun, MendsAs, TellsKeep}
use Rattle.disk_changes.specs.mended.Repairs.{mended_text, repair_fault}
use Rattle.command_faults.specs.Outputs.{HandsPart}
use Rattle.command_faults.specs.declared.faults.CommandFault.{CommandFault}
use Rattle.command_faults.specs.declared.faults.CommandFault.TheVariants as commands
use Rattle.command_faults.proofs.Loads.{by-load}
use Rattle.disk_changes.proofs.lemmas.mended.OtherKinds.{by-kind}
use Rattle.disk_changes.proofs.lemmas.mended.Mendings.{by-tell}

module _ {D : Type 0} (S : History D) where
  -- images held, and then nothing written
  held-quiet : (a b c : D) (P : Image → Type 0) → HeldOnly S a b P → WritesNothing S b c → HeldOnly S a c P
  held-quiet a b c P held quiet =
      then S a b c P held (weaker S b c (λ i. i ≡ S.image b) P (λ i e. subst P (sym e) (at_end S a b P held))
      quiet.held)

  changes-quiet : (a b c : D) (n : ℕ) (P : Image → Type 0) → Changes S a b n P → WritesNothing S b c → Changes S a c n P
  changes-quiet a b c n P changes quiet = record {
    held = held-quiet a b c P changes.held quiet;
    writes = subst (λ (m : ℕ). m ≤ S.writes a + n) (sym quiet.writes) changes.writes;
  }

  over-quiet : (a b c : D) (Right : Place → Sector → Type 0) (ps : List Place) → GoesOver S a b Right ps
      → WritesNothing S b c → GoesOver S a c Right ps
  over-quiet a b c Right ps over quiet = record {
    held = held-quiet a b c (IsUnderWay Right ps (S.image a)) over.held quiet;
    once = record {
      written = over.once.written;
      once = over.once.once;
      other = λ p in_them. subst (λ (img : Image). sector img p ≢ sector (S.image a) p) (sym quiet.image)
          (over.once.other p in_them);
      writes = subst (λ (m : ℕ). m ≤ S.writes a + length over.once.written) (sym quiet.writes) over.once.writes;
    };
  }

  -- a repair that frees nothing, and one that frees what nobody owns
  pub kept-mends : (a b : D) (r : Result ℕ Fault) → RepairsKeeping S a b r → MendsAs false S a b r
  kept-mends a b (Ok n) h = record {
    ok = record {
      before = h.ok.before;
      after = h.ok.after;
      sound = h.ok.sound;
      strays = h.ok.strays;
      are = h.ok.are;
      count = h.ok.count;
      clean = h.ok.clean;
      same = h.ok.same;
      made = h.made h.ok.before h.ok.strays h.ok.sound h.ok.are;
    };
    err = tt;
    moments = h.moments;
    frees = λ _. h.frees;
    whole = h.whole;
    order = h.order;
    spare = h.spare;
    unsound = h.unsound;
    failures = h.failures;
  }
  kept-mends a b (Err fault) h = record {
    ok = tt;
    err = h.err;
    moments = h.moments;
    frees = λ _. h.frees;
    whole = h.whole;
    order = h.order;
    spare = h.spare;
    unsound = h.unsound;
    failures = h.failures;
  }

  freed-order : (a b : D) → ((l : Layout) → IsLayout (S.image a) l
      → GoesOver S a b (IsRightBut [] l) (repair_order l)) → GoesInOrder true S a b
  freed-order a b order l strays is are = subst (λ (xs : List Place). GoesOver S a b (IsRightBut xs l) (repair_order l))
      (sym are) (order l is)

  pub freed-ok : (a b : D) (s : Survey) → Repairs S a b (Ok s) → MendsAs true S a b (Ok 0)
  freed-ok a b s h = record {
    ok = record {
      before = h.ok.before;
      after = h.ok.after;
      sound = h.ok.sound;
      strays = [];
      are = refl;
      count = refl;
      clean = record { layout = h.ok.clean.layout; files = h.ok.clean.files; map = h.ok.clean.map };
      same = h.ok.same;
      made = h.made h.ok.before h.ok.sound;
    };
    err = tt;
    moments = h.moments;
    frees = λ e. absurd (false≢true (sym e));
    whole = h.whole;
    order = freed-order a b h.order;
    spare = h.spare;
    unsound = h.unsound;
    failures = h.failures;
  }

  pub freed-err : (a b : D) (fault : Fault) → Repairs S a b (Err fault) → MendsAs true S a b (Err fault)
  freed-err a b fault h = record {
    ok = tt;
    err = h.err;
    moments = h.moments;
    frees = λ e. absurd (false≢true (sym e));
    whole = h.whole;
    order = freed-order a b h.order;
    spare = h.spare;
    unsound = h.unsound;
    failures = h.failures;
  }

  module _ (free : Bool) (image : List ℕ) (a b : D) (size : length image ≡ 174848)
      (plain : IsPlainDisk (sector (S.image a) map_place)) (r : Result ℕ Fault) (mends : MendsAs free S a b r) where
    -- a disk that isn't sound is only read
    left-alone : (IsSound (S.image a) → ⊥) → Changes S a b 0 (λ c. c ≡ S.image a)
    left-alone no_layout =
        let reads = mends.unsound no_layout in
        let same : S.writes b ≡ S.writes a = reads.writes in
        record { held = reads.held; writes = omega (arith, same) }

    -- a repair, and what was read afterwards
    pub run-quiet : (c : D) → WritesNothing S b c → IsRepairRun free S image a c
    run-quiet c quiet = record {
      size = size;
      plain = plain;
      moments = λ l is. changes-quiet a b c 883 (IsMended (S.image a) l) (mends.moments l is) quiet;
      frees = λ kept. changes-quiet a b c 883 (FreesNothing (S.image a)) (mends.frees kept) quiet;
      whole = λ w. held-quiet a b c IsWhole (mends.whole w) quiet;
      order = λ l strays is are. over-quiet a b c (IsRightBut strays l) (repair_order l) (mends.order l strays is are)
          quiet;
      unsound = λ no_layout. changes-quiet a b c 0 (λ i. i ≡ S.image a) (left-alone no_layout) quiet;
    }

    pub run-only : IsRepairRun free S image a b
    run-only = record {
      size = size;
      plain = plain;
      moments = mends.moments;
      frees = mends.frees;
      whole = mends.whole;
      order = mends.order;
      unsound = left-alone;
    }

    pub mended-quiet : (c : D) → WritesNothing S b c → (n : ℕ) → IsMendedAs free (S.image a) (S.image b) n
        → IsMendedDisk free S image a c n
    mended-quiet c quiet n mended = record {
      run = run-quiet c quiet;
      mended = subst (λ (img : Image). IsMendedAs free (S.image a) img n) (sym quiet.image) mended;
      spare = subst (ClearsSpare (S.image a)) (sym quiet.image) mends.spare;
    }

  -- a fault that isn't the device's: the disk isn't sound, and nothing was written
  module _ {W : Type 0} (free : Bool) (image : List ℕ) (a b : D) (w : W) (size : length image ≡ 174848)
      (plain : IsPlainDisk (sector (S.image a) map_place)) (unsound : (IsSound (S.image a) → ⊥) → OnlyReads S a b 2114) where
    not-sound : (fault : Fault) → ((p : Place) → fault ≢ faults.Device p) → Holds (S.failed_at b) (S.image a) fault
        → Holds nowhere (S.image a) fault → IsRepairFault free S image a b w w (commands.Layout fault)
    not-sound fault other told holds = (
      size,
      plain,
      holds,
      reads_no_write S a b 2114 (unsound (λ sound.
          let device = told-sound (S.failed_at b) (S.image a) fault told sound in
          other device.0 device.1)),
      refl,
    )

    pub refused : (run : IsRepairRun free S image a b) (fault : Fault) → Holds (S.failed_at b) (S.image a) fault
        → TellsFault {T = ℕ} S a b (Err fault) → IsRepairFault free S image a b w w (repair_fault fault)
    refused run (faults.BadLink p) told failures = not-sound (faults.BadLink p) (λ q e. cc) told told
    refused run (faults.Loop p) told failures = not-sound (faults.Loop p) (λ q e. cc) told told
    refused run (faults.OwnedTwice p) told failures = not-sound (faults.OwnedTwice p) (λ q e. cc) told told
    refused run (faults.BadType p) told failures = not-sound (faults.BadType p) (λ q e. cc) told told
    refused run (faults.Unclosed p) told failures = not-sound (faults.Unclosed p) (λ q e. cc) told told
    refused run (faults.BadSide p) told failures = not-sound (faults.BadSide p) (λ q e. cc) told told
    refused run (faults.BadLength p) told failures = not-sound (faults.BadLength p) (λ q e. cc) told told
    refused run (faults.CountWrong p) told failures = absurd told
    refused run (faults.MapWrong p) told failures = absurd told
    refused run (faults.Device p) told failures = (run, failures)

  -- the image wasn't taken into memory
  pub load-refused : {W : Type 0} (free : Bool) (image : List ℕ) (a : D) (w : W) (fault : CommandFault) → IsLoadFault image fault
      → IsRepairFault free S image a a w w fault
  load-refused free image a w = by-load image (IsRepairFault free S image a a w w)
      (λ told. (told, refl, refl)) (λ told. (told, refl, refl))

  -- the disk is of another kind
  pub kind-refused : {W : Type 0} (free : Bool) (image : List ℕ) (a : D) (w : W) (fault : CommandFault)
      → length image ≡ 174848 → IsKindFault (sector (S.image a) map_place) fault
      → IsRepairFault free S image a a w w fault
  kind-refused free image a w fault size told = by-kind (sector (S.image a) map_place) (IsRepairFault free S image a a w w)
      (λ told. (size, told, refl, refl)) (λ told. (size, told, refl, refl)) fault told

  -- the disk was mended, and the output or the device failed then
  pub print-refused : {W : Type 0} (free : Bool) (image : List ℕ) (a b c : D) (v w : W) (r : Result Unit CommandFault)
      → (n : ℕ) → IsMendedDisk free S image a c n
      → S.failures b ≡ S.failures a → TellsKeep S b c r → IfErr r (IsRepairFault free S image a c v w)
  print-refused free image a b c v w (Ok x) n mended same told = tt
  print-refused free image a b c v w (Err fault) n mended same told = by-tell S b c (IsRepairFault free S image a c v w)
      (λ told. (n, mended)) (λ told. (mended.run, failed_later S a b c same told)) fault told

  -- and what was printed until then is of the disk as it is left
  pub repair-part : {W : Type 0} (free : Bool) (contents : W → Option (List ℕ)) (image : List ℕ) (a b c : D) (v w : W)
      (before : Image) (n : ℕ) → IsMendedDisk free S image a c n → before ≡ S.image a → WritesNothing S b c
      → HandsPart (contents v) (contents w) (mended_text before (S.image b) n)
      → IsRepairPart free S contents image a c v w
  repair-part free contents image a b c v w before n mended same quiet part = inr (
    n,
    mended,
    subst (λ (img : Image). HandsPart (contents v) (contents w) (mended_text (S.image a) img n)) (sym quiet.image)
        (subst (λ (img : Image). HandsPart (contents v) (contents w) (mended_text img (S.image b) n)) same part),
  )
