-- One record that is there, stored: what is left and held, where it is so already and where it is written.
use Rattle.std.proofs.Common.{◌≡◌, ◌≢◌, ◌≤◌, ◌⊎◌, ⊎_elim, inl, inr, ℕ, zero, suc, ◌+◌, ◌-◌, ◌*◌, ◌/◌, List, [], ◌∷◌}
use Rattle.std.proofs.Common.{Result, Ok, Err, true, false, length, refl, subst, sym, ap, ◌∙◌, arith}
use Rattle.std.specs.Prelude.{is_err}
use Rattle.std.proofs.Math.Nat.{suc-mul}
use Rattle.std.proofs.lemmas.List.{append-nil}
use Rattle.d64_image.proofs.Moments.{changes_weaker, failed_later, reads_change, reads_no_write, then, weaker}
use Rattle.d64_image.specs.History.{Changes, Failed, History}
use Rattle.d64_image.specs.Images.{Image}
use Rattle.disk_layout.specs.Layout.{File, Layout, record_length}
use Rattle.disk_layout.specs.Records.{records}
use Rattle.disk_layout.specs.Whole.{HoldsWhole, IsWhole}
use Rattle.rel_records.proofs.lemmas.Kept.{has_same}
use Rattle.rel_records.proofs.lemmas.growth.RunCosts.{added-none, growth-none}
use Rattle.rel_records.proofs.lemmas.growth.Grows.{had-of, count-is}
use Rattle.rel_records.proofs.lemmas.writing.Composed.{reads_first}
use Rattle.rel_records.specs.Calls.{ReadsRecord, WritesRecord}
use Rattle.rel_records.specs.Faults.{TellsRelFault}
use Rattle.rel_records.specs.File.{IsFileOf, length_of, records_in}
use Rattle.rel_records.specs.Others.{HasRecords, LeavesRecords}
use Rattle.rel_records.specs.Written.{IsDone, IsRecord, IsWriting, grown_by, grown_to, touched, with_half, with_written}
use Rattle.rel_records.specs.declared.faults.RelFault.{RelFault}
use Rattle.rel_records.specs.declared.faults.RelFault.TheVariants as rel
use Rattle.rel_records.specs.declared.rel_file.RelFile.{RelFile}
use Rattle.rel_records.specs.growth.Growth.{added, growth_writes, records_had}
use Rattle.line_text.specs.bytes.Texts.{trimmed}
use Rattle.disk_changes.proofs.lemmas.lines.Composed.{leaves-same}
use Rattle.disk_changes.proofs.lemmas.lines.Padded.{other-changed, other-not_so, so-stored_one, so-there, so-unchanged}
use Rattle.file_rescues.proofs.Printing.{not-err, read-fails}
use Rattle.disk_changes.specs.lines.Stores.{IsSo, NewRecord, with_stored}
use Rattle.disk_changes.specs.lines.Storing.{IsStoringOver, StoresOne}
use Rattle.command_faults.specs.declared.faults.CommandFault.TheVariants as faults

-- a record that is there asks for no growth
pub grown-none : (img : Image) (f : File) (r : ℕ) → r ≤ records_had f → grown_to img f r ≡ records img f
grown-none img f r le =
    ap (λ (m : ℕ). grown_by (record_length f.slot) m (records img f)) (added-none (record_length f.slot) (records_had f)
    r le)
    ∙ append-nil (records img f)

-- two blocks at most have bytes of a record
few-blocks : (y L : ℕ) → 1 ≤ L → L ≤ 254 → (y + L - 1) / 254 - (y + 0) / 254 + 1 ≤ 2
few-blocks y L low high = omega (arith, low, high)

few-touched : (L r : ℕ) → 1 ≤ L → L ≤ 254 → 1 ≤ r → touched L r 1 ≤ 2
few-touched L zero low high some = absurd (omega (arith, some))
few-touched L (suc k) low high some =
    let less : suc k - 1 ≡ k = omega arith in
    let row : suc k * L ≡ k * L + L = suc-mul k L in
    subst (λ (z : ℕ). (z - 1) / 254 - ((suc k - 1) * L + (1 - 1)) / 254 + 1 ≤ 2) (sym row)
    (subst (λ (j : ℕ). (k * L + L - 1) / 254 - (j * L + (1 - 1)) / 254 + 1 ≤ 2) (sym less)
    (few-blocks (k * L) L low high))

-- where the answer is Ok, no failure was counted
pub ok-told : {D T : Type 0} (S : History D) (a b : D) (r : Result T RelFault) → TellsRelFault S a b r
    → is_err r ≡ false → S.failures b ≡ S.failures a
ok-told S a b (Ok x) told ok = told
ok-told S a b (Err e) told ok = absurd cc

-- images that are held while the record is written
writing-over : (i c : Image) (l : Layout) (n : ℕ) (f : File) (x : NewRecord) → x.number ≤ records_had f
    → IsWriting i l n f (added (record_length f.slot) (records_had f) x.number) x.number 1 x.bytes c
    → IsStoringOver i l n (record_length f.slot) (x ∷ []) (records i f) c
writing-over i c l n f x le (inl (k, few, has, kept)) =
    let none : k ≡ 0 = omega (arith, few, added-none (record_length f.slot) (records_had f) x.number le) in (
      records i f,
      inl refl,
      subst (HasRecords i c l n) (ap (λ (m : ℕ). grown_by (record_length f.slot) m (records i f))
          none ∙ append-nil (records i f)) has,
    )
writing-over i c l n f x le (inr (inl (has, kept))) = (
  with_half (record_length f.slot) x.number 1 x.bytes (records i f),
  inr (inl refl),
  subst (λ (rs : List (List ℕ)). HasRecords i c l n (with_half (record_length f.slot) x.number 1 x.bytes rs))
      (grown-none i f x.number le) has,
)
writing-over i c l n f x le (inr (inr (has, kept))) = (
  with_stored (record_length f.slot) x (records i f),
  inr (inr refl),
  subst (λ (rs : List (List ℕ)). HasRecords i c l n (with_written (record_length f.slot) x.number 1 x.bytes rs))
      (grown-none i f x.number le) has,
)

-- where no record is added, whole files stay so
writing-whole : (i c : Image) (l : Layout) (n : ℕ) (f : File) (m r pos : ℕ) (text : List ℕ) → m ≡ 0
    → IsWriting i l n f m r pos text c → IsWhole i → IsWhole c
writing-whole i c l n f m r pos text none (inl (k, few, has, kept)) w = kept (λ never. none) w
writing-whole i c l n f m r pos text none (inr (inl (has, kept))) w = kept (λ never. none) w
writing-whole i c l n f m r pos text none (inr (inr (has, kept))) w = kept (λ never. none) w

is-done : (r : Result (Unit {0}) RelFault) → is_err r ≡ false → IsDone r
is-done (Ok x) ok = tt
is-done (Err e) ok = absurd cc

none-such : (e : RelFault) → e ≢ rel.Overflow → e ≢ rel.TooLarge → e ≢ rel.Full → e ≢ rel.Device
    → (e ≡ rel.Overflow) ⊎ ((e ≡ rel.TooLarge) ⊎ ((e ≡ rel.Full) ⊎ (e ≡ rel.Device))) → ⊥
none-such e x y z t told = ⊎_elim x (⊎_elim y (⊎_elim z t)) told

-- a write into a record that is there fails only where the device does
write-fails : {D : Type 0} (S : History D) (b d : D) (l : Layout) (n : ℕ) (f : File) (v w : RelFile) (x : NewRecord)
    (r : Result (Unit {0}) RelFault)
    → IsFileOf (S.image b) l n f v → x.number ≤ records_had f → length x.bytes ≤ length_of v
    → WritesRecord S b d v w x.number 1 x.bytes r → is_err r ≡ true → Failed S b d
write-fails S b d l n f v w x (Ok t) of le short wrote err = absurd cc
write-fails S b d l n f v w x (Err rel.Device) of le short wrote err = wrote.failures
write-fails S b d l n f v w x (Err rel.Overflow) of le short wrote err =
    absurd (omega (arith, wrote.overflow refl, short))
write-fails S b d l n f v w x (Err rel.TooLarge) of le short wrote err =
    absurd (omega (arith, le, ((wrote.file l n f of).too_large.0 refl).0))
write-fails S b d l n f v w x (Err rel.Full) of le short wrote err =
    absurd (omega (arith, le, ((wrote.file l n f of).full refl).0))
write-fails S b d l n f v w x (Err rel.NotFound) of le short wrote err =
    absurd (none-such rel.NotFound (λ e. cc) (λ e. cc) (λ e. cc) (λ e. cc) wrote.told)
write-fails S b d l n f v w x (Err rel.NotPresent) of le short wrote err =
    absurd (none-such rel.NotPresent (λ e. cc) (λ e. cc) (λ e. cc) (λ e. cc) wrote.told)
write-fails S b d l n f v w x (Err rel.Exists) of le short wrote err =
    absurd (none-such rel.Exists (λ e. cc) (λ e. cc) (λ e. cc) (λ e. cc) wrote.told)

module _ {D : Type 0} (S : History D) (a b : D) (l : Layout) (n : ℕ) (f : File) (v : RelFile) (x : NewRecord)
    (of : IsFileOf (S.image a) l n f v) (low : 1 ≤ x.number)
    (high : x.number ≤ records_in v)
    (short : length x.bytes ≤ length_of v) (text : List ℕ) (r : Result (Unit {0}) RelFault)
    (read : ReadsRecord S a b v x.number text 3 r) where
  reached : x.number ≤ records_had f
  reached = subst (λ (m : ℕ). x.number ≤ m) (had-of (S.image a) l n f v of) high

  fits : length x.bytes ≤ record_length f.slot
  fits = subst (λ (m : ℕ). length x.bytes ≤ m) of.shows.size short

  pub of-read : IsFileOf (S.image b) l n f v
  of-read = subst (λ (i : Image). IsFileOf i l n f v) (sym read.reads.image) of

  as-it-is : Changes S a b 2 (IsStoringOver (S.image a) l n (record_length f.slot) (x ∷ []) (records (S.image a) f))
  as-it-is = changes_weaker S a b 0 2 _ _ (omega arith) (λ i h. h)
      (reads_change S a b 3 _ read.reads (records (S.image a) f, inl refl, has_same (S.image a) l n f v of))

  -- the record wasn't read
  pub not-read : is_err r ≡ true → StoresOne S a b l n f v v x (Err faults.Device)
  not-read err = record {
    ok = tt;
    moments = as-it-is;
    whole = λ h. (reads_change S a b 3 IsWhole read.reads h).held;
    quiet = λ so. reads_no_write S a b 3 read.reads;
    err = refl;
    told = read-fails S r a b (records (S.image a) f) x.number read.failures read.told (read.not_present l n f of) low
        (subst (λ (m : ℕ). x.number ≤ m) (sym (count-is (S.image a) f)) reached) err;
  }

  module _ (ok : is_err r ≡ false) where
    there : IsRecord (records (S.image a) f) x.number text
    there = not-err r ok (read.ok l n f of)

    long : length text ≡ record_length f.slot
    long = not-err r ok read.size ∙ of.shows.size

    -- it was so already
    pub not-stored : trimmed text ≡ trimmed x.bytes → StoresOne S a b l n f v v x (Ok false)
    not-stored same = record {
      ok = (
        subst (λ (i : Image). LeavesRecords (S.image a) i l n
            (with_stored (record_length f.slot) x (records (S.image a) f)) v) (sym read.reads.image)
            (subst (λ (rs : List (List ℕ)). LeavesRecords (S.image a) (S.image a) l n rs v)
            (sym (so-stored_one (record_length f.slot) (records (S.image a) f) x
            (so-there (record_length f.slot) (records (S.image a) f) x text there.there long fits same)))
            (leaves-same (S.image a) l n f v of)),
        refl,
        sym (so-unchanged (record_length f.slot) (records (S.image a) f) x text there.there long fits same),
      );
      moments = as-it-is;
      whole = λ h. (reads_change S a b 3 IsWhole read.reads h).held;
      quiet = λ so. reads_no_write S a b 3 read.reads;
      err = tt;
      told = ok-told S a b r read.failures ok;
    }

    module _ (d : D) (w : RelFile) (s : Result (Unit {0}) RelFault) (wrote : WritesRecord S b d v w x.number 1 x.bytes
        s)
        (other : trimmed text ≢ trimmed x.bytes) where
      over : Changes S a d 2 (IsStoringOver (S.image a) l n (record_length f.slot) (x ∷ []) (records (S.image a) f))
      over = reads_first S a b d 3 2 2 (λ (i : Image). IsStoringOver i l n (record_length f.slot) (x ∷ [])
          (records i f)) (omega arith) read.reads
          (records (S.image a) f, inl refl, has_same (S.image a) l n f v of)
          (changes_weaker S b d (growth_writes f x.number + touched (record_length f.slot) x.number 1) 2 _ _
          (omega (
            arith,
            growth-none f x.number reached,
            few-touched (record_length f.slot) x.number
                (subst (λ (m : ℕ). 1 ≤ m) of.shows.size v.size_low)
                (subst (λ (m : ℕ). m ≤ 254) of.shows.size v.size_high)
                low,
          ))
          (λ i h. writing-over (S.image b) i l n f x reached h)
          (wrote.file l n f of-read).moments)

      held-whole : HoldsWhole S a d
      held-whole h = then S a b d IsWhole (reads_change S a b 3 IsWhole read.reads h).held
          (weaker S b d (IsWriting (S.image b) l n f (added (record_length f.slot) (records_had f) x.number) x.number 1
          x.bytes) IsWhole (λ i held. writing-whole (S.image b) i l n f _ x.number 1 x.bytes
          (added-none (record_length f.slot) (records_had f) x.number reached) held
          (subst IsWhole (sym read.reads.image) h)) (wrote.file l n f of-read).moments.held)

      not-so : IsSo (record_length f.slot) (records (S.image a) f) x → ⊥
      not-so so = other-not_so (record_length f.slot) (records (S.image a) f) x text there.there long fits other so

      -- it wasn't written
      pub not-written : is_err s ≡ true → StoresOne S a d l n f v w x (Err faults.Device)
      not-written err = record {
        ok = tt;
        moments = over;
        whole = held-whole;
        quiet = λ so. absurd (not-so so);
        err = refl;
        told = failed_later S a b d (ok-told S a b r read.failures ok) (write-fails S b d l n f v w x s of-read reached
            short wrote err);
      }

      -- it was
      pub is-stored : is_err s ≡ false → StoresOne S a d l n f v w x (Ok true)
      is-stored done = record {
        ok = (
          subst (λ (i : Image). LeavesRecords i (S.image d) l n (with_stored (record_length f.slot) x (records i f)) w)
              read.reads.image
              (subst (λ (rs : List (List ℕ)). LeavesRecords (S.image b) (S.image d) l n
              (with_stored (record_length f.slot) x rs) w) (grown-none (S.image b) f x.number reached)
              ((wrote.file l n f of-read).done (is-done s done))),
          wrote.same (is-done s done),
          sym (other-changed (record_length f.slot) (records (S.image a) f) x text there.there long fits other),
        );
        moments = over;
        whole = held-whole;
        quiet = λ so. absurd (not-so so);
        err = tt;
        told = ok-told S b d s wrote.failures done ∙ ok-told S a b r read.failures ok;
      }
