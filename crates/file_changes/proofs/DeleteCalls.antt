-- The entry to be deleted is found; one write clears its type, and another one frees what it owned.
use Rattle.std.proofs.Common.{◌≡◌, ◌⊎◌, ℕ, ◌≤◌, ◌<◌, ◌+◌, ◌*◌, [], ◌∷◌, ◌++◌, List, Err, Ok, Result, ap, arith, inl, inr, length, refl}
use Rattle.std.proofs.Common.{subst, sym, ◌∙◌}
use Rattle.std.specs.Prelude.{IfErr, IfOk}
use Rattle.d64_image.proofs.Moments.{failed_later, reading, reads_then, then, weaker, writing}
use Rattle.d64_image.specs.History.{Changes, History, HeldOnly, OnlyReads}
use Rattle.d64_image.specs.Images.{Image, sector}
use Rattle.d64_image.specs.declared.faults.DeviceFault.{DeviceFault}
use Rattle.disk_layout.proofs.lemmas.layouts.Layouts.{IsLayout-one}
use Rattle.disk_layout.specs.Directory.{map_place}
use Rattle.disk_layout.specs.Fault.{Holds, TellsFault}
use Rattle.disk_layout.specs.Layout.{File, IsLayout, Layout, owners}
use Rattle.disk_layout.specs.Map.{IsMapOf}
use Rattle.disk_layout.specs.Rest.{slot_name}
use Rattle.disk_layout.specs.declared.faults.Fault.{Fault}
use Rattle.disk_layout.specs.declared.slot.Slot.{Slot}
use Rattle.layout_check.specs.Survey.{IsSurveyOf}
use Rattle.layout_check.specs.declared.survey_outcome.Survey.{Survey}
use Rattle.rel_records.proofs.lemmas.Usable.{usable-of}
use Rattle.rel_records.proofs.lemmas.reading.Found.{slot-file}
use Rattle.rel_records.specs.Usable.{IsUsable}
use Rattle.file_changes.proofs.Freed.{freed-clean, freed-remapped}
use Rattle.file_changes.proofs.Mapped.{AreExactFiles, IsRemapped, repair-failed}
use Rattle.file_changes.proofs.Reslotted.{place}
use Rattle.file_changes.proofs.Refused.{not-device, told-more}
use Rattle.file_changes.proofs.Unlisted.{unlisted}
use Rattle.file_changes.proofs.UnlistedWhole.{exact-after, first-without, map-after, owned-before, without-at}
use Rattle.file_changes.specs.Deletes.{Deletes, FindsDeletable, HasLost, IsDeletable, IsLocked, IsWithout}
use Rattle.file_changes.specs.Frees.{Frees, IsFreed}
use Rattle.file_changes.specs.Entries.{IsFirstNamed, IsFreeName, entries_of, without_file}
use Rattle.file_changes.specs.Patches.{PatchesSector, patched}
use Rattle.command_faults.specs.declared.faults.CommandFault.{CommandFault}
use Rattle.command_faults.specs.declared.faults.CommandFault.TheVariants.{Device, Locked, NoFile}

device-not-found : Device ≡ NoFile → ⊥
device-not-found e = cc

device-not-locked : Device ≡ Locked → ⊥
device-not-locked e = cc

module _ {D : Type 0} (S : History D) (a b : D) (name : List ℕ) (slots : List Slot) (padded : List ℕ)
    (old : padded ≡ slot_name name) (listed : (l : Layout) → IsLayout (S.image a) l → slots ≡ entries_of l)
    (reads : OnlyReads S a b 18) (fine : S.failures b ≡ S.failures a) where
  there : (P : List Slot → List ℕ → Type 0) → P slots padded → (l : Layout) → IsLayout (S.image a) l
      → P (entries_of l) (slot_name name)
  there P h l is = subst (P (entries_of l)) old (subst (λ es. P es padded) (listed l is) h)

  pub found-deletable : (r : Result Slot CommandFault)
      → IfOk r (λ s. (n : ℕ) × IsFirstNamed slots padded n s × ¬ (IsLocked s))
      → IfErr r (λ e. e ≡ NoFile → IsFreeName slots padded)
      → IfErr r (λ e. e ≡ Locked → (n : ℕ) × (s : Slot) × IsFirstNamed slots padded n s × IsLocked s)
      → IfErr r (λ e. (e ≡ NoFile) ⊎ (e ≡ Locked)) → FindsDeletable S a b name r
  found-deletable r first missing locked told = record {
    ok = there (λ es f. IfOk r (λ s. (n : ℕ) × IsFirstNamed es f n s × ¬ (IsLocked s))) first;
    not_found = there (λ es f. IfErr r (λ e. e ≡ NoFile → IsFreeName es f)) missing;
    locked = there (λ es f. IfErr r (λ e. e ≡ Locked → (n : ℕ) × (s : Slot) × IsFirstNamed es f n s × IsLocked s)) locked;
    told = told-more r Locked told;
    reads = reads;
    failures = not-device S a b r Locked refl fine told;
  }

-- the file of the entry
deletable : (l : Layout) (s : Slot) (name : List ℕ)
    → (n : ℕ) × IsFirstNamed (entries_of l) (slot_name name) n s × ¬ (IsLocked s)
    → (n : ℕ) × (f : File) × IsDeletable l name n f × (f.slot ≡ s)
deletable l s name (n, first, unlocked) =
    let (f, at, same) = slot-file l (entries_of l) n s refl first.there in (
      n,
      f,
      record {
        file = at;
        first = subst (IsFirstNamed (entries_of l) (slot_name name) n) (sym same) first;
        unlocked = subst (λ x. ¬ (IsLocked x)) (sym same) unlocked;
      },
      same,
    )

-- the entry's number
pub deletable-low : (img : Image) (l : Layout) (s : Slot) (name : List ℕ) → IsLayout img l
    → (n : ℕ) × IsFirstNamed (entries_of l) (slot_name name) n s × ¬ (IsLocked s) → s.number < 8
deletable-low img l s name h named =
    let (n, f, of, same) = deletable l s name named in
    subst (λ x. x.number < 8) same (place img l n f h of.file).1

-- it was found, and then the disk couldn't be surveyed
pub unsurveyed : {D : Type 0} (S : History D) (a e b : D) (name : List ℕ) (s : Slot) → FindsDeletable S a e name (Ok s)
    → IsUsable (S.image a) → (fault : Fault) → OnlyReads S e b 2114 → Holds (S.failed_at b) (S.image e) fault
    → TellsFault {T = Survey} S e b (Err fault) → Deletes S a b name (Err Device)
unsurveyed S a e b name s finds usable fault reads holds tells =
    let all = reads_then S a e b 18 2114 2132 (omega arith) finds.reads reads in
    let P : Image → Type 0 = λ i. IsLayout i usable.0 in
    record {
      layout = λ l h. record {
        ok = tt;
        not_found = λ is. absurd (device-not-found is);
        locked = λ is. absurd (device-not-locked is);
        moments = record { held = reading S a b 2132 _ all (inl refl); writes = omega (arith, all.writes) };
      };
      told = inr (inr refl);
      refused = λ ne. absurd (ne refl);
      reads = omega (arith, all.reads);
      failures = failed_later S a e b finds.failures (repair-failed Survey S e b (S.failed_at b) (S.image e) fault
          (usable.0, subst P (sym finds.reads.image) usable.1.1.layout) holds tells);
    }

module _ {D : Type 0} (S : History D) (a e b c : D) (name : List ℕ) (s : Slot) (finds : FindsDeletable S a e name (Ok s))
    (usable : IsUsable (S.image a)) (before : Survey)
    (surveyed : (l : Layout) × IsLayout (S.image e) l × IsSurveyOf l before × OnlyReads S e b (18 + 2 * length (owners l)))
    (few_reads : OnlyReads S e b 2114) (calm : S.failures b ≡ S.failures e) where
  reads : OnlyReads S a b 2132
  reads = reads_then S a e b 18 2114 2132 (omega arith) finds.reads few_reads

  fine : S.failures b ≡ S.failures a
  fine = calm ∙ finds.failures

  it : (l : Layout) → IsLayout (S.image a) l → (n : ℕ) × (f : File) × IsDeletable l name n f × (f.slot ≡ s)
  it l h = deletable l s name (finds.ok l h)

  survey-of : (l : Layout) → IsLayout (S.image a) l → IsSurveyOf l before
  survey-of l h =
      let P : Image → Type 0 = λ i. IsLayout i l in
      let Q : Layout → Type 0 = λ x. IsSurveyOf x before in
      subst Q (IsLayout-one (S.image e) surveyed.0 l surveyed.1 (subst P (sym finds.reads.image) h)) surveyed.2

  -- the image of the first write
  written : (l : Layout) (h : IsLayout (S.image a) l) → patched (S.image b) s.sector (32 * s.number + 2) (0 ∷ [])
      ≡ patched (S.image a) (it l h).1.slot.sector (32 * (it l h).1.slot.number + 2) (0 ∷ [])
  written l h = ap (λ (i : Image). patched i s.sector (32 * s.number + 2) (0 ∷ [])) reads.image
      ∙ ap (λ (x : Slot). patched (S.image a) x.sector (32 * x.number + 2) (0 ∷ [])) (sym (it l h).3)

  exactly : (l : Layout) → IsLayout (S.image a) l → AreExactFiles (S.image a) l.files
  exactly l h = (usable-of (S.image a) l h usable).1.files

  abbrev lost : (l : Layout) (h : IsLayout (S.image a) l) (img : Image)
      → IsWithout (S.image a) l (it l h).0 (it l h).1 img → HasLost (S.image a) l name img
  lost l h img w = record { number = (it l h).0; file = (it l h).1; of = (it l h).2; without = w }

  lost-first : (l : Layout) (h : IsLayout (S.image a) l) (img : Image)
      → img ≡ patched (S.image b) s.sector (32 * s.number + 2) (0 ∷ []) → HasLost (S.image a) l name img
  lost-first l h img is =
      let P : Image → Type 0 = IsWithout (S.image a) l (it l h).0 (it l h).1 in
      lost l h img (subst P (sym (is ∙ written l h)) (first-without (S.image a) l (it l h).0 (it l h).1
      h (exactly l h) (it l h).2.file (S.whole a)))

  first-moments : (r : Result (Unit {0}) DeviceFault)
      → PatchesSector S b c s.sector (32 * s.number + 2) (0 ∷ []) r → (l : Layout) → IsLayout (S.image a) l
      → HeldOnly S a c (λ i. (i ≡ S.image a) ⊎ HasLost (S.image a) l name i)
  first-moments r patch l h = then S a b c _ (reading S a b 2132 _ reads (inl refl))
      (writing S b c _ _ _ patch.held (inl reads.image) (inr (lost-first l h _ refl)))

  pub unwritten : (x : DeviceFault) → PatchesSector {T = Unit {0}} S b c s.sector (32 * s.number + 2) (0 ∷ []) (Err x)
      → Deletes S a c name (Err Device)
  unwritten x patch = record {
    layout = λ l h. record {
      ok = tt;
      not_found = λ is. absurd (device-not-found is);
      locked = λ is. absurd (device-not-locked is);
      moments = record {
        held = first-moments (Err x) patch l h;
        writes = omega (arith, patch.writes, reads.writes);
      };
    };
    told = inr (inr refl);
    refused = λ ne. absurd (ne refl);
    reads = omega (arith, patch.reads, reads.reads);
    failures = failed_later S a b c fine patch.failures;
  }

  module _ (patch : PatchesSector {T = Unit {0}} {E = DeviceFault} S b c s.sector (32 * s.number + 2) (0 ∷ []) (Ok (tt {0}))) where
    now : (l : Layout) (h : IsLayout (S.image a) l) → S.image c
        ≡ patched (S.image a) (it l h).1.slot.sector (32 * (it l h).1.slot.number + 2) (0 ∷ [])
    now l h = patch.ok ∙ written l h

    laid : (l : Layout) (h : IsLayout (S.image a) l) → IsLayout (S.image c) (without_file l (it l h).0)
    laid l h =
        let P : Image → Type 0 = λ i. IsLayout i (without_file l (it l h).0) in
        subst P (sym (now l h)) (unlisted (S.image a) l (it l h).0 (it l h).1 h (it l h).2.file (S.whole a))

    exact : (l : Layout) (h : IsLayout (S.image a) l)
        → AreExactFiles (S.image c) (without_file l (it l h).0).files
    exact l h =
        let P : Image → Type 0 = λ i. AreExactFiles i (without_file l (it l h).0).files in
        subst P (sym (now l h)) (exact-after (S.image a) l (it l h).0 (it l h).1 h (exactly l h)
        (it l h).2.file (S.whole a))

    same-map : (l : Layout) (h : IsLayout (S.image a) l) → sector (S.image c) map_place ≡ sector (S.image a) map_place
    same-map l h = ap (λ (i : Image). sector i map_place) (now l h)
        ∙ map-after (S.image a) l (it l h).0 (it l h).1 h (exactly l h) (it l h).2.file (S.whole a)

    module _ (d : D) (r : Result (Unit {0}) Fault)
        (frees : (l m : Layout) → IsSurveyOf l before → IsLayout (S.image c) m → Frees S c d l m r) where
      freeing : (l : Layout) (h : IsLayout (S.image a) l) → Frees S c d l (without_file l (it l h).0) r
      freeing l h = frees l (without_file l (it l h).0) (survey-of l h) (laid l h)

      without-later : (l : Layout) (h : IsLayout (S.image a) l) (img : Image)
          → IsFreed (S.image c) l (without_file l (it l h).0) img
          → IsWithout (S.image a) l (it l h).0 (it l h).1 img
      without-later l h img freed =
          let P : Image → Type 0 = λ i. IsRemapped i (without_file l (it l h).0) img in
          without-at (S.image a) l (it l h).0 (it l h).1 h (exactly l h) (it l h).2.file
          (S.whole a) img (subst P (now l h)
          (freed-remapped (S.image c) l (without_file l (it l h).0) img (laid l h) (S.whole c) freed))

      lost-freed : (l : Layout) (h : IsLayout (S.image a) l) (img : Image)
          → (img ≡ S.image c) ⊎ IsFreed (S.image c) l (without_file l (it l h).0) img → HasLost (S.image a) l name img
      lost-freed l h img (inl is) = lost-first l h img (is ∙ patch.ok)
      lost-freed l h img (inr freed) = lost l h img (without-later l h img freed)

      moments : (l : Layout) → IsLayout (S.image a) l
          → Changes S a d 2 (λ i. (i ≡ S.image a) ⊎ HasLost (S.image a) l name i)
      moments l h = record {
        held = then S a c d _ (first-moments (Ok (tt {0})) patch l h)
            (weaker S c d _ _ (λ i x. inr (lost-freed l h i x)) (freeing l h).moments.held);
        writes = omega (arith, patch.writes, reads.writes, (freeing l h).moments.writes);
      }

      few : S.reads d ≤ S.reads a + 4248
      few = omega (arith, patch.reads, reads.reads, (freeing usable.0 usable.1.1.layout).reads)

    pub deletes-done : (d : D) (x : Unit {0})
        → ((l m : Layout) → IsSurveyOf l before → IsLayout (S.image c) m → Frees S c d l m (Ok x))
        → Deletes S a d name (Ok (tt {0}))
    deletes-done d x frees = record {
      layout = λ l h.
          let m = without_file l (it l h).0 in
          let freed : IsFreed (S.image c) l (without_file l (it l h).0) (S.image d) = (freeing d (Ok x) frees l h).ok in
          record {
            ok = record {
              lost = lost l h (S.image d) (without-later d (Ok x) frees l h (S.image d) freed);
              clean = λ strays are was. freed-clean (S.image c) l m (S.image d) (laid l h) (S.whole c) freed strays before
                  (survey-of l h)
                  (owned-before (S.image a) l (it l h).0 (it l h).1 h (exactly l h) (it l h).2.file (S.whole a))
                  (λ p c. ((are.those p).0 c).unowned) (exact l h)
                  (subst (λ z. IsMapOf z (strays ++ map_place ∷ owners l)) (sym (same-map l h)) was.map);
            };
            not_found = tt;
            locked = tt;
            moments = moments d (Ok x) frees l h;
          };
      told = tt;
      refused = tt;
      reads = few d (Ok x) frees;
      failures = (freeing d (Ok x) frees usable.0 usable.1.1.layout).failures ∙ patch.failures ∙ fine;
    }

    pub deletes-failed : (d : D) (fault : Fault)
        → ((l m : Layout) → IsSurveyOf l before → IsLayout (S.image c) m → Frees S c d l m (Err fault))
        → Deletes S a d name (Err Device)
    deletes-failed d fault frees =
        let l = usable.0 in
        let h = usable.1.1.layout in
        let freed = freeing d (Err fault) frees l h in
        record {
          layout = λ l h. record {
            ok = tt;
            not_found = λ is. absurd (device-not-found is);
            locked = λ is. absurd (device-not-locked is);
            moments = moments d (Err fault) frees l h;
          };
          told = inr (inr refl);
          refused = λ ne. absurd (ne refl);
          reads = few d (Err fault) frees;
          failures = failed_later S a c d (patch.failures ∙ fine) (repair-failed (Unit {0}) S c d (S.failed_at d) (S.image c)
              fault (without_file l (it l h).0, laid l h) freed.err freed.failures);
        }
