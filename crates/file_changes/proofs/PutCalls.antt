-- A site is chosen, and then the file is written; or neither.
use Rattle.std.proofs.Common.{◌≡◌, ◌≤◌, ◌+◌, ◌<◌, ℕ, List, [], ◌∷◌, Err, Ok, Result, arith, inl, inr, length, refl, subst}
use Rattle.std.proofs.Common.{◌⊎◌, ◌≢◌, sym, ◌∙◌}
use Rattle.std.specs.Prelude.{OnOk}
use Rattle.d64_image.proofs.Moments.{failed_later, then, weaker}
use Rattle.d64_image.specs.History.{Changes, Failed, HeldOnly, History, OnlyReads, WritesNothing}
use Rattle.d64_image.specs.declared.faults.DeviceFault.{DeviceFault}
use Rattle.disk_layout.proofs.lemmas.layouts.Layouts.{get-contains}
use Rattle.disk_layout.proofs.lemmas.lists.Lists.{contains-get}
use Rattle.disk_layout.specs.Layout.{IsLayout, Layout}
use Rattle.disk_layout.specs.Rest.{slot_name}
use Rattle.file_changes.specs.Entries.{entries_of}
use Rattle.file_changes.specs.Faults.{TellsChange}
use Rattle.command_faults.specs.Faults.{record_fault}
use Rattle.file_changes.specs.PutWrites.{PutsFile}
use Rattle.file_changes.specs.Puts.{HasPut, IsNewName, IsPutting, Puts, RefusesPut, sectors_for, stored}
use Rattle.command_faults.specs.declared.faults.CommandFault.{CommandFault}
use Rattle.command_faults.specs.declared.faults.CommandFault.TheVariants.{Device, DiskFull, FileExists}
use Rattle.file_changes.specs.declared.file_type.FileType.{FileType}
use Rattle.rel_records.proofs.lemmas.creation.Creating.{creating-before}
use Rattle.rel_records.proofs.lemmas.creation.TakenNames.{slot-taken, taken-slot}
use Rattle.rel_records.specs.Calls.{Chooses}
use Rattle.rel_records.specs.creation.Made.{IsTakenName}
use Rattle.rel_records.specs.creation.Site.{IsSite}
use Rattle.rel_records.specs.declared.creation.site.Site.{Site}
use Rattle.rel_records.specs.declared.faults.RelFault.{RelFault}
use Rattle.rel_records.specs.declared.faults.RelFault.TheVariants as rel

pub some-stored : (bytes : List ℕ) → 0 < length (stored bytes)
some-stored [] = omega arith
some-stored (x ∷ xs) = omega arith

-- a name that an entry has isn't new, and one that none has is
old-name : (l : Layout) (name : List ℕ) → IsTakenName l name → ¬ (IsNewName l name)
old-name l name taken new =
    let (s, on, named) = slot-taken l (entries_of l) (slot_name name) name refl refl taken in
    let (k, there) = contains-get (entries_of l) s on in
    new k s there named

new-name : (l : Layout) (name : List ℕ) → ¬ (IsTakenName l name) → IsNewName l name
new-name l name free k s there named = free (taken-slot l (entries_of l) (slot_name name) name refl refl
    (s, get-contains (entries_of l) k s there, named))

module _ {D : Type 0} (S : History D) (a b : D) (name : List ℕ) (kind : FileType) (bytes : List ℕ)
    (quiet : WritesNothing S a b) where
  abbrev n : ℕ
  n = sectors_for (length (stored bytes))

  -- nothing was written
  held-before : (l : Layout) → IsLayout (S.image a) l
      → HeldOnly S a b (IsPutting (S.image a) l name kind (stored bytes))
  held-before l h = weaker S a b _ _
      (λ c e. subst (λ i. IsPutting (S.image a) l name kind (stored bytes) i) (sym e)
      (inl (creating-before (S.image a) (S.image a) l h (λ q own. refl) refl), λ w. w)) quiet.held

  refused : (f : CommandFault) → ((l : Layout) → IsLayout (S.image a) l
      → RefusesPut {T = Unit {0}} (S.image a) l name (sectors_for (length (stored bytes))) (Err f))
      → (f ≡ FileExists) ⊎ ((f ≡ DiskFull) ⊎ (f ≡ Device)) → (f ≢ Device → OnlyReads S a b 55)
      → TellsChange {T = Unit {0}} S a b (Err f) → Puts S a b name kind bytes (Err f)
  refused f refuses told reads failures = record {
    layout = λ l h. record {
      ok = tt;
      refuses = refuses l h;
      moments = record { held = held-before l h; writes = omega (arith, quiet.writes) };
    };
    told = told;
    refused = reads;
    reads = tt;
    failures = failures;
  }

  refused-for : (e : RelFault) → (e ≡ rel.Exists) ⊎ ((e ≡ rel.Full) ⊎ (e ≡ rel.Device))
      → Chooses S a b name (sectors_for (length (stored bytes))) (Err e) → Puts S a b name kind bytes (Err (record_fault e))
  refused-for e (inl is) chooses =
      let c = subst (λ x. Chooses S a b name n (Err x)) is chooses in
      subst (λ x. Puts S a b name kind bytes (Err (record_fault x))) (sym is) (refused FileExists (λ l h. record {
        exists = λ x. old-name l name ((c.refuses.layout l h).exists refl);
        full = λ x. cc;
        fits = tt;
      }) (inl refl) (λ ne. c.refuses.refused (λ x. cc)) c.refuses.failures)
  refused-for e (inr (inl is)) chooses =
      let c = subst (λ x. Chooses S a b name n (Err x)) is chooses in
      subst (λ x. Puts S a b name kind bytes (Err (record_fault x))) (sym is) (refused DiskFull (λ l h.
      let full = (c.refuses.layout l h).full refl in
      record { exists = λ x. cc; full = λ x. (full.0, new-name l name full.1); fits = tt })
      (inr (inl refl)) (λ ne. c.refuses.refused (λ x. cc)) c.refuses.failures)
  refused-for e (inr (inr is)) chooses =
      let c = subst (λ x. Chooses S a b name n (Err x)) is chooses in
      subst (λ x. Puts S a b name kind bytes (Err (record_fault x))) (sym is) (refused Device
      (λ l h. record { exists = λ x. cc; full = λ x. cc; fits = tt })
      (inr (inr refl)) (λ ne. absurd (ne refl)) c.refuses.failures)

  pub put-refused : (e : RelFault) → Chooses S a b name (sectors_for (length (stored bytes))) (Err e)
      → Puts S a b name kind bytes (Err (record_fault e))
  put-refused e chooses = refused-for e chooses.refuses.told chooses

  module _ (site : Site) (c : D) (chooses : Chooses S a b name (sectors_for (length (stored bytes))) (Ok site))
      (r : Result (Unit {0}) DeviceFault)
      (writes : (l : Layout) → IsSite (S.image b) l (sectors_for (length (stored bytes))) site
      → PutsFile S b c l name kind (stored bytes) r) where
    puts : (l : Layout) → IsLayout (S.image a) l → PutsFile S b c l name kind (stored bytes) r
    puts l h = writes l (subst (λ i. IsSite i l n site) (sym quiet.image) (chooses.ok l h))

    moments : (l : Layout) → IsLayout (S.image a) l
        → Changes S a c (sectors_for (length (stored bytes)) + 3) (IsPutting (S.image a) l name kind (stored bytes))
    moments l h = record {
      held = then S a b c _ (held-before l h) (subst (λ i. HeldOnly S b c (IsPutting i l name kind (stored bytes)))
          quiet.image (puts l h).moments.held);
      writes = omega (arith, (puts l h).moments.writes, quiet.writes);
    }

    pub put-failed : (e : DeviceFault) → r ≡ Err e → Failed S b c → Puts S a c name kind bytes (Err Device)
    put-failed e is failed = record {
      layout = λ l h. record {
        ok = tt;
        refuses = record { exists = λ x. cc; full = λ x. cc; fits = tt };
        moments = moments l h;
      };
      told = inr (inr refl);
      refused = λ ne. absurd (ne refl);
      reads = tt;
      failures = failed_later S a b c chooses.refuses.failures failed;
    }

    pub put-done : r ≡ Ok (tt {0}) → S.failures c ≡ S.failures b → S.reads c ≤ S.reads b
        → Puts S a c name kind bytes (Ok (tt {0}))
    put-done is fine few = record {
      layout = λ l h.
          let fits = (chooses.refuses.layout l h).fits in
          let Q : Result (Unit {0}) DeviceFault
          → Type 0 = λ x. OnOk x (HasPut (S.image b) l name kind (stored bytes) (S.image c)) in
          record {
            ok = subst (λ i. HasPut i l name kind (stored bytes) (S.image c)) quiet.image (subst Q is (puts l h).ok);
            refuses = record { exists = tt; full = tt; fits = (fits.0, new-name l name fits.1) };
            moments = moments l h;
          };
      told = tt;
      refused = tt;
      reads = omega (arith, few, chooses.reads);
      failures = fine ∙ chooses.refuses.failures;
    }
