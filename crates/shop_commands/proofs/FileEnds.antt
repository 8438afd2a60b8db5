-- What comes of a play over the file of a mirror, from that over the mirror and whether it is broken.
use Rattle.std.proofs.Common.{◌≡◌, ◌≢◌, ◌<◌, ◌≤◌, ◌⊎◌, ℕ, List, None, Result, Ok, Err, arith, inl, inr}
use Rattle.std.proofs.Common.{length, refl, subst, sym, ap, ⊎_elim}
use Rattle.std.proofs.lemmas.Bool.{cases_lt}
use Rattle.std.specs.Prelude.{IfErr, OnOk}
use Rattle.d64_image.specs.declared.kept_mirror.KeptMirror.{KeptMirror}
use Rattle.d64_image.specs.declared.sector_file.SectorFile.{Ghosts}
use Rattle.d64_image.specs.FileDisks.{FileDisk, in_run}
use Rattle.d64_image.specs.History.{Failed}
use Rattle.d64_image.specs.Keeps.{FileFailed, Keeps}
use Rattle.d64_image.specs.Memory.{sectors_in}
use Rattle.d64_image.specs.KeptMirrors.{IsMirrored, is_broken, mirror, mirror_image}
use Rattle.d64_image.proofs.FileRuns.{file_disk, file_failed, not_failed}
use Rattle.host_session.proofs.lemmas.Held.{same_file}
use Rattle.host_session.specs.declared.faults.OpenFault.{OpenFault}
use Rattle.host_session.specs.declared.faults.OpenFault.TheVariants as opening
use Rattle.host_session.specs.declared.runs.scripts.ScriptFault.{ScriptFault}
use Rattle.host_session.specs.declared.runs.scripts.ScriptFault.TheVariants as script_faults
use Rattle.host_session.specs.events.Telling.{Output}
use Rattle.host_session.specs.runs.ScriptRuns.{IsScriptRun}
use Rattle.host_session.specs.session.Opening.{Refuses}
use Rattle.line_text.specs.scripts.Lines.{lines}
use Rattle.line_text.specs.scripts.Resets.{first_bad}
use Rattle.shop_commands.specs.Faults.{opening_fault, script_fault}
use Rattle.command_faults.specs.Faults.{IsLoadFault}
use Rattle.shop_commands.specs.Plays.{IsFileFault, IsPlayEnd, IsPlayedFile, IsStopped, IsTakenUp}
use Rattle.command_faults.specs.declared.faults.CommandFault.{CommandFault}
use Rattle.command_faults.specs.declared.faults.CommandFault.TheVariants as faults
use Rattle.shop_commands.proofs.FileScripts.{end_of_file, refused_reached, refuses_so, script_of_file}
use Rattle.shop_commands.proofs.PlayEnds.{fault_in, left_in, none-of}
use Rattle.command_faults.proofs.HandedBack.{handed-back}
use Rattle.command_faults.proofs.Loads.{by-load}

-- a file failed, or it didn't
pub failed_stably : {F : Type 0} (K : Keeps F) (a b : F) → ((FileFailed K a b → ⊥) → ⊥) → FileFailed K a b
failed_stably K a b not_never = record {
  later = ⊎_elim
      (λ (less : K.failures b < K.failures a). absurd (not_never (λ f. omega (arith, less, f.later))))
      (λ le. le)
      (cases_lt (K.failures b) (K.failures a));
  rose = λ few. ⊎_elim
      (λ (less : K.failures a < K.failures b). less)
      (λ (le : K.failures b ≤ K.failures a). absurd (not_never (λ f. omega (arith, le, f.rose few))))
      (cases_lt (K.failures a) (K.failures b));
}

module _ {F T : Type 0} {G : Ghosts F} (o : Output T) (image script : List ℕ) (start : KeptMirror F G)
    (sound : is_broken start → ⊥) (untaken : start.taken.n ≡ 0)
    (size : length image ≡ 174848) (holds : mirror_image start ≡ sectors_in image) (old new : T) (m : KeptMirror F G) where
  taken_up : {Ends : FileDisk G.keeps → FileDisk G.keeps → Type 0} → Ends (file_disk start) (file_disk m)
      → IsTakenUp G.keeps image start.file m.file Ends
  taken_up ends = record {
    size = size;
    disk = file_disk start;
    is_file = refl;
    holds = holds;
    left = file_disk m;
    is_after = refl;
    ends = ends;
  }

  over_file : (r : Result (KeptMirror F G) (CommandFault × KeptMirror F G)) → IsPlayEnd mirror o start script old new r
      → IsPlayEnd (in_run G.keeps start.file) o (file_disk start) script old new (end_of_file r)
  over_file (Ok left) x = (script_of_file o start sound untaken old new script (Ok left) x.0, x.1)
  over_file (Err e) x = ⊎_elim
      (λ y. inl (y.0, script_of_file o start sound untaken old new script (Ok e.1) y.1))
      (λ y. inr (y.0, y.1, script_of_file o start sound untaken old new script (Err (y.0, e.1)) y.2))
      x

  reached_at_ok : IsScriptRun mirror o start script old new (Ok m) → IsMirrored start m
  reached_at_ok x = let s = x.shop in (x.moments s.0 s.1).reached

  -- each line was played, and the file is whole
  pub whole_at_ok : (is_broken m → ⊥) → IsPlayEnd mirror o start script old new (Ok m)
      → IsPlayedFile G.keeps o image script start.file m.file old new
  whole_at_ok whole x = ((reached_at_ok x.0).unfailed whole, taken_up (over_file (Ok m) x))

  file_at : (is_broken m → ⊥) → IsMirrored start m → IsPlayEnd mirror o start script old new (Err (faults.File, m))
      → IsFileFault G.keeps o image script start.file m.file old new faults.File
  file_at whole reached x = (reached.unfailed whole, taken_up (over_file (Err (faults.File, m)) x))

  refused_at : (f : OpenFault) → f ≢ opening.Device → first_bad (lines script) ≡ None → m.file ≡ start.file → new ≡ old
      → Refuses ⊥ (sectors_in image) f → IsFileFault G.keeps o image script start.file m.file old new (opening_fault f)
  refused_at (opening.Layout x) other none same still is =
      (none, record { size = size; opening = opening.Layout x; is = refl; refuses = is }, (same, still))
  refused_at opening.NoStock other none same still is =
      (none, record { size = size; opening = opening.NoStock; is = refl; refuses = is }, (same, still))
  refused_at opening.NoRequests other none same still is =
      (none, record { size = size; opening = opening.NoRequests; is = refl; refuses = is }, (same, still))
  refused_at (opening.BadCard r) other none same still is =
      (none, record { size = size; opening = opening.BadCard r; is = refl; refuses = is }, (same, still))
  refused_at (opening.BadRequestCard t) other none same still is =
      (none, record { size = size; opening = opening.BadRequestCard t; is = refl; refuses = is }, (same, still))
  refused_at opening.TwoIntents other none same still is =
      (none, record { size = size; opening = opening.TwoIntents; is = refl; refuses = is }, (same, still))
  refused_at opening.Device other none same still is = absurd (other refl)

  -- no line is bad, but where that is told
  no_bad_line : (fault : ScriptFault) → IsScriptRun mirror o start script old new (Err (fault, m))
      → ((n : ℕ) → fault ≢ script_faults.BadLine n)
      → first_bad (lines script) ≡ None
  no_bad_line fault x other = none-of (first_bad (lines script)) (λ n is. other n (ap fault_in (x.bad_line n is).0))

  -- a fault ended the run, and the file is whole
  script_at : (is_broken m → ⊥) → (f : ScriptFault) → IsScriptRun mirror o start script old new (Err (f, m))
      → IsFileFault G.keeps o image script start.file m.file old new (script_fault f)
  script_at whole (script_faults.Open f) x =
      let y = x.«open» f refl in
      let other : f ≢ opening.Device =
      λ is. not_failed start m whole (subst (Refuses (Failed mirror start m) (mirror_image start)) is y.0.refused) in
      refused_at f other (no_bad_line (script_faults.Open f) x (λ n is. cc))
      (same_file start m _ untaken (y.0.kept other) whole) y.1
      (subst (λ img. Refuses ⊥ img f) holds
      (refuses_so _ _ (mirror_image start) f (not_failed start m whole) y.0.refused))
  script_at whole (script_faults.BadLine n) x =
      let first = x.good n refl in
      let y = x.bad_line n first in
      let same : m ≡ start = ap left_in y.0 in
      (size, first, (ap (λ (k : KeptMirror F G). k.file) same, y.1))
  script_at whole script_faults.Output x =
      let s = x.after refl in
      file_at whole (x.moments s.0 s.1).reached (inr (script_faults.Output, refl, x))
  script_at whole script_faults.Device x = absurd (not_failed start m whole (x.cause refl).1)

  pub whole_at_err : (is_broken m → ⊥) → (fault : CommandFault) → IsPlayEnd mirror o start script old new (Err (fault, m))
      → IsFileFault G.keeps o image script start.file m.file old new fault
  whole_at_err whole fault x = ⊎_elim
      (λ y. subst (λ f. IsFileFault G.keeps o image script start.file m.file old new f) (sym y.0)
      (file_at whole (reached_at_ok y.1) (inl (refl, y.1))))
      (λ y. subst (λ f. IsFileFault G.keeps o image script start.file m.file old new f) (sym y.1)
      (script_at whole y.0 y.2))
      x

  failed_at_err : is_broken m → (f : ScriptFault) → IsScriptRun mirror o start script old new (Err (f, m))
      → FileFailed G.keeps start.file m.file
  failed_at_err broken (script_faults.Open f) x = failed_stably G.keeps start.file m.file
      (λ never. refused_reached o start sound untaken old new m f (x.«open» f refl).0
      (λ y. never (file_failed start sound m y broken)))
  failed_at_err broken (script_faults.BadLine n) x =
      let y = x.bad_line n (x.good n refl) in
      let same : m ≡ start = ap left_in y.0 in
      absurd (sound (subst (λ (k : KeptMirror F G). is_broken k) same broken))
  failed_at_err broken script_faults.Output x = let s = x.after refl in
      file_failed start sound m (x.moments s.0 s.1).reached broken
  failed_at_err broken script_faults.Device x = let s = (x.cause refl).0 in
      file_failed start sound m (x.moments s.0 s.1).reached broken

  -- the file failed
  pub broken_at_ok : is_broken m → IsPlayEnd mirror o start script old new (Ok m)
      → IsStopped G.keeps o image script start.file m.file old new
  broken_at_ok broken x = (file_failed start sound m (reached_at_ok x.0) broken, inl (taken_up (over_file (Ok m) x)))

  pub broken_at_err : is_broken m → (fault : CommandFault) → IsPlayEnd mirror o start script old new (Err (fault, m))
      → IsStopped G.keeps o image script start.file m.file old new
  broken_at_err broken fault x = (
    ⊎_elim (λ y. file_failed start sound m (reached_at_ok y.1) broken) (λ y. failed_at_err broken y.0 y.2) x,
    inr (fault, taken_up (over_file (Err (fault, m)) x)),
  )

  -- what is handed back of a play that came to its end
  pub handed_at_ok : (file : F) (out : F × Result Unit CommandFault) → start.file ≡ file → out.0 ≡ m.file
      → IsPlayEnd mirror o start script old new (Ok m)
      → (is_broken m × (out.1 ≡ Err faults.Device)) ⊎ ((is_broken m → ⊥) × (out.1 ≡ Ok tt))
      → OnOk out.1 (IsPlayedFile G.keeps o image script file out.0 old new)
      × IfErr out.1 (IsFileFault G.keeps o image script file out.0 old new)
  handed_at_ok file out first after x end = handed-back (λ f a e. OnOk e (IsPlayedFile G.keeps o image script f a old new)
      × IfErr e (IsFileFault G.keeps o image script f a old new)) start m file (Ok tt) out first after
      (λ broken. (tt, broken_at_ok broken x)) (λ whole. (whole_at_ok whole x, tt)) end

  -- and of one that a fault ended
  pub handed_at_err : (file : F) (fault : CommandFault) (out : F × Result Unit CommandFault) → start.file ≡ file
      → out.0 ≡ m.file → IsPlayEnd mirror o start script old new (Err (fault, m))
      → (is_broken m × (out.1 ≡ Err faults.Device)) ⊎ ((is_broken m → ⊥) × (out.1 ≡ Err fault))
      → OnOk out.1 (IsPlayedFile G.keeps o image script file out.0 old new)
      × IfErr out.1 (IsFileFault G.keeps o image script file out.0 old new)
  handed_at_err file fault out first after x end = handed-back
      (λ f a e. OnOk e (IsPlayedFile G.keeps o image script f a old new)
      × IfErr e (IsFileFault G.keeps o image script f a old new)) start m file (Err fault) out first after
      (λ broken. (tt, broken_at_err broken fault x)) (λ whole. (tt, whole_at_err whole fault x)) end

-- nothing was done where the image wasn't loaded
pub unloaded : {F T : Type 0} (K : Keeps F) (o : Output T) (image script : List ℕ) (file : F) (out : T)
    (fault : CommandFault) → IsLoadFault image fault → IsFileFault K o image script file file out out fault
unloaded K o image script file out = by-load image (IsFileFault K o image script file file out out)
    (λ size. (size, (refl, refl))) (λ size. (size, (refl, refl)))
