-- The steps of a survey: files found one by one, with a table of the owners.
use Rattle.std.proofs.Common.{ℕ, ◌≡◌, ◌<◌, ◌≤◌, ◌+◌, ◌*◌, ◌⊎◌, List, [], ◌∷◌, ◌++◌, length}
use Rattle.std.proofs.Common.{length-append}
use Rattle.std.proofs.Common.{get_or, map, take, refl, sym, ◌∙◌, ap, subst, arith, inl, inr}
use Rattle.std.proofs.Common.{drop, ◌↔◌, Err, IsOk, Result}
use Rattle.std.specs.Prelude.{Contains, None, Option, flat_map}
use Rattle.std.specs.Option.{option_or}
use Rattle.std.proofs.lemmas.Bool.{false≢true}
use Rattle.std.proofs.lemmas.Grind.{flat_map-append}
use Rattle.std.proofs.lemmas.List.{length-take, take-append-drop, take_all, take_more}
use Rattle.std.proofs.lemmas.List.Elements.{Contains-append_left, Contains-append_right}
use Rattle.d64_image.specs.History.{History, NeverFailed}
use Rattle.d64_image.specs.Images.{Image}
use Rattle.d64_image.specs.declared.place.Place.{Place}
use Rattle.disk_layout.proofs.lemmas.layouts.Twice.{told-unsound}
use Rattle.disk_layout.proofs.lemmas.lists.Count.{places-few}
use Rattle.disk_layout.proofs.lemmas.lists.Once.{Contains-cases, Contains-nil}
use Rattle.disk_layout.specs.Directory.{IsDirectory}
use Rattle.disk_layout.specs.Fault.{Owns, blocks_of, sides_of}
use Rattle.disk_layout.specs.Layout.{File, IsFile, IsSound, file_owns, owners}
use Rattle.disk_layout.specs.declared.faults.Fault.{Fault}
use Rattle.disk_layout.specs.declared.slot.Slot.{Slot}
use Rattle.layout_check.proofs.lemmas.judging.Calls.{holds_alone, passes_then, passes_weaker, tells_then, twice_tells}
use Rattle.layout_check.proofs.lemmas.owners.Claims.{not_before}
use Rattle.layout_check.proofs.lemmas.owners.Clashes.{clash-holds}
use Rattle.layout_check.proofs.lemmas.judging.Judged.{judged-at, judged-more}
use Rattle.layout_check.proofs.lemmas.finding.Listed.{entries-once, entry-listed}
use Rattle.layout_check.specs.Calls.{Passes, TellsUnsound}
use Rattle.layout_check.specs.Entry.{IsEntry}
use Rattle.layout_check.specs.Exact.{ToldOfFiles}
use Rattle.layout_check.specs.SurveyedEntry.{SurveysEntry, TellsOrClashes}
use Rattle.layout_check.specs.Owners.{IsSystem}
use Rattle.layout_check.specs.Survey.{IsSurveyed, IsTable, Surveys, taken}
use Rattle.layout_check.specs.declared.survey_outcome.Survey.{Survey}
use Rattle.layout_check.specs.declared.owners.Owners.{Owners}
use Rattle.layout_check.proofs.lemmas.finding.SurveySteps.{survey-start, survey-step}

-- how many sectors these files have
abbrev pub own_of : List File → ℕ
own_of fs = length (flat_map file_owns fs)

own-push : (fs : List File) (g : File) → own_of (fs ++ g ∷ []) ≡ own_of fs + length (file_owns g)
own-push fs g = ap length (flat_map-append file_owns fs (g ∷ []))
    ∙ length-append (flat_map file_owns fs) (file_owns g ++ [])
    ∙ omega (arith, length-append {A = Place} (file_owns g) [])

map-push : (fs : List File) (g : File) → map (λ f. f.slot) (fs ++ g ∷ []) ≡ map (λ f. f.slot) fs ++ g.slot ∷ []
map-push [] g = refl
map-push (f ∷ fs) g = ap (λ xs. f.slot ∷ xs) (map-push fs g)

length-slots : (fs : List File) → length (map (λ f. f.slot) fs) ≡ length fs
length-slots [] = refl
length-slots (f ∷ fs) = omega (arith, length-slots fs)

pub slot-in : (fs : List File) (f : File) → Contains fs f → Contains (map (λ f. f.slot) fs) f.slot
slot-in [] f c = absurd (Contains-nil f c)
slot-in (x ∷ fs) f c = elim (Contains-cases f x fs c) [
  | inl e ↦ let P : File → Type 0 = λ y. Contains (x.slot ∷ map (λ f. f.slot) fs) y.slot in
      subst P e (Contains-append_left (x.slot ∷ []) (map (λ f. f.slot) fs) x.slot (0, omega arith, refl))
  | inr r ↦ Contains-append_right (x.slot ∷ []) (map (λ f. f.slot) fs) f.slot (slot-in fs f r)
]

-- the same list under another name
pub listed-as : (img : Image) (dir : List Place) (es items : List Slot) → items ≡ es → IsDirectory img dir es
    → IsDirectory img dir items
listed-as img dir es items same d = let P : List Slot → Type 0 = λ xs. IsDirectory img dir xs in subst P (sym same) d

pub same-system : (t : Owners) (items dir : List Place) → items ≡ dir → IsSystem t items → IsSystem t dir
same-system t items dir same s = let P : List Place → Type 0 = IsSystem t in subst P same s

-- a fault, in place of an answer of this type
abbrev pub told : (T : Type 0) → Fault → Result T Fault
told T f = Err f

module _ {D : Type 0} (S : History D) where
  -- as far as the survey has come: the files of the first n entries of the directory, and what was kept back of them
  pub record IsFar (a b : D) (es : List Slot) (n : ℕ) (t : Owners) (kept : Option Fault) : Type 0 where
    pub directory : List Place
    pub listed : IsDirectory (S.image a) directory es
    pub files : List File
    pub slots : map (λ f. f.slot) files ≡ take n es
    pub surveyed : IsSurveyed (S.image a) directory files t
    pub judged : ToldOfFiles (S.image a) files kept
    pub passes : Passes S a b (18 + length directory + 2 * own_of files)

  pub far-start : (a b : D) (dir : List Place) (es : List Slot) (t : Owners) → IsDirectory (S.image a) dir es
      → IsSystem t dir → Passes S a b (18 + length dir) → IsFar a b es 0 t None
  far-start a b dir es t d s passes = record {
    directory = dir;
    listed = d;
    files = [];
    slots = refl;
    surveyed = survey-start (S.image a) dir es t d s;
    judged = tt;
    passes = passes_weaker S a b (18 + length dir) _ (omega arith) passes;
  }

  -- what is owned are 683 sectors at most
  far-few : (a b : D) (es : List Slot) (n : ℕ) (t : Owners) (kept : Option Fault) → (h : IsFar a b es n t kept)
      → length h.directory + own_of h.files ≤ 682
  far-few a b es n t kept h = omega (
    arith,
    places-few (taken h.directory h.files) h.surveyed.once,
    length-append h.directory (flat_map file_owns h.files),
  )

  pub far-entry : (a b : D) (es : List Slot) (n : ℕ) (t : Owners) (kept : Option Fault) (s : Slot)
      → IsFar a b es n t kept → n < length es → s ≡ get_or es n s → IsEntry (S.image b) s
  far-entry a b es n t kept s h below read =
      let P : Image → Type 0 = λ i. IsEntry i s in
      subst P (sym h.passes.reads.image) (entry-listed (S.image a) h.directory es s h.listed (n, below, sym read))

  pub far-step : (a b c : D) (es : List Slot) (n : ℕ) (t u : Owners) (kept found : Option Fault) (s : Slot)
      → IsFar a b es n t kept → n < length es → n < 254 → s ≡ get_or es n s → SurveysEntry S b c s n t u found
      → IsFar a c es (n + 1) u (option_or kept found)
  far-step a b c es n t u kept found s h below small read (g, is, judged, passes) =
      let file = (let P : Image → Type 0 = λ i. IsFile i g in subst P h.passes.reads.image is.file) in
      let many : n ≡ length h.files = omega (arith, length-slots h.files, ap length h.slots, length-take n es) in
      record {
        directory = h.directory;
        listed = h.listed;
        files = h.files ++ g ∷ [];
        slots = map-push h.files g ∙ ap (λ xs. xs ++ g.slot ∷ []) h.slots ∙ ap (λ x. take n es ++ x ∷ []) (is.slot
            ∙ read) ∙ sym (take_more es n s below);
        surveyed = survey-step (S.image a) h.directory h.files t is.between u g n h.surveyed file many small is.blocks
            is.sides is.blocks_once is.sides_once;
        judged = judged-more (S.image a) h.files g kept found h.judged (judged-at (S.image a) (S.image b) g found
            h.passes.reads.image judged);
        passes = passes_then S a b c (18 + length h.directory + 2 * own_of h.files) (2 * length (file_owns g)) _
            (omega (arith, own-push h.files g)) h.passes passes;
      }

  pub far-tells : (a b c : D) (es : List Slot) (n : ℕ) (t : Owners) (kept : Option Fault) (s : Slot) (f : Fault)
      → IsFar a b es n t kept → n < length es → s ≡ get_or es n s → TellsOrClashes S b c s t f
      → TellsUnsound S a c 2114 f
  far-tells a b c es n t kept s f h below read (inl tells) =
      tells_then S a b c _ 732 2114 f (omega (arith, far-few a b es n t kept h)) h.passes tells
  far-tells a b c es n t kept s f h below read (inr clash) =
      let passes = passes_then S a b c _ 732 2114 (omega (arith, far-few a b es n t kept h)) h.passes clash.passes in
      let once = entries-once (S.image a) h.directory es h.listed in
      let holds = clash-holds (S.failed_at c) (S.image a) h.directory es h.files s clash.place h.listed h.surveyed.files
      (λ x there. let in_front : Contains (take n es) x.slot = rw (← h.slots) (slot-in h.files x there) in
      (before in_front, λ e. not_before es n s below read once (rw (← e) in_front)))
      ((h.surveyed.table.owned clash.place).0 clash.owned)
      (let P : Image → Type 0 = λ i. Owns i (blocks_of s) clash.place ⊎ Owns i (sides_of s) clash.place in
      subst P h.passes.reads.image clash.has) in
      let P : Fault → Type 0 = λ x. TellsUnsound S a c 2114 x in
      subst P (sym clash.told) (twice_tells S a c 2114 clash.place passes holds)
    where
      before : {x : Slot} → Contains (take n es) x → Contains es x
      before {x} c = let P : List Slot → Type 0 = λ xs. Contains xs x in
          subst P (take-append-drop n es) (Contains-append_left (take n es) (drop n es) x c)

  -- all entries found: the image is sound, and the survey tells its layout
  pub far-end : (a b : D) (es : List Slot) (n : ℕ) (t : Owners) (kept : Option Fault) (s : Survey)
      → IsFar a b es n t kept → length es ≤ n → length es ≤ 144 → s.owners ≡ t → s.entries ≡ length es
      → Surveys S a b (record { survey = s; unclean = kept })
  unfolding owners
  far-end a b es n t kept s h all small table entries =
      let same : map (λ f. f.slot) h.files ≡ es = h.slots ∙ take_all n es all in (
        record { directory = h.directory; files = h.files },
        record { directory = rw same h.listed; files = h.surveyed.files; once = h.surveyed.once },
        record {
          table = let P : Owners → Type 0 = λ o. IsTable o h.directory h.files in subst P (sym table) h.surveyed.table;
          once = h.surveyed.once;
          entries = omega (arith, entries, ap length same, length-slots h.files);
          few = omega (arith, entries);
          on_track = h.listed.on_track;
        },
        h.judged,
        passes_weaker S a b _ _ (omega (arith, length-append h.directory (flat_map file_owns h.files))) h.passes,
      )

  -- where the device doesn't fail, a fault is told exactly where the image isn't sound
  pub told-sound : (T : Type 0) (a b : D) (n : ℕ) (f : Fault) → TellsUnsound S a b n f → NeverFailed S a b
      → IsOk (told T f) ↔ IsSound (S.image a)
  told-sound T a b n f tells never = (
    λ h. absurd (false≢true h),
    λ s. absurd (told-unsound (S.image a) f (holds_alone S ℕ a b f never tells.failures tells.holds) s),
  )
