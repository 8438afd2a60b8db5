-- A repair's run: the images held, the fault told, what is left at the end, and that a clean disk is not written.
use Rattle.std.proofs.Common.{ℕ, ◌≡◌, ◌≤◌, List, [], Err, sym, subst, arith}
use Rattle.d64_image.proofs.Moments.{changes_then, changes_weaker, failed_later, never_failed, reads_change}
use Rattle.d64_image.specs.History.{Changes, History, NeverFailed, OnlyReads}
use Rattle.d64_image.specs.Images.{Image}
use Rattle.d64_image.specs.declared.place.Place.{Place}
use Rattle.disk_layout.proofs.lemmas.layouts.Layouts.{IsLayout-one}
use Rattle.disk_layout.specs.Clean.{IsClean}
use Rattle.disk_layout.specs.Fault.{Holds, TellsFault}
use Rattle.disk_layout.specs.Layout.{IsLayout, Layout}
use Rattle.disk_layout.specs.Same.{SameFiles}
use Rattle.disk_layout.specs.declared.faults.Fault.{Fault}
use Rattle.layout_check.proofs.lemmas.judging.Verdict.{marks-of}
use Rattle.layout_check.proofs.lemmas.mending.MapMends.{mends_weaker}
use Rattle.layout_check.proofs.lemmas.mending.Mendings.{mended-start, mended-then}
use Rattle.layout_check.proofs.lemmas.repairing.Repairs.{clean-after, clean-counts, clean-sides, survey-same}
use Rattle.layout_check.specs.Exact.{HasMapBut}
use Rattle.layout_check.specs.Keeping.{IsCleanBut, IsMendedBut, MarksTaken}
use Rattle.layout_check.proofs.lemmas.owners.Numbers.{numbers-of}
use Rattle.layout_check.specs.Owners.{NumbersFiles}
use Rattle.layout_check.specs.Mended.{AreExactFor, IsMended, KeepsLayouts, Mends, SameMap, TellsDevice}
use Rattle.layout_check.specs.Recounted.{AreCounted, KeepsButCounts}
use Rattle.layout_check.specs.Repaired.{IsRepaired, MendsFrom}
use Rattle.layout_check.specs.Survey.{IsSurveyOf, IsToldBy}
use Rattle.layout_check.specs.declared.survey_outcome.Survey.{Survey}

-- map, side sectors and counts in turn: the last image is the mended one
pub repaired : (strays : List Place) (a b c d : Image) (l : Layout) → IsLayout a l → HasMapBut strays b
    → KeepsLayouts a b → KeepsLayouts b c → SameMap b c → AreExactFor b c → KeepsButCounts c d
    → ((l : Layout) → IsLayout a l → IsMended a l d) → AreCounted d → IsMendedBut strays a d
repaired strays a b c d l is right ab bc map exact cd held counted =
    let h = cd l (bc l (ab l is)) in
    let clean = clean-after strays b c d l (ab l is) right bc map exact h counted in
    let x = held l is in
    let one : x.layout ≡ h.layout = IsLayout-one d x.layout h.layout x.sound h.sound in
    let same : SameFiles a d l h.layout = (let P : Layout → Type 0 = SameFiles a d l in subst P one x.same) in
    record {
      before = l;
      after = h.layout;
      sound = is;
      clean = clean;
      same = same;
    }

-- with no strays it is clean, and the survey tells its layout
pub cleaned : (a d : Image) (s : Survey) → IsToldBy a s → IsMendedBut [] a d → IsRepaired a d s
cleaned a d s (l, is, of) h = record {
  before = h.before;
  after = h.after;
  sound = h.sound;
  clean = record { layout = h.clean.layout; files = h.clean.files; map = h.clean.map };
  same = h.same;
  told = survey-same a d h.before h.after s h.same h.clean.layout.once
      (let P : Layout → Type 0 = λ x. IsSurveyOf x s in subst P (IsLayout-one a l h.before is h.sound) of);
}

pub clean_but : (a : Image) → (clean : IsClean a) → IsCleanBut [] a clean.0
clean_but a (l, clean) = record { layout = clean.layout; files = clean.files; map = clean.map }

pub sides-at : (strays : List Place) (a b : Image) (l : Layout) → b ≡ a → IsCleanBut strays a l → AreExactFor b b
sides-at strays a b l e clean = let P : Image → Type 0 = λ i. AreExactFor i i in
    subst P (sym e) (clean-sides strays a l clean)

pub counts-at : (strays : List Place) (a b : Image) (l : Layout) → b ≡ a → IsCleanBut strays a l → AreCounted b
counts-at strays a b l e clean = let P : Image → Type 0 = AreCounted in subst P (sym e) (clean-counts strays a l clean)

module _ {D : Type 0} (S : History D) where
  pub mends_from : (a b : D) (n : ℕ) → n ≤ 883 → Mends S a b n → MendsFrom S a b 883
  mends_from a b n le h l is = mends_weaker S a b n 883 le h (S.image a) l (mended-start (S.image a) l is)

  -- a call that recounts mends
  pub counts_mend : (a b : D) → Changes S a b 18 (KeepsButCounts (S.image a)) → Mends S a b 18
  counts_mend a b h i l is = changes_weaker S a b 18 18 (KeepsButCounts (S.image a)) (IsMended i l) (omega arith)
      (λ x keeps. let k = keeps is.layout is.sound in mended-then i l (S.image a) x k.layout is k.sound k.files) h

  -- reads before it, and the images held are mended from the first one all the same
  pub mends_after : (a b c : D) (k : ℕ) → OnlyReads S a b k → MendsFrom S b c 883 → MendsFrom S a c 883
  mends_after a b c k reads mends l is =
      changes_then S a b c 0 883 883 (IsMended (S.image a) l) (omega arith)
      (reads_change S a b k (IsMended (S.image a) l) reads (mended-start (S.image a) l is))
      (let P : Image → Type 0 = λ i. (m : Layout) → IsLayout i m → Changes S b c 883 (IsMended i m) in
      subst P reads.image mends l is)

  pub clean_after : (strays : List Place) (a b : D) (l : Layout) (k : ℕ) → OnlyReads S a b k
      → IsCleanBut strays (S.image a) l → IsCleanBut strays (S.image b) l
  clean_after strays a b l k reads clean = let P : Image → Type 0 = λ i. IsCleanBut strays i l in
      subst P (sym reads.image) clean

  -- reads alone
  pub mends_none : (a b : D) (k : ℕ) → OnlyReads S a b k → MendsFrom S a b 883
  mends_none a b k reads l is =
      changes_weaker S a b 0 883 (IsMended (S.image a) l) (IsMended (S.image a) l) (omega arith) (λ c h. h)
      (reads_change S a b k (IsMended (S.image a) l) reads (mended-start (S.image a) l is))

  pub told_after : (a b : D) (s : Survey) (k : ℕ) → OnlyReads S a b k → IsToldBy (S.image a) s → IsToldBy (S.image b) s
  told_after a b s k reads told = let P : Image → Type 0 = λ i. IsToldBy i s in subst P (sym reads.image) told

  pub mended_after : (strays : List Place) (a b c : D) (k : ℕ) → OnlyReads S a b k
      → IsMendedBut strays (S.image b) (S.image c) → IsMendedBut strays (S.image a) (S.image c)
  mended_after strays a b c k reads h = let P : Image → Type 0 = λ i. IsMendedBut strays i (S.image c) in
      subst P reads.image h

  -- the table of a survey calls what is owned taken, and numbers the files, after the reads too
  pub marked_after : (a b : D) (s : Survey) (k : ℕ) → OnlyReads S a b k → (told : IsToldBy (S.image a) s)
      → IsLayout (S.image b) told.0 × MarksTaken s.owners told.0 [] × NumbersFiles s.owners told.0
  marked_after a b s k reads (l, is, of) =
      let P : Image → Type 0 = λ i. IsLayout i l in
      (subst P (sym reads.image) is, marks-of l s of, numbers-of l s of)

  -- a failure of the device behind calls that met none
  pub device_holds : (a b : D) (img : Image) (f : Fault) → TellsDevice {T = Unit {0}} S a b (Err f)
      → Holds (S.failed_at b) img f
  device_holds a b img f (failed, (p, e, there)) = let P : Fault → Type 0 = Holds (S.failed_at b) img in
      subst P (sym e) there

  pub device_sound : (a b c : D) (f : Fault) → S.failures b ≡ S.failures a → TellsDevice {T = Unit {0}} S b c (Err f)
      → ¬ (NeverFailed S a c)
  device_sound a b c f same (failed, told) never = never_failed S a c never (failed_later S a b c same failed)

  pub device_tells : (T : Type 0) (a b c : D) (f : Fault) → S.failures b ≡ S.failures a
      → TellsDevice {T = Unit {0}} S b c (Err f) → TellsFault {T = T} S a c (Err f)
  device_tells T a b c f same (failed, (p, e, there)) = let P : Fault
      → Type 0 = λ x. TellsFault {T = T} S a c (Err x) in subst P (sym e) (failed_later S a b c same failed)
