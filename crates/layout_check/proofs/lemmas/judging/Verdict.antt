-- A sound disk beside a clean one: its entries, its map, and what is told.
use Rattle.std.proofs.Common.{
  ℕ,
  ◌≡◌,
  ◌≢◌,
  ◌<◌,
  ◌≤◌,
  ◌⊎◌,
  ◌↔◌,
  Err,
  IsOk,
  List,
  [],
  ◌∷◌,
  ◌++◌,
  length,
  get_or,
  map,
  sym,
  refl,
  arith,
  subst,
  inl,
  inr,
}
use Rattle.std.specs.Prelude.{Contains, None, Option}
use Rattle.std.specs.List.{AllByRecursion}
use Rattle.std.proofs.lemmas.Bool.{cases_eq, false≢true}
use Rattle.d64_image.specs.History.{History, NeverFailed}
use Rattle.d64_image.specs.Images.{Image, sector}
use Rattle.d64_image.specs.declared.place.Place.{Place}
use Rattle.d64_image.proofs.Places.{track_fits, track_from_1}
use Rattle.disk_layout.proofs.lemmas.layouts.Layouts.{IsDirectory-one, IsLayout-one}
use Rattle.disk_layout.proofs.lemmas.layouts.Unclean.{told-unclean}
use Rattle.disk_layout.proofs.lemmas.lists.Once.{Contains-here, Contains-there, map-in}
use Rattle.disk_layout.specs.Clean.{IsClean, IsCleanLayout}
use Rattle.disk_layout.specs.Directory.{IsDirectory, map_place}
use Rattle.disk_layout.specs.Fault.{HoldsOfClean, TellsFault}
use Rattle.disk_layout.specs.Layout.{File, IsLayout, IsSound, Layout, owners}
use Rattle.disk_layout.specs.Map.{IsFree, IsMapOf, map_count}
use Rattle.disk_layout.specs.declared.faults.Fault.{Fault}
use Rattle.disk_layout.specs.declared.faults.Fault.TheVariants.{MapWrong}
use Rattle.disk_layout.specs.declared.slot.Slot.{Slot}
use Rattle.layout_check.proofs.lemmas.judging.Inexact.{clean_alone}
use Rattle.layout_check.proofs.lemmas.finding.Progress.{told}
use Rattle.layout_check.specs.Calls.{Passes}
use Rattle.layout_check.specs.Exact.{HasMap, HasMapBut, IsFiled, TellsUnclean, ToldOfFiles}
use Rattle.layout_check.specs.Keeping.{MarksTaken}
use Rattle.layout_check.specs.Marked.{IsMarked, IsRightMap, IsWrongMap, ones_on}
use Rattle.layout_check.specs.Owners.{owner_of}
use Rattle.layout_check.specs.Survey.{IsSurveyOf, IsToldBy, Surveys}
use Rattle.layout_check.specs.declared.survey_outcome.Findings.{Findings}
use Rattle.layout_check.specs.declared.survey_outcome.Survey.{Survey}
use Rattle.layout_check.specs.declared.owners.Owners.{Owners}

-- what holds of each that is in the list
pub all-of : {X : Type 0} (P : X → Type 0) (xs : List X) → ((x : X) → Contains xs x → P x) → AllByRecursion P xs
all-of P [] h = tt
all-of P (x ∷ xs) h = (h x (Contains-here x xs), all-of P xs (λ y c. h y (Contains-there y x xs c)))

-- an entry that the directory lists is that of a file
filed : (img : Image) (ps : List Place) (items : List Slot) (s : Slot) → IsSound img → IsDirectory img ps items
    → Contains items s → IsFiled img s
filed img ps items s (l, is) d c =
    let same = (IsDirectory-one img ps l.directory items (map (λ f. f.slot) l.files) d is.directory).1 in
    let (f, own, slot) = map-in (λ (x : File). x.slot) l.files s (let P : List Slot → Type 0 = λ xs. Contains xs s in
    subst P same c) in
    record { layout = l; sound = is; file = f; own = own; slot = slot }

pub filed-at : (img now : Image) (ps : List Place) (items : List Slot) (k : ℕ) (s : Slot) → now ≡ img → IsSound img
    → IsDirectory img ps items → k < length items → s ≡ get_or items k s → IsFiled now s
filed-at img now ps items k s same sound d below read =
    let P : Image → Type 0 = λ i. IsFiled i s in
    subst P (sym same) (filed img ps items s sound d (k, below, sym read))

-- the table of a survey has an owner for what is owned
pub marks-of : (l : Layout) (s : Survey) → IsSurveyOf l s → MarksTaken s.owners l []
unfolding owners
marks-of l s of = of.table.owned

-- the bit of a sector, by its owner and by the list of what has an owner
pub marked-of : (bytes : List ℕ) (l : Layout) (strays : List Place) (t : Owners) (p : Place) → MarksTaken t l strays
    → IsMarked bytes t p → IsFree bytes p ↔ ¬ (Contains (strays ++ map_place ∷ owners l) p)
marked-of bytes l strays t p h m = (
  λ free c. (h p).1 c (m.0 free),
  λ none. m.1 (elim (cases_eq (owner_of t p) 255) [ inl e ↦ e | inr ne ↦ absurd (none ((h p).0 ne)) ]),
)

pub unmarked-of : (bytes : List ℕ) (l : Layout) (strays : List Place) (t : Owners) (p : Place) → MarksTaken t l strays
    → IsFree bytes p ↔ ¬ (Contains (strays ++ map_place ∷ owners l) p) → IsMarked bytes t p
unmarked-of bytes l strays t p h m = (
  λ free. elim (cases_eq (owner_of t p) 255) [ inl e ↦ e | inr ne ↦ absurd (m.0 free ((h p).0 ne)) ],
  λ e. m.1 (λ c. (h p).1 c e),
)

pub map-right : (img : Image) (t : Owners) (bytes : List ℕ) (l : Layout) (strays : List Place) → IsLayout img l
    → MarksTaken t l strays → bytes ≡ sector img map_place → IsRightMap bytes t → HasMapBut strays img
map-right img t bytes l strays is marks read right m also =
    let one : l ≡ m = IsLayout-one img l m is also in
    let P : Layout → Type 0 = λ x. IsMapOf (sector img map_place) (strays ++ map_place ∷ owners x) in
    let Q : List ℕ → Type 0 = λ b. IsMapOf b (strays ++ map_place ∷ owners l) in
    subst P one (subst Q read (record {
      marked = λ p. marked-of bytes l strays t p marks ((right p.track (track_from_1 p)
          (omega (arith, track_fits p))).marked p refl);
      counts = λ n low high. (right n low high).count;
    }))

-- by the table of a survey
pub told-right : (img : Image) (s : Survey) (bytes : List ℕ) → IsToldBy img s → bytes ≡ sector img map_place
    → IsRightMap bytes s.owners → HasMap img
told-right img s bytes (l, is, of) = map-right img s.owners bytes l [] is (marks-of l s of)

pub map-wrong : (failed : Place → Type 0) (img : Image) (s : Survey) (bytes : List ℕ) (f : Fault) → IsToldBy img s
    → bytes ≡ sector img map_place → IsWrongMap bytes s.owners f → HoldsOfClean failed img f
map-wrong failed img s bytes f (l, is, of) read (p, e, wrong) =
    let P : Fault → Type 0 = HoldsOfClean failed img in
    subst P (sym e) (step (let Q : List ℕ → Type 0 = λ b. ¬ (IsMarked b s.owners p)
    ⊎ ((p ≡ map_place) × ((track : ℕ) × (1 ≤ track) × (track ≤ 35) × (map_count b track ≢ ones_on b track))) in
    subst Q read wrong))
  where
    step : ¬ (IsMarked (sector img map_place) s.owners p)
        ⊎ ((p ≡ map_place) × ((track : ℕ) × (1 ≤ track) × (track ≤ 35)
        × (map_count (sector img map_place) track ≢ ones_on (sector img map_place) track)))
        → HoldsOfClean failed img (MapWrong p)
    step (inl n) = (l, is, inl (λ m. n (unmarked-of (sector img map_place) l [] s.owners p (marks-of l s of) m)))
    step (inr (at, count)) = (l, is, inr (at, count))

-- the layout of a clean image
pub clean-layout : {D : Type 0} (S : History D) (a b : D) (found : Findings) → found.unclean ≡ None
    → Surveys S a b found → HasMap (S.image a) → (l : Layout) × IsCleanLayout (S.image a) l × IsSurveyOf l found.survey
clean-layout S a b found none (l, is, of, judged, passes) has =
    let P : Option Fault → Type 0 = ToldOfFiles (S.image a) l.files in
    (l, record { layout = is; files = subst P none judged; map = has l is }, of)

pub told-at : (img now : Image) (s : Survey) → now ≡ img → IsToldBy img s → IsToldBy now s
told-at img now s same h = let P : Image → Type 0 = λ i. IsToldBy i s in subst P (sym same) h

-- what a survey finds is told of the image after the reads too
pub survey-told : {D : Type 0} (S : History D) (a b : D) (found : Findings) → Surveys S a b found
    → IsToldBy (S.image b) found.survey
survey-told S a b found (l, is, of, judged, passes) = told-at (S.image a) (S.image b) found.survey passes.reads.image
    (l, is, of)

pub map-at : (img now : Image) → now ≡ img → HasMap now → HasMap img
map-at img now same h = let P : Image → Type 0 = HasMap in subst P same h

module _ {D : Type 0} (S : History D) where
  pub told-clean : (T : Type 0) (a b : D) (n : ℕ) (f : Fault) → TellsUnclean S a b n f → NeverFailed S a b
      → IsOk (told T f) ↔ IsClean (S.image a)
  told-clean T a b n f tells never = (
    λ h. absurd (false≢true h),
    λ s. absurd (told-unclean (S.image a) f (clean_alone S ℕ a b f never tells.failures tells.holds) s),
  )

  pub map_tells : (a b : D) (s : Survey) (bytes : List ℕ) (f : Fault) → IsToldBy (S.image a) s → Passes S a b 1
      → bytes ≡ sector (S.image a) map_place → IsWrongMap bytes s.owners f → TellsUnclean S a b 1 f
  map_tells a b s bytes f is passes read wrong = record {
    reads = passes.reads;
    failures = (let P : Fault → Type 0 = λ x. TellsFault {T = ℕ} S a b (Err x) in
        subst P (sym wrong.1) passes.failures);
    holds = map-wrong (S.failed_at b) (S.image a) s bytes f is read wrong;
  }
