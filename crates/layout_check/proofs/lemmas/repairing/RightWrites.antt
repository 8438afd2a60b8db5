-- Directory sectors written one after another: what the device held meanwhile, and what is right then.
use Rattle.std.proofs.Common.{ℕ, ◌≡◌, ◌<◌, ◌≤◌, ◌+◌, List, length, take, get_or, ⊎_elim, sym, ◌∙◌, ap}
use Rattle.std.proofs.Common.{refl, arith, subst, inl, inr, Ok}
use Rattle.std.specs.Prelude.{Contains, Some, slice_get}
use Rattle.d64_image.proofs.Moments.{at_end, changes_then, changes_weaker, reads_change}
use Rattle.d64_image.specs.History.{Changes, History, OldOr, OnlyReads}
use Rattle.d64_image.specs.Images.{Image, Sector, put, sector}
use Rattle.d64_image.specs.declared.place.Place.{Place}
use Rattle.disk_layout.proofs.lemmas.chains.Directories.{few-sectors}
use Rattle.disk_layout.proofs.lemmas.layouts.Layouts.{IsLayout-one, get-contains}
use Rattle.disk_layout.proofs.lemmas.lists.Lists.{read-there}
use Rattle.disk_layout.specs.Chain.{EachOnce}
use Rattle.disk_layout.specs.InOrder.{AreMade}
use Rattle.disk_layout.specs.Layout.{IsLayout, IsSound, Layout}
use Rattle.layout_check.proofs.lemmas.repairing.RightCounts.{all-counted, recount-mended, recount-none}
use Rattle.layout_check.proofs.lemmas.repairing.RightCounts.{recount-put}
use Rattle.layout_check.proofs.lemmas.repairing.RightCounts.{recount-then}
use Rattle.layout_check.proofs.lemmas.repairing.RightDirectory.{counts-right, right-counts}
use Rattle.layout_check.proofs.lemmas.owners.Claims.{not_before}
use Rattle.layout_check.proofs.lemmas.repairing.RightSlots.{counted-right}
use Rattle.layout_check.proofs.lemmas.repairing.Rights.{directory-once}
use Rattle.layout_check.specs.Mending.{MakesRight}
use Rattle.layout_check.specs.Owners.{NumbersEach, NumbersFiles}
use Rattle.layout_check.specs.RepairOrder.{IsRight}
use Rattle.layout_check.specs.Recounted.{AreCounted, IsCountedAs, IsDirectorySector, IsRecountAt, IsRecountOf}
use Rattle.layout_check.specs.Recounted.{KeepsButCounts, OldOrRecounted}
use Rattle.layout_check.specs.declared.owners.Owners.{Owners}

pub few-of : (img : Image) (ps : List Place) → IsSound img → ((l : Layout) → IsLayout img l → ps ≡ l.directory)
    → length ps ≤ 18
few-of img ps (l, h) same = omega (arith, few-sectors img l.directory _ h.directory, ap length (same l h))

-- the image in which directory sectors were mended so far
module _ (a b : Image) (ps : List Place) (full : length a ≡ 683) (l : Layout) (h : IsLayout a l)
    (same : ps ≡ l.directory) (r : IsRecountOf a b ps) where
  on : IsRecountOf a b l.directory
  on = let P : List Place → Type 0 = λ xs. IsRecountOf a b xs in subst P same r

-- the table numbers the files of each layout of the image
pub numbers-each : (img : Image) (l : Layout) (t : Owners) → IsLayout img l → NumbersFiles t l → NumbersEach t img
numbers-each img l t is numbers m also = let P : Layout → Type 0 = NumbersFiles t in
    subst P (IsLayout-one img l m is also) numbers

pub mended-of : (a b : Image) (ps : List Place) → length a ≡ 683 → ((l : Layout) → IsLayout a l → ps ≡ l.directory)
    → IsRecountOf a b ps → KeepsButCounts a b
mended-of a b ps full same r l h = recount-mended a b l full h (on a b ps full l h (same l h) r)

-- all of them were gone over, so all counts are right
pub counted-of : (a b : Image) (ps : List Place) → length a ≡ 683 → IsSound a
    → ((l : Layout) → IsLayout a l → ps ≡ l.directory) → IsRecountOf a b ps
    → ((l : Layout) → IsLayout a l → AreMade (IsRight l) l.directory a b) → AreCounted b
counted-of a b ps full (l, h) same r made = all-counted a b l full h (on a b ps full l h (same l h) r)
    (λ p c. right-counts a l h p (sector b p) ((made l h).right p c))

module _ {D : Type 0} (S : History D) where
  pub reads_moment : (a b : D) (n : ℕ) (p : Place) → OnlyReads S a b n → Changes S a b 1 (OldOrRecounted (S.image a) p)
  reads_moment a b n p r =
      let P : Image → Type 0 = OldOrRecounted (S.image a) p in
      changes_weaker S a b 0 1 P P (omega arith) (λ c h. h) (reads_change S a b n P r (inl refl))

  -- reads, and then a write that changes counts of the sector
  pub write_moment : (a b c : D) (n : ℕ) (p : Place) (bytes : Sector) → OnlyReads S a b n
      → Changes S b c 1 (OldOr (S.image b) (put (S.image b) p bytes)) → IsCountedAs (sector (S.image a) p) bytes
      → Changes S a c 1 (OldOrRecounted (S.image a) p)
  write_moment a b c n p bytes r now counted =
      let P : Image → Type 0 = OldOrRecounted (S.image a) p in
      let Q : Image → Type 0 = IsRecountAt (S.image a) p in
      let made = recount-put (S.image a) p bytes (S.whole a) counted in
      changes_then S a b c 0 1 1 P (omega arith) (reads_change S a b n P r (inl refl))
      (changes_weaker S b c 1 1 (OldOr (S.image b) (put (S.image b) p bytes)) P (omega arith)
      (λ i. ⊎_elim (λ e. inl (e ∙ r.image)) (λ e. inr (subst Q (sym (e ∙ ap (λ j. put j p bytes) r.image)) made)))
      now)

  -- one sector more of the directory
  pub step_moments : (a b c : D) (ps : List Place) (k : ℕ) (p : Place) → Contains ps p
      → Changes S a b k (λ i. IsRecountOf (S.image a) i ps) → Changes S b c 1 (OldOrRecounted (S.image b) p)
      → Changes S a c (k + 1) (λ i. IsRecountOf (S.image a) i ps)
  step_moments a b c ps k p own old now =
      let P : Image → Type 0 = λ i. IsRecountOf (S.image a) i ps in
      let here = at_end S a b P old.held in
      changes_then S a b c k 1 (k + 1) P (omega arith) old (changes_weaker S b c 1 1 (OldOrRecounted (S.image b) p) P
      (omega arith)
      (λ i. ⊎_elim (λ e. subst P (sym e) here) (λ m. recount-then (S.image a) (S.image b) i ps p own here m))
      now)

  pub all_moments : (a b : D) (ps : List Place) (k : ℕ) → k ≤ 18 → ((l : Layout) → IsLayout (S.image a) l
      → ps ≡ l.directory) → Changes S a b k (λ i. IsRecountOf (S.image a) i ps)
      → Changes S a b 18 (KeepsButCounts (S.image a))
  all_moments a b ps k few same h =
      changes_weaker S a b k 18 (λ i. IsRecountOf (S.image a) i ps) (KeepsButCounts (S.image a)) few
      (λ i r. mended-of (S.image a) i ps (S.whole a).size same r) h

  pub first_moments : (a b : D) (ps : List Place) (n : ℕ) → OnlyReads S a b n
      → Changes S a b 0 (λ i. IsRecountOf (S.image a) i ps)
  first_moments a b ps n r = reads_change S a b n (λ i. IsRecountOf (S.image a) i ps) r
      (recount-none (S.image a) ps (S.whole a))

  -- sector k of the directory, as the image had it at first
  module _ (a : D) (l : Layout) (is : IsLayout (S.image a) l) (ps : List Place) (same : ps ≡ l.directory) (k : ℕ)
      (p : Place) (lt : k < length ps) (e : p ≡ get_or ps k p) where
    pub place_there : slice_get ps k ≡ Some p
    place_there = read-there ps k p lt e

    pub places_once : EachOnce ps
    places_once = let P : List Place → Type 0 = EachOnce in subst P (sym same) (directory-once (S.image a) l is)

    pub place_listed : IsDirectorySector (S.image a) p
    place_listed = record {
      sound = (l, is);
      own = λ m also.
          let P : Layout → Type 0 = λ x. Contains x.directory p in
          let Q : List Place → Type 0 = λ xs. Contains xs p in
          subst P (IsLayout-one (S.image a) l m is also) (subst Q same (get-contains ps k p place_there));
    }

    -- it hasn't been gone over yet
    pub place_stays : (b : D) → MakesRight {T = Unit {0}} S a b l (take k ps) (Ok tt)
        → sector (S.image b) p ≡ sector (S.image a) p
    place_stays b made = made.puts.made.rest p (not_before ps k p lt e places_once)

  -- all counts of a counted image are right
  pub directory_right : (b : D) (l : Layout) → IsLayout (S.image b) l → AreCounted (S.image b) → (p : Place)
      → Contains l.directory p → IsRight l p (sector (S.image b) p)
  directory_right b l is all p on = counts-right (S.image b) l is p (sector (S.image b) p) on
      (counted-right (S.image b) p all)
