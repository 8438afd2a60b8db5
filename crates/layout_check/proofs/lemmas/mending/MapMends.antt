-- A repair's steps: a read, and a write where it is due.
use Rattle.std.proofs.Common.{
  ℕ,
  ◌≡◌,
  ◌≤◌,
  ◌+◌,
  true,
  false,
  List,
  Result,
  Ok,
  Err,
  length,
  sym,
  ◌∙◌,
  ap,
  arith,
  subst,
  inl,
  inr,
}
use Rattle.std.specs.Prelude.{IfErr, OnErr, OnOk}
use Rattle.std.specs.Result.{is_ok}
use Rattle.std.proofs.lemmas.Bool.{false≢true}
use Rattle.d64_image.proofs.Images.{sector-put_same}
use Rattle.d64_image.proofs.Moments.{at_end, changes_then, changes_weaker, failed_later, reads_change}
use Rattle.d64_image.specs.History.{Changes, Failed, History, OldOr, OnlyReads, TellsFailure}
use Rattle.d64_image.specs.Images.{Image, Sector, put, sector}
use Rattle.d64_image.specs.declared.place.Place.{Place}
use Rattle.d64_image.specs.Calls.{WritesSector}
use Rattle.disk_layout.proofs.lemmas.layouts.Agree.{IsLayout-put_map}
use Rattle.disk_layout.specs.Directory.{map_place}
use Rattle.disk_layout.specs.Layout.{IsLayout, Layout}
use Rattle.disk_layout.specs.declared.faults.Fault.{Fault}
use Rattle.disk_layout.specs.declared.faults.Fault.TheVariants.{Device}
use Rattle.layout_check.proofs.lemmas.judging.Verdict.{map-right, unmarked-of}
use Rattle.layout_check.specs.Exact.{HasMapBut}
use Rattle.layout_check.specs.Keeping.{MarksTaken}
use Rattle.layout_check.specs.Marked.{IsRightMap, IsWrongMap}
use Rattle.layout_check.specs.Mended.{IsMended, KeepsLayouts, Mends, TellsDevice}
use Rattle.layout_check.specs.declared.owners.Owners.{Owners}

pub ok-holds : {T E : Type 0} (r : Result T E) (P : Type 0) → is_ok r ≡ true → OnOk r P → P
ok-holds (Ok x) P is h = h
ok-holds (Err e) P is h = absurd (false≢true is)

pub err-holds : {T E : Type 0} (r : Result T E) (P : E → Type 0) → is_ok r ≡ false → IfErr r P → (e : E) × P e
err-holds (Ok x) P is h = absurd (false≢true (sym is))
err-holds (Err e) P is h = (e, h)

-- what holds of the image with the map written, holds of the image that the device has then
pub written : (P : Image → Type 0) (now c : Image) (q : Place) (w : List ℕ) → now ≡ put c q w → q ≡ map_place
    → P (put c map_place w) → P now
written P now c q w is at h = subst P (sym (is ∙ ap (λ (x : Place). put c x w) at)) h

-- the map written
pub map-put : (c : Image) (t : Owners) (w : List ℕ) (l : Layout) (strays : List Place) → length c ≡ 683 → IsLayout c l
    → MarksTaken t l strays → IsRightMap w t → HasMapBut strays (put c map_place w)
map-put c t w l strays size is marks right = map-right (put c map_place w) t w l strays (IsLayout-put_map c l w is)
    marks (sym (sector-put_same c map_place w size)) right

pub layouts-put : (a c : Image) (w : List ℕ) → c ≡ a → KeepsLayouts a (put c map_place w)
layouts-put a c w same l h = IsLayout-put_map c l w (let P : Image → Type 0 = λ i. IsLayout i l in subst P (sym same) h)

-- a map that is right is told wrong by nothing
pub right-map : (img : Image) (t : Owners) (bytes : List ℕ) (f : Fault) (l : Layout) (strays : List Place)
    → IsLayout img l → MarksTaken t l strays → HasMapBut strays img → bytes ≡ sector img map_place
    → ¬ (IsWrongMap bytes t f)
right-map img t bytes f l strays is marks has read wrong = step (let P : List ℕ → Type 0 = λ b. IsWrongMap b t f in
    subst P read wrong)
  where
    step : ¬ (IsWrongMap (sector img map_place) t f)
    step (p, e, inl n) = n (unmarked-of (sector img map_place) l strays t p marks ((has l is).marked p))
    step (p, e, inr (at, (n, low, high, ne))) = ne ((has l is).counts n low high)

module _ {D : Type 0} (S : History D) where
  pub mends_read : (a b : D) (k n : ℕ) → OnlyReads S a b k → Mends S a b n
  mends_read a b k n reads i l h = changes_weaker S a b 0 n (IsMended i l) (IsMended i l) (omega arith) (λ c x. x)
      (reads_change S a b k (IsMended i l) reads h)

  pub mends_write : (a b c : D) (k : ℕ) (p : Place) (w : List ℕ) → OnlyReads S a b k
      → Changes S b c 1 (OldOr (S.image b) (put (S.image b) p w)) → ((i : Image) (l : Layout) → IsMended i l (S.image b)
      → IsMended i l (put (S.image b) p w)) → Mends S a c 1
  mends_write a b c k p w reads held step i l h =
      let now = (let P : Image → Type 0 = IsMended i l in subst P (sym reads.image) h) in
      changes_then S a b c 0 1 1 (IsMended i l) (omega arith) (reads_change S a b k (IsMended i l) reads h)
      (changes_weaker S b c 1 1 (OldOr (S.image b) (put (S.image b) p w)) (IsMended i l) (omega arith)
      (λ x o. elim o [
        | inl e ↦ (let P : Image → Type 0 = IsMended i l in subst P (sym e) now)
        | inr e ↦ (let P : Image → Type 0 = IsMended i l in subst P (sym e) (step i l now))
      ]) held)

  pub mends_then : (a b c : D) (k m n : ℕ) → k + m ≤ n → Mends S a b k → Mends S b c m → Mends S a c n
  mends_then a b c k m n le first second i l h =
      let one = first i l h in
      changes_then S a b c k m n (IsMended i l) le one (second i l (at_end S a b (IsMended i l) one.held))

  pub device_later : (T : Type 0) (a b c : D) (r : Result T Fault) → S.failures b ≡ S.failures a → TellsDevice S b c r
      → TellsDevice S a c r
  device_later T a b c (Ok x) same tells = tells ∙ same
  device_later T a b c (Err f) same (failed, told) = (failed_later S a b c same failed, told)

  -- a call that tells of the device alone
  pub device_told : (T : Type 0) (a b : D) (p : Place) (f : Fault) → f ≡ Device p → Failed S a b → S.failed_at b p
      → TellsDevice {T = T} S a b (Err f)
  device_told T a b p f is failed there = (failed, (p, is, there))

  pub if_device : (T : Type 0) (a b : D) (p : Place) (r : Result T Fault) → IfErr r (λ f. f ≡ Device p)
      → TellsFailure S a b r → OnErr r (S.failed_at b p) → TellsDevice S a b r
  if_device T a b p (Ok x) told tells there = tells
  if_device T a b p (Err f) told tells there = (tells, (p, told, there))

  -- as a write does
  pub write_device : (T : Type 0) (a b : D) (p : Place) (bytes : Sector) (r : Result T Fault)
      → WritesSector S a b p bytes (Device p) r → TellsDevice S a b r
  write_device T a b p bytes r w = if_device T a b p r w.told w.failures w.failed

  pub mends_weaker : (a b : D) (m n : ℕ) → m ≤ n → Mends S a b m → Mends S a b n
  mends_weaker a b m n le h i l is = changes_weaker S a b m n (IsMended i l) (IsMended i l) le (λ c x. x) (h i l is)
