-- All files but one stay, and that one keeps its entry, its block count aside.
use Rattle.std.proofs.Common.{◌≡◌, ◌≢◌, ℕ, zero, suc, ◌<◌, inl, inr, ◌⊎◌, List, [], ◌∷◌, ◌++◌, map, length, refl, sym}
use Rattle.std.proofs.Common.{◌∙◌, ap, arith, subst, length-append}
use Rattle.std.specs.Prelude.{Contains, slice_get, Some, flat_map, replicate}
use Rattle.std.proofs.lemmas.List.{length-replicate}
use Rattle.std.proofs.lemmas.List.Elements.{Contains-append_left}
use Rattle.d64_image.specs.Images.{Image}
use Rattle.disk_layout.proofs.lemmas.chains.Chains.{AgreeAt}
use Rattle.disk_layout.proofs.lemmas.growth.GrowthRecords.{get-seam}
use Rattle.disk_layout.proofs.lemmas.layouts.Agree.{sectors-agree}
use Rattle.disk_layout.proofs.lemmas.layouts.Layouts.{get-contains}
use Rattle.disk_layout.proofs.lemmas.lists.Once.{flat_map-in}
use Rattle.disk_layout.specs.Entries.{SameEntries, uncounted}
use Rattle.disk_layout.specs.Layout.{File, IsLayout, Layout, exchanged, file_owns}
use Rattle.disk_layout.specs.Records.{records}
use Rattle.disk_layout.specs.Rest.{header_of}
use Rattle.rel_records.specs.Others.{HasRecords, KeepsOthers, KeepsPlaces}

pub get-other : (before after : List File) (f h : File) (k : ℕ) (y : File) → k ≢ length before
    → slice_get (before ++ f ∷ after) k ≡ Some y → slice_get (before ++ h ∷ after) k ≡ Some y
get-other [] after f h zero y ne e = absurd (ne refl)
get-other [] after f h (suc k) y ne e = e
get-other (x ∷ before) after f h zero y ne e = e
get-other (x ∷ before) after f h (suc k) y ne e = get-other before after f h k y (λ s. ne (ap suc s)) e

pub get-either : (before after : List File) (f : File) (k : ℕ) (y : File) → k ≢ length before
    → slice_get (before ++ f ∷ after) k ≡ Some y → Contains before y ⊎ Contains after y
get-either [] after f zero y ne e = absurd (ne refl)
get-either [] after f (suc k) y ne e = inr (get-contains after k y e)
get-either (x ∷ before) after f zero y ne e = inl (0, omega arith, cc)
get-either (x ∷ before) after f (suc k) y ne e = elim (get-either before after f k y (λ s. ne (ap suc s)) e) [
  | inl c ↦ inl (Contains-there' x y before c)
  | inr c ↦ inr c
]
  where
    Contains-there' : (x y : File) (xs : List File) → Contains xs y → Contains (x ∷ xs) y
    Contains-there' x y xs (i, lt, e) = (suc i, omega (arith, lt), e)

same-slots : (before after : List File) (f h : File) → uncounted h.slot ≡ uncounted f.slot
    → SameEntries (map (λ x. x.slot) (before ++ h ∷ after)) (map (λ x. x.slot) (before ++ f ∷ after))
same-slots [] after f h e = ap (λ s. s ∷ map uncounted (map (λ x. x.slot) after)) e
same-slots (x ∷ before) after f h e = ap (λ s. uncounted x.slot ∷ s) (same-slots before after f h e)

-- with another file in its place, which has the same entry
pub others-kept : (a x : Image) (l : Layout) (before after : List File) (f h : File) → l.files ≡ before ++ f ∷ after
    → uncounted h.slot ≡ uncounted f.slot → AgreeAt a x (flat_map file_owns before)
    → AgreeAt a x (flat_map file_owns after) → header_of x ≡ header_of a
    → KeepsOthers a x l (exchanged l before h after) (length before)
others-kept a x l before after f h split entry b_same a_same header = record {
  directory = refl;
  entries = let P : List File → Type 0 = λ fs. SameEntries (map (λ y. y.slot) (before ++ h ∷ after))
      (map (λ y. y.slot) fs) in subst P (sym split) (same-slots before after f h entry);
  files = λ k y ne e. get-other before after f h k y ne (at k y e);
  bytes = λ k y ne e. elim (get-either before after f k y ne (at k y e)) [
    | inl c ↦ sym (sectors-agree a x y.blocks
        (λ q d. b_same q (flat_map-in file_owns before y q c (Contains-append_left y.blocks y.sides q d))))
    | inr c ↦ sym (sectors-agree a x y.blocks
        (λ q d. a_same q (flat_map-in file_owns after y q c (Contains-append_left y.blocks y.sides q d))))
  ];
  header = header;
}
  where
    at : (k : ℕ) (y : File) → slice_get l.files k ≡ Some y → slice_get (before ++ f ∷ after) k ≡ Some y
    at k y e = let P : List File → Type 0 = λ fs. slice_get fs k ≡ Some y in subst P split e

-- the file at that place is the one
pub places-of : (a : Image) (l : Layout) (before after : List File) (f h : File) (rs : List (List ℕ))
    → l.files ≡ before ++ f ∷ after → KeepsPlaces a f h rs → (y : File) → slice_get l.files (length before) ≡ Some y
    → KeepsPlaces a y h rs
places-of a l before after f h rs split places y at =
    let both : Some f ≡ Some y = sym (get-seam before after f) ∙ ap (λ fs. slice_get fs (length before)) (sym split)
    ∙ at in
    let same : f ≡ y = cc in
    let P : File → Type 0 = λ x. KeepsPlaces a x h rs in
    subst P same places

-- so with the file's records and places
pub has-records : (a x : Image) (l : Layout) (before after : List File) (f h : File) (rs : List (List ℕ))
    → l.files ≡ before ++ f ∷ after → uncounted h.slot ≡ uncounted f.slot → AgreeAt a x (flat_map file_owns before)
    → AgreeAt a x (flat_map file_owns after) → header_of x ≡ header_of a → IsLayout x (exchanged l before h after)
    → KeepsPlaces a f h rs → records x h ≡ rs → HasRecords a x l (length before) rs
has-records a x l before after f h rs split entry b_same a_same header is places recs = record {
  layout = exchanged l before h after;
  is_layout = is;
  others = others-kept a x l before after f h split entry b_same a_same header;
  file = h;
  there = get-seam before after h;
  records = recs;
  places = places-of a l before after f h rs split places;
}

-- nothing is added
pub places-same : (a : Image) (f h : File) (rs : List (List ℕ)) → file_owns h ≡ file_owns f → rs ≡ records a f
    → KeepsPlaces a f h rs
places-same a f h rs owns same = (omega (arith, ap length same), inl owns)

-- empty records are added
pub places-more : (a : Image) (f h : File) (m : ℕ) (x : List ℕ) → 0 < m
    → KeepsPlaces a f h (records a f ++ replicate m x)
places-more a f h m x some =
    let long = length-append (records a f) (replicate m x) in
    let more : length (replicate m x) ≡ m = length-replicate {A = List ℕ} m x in
    (omega (arith, long), inr (omega (arith, long, more)))
