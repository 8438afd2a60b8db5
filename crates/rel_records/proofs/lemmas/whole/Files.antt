-- When the files of an image are whole: those that a call left alone, and the one that it wrote to.
use Rattle.std.proofs.Common.{◌≡◌, ◌≢◌, ℕ, inl, inr, List, ◌∷◌, map, length, sym, ◌∙◌, ap, arith, subst, IsTrue}
use Rattle.std.proofs.lemmas.Bool.{cases_eq}
use Rattle.std.proofs.lemmas.List.{length-map}
use Rattle.std.proofs.lemmas.List.Elements.{Contains-append_right}
use Rattle.std.specs.Prelude.{Contains, Some, flat_map, slice_get, ◌++◌}
use Rattle.d64_image.specs.Images.{Image, sector}
use Rattle.d64_image.specs.declared.place.Place.{Place}
use Rattle.disk_layout.proofs.lemmas.layouts.Exact.{get-lt}
use Rattle.disk_layout.proofs.lemmas.layouts.Layouts.{IsLayout-one, get-contains}
use Rattle.disk_layout.proofs.lemmas.lists.Lists.{get-some}
use Rattle.disk_layout.proofs.lemmas.chains.Chains.{AgreeAt}
use Rattle.disk_layout.proofs.lemmas.lists.Once.{flat_map-in}
use Rattle.disk_layout.proofs.lemmas.whole.Files.{AreExact, HasEnd, exact-ends, exact-whole, map-at}
use Rattle.disk_layout.proofs.lemmas.whole.Files.{none-behind}
use Rattle.disk_layout.specs.Entries.{uncounted}
use Rattle.disk_layout.specs.Layout.{File, IsLayout, Layout, file_owns, is_rel}
use Rattle.disk_layout.specs.Whole.{IsWhole, IsWholeFile}
use Rattle.disk_layout.specs.declared.slot.Slot.{Slot}
use Rattle.layout_check.specs.Keeping.{IsCleanBut}
use Rattle.rel_records.proofs.lemmas.Usable.{exact-but}
use Rattle.rel_records.proofs.lemmas.reading.Opened.{rel-of}
use Rattle.rel_records.proofs.lemmas.steps.Others.{get-either, get-other}
use Rattle.rel_records.specs.Others.{KeepsOthers}

slots-long : (fs : List File) → length (map uncounted (map (λ (f : File). f.slot) fs)) ≡ length fs
slots-long fs = length-map (map (λ (f : File). f.slot) fs) uncounted ∙ length-map fs (λ (f : File). f.slot)

-- there are as many files as before
pub same-files : (a c : Image) (l m : Layout) (n : ℕ) → KeepsOthers a c l m n → length m.files ≡ length l.files
same-files a c l m n keeps =
    sym (slots-long m.files) ∙ ap (λ (ss : List Slot). length ss) keeps.entries ∙ slots-long l.files

-- From a, whose layout is l, to c, whose layout is m, all files but the one at place n stay; their side sectors are exact
-- in c, and that one is whole.
module _ (a c : Image) (l m : Layout) (n : ℕ) (is : IsLayout a l) (now : IsLayout c m) (keeps : KeepsOthers a c l m n)
    (exact : (k : ℕ) (y : File) → k ≢ n → slice_get m.files k ≡ Some y → IsTrue (is_rel y.slot) → AreExact c y)
    (g : File) (here : slice_get m.files n ≡ Some g) (mine : IsWholeFile c m g) (w : IsWhole a) where
  other-whole : (k : ℕ) (y : File) → k ≢ n → slice_get m.files k ≡ Some y → IsWholeFile c m y
  other-whole k y ne at =
      let (x, there) = get-some l.files k (omega (arith, get-lt m.files k y at, same-files a c l m n keeps)) in
      let both : Some x ≡ Some y = sym (keeps.files k x ne there) ∙ at in
      let same : x ≡ y = cc in
      let old = w l is k x there in
      let P : File → Type 0 = λ f. IsWholeFile c m f in
      subst P same (record {
        listed = λ rel q in-sides. inl (exact-ends c x (rel-of c m k x now (at ∙ ap Some (sym same)) rel)
            (exact k x ne (at ∙ ap Some (sym same)) rel) q in-sides);
        behind = λ rel q s in-sides. none-behind c m q _ (exact-ends c x (rel-of c m k x now (at ∙ ap Some (sym same)) rel)
            (exact k x ne (at ∙ ap Some (sym same)) rel) q in-sides) s;
        counted = old.counted;
        ended = λ t q last zeros. old.ended t q last
            (sym (map-at a c x.blocks _ q (keeps.bytes k x ne there) last) ∙ zeros);
      })

  file-whole : (k : ℕ) (y : File) → slice_get m.files k ≡ Some y → IsWholeFile c m y
  file-whole k y at = elim (cases_eq k n) [
    | inl e ↦
        let both : Some g ≡ Some y = sym here ∙ ap (slice_get m.files) (sym e) ∙ at in
        let same : g ≡ y = cc in
        let P : File → Type 0 = λ f. IsWholeFile c m f in
        subst P same mine
    | inr ne ↦ other-whole k y ne at
  ]

  pub whole-now : IsWhole c
  whole-now k' is' =
      let P : Layout → Type 0 = λ z. (k : ℕ) (y : File) → slice_get z.files k ≡ Some y → IsWholeFile c z y in
      subst P (IsLayout-one c m k' now is') file-whole

-- so where c is clean except for some stray sectors
pub clean-whole : {strays : List Place} (a c : Image) (l m : Layout) (n : ℕ) (g : File) → IsLayout a l
    → IsCleanBut strays c m → KeepsOthers a c l m n → slice_get m.files n ≡ Some g → IsTrue (is_rel g.slot) → HasEnd c g → IsWhole a → IsWhole c
clean-whole a c l m n g is clean keeps at rel end =
    whole-now a c l m n is clean.layout keeps (λ k y ne there. exact-but c m k y clean there) g at
    (exact-whole c m g rel (rel-of c m n g clean.layout at rel) (exact-but c m n g clean at rel) end)

-- side sectors that were exact in such an image stay so where others own them
pub agree-exact : {strays : List Place} (a b : Image) (l : Layout) (before after : List File) (f g : File)
    → IsCleanBut strays a l → l.files ≡ before ++ f ∷ after → AgreeAt a b (flat_map file_owns before) → AgreeAt a b (flat_map file_owns after)
    → (k : ℕ) (y : File) → k ≢ length before → slice_get (before ++ g ∷ after) k ≡ Some y → IsTrue (is_rel y.slot)
    → AreExact b y
agree-exact a b l before after f g clean split b_same a_same k y ne at rel j q there =
    let P : List File → Type 0 = λ fs. slice_get fs k ≡ Some y in
    let was : slice_get l.files k ≡ Some y = subst P (sym split) (get-other before after g f k y ne at) in
    let own : Contains (file_owns y) q = Contains-append_right y.blocks y.sides q (get-contains y.sides j q there) in
    let same : sector a q ≡ sector b q = elim (get-either before after g k y ne at) [
      | inl c ↦ b_same q (flat_map-in file_owns before y q c own)
      | inr c ↦ a_same q (flat_map-in file_owns after y q c own)
    ] in
    sym same ∙ exact-but a l k y clean was rel j q there
