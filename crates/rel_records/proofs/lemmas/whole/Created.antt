-- A creation keeps files whole: before the entry is written, and after.
use Rattle.std.proofs.Common.{◌≡◌, ◌≢◌, ℕ, ◌≤◌, inl, inr, List, ◌++◌, map, length, sym, ◌∙◌, ap, ap₂, arith}
use Rattle.std.proofs.Common.{subst, slice_index, IsTrue}
use Rattle.std.specs.List.{AllByRecursion}
use Rattle.std.proofs.lemmas.List.Elements.{Contains-append_cases, Contains-append_left, Contains-append_right}
use Rattle.std.specs.Prelude.{Contains, Some, flat_map, nat_le, slice_get, ◌&&◌, ◌||◌}
use Rattle.d64_image.specs.Images.{Image, Sector, put, sector}
use Rattle.d64_image.specs.declared.place.Place.{Place}
use Rattle.disk_layout.proofs.lemmas.chains.Chains.{AgreeAt}
use Rattle.disk_layout.proofs.lemmas.counts.Recounts.{reread, reslot}
use Rattle.disk_layout.proofs.lemmas.layouts.Agree.{owned-block, owned-side}
use Rattle.disk_layout.proofs.lemmas.layouts.Frames.{unless-same}
use Rattle.disk_layout.proofs.lemmas.layouts.Layouts.{IsLayout-one, get-contains}
use Rattle.disk_layout.proofs.lemmas.lists.Lists.{contains-get}
use Rattle.disk_layout.proofs.lemmas.lists.Once.{all-in, flat_map-in, insert-out, map-in}
use Rattle.disk_layout.proofs.lemmas.whole.Files.{AreExact, HasEnd, exact-ends, none-behind, not-zeros}
use Rattle.disk_layout.proofs.lemmas.whole.Files.{rel-not-plain}
use Rattle.disk_layout.specs.Clean.{IsExactFile}
use Rattle.disk_layout.specs.Layout.{File, IsLayout, Layout, count_field, file_owns, is_rel, is_rel_type, owners}
use Rattle.disk_layout.specs.Listed.{is_plain}
use Rattle.disk_layout.specs.Whole.{IsWhole, IsWholeFile}
use Rattle.disk_layout.specs.declared.slot.Slot.{Slot}
use Rattle.rel_records.proofs.lemmas.creation.Creating.{SameEntry, with_new}
use Rattle.rel_records.proofs.lemmas.creation.NewFiles.{new_file}
use Rattle.rel_records.proofs.lemmas.reading.Opened.{rel-of}
use Rattle.rel_records.specs.growth.Next.{IsFresh}

-- its block count and its end are right
abbrev pub IsLong : Image → File → Type 0
IsLong img y = (IsTrue (is_plain y.slot) → count_field y.slot ≤ length y.blocks)
    × (IsTrue (is_rel y.slot || is_plain y.slot) → HasEnd img y)

-- so and with exact side sectors all files are whole
pub exact-long : (img : Image) (m : Layout) → IsLayout img m
    → ((k : ℕ) (y : File) → slice_get m.files k ≡ Some y → IsTrue (is_rel y.slot) → AreExact img y)
    → ((y : File) → Contains m.files y → IsLong img y) → IsWhole img
exact-long img m now exact long k' is' =
    let P : Layout → Type 0 = λ z. (k : ℕ) (y : File) → slice_get z.files k ≡ Some y → IsWholeFile img z y in
    subst P (IsLayout-one img m k' now is') (λ k y there. record {
      listed = λ rel q at. inl (exact-ends img y (rel-of img m k y now there rel) (exact k y there rel) q at);
      behind = λ rel q s at. none-behind img m q _
          (exact-ends img y (rel-of img m k y now there rel) (exact k y there rel) q at) s;
      counted = λ t. (long y (get-contains m.files k y there)).0 t;
      ended = λ t q last zeros. (long y (get-contains m.files k y there)).1 t q last zeros;
    })

-- these files have exact side sectors, if they are relative
abbrev pub AreExactFiles : Image → List File → Type 0
AreExactFiles img fs = AllByRecursion (λ f. IsTrue (is_rel f.slot) → IsExactFile img f) fs

exact-sides : (img : Image) (m : Layout) (k : ℕ) (y : File) → AreExactFiles img m.files
    → slice_get m.files k ≡ Some y → IsTrue (is_rel y.slot) → AreExact img y
exact-sides img m k y exact at rel j q there =
    (all-in _ m.files y exact (get-contains m.files k y at) rel).sides j q there

-- what the layout of an image with exact files owns is as it was
pub before-whole : (a c : Image) (l : Layout) → IsLayout a l → AreExactFiles a l.files → IsLayout c l
    → AgreeAt a c (owners l) → IsWhole a → IsWhole c
before-whole a c l was clean now same w = exact-long c l now exact long
  where
    exact : (k : ℕ) (y : File) → slice_get l.files k ≡ Some y → IsTrue (is_rel y.slot) → AreExact c y
    exact k y there rel j q at =
        sym (same q (owned-side l y q (get-contains l.files k y there) (get-contains y.sides j q at)))
        ∙ exact-sides a l k y clean there rel j q at

    long : (y : File) → Contains l.files y → IsLong c y
    long y on =
        let (i, there) = contains-get l.files y on in
        let old = w l was i y there in (
          old.counted,
          λ t q last zeros. old.ended t q last
              (same q (owned-block l y q on (get-contains y.blocks _ q last)) ∙ zeros),
        )

-- a relative file of one fresh block is
pub fresh-long : (b : Image) (s : Slot) (block side : Place) (u L : ℕ) → IsTrue (is_rel s)
    → IsFresh 0 L (sector b block) → IsLong b (new_file s block side u)
fresh-long b s block side u L rel fresh = (
  λ t. absurd (rel-not-plain s rel t),
  λ t q last. (let both : Some block ≡ Some q = last in
      let here : block ≡ q = cc in
      not-zeros (sector b q) 1 (λ z.
      let at : slice_index (sector b block) 1 ≡ 0 = ap (λ x. slice_index (sector b x) 1) here ∙ z in
      absurd (omega (arith, fresh.index, at)))),
)

-- The entry of a new file, whose count and end are right, was written into the sector at p: the files are exact, and no
-- other entry changed its type or its count.
module _ (a c : Image) (p : Place) (bytes : Sector) (l m : Layout) (fs gs : List File) (k : File)
    (is : IsLayout a l) (split : l.files ≡ fs ++ gs)
    (files : m.files ≡ with_new (put c p bytes) fs gs k)
    (sound : IsLayout (put c p bytes) m) (exact : AreExactFiles (put c p bytes) m.files) (same : AgreeAt a c (owners l))
    (off : ¬ (Contains (flat_map file_owns l.files) p))
    (stays : (f : File) → Contains l.files f → SameEntry f.slot (reslot (put c p bytes) f.slot)
    × (count_field (reslot (put c p bytes) f.slot) ≡ count_field f.slot))
    (new : IsLong (put c p bytes) k) (w : IsWhole a) where
  old-long : (f : File) → Contains l.files f → IsLong (put c p bytes) (reread (put c p bytes) f)
  old-long f on =
      let (i, there) = contains-get l.files f on in
      let old = w l is i f there in
      let kind = (stays f on).0.face.kind in
      let plain : is_plain f.slot ≡ is_plain (reslot (put c p bytes) f.slot) =
      ap (λ t. (nat_le 129 t && nat_le t 131) || (nat_le 193 t && nat_le t 195)) kind in (
        λ t. omega (arith, (stays f on).1, old.counted (plain ∙ t)),
        λ t q last zeros. (let own = get-contains f.blocks _ q last in
            let apart : p ≢ q = λ one. off (let P : Place → Type 0 = Contains (flat_map file_owns l.files) in
            subst P (sym one) (flat_map-in file_owns l.files f q on (Contains-append_left f.blocks f.sides q own))) in
            old.ended (ap₂ (λ x y. x || y) (ap is_rel_type kind) plain ∙ t) q last
            (same q (owned-block l f q on own) ∙ unless-same c p q bytes apart ∙ zeros)),
      )

  from : (xs : List File) → ((f : File) → Contains xs f → Contains l.files f) → (y : File)
      → Contains (map (reread (put c p bytes)) xs) y → IsLong (put c p bytes) y
  from xs sub y d =
      let (f, on, e) = map-in (reread (put c p bytes)) xs y d in
      let P : File → Type 0 = IsLong (put c p bytes) in
      subst P e (old-long f (sub f on))

  long : (y : File) → Contains m.files y → IsLong (put c p bytes) y
  long y on =
      let P : List File → Type 0 = λ ys. Contains ys y in
      elim (insert-out (map (reread (put c p bytes)) fs) (map (reread (put c p bytes)) gs) k y
      (subst P files on)) [
        | inl e ↦ (let Q : File → Type 0 = IsLong (put c p bytes) in subst Q e new)
        | inr rest ↦ elim (Contains-append_cases (map (reread (put c p bytes)) fs) (map (reread (put c p bytes)) gs) y
            rest) [
              | inl d ↦ from fs (λ f on. rw split (Contains-append_left fs gs f on)) y d
              | inr d ↦ from gs (λ f on. rw split (Contains-append_right fs gs f on)) y d
            ]
      ]

  pub more-whole : IsWhole (put c p bytes)
  more-whole = exact-long (put c p bytes) m sound
      (λ k y there. exact-sides (put c p bytes) m k y exact there) long
