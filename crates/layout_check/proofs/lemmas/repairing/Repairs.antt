-- A repair put together: with the map, the side sectors and the block counts made right, the image is clean and has the
-- same files.
use Rattle.std.proofs.Common.{
  ℕ,
  Bool,
  ◌↔◌,
  ◌≡◌,
  ◌≢◌,
  ◌<◌,
  ◌+◌,
  ◌||◌,
  ◌++◌,
  List,
  [],
  ◌∷◌,
  Some,
  length,
  map,
  slice_index,
  sym,
  ◌∙◌,
  ap,
  ap₂,
  refl,
  subst,
  IsTrue,
  arith,
}
use Rattle.std.specs.Prelude.{Contains, flat_map, nat_eq, slice_get}
use Rattle.std.specs.List.{AllByRecursion}
use Rattle.std.proofs.lemmas.List.{length-map}
use Rattle.std.proofs.lemmas.List.Elements.{Contains-append_right}
use Rattle.d64_image.specs.Images.{Image, sector}
use Rattle.d64_image.specs.declared.place.Place.{Place}
use Rattle.disk_layout.proofs.lemmas.kept.Kept.{entry-byte}
use Rattle.disk_layout.proofs.lemmas.layouts.Layouts.{IsLayout-one, get-contains}
use Rattle.disk_layout.proofs.lemmas.lists.Lists.{alike, contains-get}
use Rattle.disk_layout.proofs.lemmas.lists.Once.{EachOnce-apart, all-in, flat_map-in}
use Rattle.disk_layout.specs.Chain.{EachOnce}
use Rattle.disk_layout.specs.Clean.{IsExactFile}
use Rattle.disk_layout.specs.Directory.{map_place}
use Rattle.disk_layout.specs.Layout.{File, IsLayout, Layout, file_owns, is_rel, owners, record_length}
use Rattle.disk_layout.specs.Map.{IsMapOf}
use Rattle.disk_layout.specs.Same.{SameFiles, Stays, stays_of}
use Rattle.disk_layout.specs.Side.{side_sector}
use Rattle.disk_layout.specs.declared.slot.Slot.{Slot}
use Rattle.layout_check.proofs.lemmas.judging.Verdict.{all-of}
use Rattle.layout_check.specs.Exact.{HasMapBut}
use Rattle.layout_check.specs.Keeping.{IsCleanBut}
use Rattle.layout_check.specs.Owners.{owner_of}
use Rattle.layout_check.specs.Mended.{AreExactFor, KeepsLayouts, SameMap}
use Rattle.layout_check.specs.Recounted.{AreCounted, IsSameButCounts}
use Rattle.layout_check.specs.Survey.{IsSurveyOf}
use Rattle.layout_check.specs.declared.survey_outcome.Survey.{Survey}

-- what a file that stays keeps
module _ (a c : Image) (f g : File) (e : stays_of a f ≡ stays_of c g) where
  same-blocks : f.blocks ≡ g.blocks
  same-blocks = ap (λ (s : Stays). s.blocks) e

  same-sides : f.sides ≡ g.sides
  same-sides = ap (λ (s : Stays). s.sides) e

  same-owned : file_owns f ≡ file_owns g
  same-owned = ap₂ (λ (x y : List Place). x ++ y) same-blocks same-sides

  same-byte : (i : ℕ) → i < 28 → slice_index f.slot.bytes (2 + i) ≡ slice_index g.slot.bytes (2 + i)
  same-byte i lt = sym (entry-byte f.slot.bytes i lt) ∙ ap (λ (s : Stays). slice_index s.entry i) e
      ∙ entry-byte g.slot.bytes i lt

  same-rel : is_rel f.slot ≡ is_rel g.slot
  same-rel = ap (λ (t : ℕ). nat_eq t 132 || nat_eq t 196) (same-byte 0 (omega arith))

  same-length : record_length f.slot ≡ record_length g.slot
  same-length = same-byte 21 (omega arith)

-- what files own that stay
owned-stays : (a c : Image) (fs gs : List File) → map (stays_of a) fs ≡ map (stays_of c) gs
    → flat_map file_owns fs ≡ flat_map file_owns gs
owned-stays a c fs gs e = owned-of a fs ∙ ap (λ (xs : List Stays). flat_map (λ s. s.blocks ++ s.sides) xs) e
    ∙ sym (owned-of c gs)
  where
    owned-of : (i : Image) (hs : List File) → flat_map file_owns hs ≡ flat_map (λ s. s.blocks ++ s.sides)
        (map (stays_of i) hs)
    owned-of i [] = refl
    owned-of i (h ∷ hs) = ap (λ (ps : List Place). file_owns h ++ ps) (owned-of i hs)

pub owners-same : (a c : Image) (l m : Layout) → SameFiles a c l m → owners m ≡ owners l
unfolding owners
owners-same a c l m same = ap₂ (λ (x y : List Place). x ++ y) same.directory
    (owned-stays c a m.files l.files same.files)

-- the survey of a layout tells one with the same files as well
pub survey-same : (a c : Image) (l m : Layout) (s : Survey) → SameFiles a c l m → EachOnce (map_place ∷ owners m)
    → IsSurveyOf l s → IsSurveyOf m s
survey-same a c l m s same once h = record {
  table = record {
    owned = let P : List Place → Type 0 = λ ps. (p : Place) → (owner_of s.owners p ≢ 255) ↔ Contains (map_place ∷ ps)
        p in
        subst P (ap₂ (λ (x y : List Place). x ++ y) (sym same.directory) (sym owned)) h.table.owned;
    system = let P : List Place → Type 0 = λ ps. (p : Place) → Contains (map_place ∷ ps) p
        → owner_of s.owners p ≡ 254 in subst P (sym same.directory) h.table.system;
    own = λ k f p there on.
        let (g, at, e) = alike (stays_of c) (stays_of a) m.files l.files k f same.files there in
        h.table.own k g p at (let P : List Place → Type 0 = λ ps. Contains ps p in
        subst P (sym (same-owned a c g f e)) on);
  };
  once = once;
  entries = h.entries ∙ sym (length-map l.files (stays_of a)) ∙ ap (λ (xs : List Stays). length xs) (sym same.files)
      ∙ length-map m.files (stays_of c);
  few = h.few;
  on_track = let P : List Place → Type 0 = AllByRecursion (λ p. p.track ≡ 18) in
      subst P (sym same.directory) h.on_track;
}
  where
    owned : flat_map file_owns m.files ≡ flat_map file_owns l.files
    owned = owned-stays c a m.files l.files same.files

-- b has a right map, with strays, c exact side sectors besides, d right counts: d is clean but for these
module _ (strays : List Place) (b c d : Image) (l : Layout) (is : IsLayout b l) (map-right : HasMapBut strays b) (kept : KeepsLayouts b c)
    (same-map : SameMap b c) (exact : AreExactFor b c)
    (h : IsSameButCounts c d l) (counted : AreCounted d) where
  abbrev pub mended : Layout
  mended = h.layout

  sector-left : (p : Place) → ¬ (Contains l.directory p) → sector d p ≡ sector c p
  sector-left = h.rest

  owned-off : (f : File) (p : Place) → Contains l.files f → Contains f.sides p → ¬ (Contains l.directory p)
  unfolding owners
  owned-off f p own on in_it =
      EachOnce-apart l.directory (flat_map file_owns l.files) is.once.1 p in_it
      (flat_map-in file_owns l.files f p own (Contains-append_right f.blocks f.sides p on))

  file-exact : (f : File) → Contains mended.files f → IsTrue (is_rel f.slot) → IsExactFile d f
  file-exact f own rel =
      let (k, there) = contains-get mended.files f own in
      let (g, at, e) = alike (stays_of d) (stays_of c) mended.files l.files k f h.files.files there in
      let g_own = get-contains l.files k g at in
      let P : Bool → Type 0 = λ x. IsTrue x in
      let g_rel : IsTrue (is_rel g.slot) = subst P (sym (same-rel c d g f e)) rel in
      record {
        sides = λ j q on.
            let on_g : slice_get g.sides j ≡ Some q = ap (λ (ps : List Place). slice_get ps j) (same-sides c d g f e)
            ∙ on in
            sector-left q (owned-off g q g_own (get-contains g.sides j q on_g))
            ∙ exact g.slot g.blocks g.sides (record {
              layout = l;
              sound = is;
              file = g;
              own = g_own;
              rel = g_rel;
              slot = refl;
              blocks_are = refl;
              sides_are = refl;
            }) j q on_g
            ∙ ap₂ (λ (x y : List Place). side_sector j x y (record_length g.slot)) (same-blocks c d g f e)
            (same-sides c d g f e)
            ∙ ap (side_sector j f.blocks f.sides) (same-length c d g f e);
        count = counted mended f h.sound own rel;
      }

  pub clean-after : IsCleanBut strays d mended
  clean-after = record {
    layout = h.sound;
    files = all-of (λ f. IsTrue (is_rel f.slot) → IsExactFile d f) mended.files file-exact;
    map = let P : List ℕ → Type 0 = λ x. IsMapOf x (strays ++ map_place ∷ owners mended) in
        let Q : List Place → Type 0 = λ ps. IsMapOf (sector b map_place) (strays ++ map_place ∷ ps) in
        subst P (sym same-map ∙ sym (sector-left map_place is.directory.not_map))
        (subst Q (sym (owners-same c d l mended h.files)) (map-right l is));
  }

-- on an image that is clean but for strays the map, the side sectors and the counts are right
module _ (strays : List Place) (a : Image) (l : Layout) (clean : IsCleanBut strays a l) where
  only : (m : Layout) → IsLayout a m → l ≡ m
  only m is = IsLayout-one a l m clean.layout is

  pub clean-map : HasMapBut strays a
  clean-map m is = let P : Layout → Type 0 = λ x. IsMapOf (sector a map_place) (strays ++ map_place ∷ owners x) in
      subst P (only m is) clean.map

  file-of : (m : Layout) (f : File) → IsLayout a m → Contains m.files f → IsTrue (is_rel f.slot) → IsExactFile a f
  file-of m f is own rel =
      all-in (λ x. IsTrue (is_rel x.slot) → IsExactFile a x) l.files f clean.files (let P : Layout
      → Type 0 = λ x. Contains x.files f in subst P (sym (only m is)) own) rel

  pub clean-counts : AreCounted a
  clean-counts m f is own rel = (file-of m f is own rel).count

  pub clean-sides : AreExactFor a a
  clean-sides s blocks sides parts j q there =
      let f = parts.file in
      let there_f : slice_get f.sides j ≡ Some q = ap (λ (ps : List Place). slice_get ps j) parts.sides_are ∙ there in
      (file-of parts.layout f parts.sound parts.own parts.rel).sides j q there_f
      ∙ ap₂ (λ (x y : List Place). side_sector j x y (record_length f.slot)) parts.blocks_are parts.sides_are
      ∙ ap (λ (t : Slot). side_sector j blocks sides (record_length t)) parts.slot
