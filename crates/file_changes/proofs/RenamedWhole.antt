-- A disk stays clean, and its files whole, when an entry gets another name.
use Rattle.std.proofs.Common.{◌≡◌, ℕ, ◌≤◌, ◌-◌, List, ◌∷◌, ◌++◌, IsTrue, ap, arith, drop, length, map}
use Rattle.std.proofs.Common.{refl, subst, suc, sym, take, ◌*◌, ◌+◌, ◌∙◌}
use Rattle.std.proofs.lemmas.Grind.{flat_map-append}
use Rattle.std.proofs.lemmas.List.{map-append}
use Rattle.std.proofs.lemmas.List.Elements.{Contains-append_left, Contains-append_right}
use Rattle.std.specs.List.{AllByRecursion}
use Rattle.std.specs.Prelude.{Contains, Some, flat_map, nat_eq, nat_le, slice_get, ◌&&◌, ◌||◌}
use Rattle.d64_image.proofs.Images.{sector-put_other}
use Rattle.d64_image.specs.Images.{Image, IsImage, sector}
use Rattle.d64_image.specs.declared.place.Place.{Place}
use Rattle.disk_layout.proofs.lemmas.growth.Commit.{all-join, all-left, all-right}
use Rattle.disk_layout.proofs.lemmas.layouts.Layouts.{get-contains}
use Rattle.disk_layout.proofs.lemmas.layouts.Unclean.{clean-of}
use Rattle.disk_layout.proofs.lemmas.lists.Lists.{all-map, alike, contains-get}
use Rattle.disk_layout.proofs.lemmas.lists.Once.{Contains-there}
use Rattle.disk_layout.proofs.lemmas.whole.Files.{clean-exact}
use Rattle.disk_layout.specs.Clean.{IsClean, IsCleanLayout, IsExactFile}
use Rattle.disk_layout.specs.Directory.{map_place, type_byte}
use Rattle.disk_layout.specs.Layout.{File, IsLayout, Layout, count_field, file_owns, is_rel, owners}
use Rattle.disk_layout.specs.Side.{side_sector}
use Rattle.disk_layout.specs.Whole.{IsWhole}
use Rattle.rel_records.proofs.lemmas.whole.Created.{IsLong, exact-long}
use Rattle.file_changes.proofs.Renamed.{count-same, files-now, kind-same, length-same, rel-same, renamed-layout, stays}
use Rattle.file_changes.proofs.Reslotted.{own, place, split}
use Rattle.file_changes.specs.Entries.{renamed, with_file}
use Rattle.file_changes.specs.Patches.{patched}
use Rattle.file_changes.specs.Renames.{IsRenamed}
use Rattle.disk_layout.specs.Rest.{slot_name}

-- what files that are whole ask of an entry and its blocks
record Traits : Type 0 where
  kind : ℕ
  count : ℕ
  blocks : List Place

abbrev traits : File → Traits
traits y = record { kind = type_byte y.slot; count = count_field y.slot; blocks = y.blocks }

module _ (a : Image) (l : Layout) (n : ℕ) (f : File) (to : List ℕ) (h : IsLayout a l)
    (at : slice_get l.files n ≡ Some f) (image : IsImage a) (few : length to ≤ 16) where
  abbrev c : Image
  c = patched a f.slot.sector (32 * f.slot.number + 5) (slot_name to)

  abbrev g : File
  g = renamed f to

  abbrev m : Layout
  m = with_file l n (renamed f to)

  now : IsLayout c m
  now = renamed-layout a l n f to h at image few

  exact-still : (y : File) → Contains l.files y → (IsTrue (is_rel y.slot) → IsExactFile a y) → IsTrue (is_rel y.slot)
      → IsExactFile c y
  exact-still y on exact rel = record {
    sides = λ j q e. stays a l n f to h at image few y q on
        (Contains-append_right y.blocks y.sides q (get-contains y.sides j q e)) ∙ (exact rel).sides j q e;
    count = (exact rel).count;
  }

  exact-new : (IsTrue (is_rel f.slot) → IsExactFile a f) → IsTrue (is_rel (renamed f to).slot) → IsExactFile c (renamed f to)
  exact-new exact rel =
      let old : IsExactFile c f = exact-still f (own a l n f h at) exact
      (sym (rel-same a l n f to h at image few) ∙ rel) in
      record {
        sides = λ j q e. old.sides j q e
            ∙ ap (side_sector j f.blocks f.sides) (sym (length-same a l n f to h at image few));
        count = count-same a l n f to h at image few ∙ old.count;
      }

  same-owners : owners m ≡ owners l
  unfolding owners
  same-owners = ap (λ (ps : List Place). l.directory ++ ps)
      (ap (flat_map file_owns) (files-now a l n f to h at image few) ∙ flat_map-append file_owns (take n l.files) (g ∷ drop (suc n) l.files)
      ∙ sym (ap (flat_map file_owns) (split a l n f h at)
      ∙ flat_map-append file_owns (take n l.files) (f ∷ drop (suc n) l.files)))

  map-same : sector c map_place ≡ sector a map_place
  map-same = sector-put_other a f.slot.sector map_place _ (λ e. h.directory.not_map
      (let P : Place → Type 0 = Contains l.directory in subst P e (place a l n f h at).0))

  pub renamed-clean : IsCleanLayout a l → IsCleanLayout c m
  renamed-clean clean =
      let P : File → Type 0 = λ y. IsTrue (is_rel y.slot) → IsExactFile a y in
      let Q : File → Type 0 = λ y. IsTrue (is_rel y.slot) → IsExactFile c y in
      let AllQ : List File → Type 0 = AllByRecursion Q in
      let parts : AllByRecursion P (take n l.files ++ f ∷ drop (suc n) l.files) =
      (let R : List File → Type 0 = AllByRecursion P in subst R (split a l n f h at) clean.files) in
      let right = all-right P (take n l.files) (f ∷ drop (suc n) l.files) parts in
      let in-all : (y : File) → Contains (take n l.files ++ f ∷ drop (suc n) l.files) y → Contains l.files y =
      λ y on. (let R : List File → Type 0 = λ fs. Contains fs y in subst R (sym (split a l n f h at)) on) in
      record {
        layout = now;
        files = subst AllQ (sym (files-now a l n f to h at image few))
            (all-join Q (take n l.files) (g ∷ drop (suc n) l.files)
            (all-map P Q (take n l.files) (λ y on. exact-still y (in-all y
            (Contains-append_left (take n l.files) (f ∷ drop (suc n) l.files) y on)))
            (all-left P (take n l.files) (f ∷ drop (suc n) l.files) parts)) (
              exact-new right.0,
              all-map P Q (drop (suc n) l.files) (λ y on. exact-still y (in-all y
                  (Contains-append_right (take n l.files) (f ∷ drop (suc n) l.files) y
                  (Contains-there y f (drop (suc n) l.files) on)))) right.1,
            ));
        map = rw (map-same, same-owners) clean.map;
      }

  same-traits : map traits m.files ≡ map traits l.files
  same-traits = ap (map traits) (files-now a l n f to h at image few)
      ∙ map-append traits (take n l.files) (g ∷ drop (suc n) l.files)
      ∙ ap (λ (t : Traits). map traits (take n l.files) ++ t ∷ map traits (drop (suc n) l.files))
      (λ i. record {
        kind = kind-same a l n f to h at image few i;
        count = count-same a l n f to h at image few i;
        blocks = f.blocks;
      })
      ∙ sym (ap (map traits) (split a l n f h at) ∙ map-append traits (take n l.files) (f ∷ drop (suc n) l.files))

  abbrev has_end : ℕ → Type 0
  has_end t = IsTrue ((nat_eq t 132 || nat_eq t 196) || ((nat_le 129 t && nat_le t 131) || (nat_le 193 t && nat_le t 195)))

  abbrev is_plain_type : ℕ → Type 0
  is_plain_type t = IsTrue ((nat_le 129 t && nat_le t 131) || (nat_le 193 t && nat_le t 195))

  long : IsWhole a → (y : File) → Contains m.files y → IsLong c y
  long w y on =
      let (j, there) = contains-get m.files y on in
      let (z, was, e) = alike traits traits m.files l.files j y same-traits there in
      let old = w l h j z was in (
        λ t.
            let plain = subst is_plain_type (sym (ap (λ (x : Traits). x.kind) e)) t in
            omega (arith, old.counted plain, ap (λ (x : Traits). x.count) e, ap (λ (x : Traits). length x.blocks) e),
        λ t q last zeros.
            let kind = subst has_end (sym (ap (λ (x : Traits). x.kind) e)) t in
            let last' : slice_get z.blocks (length z.blocks - 1) ≡ Some q =
            ap (λ (ps : List Place). slice_get ps (length ps - 1)) (ap (λ (x : Traits). x.blocks) e) ∙ last in
            old.ended kind q last' (sym (stays a l n f to h at image few z q (get-contains l.files j z was)
            (Contains-append_left z.blocks z.sides q (get-contains z.blocks _ q last'))) ∙ zeros),
      )

  pub renamed-whole : IsClean a → IsWhole a → IsWhole c
  renamed-whole clean w = exact-long c m now
      (λ j y there. clean-exact c m j y (renamed-clean (clean-of a l h clean)) there) (long w)

  pub is-renamed : IsRenamed a l n f to c
  is-renamed = record {
    bytes = refl;
    layout = now;
    files = stays a l n f to h at image few;
    clean = renamed-clean;
    whole = renamed-whole;
  }
