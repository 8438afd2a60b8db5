-- A sound disk has no directory art at 18/0: its first block would belong to the map and to it.
use Rattle.std.proofs.Common.{◌≡◌, ◌∙◌, ◌&&◌, ◌||◌, ◌∷◌, [], ◌++◌, Bool, IsFalse, List, false, map, nat_eq, refl, subst, sym, true, ℕ}
use Rattle.std.specs.Prelude.{Contains, slice_index}
use Rattle.std.specs.List.{list_any}
use Rattle.std.proofs.lemmas.Bool.{eqb-true}
use Rattle.d64_image.proofs.Places.{same_place}
use Rattle.d64_image.specs.Images.{Image}
use Rattle.d64_image.specs.Memory.{sectors_in}
use Rattle.d64_image.specs.declared.place.Place.{Place}
use Rattle.disk_changes.specs.Art.{HasArt, is_on_map}
use Rattle.disk_layout.proofs.lemmas.layouts.Agree.{map-unowned, owned-block}
use Rattle.disk_layout.proofs.lemmas.layouts.Layouts.{IsDirectory-one}
use Rattle.disk_layout.proofs.lemmas.lists.Once.{Contains-here, Contains-there, all-in}
use Rattle.disk_layout.specs.Chain.{IsChain, Leads}
use Rattle.disk_layout.specs.Directory.{map_place, type_byte}
use Rattle.disk_layout.specs.Layout.{File, IsFile, IsSound, count_field, is_rel_type}
use Rattle.disk_layout.specs.declared.slot.Slot.{Slot}
use Rattle.file_rescues.specs.rescue.Art.{starts_nowhere}

both : (a b : Bool) → (a && b) ≡ true → (a ≡ true) × (b ≡ true)
both true b h = (refl, h)
both false b h = cc

-- one of the files has such an entry
found : (fs : List File) → list_any is_on_map (map (λ f. f.slot) fs) ≡ true
    → (f : File) × Contains fs f × (is_on_map f.slot ≡ true)
found [] h = cc
found (f ∷ fs) h = step (found fs) (is_on_map f.slot) refl h
  where
    step : (list_any is_on_map (map (λ g. g.slot) fs) ≡ true → (g : File) × Contains fs g × (is_on_map g.slot ≡ true))
        → (b : Bool) → is_on_map f.slot ≡ b → (b || list_any is_on_map (map (λ g. g.slot) fs)) ≡ true
        → (g : File) × Contains (f ∷ fs) g × (is_on_map g.slot ≡ true)
    step more true is any = (f, Contains-here f fs, is)
    step more false is any = let (g, there, art) = more any in (g, Contains-there g f fs there, art)

-- such an entry isn't relative, and its first block is the map's
not-relative : (t : ℕ) → (nat_eq t 128 || nat_eq t 192) ≡ true → IsFalse (is_rel_type t)
not-relative t h = step (nat_eq t 128) refl h
  where
    step : (b : Bool) → nat_eq t 128 ≡ b → (b || nat_eq t 192) ≡ true → IsFalse (is_rel_type t)
    step true is any = rw (eqb-true t 128 is) refl
    step false is any = rw (eqb-true t 192 any) refl

at-map : (track sector : ℕ) → nat_eq track 18 ≡ true
    → (nat_eq track 0 || (nat_eq track 18 && nat_eq sector 0)) ≡ true → sector ≡ 0
at-map track sector is nowhere =
    eqb-true sector 0 (subst (λ (t : ℕ). (nat_eq t 0 || (nat_eq t 18 && nat_eq sector 0)) ≡ true) (eqb-true track 18 is) nowhere)

-- a chain has its first place
begins : (img : Image) (p : Place) (ps : List Place) (u : ℕ) → IsChain img p ps u → Contains ps p
begins img p ps u chain = subst (λ (qs : List Place). Contains qs p) (sym chain.places)
    (first chain.front chain.last chain.leads)
  where
    first : (vs : List Place) (last : Place) → Leads img p vs last → Contains (vs ++ last ∷ []) p
    first [] last same = subst (λ (q : Place). Contains (q ∷ []) p) same (Contains-here p [])
    first (v ∷ vs) last (next, same, link, more) =
        subst (λ (q : Place). Contains (q ∷ vs ++ last ∷ []) p) (sym same) (Contains-here p (vs ++ last ∷ []))

owns-map : (img : Image) (f : File) → IsFile img f → is_on_map f.slot ≡ true → Contains f.blocks map_place
owns-map img f file art =
    let s = f.slot in
    let (is_art, track) = both _ (nat_eq (slice_index s.bytes 3) 18) art in
    let (kind, rest) = both (nat_eq (type_byte s) 128 || nat_eq (type_byte s) 192) _ is_art in
    let (none, nowhere) = both (nat_eq (count_field s) 0) (starts_nowhere s) rest in
    let t : slice_index s.bytes 3 ≡ 18 = eqb-true (slice_index s.bytes 3) 18 track in
    let z : slice_index s.bytes 4 ≡ 0 = at-map (slice_index s.bytes 3) (slice_index s.bytes 4) track nowhere in
    let (p, names, chain) = (file.plain (not-relative (type_byte s) kind) (λ e. cc)).0 in
    let same : p ≡ map_place = same_place p map_place (sym names.0 ∙ t) (sym names.1 ∙ z) in
    subst (Contains f.blocks) same (begins img p f.blocks f.last chain)

pub sound-artless : (image : List ℕ) (entries : List Slot) → IsSound (sectors_in image) → HasArt image entries → ⊥
sound-artless image entries (l, layout) art =
    let img = sectors_in image in
    let one = (IsDirectory-one img art.sectors l.directory entries _ art.directory layout.directory).1 in
    let (f, there, on_map) = found l.files (subst (λ (xs : List Slot). list_any is_on_map xs ≡ true) one art.some) in
    map-unowned img l layout (owned-block l f map_place there
    (owns-map img f (all-in (IsFile img) l.files f layout.files there) on_map))
