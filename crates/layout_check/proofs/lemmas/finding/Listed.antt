-- The entries of a directory: where each stands, and that no two are one.
use Rattle.std.proofs.Common.{
  ℕ,
  ◌≡◌,
  ◌≢◌,
  ◌<◌,
  ◌+◌,
  true,
  List,
  [],
  ◌∷◌,
  ◌++◌,
  sym,
  ◌∙◌,
  ap,
  arith,
  subst,
  append_assoc,
}
use Rattle.std.specs.Prelude.{Contains, Some, flat_map, slice_get}
use Rattle.std.specs.List.{AllByRecursion}
use Rattle.std.proofs.lemmas.Bool.Decides.{nat_tests}
use Rattle.std.proofs.lemmas.Option.{slice_get_within}
use Rattle.d64_image.specs.Images.{Image, sector}
use Rattle.d64_image.specs.declared.place.Place.{Place}
use Rattle.disk_layout.proofs.lemmas.chains.Directories.{directory-places}
use Rattle.disk_layout.proofs.lemmas.counts.Recount.{flat_map-out, slot-get, slot-there}
use Rattle.disk_layout.proofs.lemmas.counts.Slots.{slots-eight}
use Rattle.disk_layout.proofs.lemmas.growth.Commit.{all-left}
use Rattle.disk_layout.proofs.lemmas.layouts.Layouts.{get-contains}
use Rattle.disk_layout.proofs.lemmas.lists.Lists.{contains-get, filter-once, numbered-once}
use Rattle.disk_layout.proofs.lemmas.lists.Once.{EachOnce-join}
use Rattle.disk_layout.specs.Chain.{EachOnce}
use Rattle.disk_layout.specs.Directory.{
  IsDirectory,
  IsDirectoryPlace,
  directory_start,
  is_used,
  slot_in,
  slots_in,
  type_byte,
  used_slots,
}
use Rattle.disk_layout.specs.Fault.{IsDirectorySector}
use Rattle.disk_layout.specs.declared.slot.Slot.{Slot}
use Rattle.layout_check.proofs.lemmas.finding.Assembly.{chain-visits}
use Rattle.layout_check.specs.Entry.{IsEntry}

-- lists side by side, each element of which tells of which it is
flat_map-once : {X Y : Type 0} (f : X → List Y) (key : Y → X) (xs : List X) → EachOnce xs → ((x : X) → EachOnce (f x))
    → ((x : X) (y : Y) → Contains (f x) y → key y ≡ x) → EachOnce (flat_map f xs)
flat_map-once f key [] once each tells = tt
flat_map-once f key (x ∷ xs) once each tells = EachOnce-join (f x) (flat_map f xs) (each x)
    (flat_map-once f key xs once.1 each tells)
    (λ y c d. let (z, e, h) = flat_map-out f xs y d in let same : z ≡ x = sym (tells z y h)
    ∙ tells x y c in once.0 (rw (← same) e))

slot-found : (p : Place) (bytes : List ℕ) (k : ℕ) (s : Slot) → slice_get (slots_in p bytes) k ≡ Some s
    → slot_in p bytes k ≡ s
slot-found p bytes k s h =
    let below : k < 8 = omega (arith, slice_get_within (slots_in p bytes) k s h, slots-eight p bytes) in
    cc (slot-get p bytes k below)

slots-once : (p : Place) (bytes : List ℕ) → EachOnce (slots_in p bytes)
slots-once p bytes = numbered-once (λ (s : Slot). s.number) 0 (slots_in p bytes) (λ k s h. let e : 0 + k ≡ k =
    omega arith in ap (λ (x : Slot). x.number) (sym (slot-found p bytes k s h)) ∙ sym e)

slots-sector : (p : Place) (bytes : List ℕ) (s : Slot) → Contains (slots_in p bytes) s → s.sector ≡ p
slots-sector p bytes s c = let (k, h) = contains-get (slots_in p bytes) s c in
    ap (λ (x : Slot). x.sector) (sym (slot-found p bytes k s h))

pub used-once : (img : Image) (ps : List Place) → EachOnce ps → EachOnce (used_slots img ps)
unfolding used_slots
used-once img ps once = filter-once is_used _ (flat_map-once (λ p. slots_in p (sector img p)) (λ s. s.sector) ps once
    (λ p. slots-once p (sector img p)) (λ p s c. slots-sector p (sector img p) s c))

pub entries-once : (img : Image) (ps : List Place) (es : List Slot) → IsDirectory img ps es → EachOnce es
entries-once img ps es d = rw d.slots (used-once img ps d.chain.once)

pub directory-sector : (img : Image) (ps : List Place) (es : List Slot) (p : Place) → IsDirectory img ps es
    → Contains ps p → IsDirectorySector img p
directory-sector img ps es p d c =
    let (vs, rest, eq, visits) = chain-visits img directory_start ps d.last p d.chain c in
    let all = let P : List Place → Type 0 = AllByRecursion IsDirectoryPlace in
    subst P (eq ∙ sym (append_assoc vs (p ∷ []) rest)) (directory-places ps d.on_track d.not_map) in
    record { before = vs; visits = visits; places = all-left IsDirectoryPlace (vs ++ p ∷ []) rest all }

used-byte : (s : Slot) → is_used s ≡ true → type_byte s ≢ 0
used-byte s h = grind (arith, nat_tests)

pub entry-listed : (img : Image) (ps : List Place) (es : List Slot) (s : Slot) → IsDirectory img ps es → Contains es s
    → IsEntry img s
entry-listed img ps es s d c =
    let (on, low, same, used) = slot-there img ps s (rw (← d.slots) c) in
    record {
      slot = record {
        directory = directory-sector img ps es s.sector d on;
        slot = get-contains (slots_in s.sector (sector img s.sector)) s.number s
            (slot-get s.sector (sector img s.sector) s.number low ∙ ap Some (sym same));
      };
      used = used-byte s used;
    }
