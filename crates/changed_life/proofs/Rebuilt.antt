-- Side sectors built anew: relative files keep their records.
use Rattle.std.proofs.Common.{◌≡◌, ◌≤◌, ◌∙◌, ℕ, List, [], ◌∷◌, ◌++◌, Some, ap, arith, length, length-append, map, refl, subst, sym}
use Rattle.std.specs.Prelude.{Contains, IsTrue, codes, filter, flat_map, slice_get}
use Rattle.std.specs.List.{AllByRecursion}
use Rattle.d64_image.specs.Images.{Image}
use Rattle.d64_image.specs.declared.place.Place.{Place}
use Rattle.damaged_files.specs.sides.Named.{NamesNoSide, NamesSides, with_sides}
use Rattle.damaged_files.specs.sides.Rebuilt.{IsFileButSides, IsRebuilt}
use Rattle.disk_layout.proofs.lemmas.counts.Recounts.{map-map}
use Rattle.disk_layout.proofs.lemmas.layouts.Frames.{block-no_side}
use Rattle.disk_layout.proofs.lemmas.layouts.Layouts.{HasChain-one, IsDirectory-one}
use Rattle.disk_layout.proofs.lemmas.lists.Lists.{in-map}
use Rattle.disk_layout.proofs.lemmas.lists.Once.{EachOnce-right, all-in, flat_map-in, map-in}
use Rattle.disk_layout.specs.Chain.{EachOnce, Names}
use Rattle.disk_layout.specs.Layout.{File, IsFile, IsLayout, IsRelFile, Layout, file_owns, is_rel, owners, sides_for}
use Rattle.disk_layout.specs.declared.slot.Slot.{Slot}
use Rattle.changed_life.proofs.Blocks.{AreSameBlocks, same-block}
use Rattle.changed_life.proofs.Entries.{keeps-file}
use Rattle.changed_life.proofs.Firsts.{entry_of, is_entry}
use Rattle.changed_life.proofs.Shops.{kept-shop}
use Rattle.changed_life.specs.Changes.{KeepsRecords, KeepsShops}

module _ (a c : Image) (l : Layout) (was : IsLayout a l) (x : IsRebuilt a c) where
  abbrev m : Layout
  m = x.layout

  same-slots : map (λ (f : File). f.slot) l.files ≡ map (λ (f : File). f.slot) m.files
  same-slots = (IsDirectory-one a l.directory m.directory _ _ was.directory x.before.directory).1

  once : EachOnce (flat_map file_owns m.files)
  unfolding owners
  once = EachOnce-right m.directory (flat_map file_owns m.files) x.sound.once.1

  blocks-stay : (f : File) → Contains l.files f → IsTrue (is_rel f.slot) → AreSameBlocks a c f.blocks
  blocks-stay f own rel q there =
      let (g, on, e) = map-in (λ (y : File). y.slot) m.files f.slot
      (subst (λ (ss : List Slot). Contains ss f.slot) same-slots (in-map (λ (y : File). y.slot) l.files f own)) in
      let sides = (all-in (IsFileButSides a) m.files g x.before.files on).rel
      (subst (λ (s : Slot). IsTrue (is_rel s)) (sym e) rel) in
      let chain = ((all-in (IsFile a) l.files f was.files own).rel rel).chain in
      let one = HasChain-one a f g (sym e) chain sides.chain in
      let block : Contains (flat_map (λ (y : File). y.blocks) m.files) q =
      flat_map-in (λ (y : File). y.blocks) m.files g q on (subst (λ (ps : List Place). Contains ps q) one.0 there) in
      same-block a c q (sym (x.same q (block-no_side m.files once q block)))

  pub built-keeps : KeepsShops a c
  built-keeps = kept-shop a c l m was x.sound (of (codes "STOCK") 18) (of (codes "REQUESTS") 127)
    where
      of : (name : List ℕ) (L : ℕ) → KeepsRecords a c l m name L
      of name L n f first long = keeps-file a c l m was x.sound blocks-stay name L n f
          (ap (filter (is_entry name)) (sym (map-map entry_of (λ (y : File). y.slot) m.files)
          ∙ ap (map entry_of) (sym same-slots) ∙ map-map entry_of (λ (y : File). y.slot) l.files)) first long

-- a chain has a block, so its file has a side sector
has-side : (img : Image) (f : File) → IsRelFile img f → (q : Place) × (slice_get f.sides 0 ≡ Some q)
has-side img f r = first f.sides (r.count ∙ ap (λ (ps : List Place). sides_for (length ps)) r.chain.2.places)
  where
    some : 1 ≤ sides_for (length (r.chain.2.front ++ r.chain.2.last ∷ []))
    some = omega (arith, length-append r.chain.2.front (r.chain.2.last ∷ []))

    first : (ps : List Place) → length ps ≡ sides_for (length (r.chain.2.front ++ r.chain.2.last ∷ []))
        → (q : Place) × (slice_get ps 0 ≡ Some q)
    first [] many = absurd (omega (arith, many, some))
    first (p ∷ ps) many = (p, refl)

-- on a sound disk no entry of a relative file names none
pub named-same : (a c : Image) (l : Layout) → IsLayout a l → NamesSides a c → c ≡ a
named-same a c l h x = by x.named x.each x.after
  where
    entries : x.entries ≡ map (λ (f : File). f.slot) l.files
    entries = (IsDirectory-one a x.directory l.directory _ _ x.of h.directory).1

    none : (e : Slot × Place) → Contains x.entries e.0 × NamesNoSide e.0 → ⊥
    none e it =
        let (f, own, s) = map-in (λ (y : File). y.slot) l.files e.0
        (subst (λ (ss : List Slot). Contains ss e.0) entries it.0) in
        let r = (all-in (IsFile a) l.files f h.files own).rel (subst (λ (t : Slot). IsTrue (is_rel t)) (sym s) it.1.0) in
        let q = has-side a f r in
        it.1.1 q.0 (subst (λ (t : Slot). Names t.bytes 21 q.0) s (r.first_side q.0 q.1))

    by : (named : List (Slot × Place)) → AllByRecursion (λ e. Contains x.entries e.0 × NamesNoSide e.0) named
        → c ≡ with_sides a named → c ≡ a
    by [] each after = after
    by (e ∷ es) each after = absurd (none e each.0)
