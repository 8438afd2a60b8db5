-- What a file that stays keeps of its entry.
use Rattle.std.proofs.Common.{◌≡◌, ◌⊎◌, ℕ, ◌+◌, ◌-◌, ◌*◌, ◌<◌, inl, inr, List, [], ◌∷◌, map, sym, ◌∙◌, ap, arith, subst, Bool}
use Rattle.std.proofs.Common.{IsTrue, slice_index, take, drop}
use Rattle.std.proofs.lemmas.List.{get_or-drop, get_or-take}
use Rattle.std.specs.Prelude.{Contains, get_or, nat_eq, slice_range, ◌||◌}
use Rattle.d64_image.proofs.Places.{same_or_other}
use Rattle.d64_image.specs.Images.{Image, Sector}
use Rattle.d64_image.specs.declared.place.Place.{Place}
use Rattle.disk_layout.proofs.lemmas.kept.Kept.{entry-byte, kept-of_stays}
use Rattle.disk_layout.proofs.lemmas.lists.Lists.{alike}
use Rattle.disk_layout.proofs.lemmas.lists.Once.{Contains-cases, Contains-here, Contains-nil, Contains-there}
use Rattle.disk_layout.specs.Directory.{slot_in}
use Rattle.disk_layout.specs.Layout.{File, Layout, is_rel, record_length}
use Rattle.disk_layout.specs.Listed.{HasStock}
use Rattle.disk_layout.specs.Rest.{Kept}
use Rattle.disk_layout.specs.Same.{Stays, stays_of}

-- a byte of it
pub same-byte : (a c : Image) (f g : File) → stays_of a f ≡ stays_of c g → (i : ℕ) → i < 28
    → slice_index f.slot.bytes (2 + i) ≡ slice_index g.slot.bytes (2 + i)
same-byte a c f g e i lt = sym (entry-byte f.slot.bytes i lt) ∙ ap (λ (s : Stays). slice_index s.entry i) e
    ∙ entry-byte g.slot.bytes i lt

pub same-rel : (a c : Image) (f g : File) → stays_of a f ≡ stays_of c g → is_rel f.slot ≡ is_rel g.slot
same-rel a c f g e = ap (λ (t : ℕ). nat_eq t 132 || nat_eq t 196) (same-byte a c f g e 0 (omega arith))

pub same-length : (a c : Image) (f g : File) → stays_of a f ≡ stays_of c g → record_length f.slot ≡ record_length g.slot
same-length a c f g e = same-byte a c f g e 21 (omega arith)

pub same-name : (a c : Image) (f g : File) → stays_of a f ≡ stays_of c g
    → slice_range f.slot.bytes 5 21 ≡ slice_range g.slot.bytes 5 21
same-name a c f g e = ap (λ (r : Kept). r.name) (kept-of_stays a c f g e)

pub in-or-out : (ps : List Place) (q : Place) → Contains ps q ⊎ ¬ (Contains ps q)
in-or-out [] q = inr (λ c. Contains-nil q c)
in-or-out (p ∷ ps) q = elim (same_or_other p q) [
  | inl e ↦ inl (let P : Place → Type 0 = Contains (p ∷ ps) in subst P e (Contains-here p ps))
  | inr ne ↦ elim (in-or-out ps q) [
    | inl c ↦ inl (Contains-there q p ps c)
    | inr out ↦ inr (λ c. elim (Contains-cases q p ps c) [ inl e ↦ ne e | inr d ↦ out d ])
  ]
]

-- a byte of part of a list
pub range-byte : (xs : List ℕ) (a k i : ℕ) → i < k → slice_index (slice_range xs a (a + k)) i ≡ slice_index xs (a + i)
range-byte xs a k i lt =
    let n : a + k - a ≡ k = omega arith in
    ap (λ m. get_or (take m (drop a xs)) i 0) n ∙ get_or-take k (drop a xs) i 0 lt ∙ get_or-drop a xs i 0

pub count-byte : (p : Place) (bytes : Sector) (n i : ℕ) → i < 2
    → slice_index (slice_range (slot_in p bytes n).bytes 30 32) i ≡ slice_index bytes (32 * n + 30 + i)
count-byte p bytes n i lt =
    let e : 32 * n + (30 + i) ≡ 32 * n + 30 + i = omega arith in
    range-byte (slot_in p bytes n).bytes 30 2 i lt ∙ range-byte bytes (32 * n) 32 (30 + i) (omega (arith, lt))
    ∙ ap (slice_index bytes) e

-- a disk that keeps its files has a STOCK if it had one
pub stock-stays : (a c : Image) (l m : Layout) → map (stays_of c) m.files ≡ map (stays_of a) l.files → HasStock m
    → HasStock l
stock-stays a c l m files (i, g, at, stock) =
    let (h, was, same) = alike (stays_of c) (stays_of a) m.files l.files i g files at in
    let P : Bool → Type 0 = IsTrue in (
      i,
      h,
      was,
      (
        subst P (sym (same-rel a c h g same)) stock.0,
        same-name a c h g same ∙ stock.1,
        same-length a c h g same ∙ stock.2,
      ),
    )
