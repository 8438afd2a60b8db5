-- Side sectors that are right, gone over in order.
use Rattle.std.proofs.Common.{ℕ, ◌≡◌, ◌<◌, ◌≤◌, ◌+◌, List, [], ◌∷◌, ◌++◌, length, map, get_or, take, drop, slice_index}
use Rattle.std.proofs.Common.{inl, inr, sym, ◌∙◌, ap, refl, arith, subst, suc, zero, IsFalse, IsTrue}
use Rattle.std.specs.Prelude.{Contains, Some, slice_get}
use Rattle.std.proofs.lemmas.Bool.{cases_eq}
use Rattle.std.proofs.lemmas.Grind.{flat_map-append}
use Rattle.std.proofs.lemmas.List.{append-nil, length-map, take-append-drop, take_all}
use Rattle.std.proofs.lemmas.List.Elements.{Contains-append_right}
use Rattle.d64_image.specs.Images.{Image, Sector, sector}
use Rattle.d64_image.specs.declared.place.Place.{Place}
use Rattle.disk_layout.proofs.lemmas.counts.Recount.{slot-there}
use Rattle.disk_layout.proofs.lemmas.counts.Recounts.{slot-of}
use Rattle.disk_layout.proofs.lemmas.layouts.Layouts.{IsDirectory-one, get-contains}
use Rattle.disk_layout.proofs.lemmas.layouts.Twice.{files-apart, file-once}
use Rattle.disk_layout.proofs.lemmas.lists.Lists.{contains-get, take-get, get-once, read-there}
use Rattle.disk_layout.proofs.lemmas.lists.Once.{EachOnce-left, EachOnce-right, all-in, flat_map-in}
use Rattle.disk_layout.specs.Chain.{EachOnce}
use Rattle.disk_layout.specs.Directory.{IsDirectory}
use Rattle.disk_layout.specs.Layout.{File, IsFile, IsLayout, Layout, is_rel, record_length}
use Rattle.disk_layout.specs.Side.{side_sector}
use Rattle.disk_layout.specs.declared.slot.Slot.{Slot}
use Rattle.layout_check.proofs.lemmas.judging.Inexact.{parts-of}
use Rattle.layout_check.proofs.lemmas.repairing.Rights.{files-once, side-not_directory, side-not_map, sides-once}
use Rattle.layout_check.proofs.lemmas.mending.SideMends.{file-sector, parts-in}
use Rattle.layout_check.specs.Exact.{AreExactSides}
use Rattle.layout_check.specs.RepairOrder.{IsOnlyRight, IsRight, sides_of}
use Rattle.layout_check.specs.Mended.{IsPartsOf}
use Rattle.layout_check.specs.Sides.{HasParts}

module _ (img : Image) (l : Layout) (is : IsLayout img l) where
  pub file-sides_once : (f : File) → Contains l.files f → EachOnce f.sides
  file-sides_once f own = EachOnce-right f.blocks f.sides (file-once l.files f (files-once img l is) own)

  -- a side sector is one of one file
  side-same : (f g : File) (j k : ℕ) (p : Place) → Contains l.files f → Contains l.files g
      → slice_get f.sides j ≡ Some p → slice_get g.sides k ≡ Some p
      → side_sector j f.blocks f.sides (record_length f.slot) ≡ side_sector k g.blocks g.sides (record_length g.slot)
  side-same f g j k p own_f own_g at_f at_g =
      let one : f ≡ g = files-apart l.files f g p (files-once img l is) own_f own_g
      (Contains-append_right f.blocks f.sides p (get-contains f.sides j p at_f))
      (Contains-append_right g.blocks g.sides p (get-contains g.sides k p at_g)) in
      let number : j ≡ k = get-once f.sides j k p (file-sides_once f own_f) at_f
      (ap (λ (x : File). slice_get x.sides k) one ∙ at_g) in
      ap (λ (n : ℕ). side_sector n f.blocks f.sides (record_length f.slot)) number
      ∙ ap (λ (x : File). side_sector k x.blocks x.sides (record_length x.slot)) one

  -- the directory has the sector of each file's slot
  slot-listed : (f : File) → Contains l.files f → Contains l.directory f.slot.sector
  slot-listed f own = (slot-there img l.directory f.slot (slot-of img l f is own)).0

  -- its exact bytes are right
  pub side-right : (f : File) (j : ℕ) (p : Place) → Contains l.files f → slice_get f.sides j ≡ Some p
      → IsRight l p (side_sector j f.blocks f.sides (record_length f.slot))
  side-right f j p own there = record {
    map = λ e. absurd (side-not_map img l is (let P : Place → Type 0 = Contains (sides_of l.files) in
        subst P e in_all));
    side = λ g k own_g rel at. side-same f g j k p own own_g there at;
    counts = λ g own_g rel e. absurd (side-not_directory img l is p in_all (let P : Place
        → Type 0 = Contains l.directory in subst P e (slot-listed g own_g)));
  }
    where
      in_all : Contains (sides_of l.files) p
      in_all = flat_map-in (λ (x : File). x.sides) l.files f p own (get-contains f.sides j p there)

  -- the same of a relative file's parts
  module _ (s : Slot) (bs ss : List Place) (h : IsPartsOf img s bs ss) where
    own : Contains l.files h.file
    own = parts-in img s bs ss l h is

    at : (n : ℕ) (p : Place) → slice_get ss n ≡ Some p → slice_get h.file.sides n ≡ Some p
    at n p there = ap (λ (xs : List Place). slice_get xs n) h.sides_are ∙ there

    pub parts-once : EachOnce ss
    parts-once = let P : List Place → Type 0 = EachOnce in subst P h.sides_are (file-sides_once h.file own)

    pub part-right : (n : ℕ) (p : Place) → slice_get ss n ≡ Some p → IsRight l p (side_sector n bs ss (record_length s))
    part-right n p there = let P : Sector → Type 0 = IsRight l p in
        subst P (file-sector img s bs ss n h) (side-right h.file n p own (at n p there))

    -- and no others are
    pub part-one : (n : ℕ) (p : Place) (bytes : Sector) → slice_get ss n ≡ Some p → IsRight l p bytes
        → side_sector n bs ss (record_length s) ≡ bytes
    part-one n p bytes there r = sym (r.side h.file n own h.rel (at n p there) ∙ file-sector img s bs ss n h)

    pub part-only : (n : ℕ) (p : Place) (bytes : Sector) → slice_get ss n ≡ Some p
        → bytes ≡ side_sector n bs ss (record_length s) → IsOnlyRight l p bytes
    part-only n p bytes there e = record {
      right = let P : Sector → Type 0 = IsRight l p in subst P (sym e) (part-right n p there);
      only = λ others r. e ∙ part-one n p others there r;
    }

    -- where all are exact, all are right
    pub parts-right : AreExactSides img s bs ss → (p : Place) → Contains ss p → IsRight l p (sector img p)
    parts-right exact p c =
        let (n, there) = contains-get ss p c in
        let P : Sector → Type 0 = IsRight l p in
        subst P (sym (exact n p there)) (part-right n p there)

-- the side sectors that were found are those of the file
pub sides-found : (img : Image) (l : Layout) (f : File) (s : Slot) (blocks sides items : List Place) → IsLayout img l
    → Contains l.files f → f.slot ≡ s → IsTrue (is_rel s) → HasParts img s blocks sides → items ≡ sides
    → items ≡ f.sides
sides-found img l f s blocks sides items is own slot rel h read = read
    ∙ sym (ap (λ (x : File). x.sides) (parts-of img l f s blocks sides is own slot rel h))

-- the file of an entry that the directory lists
pub file-at : (img : Image) (l : Layout) (ps : List Place) (items : List Slot) (k : ℕ) (s : Slot) → IsLayout img l
    → IsDirectory img ps items → k < length items → s ≡ get_or items k s → (f : File) × (slice_get l.files k ≡ Some f)
    × (f.slot ≡ s)
file-at img l ps items k s is d below read =
    let same = (IsDirectory-one img ps l.directory items (map (λ (f : File). f.slot) l.files) d is.directory).1 in
    let P : List Slot → Type 0 = λ xs. slice_get xs k ≡ Some s in
    in-files l.files k (subst P same (read-there items k s below read))
  where
    in-files : (fs : List File) (n : ℕ) → slice_get (map (λ (f : File). f.slot) fs) n ≡ Some s → (f : File)
        × (slice_get fs n ≡ Some f) × (f.slot ≡ s)
    in-files [] n e = cc
    in-files (f ∷ fs) zero e = (f, refl, cc)
    in-files (f ∷ fs) (suc n) e = in-files fs n e

-- a file that isn't relative has no side sectors
pub plain-sides : (img : Image) (l : Layout) (f : File) → IsLayout img l → Contains l.files f → IsFalse (is_rel f.slot)
    → f.sides ≡ []
plain-sides img l f is own plain =
    let file = all-in (IsFile img) l.files f is.files own in
    elim (cases_eq (slice_index f.slot.bytes 3) 0) [
      | inl none ↦ (file.empty plain none).2
      | inr some ↦ (file.plain plain some).1
    ]

-- the side sectors of one file more
pub sides-next : (fs : List File) (n : ℕ) (f : File) → slice_get fs n ≡ Some f
    → sides_of (take (n + 1) fs) ≡ sides_of (take n fs) ++ f.sides
sides-next fs n f there = ap sides_of (take-get fs n f there)
    ∙ flat_map-append (λ (x : File). x.sides) (take n fs) (f ∷ [])
    ∙ ap (λ (ps : List Place). sides_of (take n fs) ++ ps) (append-nil f.sides)

pub sides-past : (fs : List File) (n : ℕ) (f : File) → slice_get fs n ≡ Some f → f.sides ≡ []
    → sides_of (take n fs) ≡ sides_of (take (n + 1) fs)
sides-past fs n f there none = sym (sides-next fs n f there ∙ ap (λ (ps : List Place). sides_of (take n fs) ++ ps) none
    ∙ append-nil (sides_of (take n fs)))

pub sides-split : (fs : List File) (n : ℕ) → sides_of (take n fs) ++ sides_of (drop n fs) ≡ sides_of fs
sides-split fs n = sym (flat_map-append (λ (x : File). x.sides) (take n fs) (drop n fs))
    ∙ ap sides_of (take-append-drop n fs)

pub sides-all : (img : Image) (l : Layout) (ps : List Place) (items : List Slot) (n : ℕ) → IsLayout img l
    → IsDirectory img ps items → length items ≤ n → sides_of (take n l.files) ≡ sides_of l.files
sides-all img l ps items n is d all =
    let same = (IsDirectory-one img ps l.directory items (map (λ (f : File). f.slot) l.files) d is.directory).1 in
    ap sides_of (take_all n l.files (omega (arith, all, ap length same, length-map l.files (λ (f : File). f.slot))))

-- the side sectors of one file more are apart
pub sides-apart : (img : Image) (l : Layout) (n : ℕ) (f : File) → IsLayout img l → slice_get l.files n ≡ Some f
    → EachOnce (sides_of (take n l.files) ++ f.sides)
sides-apart img l n f is there =
    let P : List Place → Type 0 = EachOnce in
    let all = sides-once l.files (files-once img l is) in
    subst P (sides-next l.files n f there) (EachOnce-left (sides_of (take (n + 1) l.files))
    (sides_of (drop (n + 1) l.files)) (subst P (sym (sides-split l.files (n + 1))) all))
