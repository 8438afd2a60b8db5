-- A layout stays one where all that it reads stays.
use Rattle.std.proofs.Common.{◌≡◌, ◌≢◌, ℕ, inl, inr, List, [], ◌∷◌}
use Rattle.std.proofs.Common.{length, slice_index, refl, sym, ◌∙◌, ap}
use Rattle.std.specs.Prelude.{Contains, filter, flat_map}
use Rattle.std.specs.List.{AllByRecursion}
use Rattle.std.proofs.lemmas.Bool.{cases_eq}
use Rattle.std.proofs.lemmas.List.Elements.{Contains-append_left, Contains-append_right}
use Rattle.std.proofs.lemmas.List.Elements.{Contains-append_cases}
use Rattle.d64_image.proofs.Images.{sector-put_other, sector-put_same}
use Rattle.d64_image.proofs.Places.{same_index}
use Rattle.d64_image.specs.Images.{Image, put, sector}
use Rattle.d64_image.specs.Places.{index_of}
use Rattle.d64_image.specs.declared.place.Place.{Place}
use Rattle.disk_layout.proofs.lemmas.chains.Chains.{AgreeAt, IsChain-frame, SameLinks}
use Rattle.disk_layout.proofs.lemmas.chains.Chains.{links-agree}
use Rattle.disk_layout.proofs.lemmas.lists.Once.{Contains-here, Contains-nil, Contains-there, EachOnce-apart}
use Rattle.disk_layout.proofs.lemmas.lists.Once.{EachOnce-left, EachOnce-right}
use Rattle.disk_layout.specs.Chain.{EachOnce, byte}
use Rattle.disk_layout.specs.Directory.{IsDirectory, directory_start, is_used, slots_in, used_slots}
use Rattle.disk_layout.specs.Layout.{File, HasChain, IsFile, IsLayout, IsRelFile, IsSide, Layout, file_owns}
use Rattle.disk_layout.specs.Layout.{owners}
use Rattle.disk_layout.specs.declared.slot.Slot.{Slot}
use Rattle.disk_layout.proofs.lemmas.layouts.Layouts.{get-contains}

-- the directory
slots-frame : (a b : Image) (ps : List Place) → AgreeAt a b ps
    → flat_map (λ p. slots_in p (sector a p)) ps ≡ flat_map (λ p. slots_in p (sector b p)) ps
slots-frame a b [] same = refl
slots-frame a b (p ∷ ps) same =
    let here : sector a p ≡ sector b p = same p (Contains-here p ps) in
    let rest = slots-frame a b ps (λ q c. same q (Contains-there q p ps c)) in
    rw (here, rest) refl

pub used_slots-frame : (a b : Image) (ps : List Place) → AgreeAt a b ps → used_slots a ps ≡ used_slots b ps
unfolding used_slots
used_slots-frame a b ps same = ap (filter is_used) (slots-frame a b ps same)

pub IsDirectory-frame : (a b : Image) (ps : List Place) (es : List Slot) → AgreeAt a b ps → IsDirectory a ps es
    → IsDirectory b ps es
IsDirectory-frame a b ps es same d = record {
  last = d.last;
  chain = IsChain-frame a b directory_start ps d.last (links-agree a b ps same) d.chain;
  on_track = d.on_track;
  not_map = d.not_map;
  slots = d.slots ∙ used_slots-frame a b ps same;
}

-- files
pub HasChain-frame : (a b : Image) (f : File) → SameLinks a b f.blocks → HasChain a f → HasChain b f
HasChain-frame a b f same (p, named, chain) = (p, named, IsChain-frame a b p f.blocks f.last same chain)

pub IsSide-frame : (a b : Image) (f : File) (j : ℕ) (p : Place) → sector a p ≡ sector b p → IsSide a f j p
    → IsSide b f j p
IsSide-frame a b f j p same s = record {
  number = rw (← same) s.number;
  length_byte = rw (← same) s.length_byte;
  sides = λ k q e. rw (← same) (s.sides k q e);
  link = λ q e. rw (← same) (s.link q e);
  pointers = λ k q h e. rw (← same) (s.pointers k q h e);
}

pub IsRelFile-frame : (a b : Image) (f : File) → SameLinks a b f.blocks → AgreeAt a b f.sides → IsRelFile a f
    → IsRelFile b f
IsRelFile-frame a b f links same r = record {
  chain = HasChain-frame a b f links r.chain;
  length_low = r.length_low;
  length_high = r.length_high;
  count = r.count;
  first_side = r.first_side;
  sides = λ j q e. IsSide-frame a b f j q (same q (get-contains f.sides j q e)) (r.sides j q e);
}

pub IsFile-frame : (a b : Image) (f : File) → SameLinks a b f.blocks → AgreeAt a b f.sides → IsFile a f → IsFile b f
IsFile-frame a b f links same h = record {
  closed = h.closed;
  rel = λ t. IsRelFile-frame a b f links same (h.rel t);
  empty = h.empty;
  plain = λ t n. let p = h.plain t n in (HasChain-frame a b f links p.0, p.1);
}

abbrev pub all_blocks : List File → List Place
all_blocks fs = flat_map (λ f. f.blocks) fs

abbrev pub all_sides : List File → List Place
all_sides fs = flat_map (λ f. f.sides) fs

-- the files agree in their links and in their side sectors
pub record KeepsFiles (a b : Image) (fs : List File) : Type 0 where
  pub links : SameLinks a b (all_blocks fs)
  pub sides : AgreeAt a b (all_sides fs)

KeepsFiles-tail : (a b : Image) (f : File) (fs : List File) → KeepsFiles a b (f ∷ fs) → KeepsFiles a b fs
KeepsFiles-tail a b f fs k = record {
  links = λ p c. k.links p (Contains-append_right f.blocks (all_blocks fs) p c);
  sides = λ p c. k.sides p (Contains-append_right f.sides (all_sides fs) p c);
}

pub files-frame : (a b : Image) (fs : List File) → KeepsFiles a b fs → AllByRecursion (IsFile a) fs
    → AllByRecursion (IsFile b) fs
files-frame a b [] k h = h
files-frame a b (f ∷ fs) k h = (
  IsFile-frame a b f (λ p c. k.links p (Contains-append_left f.blocks (all_blocks fs) p c))
      (λ p c. k.sides p (Contains-append_left f.sides (all_sides fs) p c)) h.0,
  files-frame a b fs (KeepsFiles-tail a b f fs k) h.1,
)

-- a layout stays where its directory, its links and its side sectors stay
pub IsLayout-frame : (a b : Image) (l : Layout) → AgreeAt a b l.directory → KeepsFiles a b l.files → IsLayout a l
    → IsLayout b l
IsLayout-frame a b l same k h = record {
  directory = IsDirectory-frame a b l.directory _ same h.directory;
  files = files-frame a b l.files k h.files;
  once = h.once;
}

-- who owns what
pub block-owned : (fs : List File) (p : Place) → Contains (all_blocks fs) p → Contains (flat_map file_owns fs) p
block-owned [] p c = c
block-owned (f ∷ fs) p c =
    elim (Contains-append_cases f.blocks (all_blocks fs) p c) [
      | inl d ↦ Contains-append_left (file_owns f) (flat_map file_owns fs) p (Contains-append_left f.blocks f.sides p d)
      | inr d ↦ Contains-append_right (file_owns f) (flat_map file_owns fs) p (block-owned fs p d)
    ]

pub side-owned : (fs : List File) (p : Place) → Contains (all_sides fs) p → Contains (flat_map file_owns fs) p
side-owned [] p c = c
side-owned (f ∷ fs) p c =
    elim (Contains-append_cases f.sides (all_sides fs) p c) [
      | inl d ↦ Contains-append_left (file_owns f) (flat_map file_owns fs) p (Contains-append_right f.blocks f.sides p
          d)
      | inr d ↦ Contains-append_right (file_owns f) (flat_map file_owns fs) p (side-owned fs p d)
    ]

-- no block is a side sector
pub block-no_side : (fs : List File) → EachOnce (flat_map file_owns fs) → (p : Place) → Contains (all_blocks fs) p
    → ¬ (Contains (all_sides fs) p)
block-no_side [] once p c d = Contains-nil p c
block-no_side (f ∷ fs) once p c d =
    let here = EachOnce-left (file_owns f) (flat_map file_owns fs) once in
    let rest = EachOnce-right (file_owns f) (flat_map file_owns fs) once in
    elim (Contains-append_cases f.blocks (all_blocks fs) p c) [
      | inl x ↦ elim (Contains-append_cases f.sides (all_sides fs) p d) [
        | inl y ↦ EachOnce-apart f.blocks f.sides here p x y
        | inr y ↦ EachOnce-apart (file_owns f) (flat_map file_owns fs) once p (Contains-append_left f.blocks f.sides p
            x) (side-owned fs p y)
      ]
      | inr x ↦ elim (Contains-append_cases f.sides (all_sides fs) p d) [
        | inl y ↦ EachOnce-apart (file_owns f) (flat_map file_owns fs) once p (Contains-append_right f.blocks f.sides p
            y) (block-owned fs p x)
        | inr y ↦ block-no_side fs rest p x y
      ]
    ]

pub unless-same : (img : Image) (p q : Place) (b : List ℕ) → p ≢ q → sector img q ≡ sector (put img p b) q
unless-same img p q b ne = sym (sector-put_other img p q b ne)

-- a write to a sector that no directory sector and no file owns keeps the layout
pub IsLayout-put_free : (img : Image) (l : Layout) (p : Place) (b : List ℕ) → ¬ (Contains (owners l) p) → IsLayout img l
    → IsLayout (put img p b) l
unfolding owners
IsLayout-put_free img l p b free h = IsLayout-frame img (put img p b) l
    (λ q c. unless-same img p q b
    (λ e. free (rw e (Contains-append_left l.directory (flat_map file_owns l.files) q c))))
    (record {
      links = links-agree img (put img p b) (all_blocks l.files)
          (λ q c. unless-same img p q b
          (λ e. free (rw e (Contains-append_right l.directory (flat_map file_owns l.files) q
          (block-owned l.files q c)))));
      sides = λ q c. unless-same img p q b
          (λ e. free (rw e (Contains-append_right l.directory (flat_map file_owns l.files) q
          (side-owned l.files q c))));
    })
    h

-- a write to a data block that keeps bytes 0-1 keeps the layout
pub IsLayout-put_block : (img : Image) (l : Layout) (p : Place) (b : List ℕ) → length img ≡ 683
    → Contains (all_blocks l.files) p → slice_index b 0 ≡ byte img p 0 → slice_index b 1 ≡ byte img p 1 → IsLayout img l
    → IsLayout (put img p b) l
unfolding owners
IsLayout-put_block img l p b full own e0 e1 h = IsLayout-frame img (put img p b) l
    (λ q c. unless-same img p q b (λ e. EachOnce-apart l.directory (flat_map file_owns l.files) h.once.1 q c
    (rw (← e) (block-owned l.files p own))))
    (record {
      links = links;
      sides = λ q c. unless-same img p q b
          (λ e. block-no_side l.files (EachOnce-right l.directory (flat_map file_owns l.files) h.once.1) p own
          (rw e c));
    })
    h
  where
    links : SameLinks img (put img p b) (all_blocks l.files)
    links q c =
        elim (cases_eq (index_of p) (index_of q)) [
          | inl e ↦ let one : p ≡ q = same_index p q e in
              rw (← one) (let same : sector (put img p b) p ≡ b = sector-put_same img p b full in
              rw same (sym e0, sym e1))
          | inr n ↦ let same : sector img q ≡ sector (put img p b) q = unless-same img p q b (λ e. n (ap index_of e)) in
              (ap (λ s. slice_index s 0) same, ap (λ s. slice_index s 1) same)
        ]
