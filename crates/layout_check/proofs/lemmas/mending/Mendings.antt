-- Writes of a repair: what each leaves of the disk.
use Rattle.std.proofs.Common.{ℕ, ◌≡◌, List, [], ◌∷◌, ◌++◌, length, map, slice_index, sym, ◌∙◌, ap, refl, subst, inl, inr, ◌⊎◌, ◌<◌, ◌+◌, ◌*◌, ◌/◌, arith}
use Rattle.std.specs.Prelude.{Contains, drop, flat_map, take}
use Rattle.d64_image.proofs.Images.{sector-put_other, sector-put_same}
use Rattle.d64_image.specs.Images.{Image, put, sector}
use Rattle.d64_image.specs.declared.place.Place.{Place}
use Rattle.disk_layout.proofs.lemmas.layouts.Agree.{IsLayout-put_map, map-unowned, owned-block, owned-directory}
use Rattle.disk_layout.proofs.lemmas.layouts.Agree.{stays-agree}
use Rattle.disk_layout.proofs.lemmas.counts.Recounts.{map-same_on}
use Rattle.disk_layout.specs.Directory.{map_place}
use Rattle.disk_layout.specs.Layout.{File, IsLayout, Layout, owners}
use Rattle.disk_layout.specs.Same.{IsCountByte, SameButCounts, SameFiles, Stays, stays_of}
use Rattle.layout_check.specs.Made.{SameHeader}
use Rattle.layout_check.specs.Mended.{IsMended}

-- the image itself
pub mended-start : (a : Image) (l : Layout) → IsLayout a l → IsMended a l a
mended-start a l h = record {
  layout = l;
  sound = h;
  same = record {
    directory = refl;
    files = refl;
    entries = λ p on i low. inr refl;
    header = refl;
    elsewhere = λ p x y z. refl;
  };
}

-- a directory sector that has stayed
entries-kept : (a c d : Image) (p : Place) → sector d p ≡ sector c p → SameButCounts a c p → SameButCounts a d p
entries-kept a c d p same h i low = elim (h i low) [
  | inl x ↦ inl x
  | inr e ↦ inr (ap (λ (b : List ℕ). slice_index b i) same ∙ e)
]

-- the files are left where their blocks are
files-left : (a c d : Image) (l m : Layout) → ((f : File) (q : Place) → Contains m.files f → Contains f.blocks q
    → sector c q ≡ sector d q) → map (stays_of c) m.files ≡ map (stays_of a) l.files
    → map (stays_of d) m.files ≡ map (stays_of a) l.files
files-left a c d l m same h = map-same_on (stays_of d) (stays_of c) m.files
    (λ f own. sym (stays-agree c d f (λ q on. same f q own on))) ∙ h

-- a write of the map
pub mended-map : (a : Image) (l : Layout) (c : Image) (b : List ℕ) → length c ≡ 683 → SameHeader (sector c map_place) b
    → IsMended a l c → IsMended a l (put c map_place b)
mended-map a l c b size head h = record {
  layout = m;
  sound = IsLayout-put_map c m b h.sound;
  same = record {
    directory = h.same.directory;
    files = files-left a c d l m (λ f q own on. sym (other q (owned-block m f q own on))) h.same.files;
    entries = λ p on. entries-kept a c d p (other p (owned-directory m p (rw h.same.directory on)))
        (h.same.entries p on);
    header = ap (λ (x : List ℕ). take 4 x ++ drop 144 x) here ∙ ap (λ (x : List ℕ). x ++ drop 144 b) head.0
        ∙ ap (λ (x : List ℕ). take 4 (sector c map_place) ++ x) head.1 ∙ h.same.header;
    elsewhere = λ p ne off out. sector-put_other c map_place p b (λ e. ne (sym e)) ∙ h.same.elsewhere p ne off out;
  };
}
  where
    m : Layout
    m = h.layout

    d : Image
    d = put c map_place b

    here : sector d map_place ≡ b
    here = sector-put_same c map_place b size

    other : (q : Place) → Contains (owners m) q → sector d q ≡ sector c q
    other q own = sector-put_other c map_place q b (λ e. map-unowned c m h.sound (rw e own))

-- the side sectors of the files stay where the files do
sides-of : (c : Image) (fs : List File) → flat_map (λ f. f.sides) fs ≡ flat_map (λ s. s.sides) (map (stays_of c) fs)
sides-of c [] = refl
sides-of c (f ∷ fs) = ap (λ (ps : List Place). f.sides ++ ps) (sides-of c fs)

same-sides : (a c : Image) (l m : Layout) → SameFiles a c l m
    → flat_map (λ f. f.sides) m.files ≡ flat_map (λ f. f.sides) l.files
same-sides a c l m same = sides-of c m.files ∙ ap (λ (xs : List Stays). flat_map (λ s. s.sides) xs) same.files
    ∙ sym (sides-of a l.files)

-- a byte that may have changed twice
count-byte : (a c : List ℕ) (i : ℕ) → i < 256
    → ((k : ℕ) → k < 256 → IsCountByte a k ⊎ (slice_index c k ≡ slice_index a k)) → IsCountByte c i → IsCountByte a i
count-byte a c i low same (high, kind) = (high, of_kind (same (32 * (i / 32) + 2) (omega arith)) kind)
  where
    of_kind : IsCountByte a (32 * (i / 32) + 2)
        ⊎ (slice_index c (32 * (i / 32) + 2) ≡ slice_index a (32 * (i / 32) + 2))
        → (slice_index c (32 * (i / 32) + 2) ≡ 132) ⊎ (slice_index c (32 * (i / 32) + 2) ≡ 196)
        → (slice_index a (32 * (i / 32) + 2) ≡ 132) ⊎ (slice_index a (32 * (i / 32) + 2) ≡ 196)
    of_kind (inl x) k = absurd (omega (arith, x.0))
    of_kind (inr e) (inl k) = inl (sym e ∙ k)
    of_kind (inr e) (inr k) = inr (sym e ∙ k)

-- files that stay, and stay once more
pub mended-then : (a : Image) (l : Layout) (c d : Image) (n : Layout) → (h : IsMended a l c) → IsLayout d n
    → SameFiles c d h.layout n → IsMended a l d
mended-then a l c d n h sound y = record {
  layout = n;
  sound = sound;
  same = record {
    directory = y.directory ∙ h.same.directory;
    files = y.files ∙ h.same.files;
    entries = λ p on i low. elim (y.entries p (rw h.same.directory on) i low) [
      | inl t ↦ inl (count-byte (sector a p) (sector c p) i low (h.same.entries p on) t)
      | inr e ↦ elim (h.same.entries p on i low) [
        | inl t ↦ inl t
        | inr f ↦ inr (e ∙ f)
      ]
    ];
    header = y.header ∙ h.same.header;
    elsewhere = λ p ne off out. y.elsewhere p ne
        (λ on. off (let P : List Place → Type 0 = λ ps. Contains ps p in subst P h.same.directory on))
        (λ on. out (let P : List Place → Type 0 = λ ps. Contains ps p in subst P (same-sides a c l h.layout h.same) on))
        ∙ h.same.elsewhere p ne off out;
  };
}
