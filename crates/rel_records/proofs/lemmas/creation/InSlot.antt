-- The entry is written into a free slot of the directory: one write makes the file.
use Rattle.std.proofs.Common.{◌≡◌, ◌≢◌, ℕ, ◌<◌, inl, inr, true, false, List, [], ◌∷◌, ◌++◌, map, length, refl, sym, ◌∙◌}
use Rattle.std.proofs.Common.{ap, subst, slice_index}
use Rattle.std.specs.Prelude.{Contains, drop, flat_map, slice_range, take}
use Rattle.std.proofs.lemmas.List.{length-map}
use Rattle.std.proofs.lemmas.List.Elements.{Contains-append_left, Contains-append_right}
use Rattle.d64_image.proofs.Images.{sector-put_other, sector-put_same}
use Rattle.d64_image.proofs.Places.{same_or_other}
use Rattle.d64_image.specs.Images.{Image, Sector, put, sector}
use Rattle.d64_image.specs.declared.place.Place.{Place}
use Rattle.disk_layout.proofs.lemmas.chains.Chains.{AgreeAt, IsChain-frame, SameLink, SameLinks}
use Rattle.disk_layout.proofs.lemmas.growth.Commit.{keeps-other}
use Rattle.disk_layout.proofs.lemmas.layouts.Frames.{KeepsFiles, unless-same}
use Rattle.disk_layout.proofs.lemmas.lists.Once.{Contains-here, EachOnce-apart, flat_map-in}
use Rattle.disk_layout.specs.Rest.{header_of}
use Rattle.disk_layout.proofs.lemmas.counts.Recount.{slot-there}
use Rattle.disk_layout.proofs.lemmas.counts.Recounts.{map-map, map-same_on, reread, reslot, slot-of}
use Rattle.disk_layout.specs.Chain.{EachOnce}
use Rattle.disk_layout.specs.Directory.{IsDirectory, directory_start, is_used, map_place, slot_in, used_slots}
use Rattle.disk_layout.specs.Layout.{File, IsFile, IsLayout, Layout, file_owns, owners}
use Rattle.disk_layout.specs.Same.{AddsFile}
use Rattle.disk_layout.specs.declared.slot.Slot.{Slot}
use Rattle.rel_records.proofs.lemmas.creation.Creating.{SameEntry, created-adds, created-layout, map-split, with_new}
use Rattle.rel_records.proofs.lemmas.creation.Unowned.{IsUnowned, once-with, owners-around, owners-with}
use Rattle.rel_records.proofs.lemmas.directory.NewSlots.{used_before, used_behind, used_slots-free, used_slots-new}
use Rattle.rel_records.specs.creation.Made.{HasFilesOf}

pub same-entry : (s t : Slot) → t ≡ s → SameEntry s t
same-entry s t e = record {
  face = record {
    kind = ap (λ x. slice_index x.bytes 2) (sym e);
    first_track = ap (λ x. slice_index x.bytes 3) (sym e);
    first_sector = ap (λ x. slice_index x.bytes 4) (sym e);
    side_track = ap (λ x. slice_index x.bytes 21) (sym e);
    side_sector = ap (λ x. slice_index x.bytes 22) (sym e);
    length = ap (λ x. slice_index x.bytes 23) (sym e);
  };
  sector_same = ap (λ x. x.sector) e;
  number_same = ap (λ x. x.number) e;
  entry = ap (λ x. slice_range x.bytes 2 30) e;
}

-- a sector whose first two bytes stay
pub put-links : (c : Image) (p : Place) (bytes : Sector) → length c ≡ 683
    → (slice_index (sector c p) 0 ≡ slice_index bytes 0) × (slice_index (sector c p) 1 ≡ slice_index bytes 1)
    → (ps : List Place) → SameLinks c (put c p bytes) ps
put-links c p bytes full links ps q d = elim (same_or_other p q) [
  | inl e ↦
      let there = sector-put_same c p bytes full in
      subst (λ x. SameLink c (put c p bytes) x) e
      (links.0 ∙ ap (λ x. slice_index x 0) (sym there), links.1 ∙ ap (λ x. slice_index x 1) (sym there))
  | inr off ↦
      let same = unless-same c p q bytes off in
      (ap (λ x. slice_index x 0) same, ap (λ x. slice_index x 1) same)
]

-- one write puts an entry into slot n, which was free, and changes no other slot: c is the image before it, a the one
-- at the start, p the directory sector, and `bytes` what it gets. k is the file of the entry, of whatever type
pub record TakesSlot (a c : Image) (l : Layout) (front back : List Place) (p : Place) (n : ℕ) (bytes : Sector)
    (k : File) : Type 0 where
  pub full : length c ≡ 683
  pub layout : IsLayout c l
  pub was : HasFilesOf a l c
  pub sectors : l.directory ≡ front ++ p ∷ back
  pub low : n < 8
  pub apart : (k : ℕ) → k < 8 → k ≢ n → slot_in p (sector c p) k ≡ slot_in p bytes k
  pub links : (slice_index (sector c p) 0 ≡ slice_index bytes 0) × (slice_index (sector c p) 1 ≡ slice_index bytes 1)
  pub free : is_used (slot_in p (sector c p) n) ≡ false
  pub used : is_used (slot_in p bytes n) ≡ true
  pub slot : k.slot ≡ slot_in p bytes n
  pub unowned : IsUnowned l k
  pub new : IsFile (put c p bytes) k

-- the layout with the new file between these others
abbrev pub with_file : Image → Layout → List File → List File → File → Layout
with_file b l before after k = record { directory = l.directory; files = with_new b before after k }

-- what it makes: a layout with the new file, in which all others stay
pub record Made (a c : Image) (l : Layout) (front : List Place) (p : Place) (n : ℕ) (bytes : Sector)
    (k : File) : Type 0 where
  pub before : List File
  pub after : List File
  pub split : l.files ≡ before ++ after
  pub count : length before ≡ length (used_before c front p n)
  pub layout : IsLayout (put c p bytes) (with_file (put c p bytes) l before after k)
  pub adds : AddsFile a (put c p bytes) l (with_file (put c p bytes) l before after k) k
  pub had : owners l ≡ (l.directory ++ flat_map file_owns before) ++ flat_map file_owns after
  pub has : owners (with_file (put c p bytes) l before after k)
      ≡ (l.directory ++ flat_map file_owns before) ++ (file_owns k ++ flat_map file_owns after)

module _ {a c : Image} {l : Layout} {front back : List Place} {p : Place} {n : ℕ} {bytes : Sector}
    {k : File} (takes : TakesSlot a c l front back p n bytes k) where
  open takes use {full, layout, was, sectors, low, apart, links, free, used, slot, unowned, new}

  pub on : Contains l.directory p
  on = let P : List Place → Type 0 = λ ps. Contains ps p in
      subst P (sym sectors) (Contains-append_right front (p ∷ back) p (Contains-here p back))

  there : sector (put c p bytes) p ≡ bytes
  there = sector-put_same c p bytes full

  -- no used slot changes
  pub slot-stays : (s : Slot) → Contains (used_slots c l.directory) s → reslot (put c p bytes) s ≡ s
  slot-stays s d =
      let (in_dir, few, e, is) = slot-there c l.directory s d in
      elim (same_or_other p s.sector) [
        | inl one ↦
            let other : s.number ≢ n =
            λ same. differ (sym (ap is_used (e ∙ ap (λ x. slot_in x (sector c x) s.number) (sym one)
            ∙ ap (slot_in p (sector c p)) same)) ∙ is) in
            let P : Place → Type 0 = λ x. slot_in x (sector (put c p bytes) x) s.number ≡ slot_in x (sector c x)
            s.number in
            subst P one (ap (λ x. slot_in p x s.number) there ∙ sym (apart s.number few other)) ∙ sym e
        | inr off ↦ ap (λ x. slot_in s.sector x s.number) (sector-put_other c p s.sector bytes off) ∙ sym e
      ]
    where
      differ : is_used (slot_in p (sector c p) n) ≡ true → ⊥
      differ t = let z : true ≡ false = sym t ∙ free in cc

  entry-stays : (f : File) → Contains l.files f → SameEntry f.slot (reslot (put c p bytes) f.slot)
  entry-stays f d = same-entry f.slot (reslot (put c p bytes) f.slot) (slot-stays f.slot (slot-of c l f layout d))

  pub not_file : ¬ (Contains (flat_map file_owns l.files) p)
  unfolding owners
  not_file d = EachOnce-apart l.directory (flat_map file_owns l.files) layout.once.1 p on d

  slots-reread : (fs : List File) → ((f : File) → Contains fs f → Contains l.files f)
      → map (λ f. f.slot) (map (reread (put c p bytes)) fs) ≡ map (λ f. f.slot) fs
  slots-reread fs sub = map-map (λ f. f.slot) (reread (put c p bytes)) fs
      ∙ map-same_on (λ f. reslot (put c p bytes) f.slot) (λ f. f.slot) fs
      (λ f d. slot-stays f.slot (slot-of c l f layout (sub f d)))

  made-of : (fs gs : List File) → l.files ≡ fs ++ gs → length fs ≡ length (used_before c front p n)
      → map (λ f. f.slot) fs ++ slot_in p bytes n ∷ map (λ f. f.slot) gs ≡ used_slots (put c p bytes) l.directory
      → Made a c l front p n bytes k
  made-of fs gs split count slots = record {
    before = fs;
    after = gs;
    split = split;
    count = count;
    layout = created-layout c (put c p bytes) l fs gs k l.directory layout split keeps entry-stays directory
        new (once-with (put c p bytes) l fs gs k split layout.once unowned);
    adds = created-adds c (put c p bytes) l fs gs k l.directory layout split keeps entry-stays directory
        new a was blocks-stay header;
    had = owners-around l fs gs split;
    has = owners-with (put c p bytes) l.directory fs gs k (l.directory ++ flat_map file_owns fs)
        (flat_map file_owns gs) refl refl;
  }
    where
      keeps : KeepsFiles c (put c p bytes) l.files
      keeps = keeps-other c p bytes l.files not_file

      left : (f : File) → Contains fs f → Contains l.files f
      left f d = rw split (Contains-append_left fs gs f d)

      right : (f : File) → Contains gs f → Contains l.files f
      right f d = rw split (Contains-append_right fs gs f d)

      all-slots : (xs ys : List File) → map (λ f. f.slot) (xs ++ k ∷ ys) ≡ map (λ f. f.slot) xs ++ slot_in p bytes n ∷
          map (λ f. f.slot) ys
      all-slots [] ys = ap (λ s. s ∷ map (λ f. f.slot) ys) slot
      all-slots (x ∷ xs) ys = ap (λ s. x.slot ∷ s) (all-slots xs ys)

      directory : IsDirectory (put c p bytes) l.directory (map (λ f. f.slot) (with_new (put c p bytes) fs gs k))
      directory = record {
        last = layout.directory.last;
        chain = IsChain-frame c (put c p bytes) directory_start l.directory layout.directory.last
            (put-links c p bytes full links l.directory) layout.directory.chain;
        on_track = layout.directory.on_track;
        not_map = layout.directory.not_map;
        slots = all-slots (map (reread (put c p bytes)) fs) (map (reread (put c p bytes)) gs)
            ∙ cc (slots-reread fs left, slots-reread gs right) ∙ slots;
      }

      blocks-stay : (f : File) → Contains l.files f → AgreeAt c (put c p bytes) f.blocks
      blocks-stay f d q e =
          unless-same c p q bytes (λ one. not_file (let P : Place
          → Type 0 = λ x. Contains (flat_map file_owns l.files) x in
          subst P (sym one) (flat_map-in file_owns l.files f q d (Contains-append_left f.blocks f.sides q e))))

      header : header_of (put c p bytes) ≡ header_of c
      header = ap (λ s. take 4 s ++ drop 144 s)
          (sector-put_other c p map_place bytes (λ e. layout.directory.not_map (let P : Place
          → Type 0 = Contains l.directory in subst P e on)))

  pub made : Made a c l front p n bytes k
  made =
      let P : List Place → Type 0 = EachOnce in
      let old = ap (used_slots c) sectors ∙ used_slots-free c front back p n low free in
      let now = ap (used_slots (put c p bytes)) sectors
      ∙ used_slots-new c front back p n bytes full (subst P sectors layout.directory.chain.once) low apart used in
      let (fs, gs, split, one, two) = map-split (λ f. f.slot) l.files (used_before c front p n) (used_behind c p n back)
      (layout.directory.slots ∙ old) in
      made-of fs gs split (sym (length-map fs (λ (f : File). f.slot)) ∙ ap length one) (cc (one, two, now))
