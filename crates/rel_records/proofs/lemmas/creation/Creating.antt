-- A new file: before its entry is written, and after.
use Rattle.std.proofs.Common.{◌≡◌, List, [], ◌∷◌, ◌++◌, map, refl, sym, ◌∙◌, ap, subst}
use Rattle.std.specs.Prelude.{Contains, slice_range}
use Rattle.std.specs.List.{AllByRecursion}
use Rattle.std.proofs.lemmas.List.Elements.{Contains-append_left, Contains-append_right}
use Rattle.d64_image.specs.Images.{Image, sector}
use Rattle.d64_image.specs.declared.place.Place.{Place}
use Rattle.disk_layout.proofs.lemmas.chains.Chains.{AgreeAt}
use Rattle.disk_layout.proofs.lemmas.counts.Faces.{IsFile-slot, SameFace, with_slot}
use Rattle.disk_layout.proofs.lemmas.counts.Recounts.{map-map, map-same_on, reread, reslot}
use Rattle.disk_layout.proofs.lemmas.growth.Commit.{all-join, all-left, all-right}
use Rattle.disk_layout.proofs.lemmas.layouts.Agree.{IsLayout-agree, owned-block, stays-agree}
use Rattle.disk_layout.proofs.lemmas.layouts.Frames.{KeepsFiles, files-frame}
use Rattle.disk_layout.proofs.lemmas.lists.Once.{Contains-here, Contains-there}
use Rattle.disk_layout.specs.Chain.{EachOnce}
use Rattle.disk_layout.specs.Directory.{IsDirectory, map_place}
use Rattle.disk_layout.specs.Layout.{File, IsFile, IsLayout, Layout, owners}
use Rattle.disk_layout.specs.Rest.{header_of}
use Rattle.disk_layout.specs.Same.{AddsFile, stays_of}
use Rattle.disk_layout.specs.declared.slot.Slot.{Slot}
use Rattle.rel_records.specs.creation.Made.{HasFilesOf}

-- before the entry is written the disk agrees where something is owned: it has the files that it had
pub creating-before : (a c : Image) (l : Layout) → IsLayout a l → AgreeAt a c (owners l) → header_of c ≡ header_of a
    → HasFilesOf a l c
creating-before a c l h same header = record {
  layout = IsLayout-agree a c l same h;
  files = map-same_on (stays_of c) (stays_of a) l.files
      (λ f d. sym (stays-agree a c f (λ q e. same q (owned-block l f q d e))));
  header = header;
}

map-join : {X Y : Type 0} (f : X → Y) (xs ys : List X) → map f (xs ++ ys) ≡ map f xs ++ map f ys
map-join f [] ys = refl
map-join f (x ∷ xs) ys = ap (λ zs. f x ∷ zs) (map-join f xs ys)

-- a list whose images are split is split
pub map-split : {X Y : Type 0} (f : X → Y) (zs : List X) (xs ys : List Y) → map f zs ≡ xs ++ ys → (fs : List X)
    × (gs : List X) × (zs ≡ fs ++ gs) × (map f fs ≡ xs) × (map f gs ≡ ys)
map-split f zs [] ys e = ([], zs, refl, refl, e)
map-split f [] (x ∷ xs) ys e = cc
map-split f (z ∷ zs) (x ∷ xs) ys e =
    let here : f z ≡ x = cc in
    let rest : map f zs ≡ xs ++ ys = cc in
    let (fs, gs, split, one, two) = map-split f zs xs ys rest in
    (z ∷ fs, gs, ap (λ r. z ∷ r) split, cc (here, one), two)

-- two slots of one place that say the same, link and block count aside
pub record SameEntry (s t : Slot) : Type 0 where
  pub face : SameFace s t
  pub sector_same : t.sector ≡ s.sector
  pub number_same : t.number ≡ s.number
  pub entry : slice_range t.bytes 2 30 ≡ slice_range s.bytes 2 30

reread-files : (b : Image) (fs : List File) → ((f : File) → Contains fs f → SameEntry f.slot (reslot b f.slot))
    → AllByRecursion (IsFile b) fs → AllByRecursion (IsFile b) (map (reread b) fs)
reread-files b [] same h = tt
reread-files b (f ∷ fs) same h = (
  IsFile-slot b f (reslot b f.slot) (same f (Contains-here f fs)).face h.0,
  reread-files b fs (λ g c. same g (Contains-there g f fs c)) h.1,
)

stays-entry : (img : Image) (f : File) (s : Slot) → SameEntry f.slot s → stays_of img (with_slot f s) ≡ stays_of img f
stays-entry img f s e = λ i. record {
  sector = e.sector_same i;
  number = e.number_same i;
  entry = e.entry i;
  blocks = f.blocks;
  last = f.last;
  bytes = map (sector img) f.blocks;
  sides = f.sides;
}

-- the files of the new image, the new one among them
abbrev pub with_new : Image → List File → List File → File → List File
with_new b fs gs k = map (reread b) fs ++ k ∷ map (reread b) gs

-- from c, which has the layout l, to b, whose directory has one more used slot, that of the file k
module _ (c b : Image) (l : Layout) (fs gs : List File) (k : File) (ps : List Place)
    (h : IsLayout c l) (split : l.files ≡ fs ++ gs) (keeps : KeepsFiles c b l.files)
    (same : (f : File) → Contains l.files f → SameEntry f.slot (reslot b f.slot))
    (directory : IsDirectory b ps (map (λ f. f.slot) (with_new b fs gs k))) (new : IsFile b k) where
  abbrev m : Layout
  m = record { directory = ps; files = with_new b fs gs k }

  old : AllByRecursion (IsFile b) (fs ++ gs)
  old = let P : List File → Type 0 = AllByRecursion (IsFile b) in subst P split (files-frame c b l.files keeps h.files)

  same-left : (f : File) → Contains fs f → SameEntry f.slot (reslot b f.slot)
  same-left f d = same f (rw split (Contains-append_left fs gs f d))

  same-right : (f : File) → Contains gs f → SameEntry f.slot (reslot b f.slot)
  same-right f d = same f (rw split (Contains-append_right fs gs f d))

  pub created-layout : EachOnce (map_place ∷ owners (record { directory = ps; files = with_new b fs gs k }))
      → IsLayout b (record { directory = ps; files = with_new b fs gs k })
  created-layout once = record {
    directory = directory;
    files = all-join (IsFile b) (map (reread b) fs) (k ∷ map (reread b) gs)
        (reread-files b fs same-left (all-left (IsFile b) fs gs old))
        (new, reread-files b gs same-right (all-right (IsFile b) fs gs old));
    once = once;
  }

  stays-all : (xs : List File) → ((f : File) → Contains xs f → SameEntry f.slot (reslot b f.slot))
      → ((f : File) → Contains xs f → AgreeAt c b f.blocks) → map (stays_of b) (map (reread b) xs) ≡ map (stays_of c) xs
  stays-all xs entry blocks = map-map (stays_of b) (reread b) xs
      ∙ map-same_on (λ f. stays_of b (reread b f)) (stays_of c) xs
      (λ f d. stays-entry b f (reslot b f.slot) (entry f d) ∙ sym (stays-agree c b f (blocks f d)))

  -- all files stay, and the new one is there
  pub created-adds : (a : Image) → HasFilesOf a l c → ((f : File) → Contains l.files f → AgreeAt c b f.blocks)
      → header_of b ≡ header_of c → AddsFile a b l (record { directory = ps; files = with_new b fs gs k }) k
  created-adds a was blocks header = record {
    before = map (stays_of c) fs;
    after = map (stays_of c) gs;
    had = sym was.files ∙ ap (map (stays_of c)) split ∙ map-join (stays_of c) fs gs;
    has = map-join (stays_of b) (map (reread b) fs) (k ∷ map (reread b) gs)
        ∙ cc (
          stays-all fs same-left (λ f d. blocks f (rw split (Contains-append_left fs gs f d))),
          stays-all gs same-right (λ f d. blocks f (rw split (Contains-append_right fs gs f d))),
        );
    added = Contains-append_right (map (reread b) fs) (k ∷ map (reread b) gs) k (Contains-here k (map (reread b) gs));
    header = header ∙ was.header;
  }
