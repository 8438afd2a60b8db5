-- Images that agree where a layout's owners are, and writes of sectors that nobody owns.
use Rattle.std.proofs.Common.{
  ◌≡◌,
  List,
  [],
  ◌∷◌,
  length,
  drop,
  map,
  refl,
  sym,
  ◌∙◌,
  ap,
  subst,
  slice_index,
  slice_range,
}
use Rattle.std.specs.Prelude.{Contains, flat_map, IsTrue}
use Rattle.std.specs.List.{AllByRecursion}
use Rattle.std.proofs.lemmas.List.Elements.{Contains-append_left, Contains-append_right}
use Rattle.d64_image.specs.Images.{Image, Sector, put, sector}
use Rattle.d64_image.specs.declared.place.Place.{Place}
use Rattle.disk_layout.proofs.lemmas.chains.Chains.{AgreeAt, links-agree}
use Rattle.disk_layout.proofs.lemmas.layouts.Layouts.{get-contains}
use Rattle.disk_layout.proofs.lemmas.layouts.Frames.{IsLayout-frame, IsLayout-put_block, IsLayout-put_free}
use Rattle.disk_layout.proofs.lemmas.layouts.Frames.{all_blocks, all_sides, block-no_side, block-owned}
use Rattle.disk_layout.proofs.lemmas.layouts.Frames.{side-owned, unless-same}
use Rattle.disk_layout.proofs.lemmas.lists.Once.{Contains-here, Contains-there, EachOnce-right, flat_map-in}
use Rattle.disk_layout.proofs.lemmas.records.Joined.{joined-cons, joined-nil}
use Rattle.disk_layout.specs.Chain.{byte}
use Rattle.disk_layout.specs.Clean.{IsCleanLayout, IsExactFile}
use Rattle.disk_layout.specs.Directory.{map_place}
use Rattle.disk_layout.specs.Layout.{File, IsLayout, Layout, file_owns, is_rel, owners, record_length}
use Rattle.disk_layout.specs.Map.{IsMapOf}
use Rattle.disk_layout.specs.Records.{joined, pieces, record_count, records}
use Rattle.disk_layout.specs.Same.{stays_of}

-- what is owned by a file of the layout is owned by the layout
pub owned-block : (l : Layout) (f : File) (p : Place) → Contains l.files f → Contains f.blocks p → Contains (owners l) p
unfolding owners
owned-block l f p c d = Contains-append_right l.directory (flat_map file_owns l.files) p
    (flat_map-in file_owns l.files f p c (Contains-append_left f.blocks f.sides p d))

pub owned-side : (l : Layout) (f : File) (p : Place) → Contains l.files f → Contains f.sides p → Contains (owners l) p
unfolding owners
owned-side l f p c d = Contains-append_right l.directory (flat_map file_owns l.files) p
    (flat_map-in file_owns l.files f p c (Contains-append_right f.blocks f.sides p d))

pub owned-directory : (l : Layout) (p : Place) → Contains l.directory p → Contains (owners l) p
unfolding owners
owned-directory l p c = Contains-append_left l.directory (flat_map file_owns l.files) p c

-- two images that agree where the owners of a layout are have that layout both
pub IsLayout-agree : (a b : Image) (l : Layout) → AgreeAt a b (owners l) → IsLayout a l → IsLayout b l
unfolding owners
IsLayout-agree a b l same h = IsLayout-frame a b l
    (λ p c. same p (Contains-append_left l.directory (flat_map file_owns l.files) p c))
    (record {
      links = links-agree a b (all_blocks l.files)
          (λ p c. same p (Contains-append_right l.directory (flat_map file_owns l.files) p (block-owned l.files p c)));
      sides = λ p c. same p (Contains-append_right l.directory (flat_map file_owns l.files) p (side-owned l.files p c));
    })
    h

-- files whose blocks agree have the same bytes, and so the same records
pub joined-agree : (a b : Image) (ps : List Place) → AgreeAt a b ps → joined a ps ≡ joined b ps
joined-agree a b [] same = joined-nil a ∙ sym (joined-nil b)
joined-agree a b (p ∷ ps) same =
    let here = same p (Contains-here p ps) in
    let rest = joined-agree a b ps (λ q c. same q (Contains-there q p ps c)) in
    joined-cons a p ps ∙ cc (ap (drop 2) here, rest, joined-cons b p ps)

pub records-agree : (a b : Image) (f : File) → AgreeAt a b f.blocks → records a f ≡ records b f
unfolding records
records-agree a b f same =
    ap (pieces (record_length f.slot) (record_count (length f.blocks) f.last (record_length f.slot)))
    (joined-agree a b f.blocks same)

pub sectors-agree : (a b : Image) (ps : List Place) → AgreeAt a b ps → map (sector a) ps ≡ map (sector b) ps
sectors-agree a b [] same = refl
sectors-agree a b (p ∷ ps) same =
    let here = same p (Contains-here p ps) in
    let rest = sectors-agree a b ps (λ q c. same q (Contains-there q p ps c)) in
    cc

pub stays-agree : (a b : Image) (f : File) → AgreeAt a b f.blocks → stays_of a f ≡ stays_of b f
stays-agree a b f same = ap (λ (bs : List Sector). record {
  sector = f.slot.sector;
  number = f.slot.number;
  entry = slice_range f.slot.bytes 2 30;
  blocks = f.blocks;
  last = f.last;
  bytes = bs;
  sides = f.sides;
})
    (sectors-agree a b f.blocks same)

-- 18/0 has no other owner
pub map-unowned : (img : Image) (l : Layout) → IsLayout img l → ¬ (Contains (owners l) map_place)
map-unowned img l h = h.once.0

-- a write of the map keeps the layout
pub IsLayout-put_map : (img : Image) (l : Layout) (b : Sector) → IsLayout img l → IsLayout (put img map_place b) l
IsLayout-put_map img l b h = IsLayout-put_free img l map_place b (map-unowned img l h) h

-- what the files own
pub owned-by_files : (l : Layout) (p : Place) → Contains (flat_map file_owns l.files) p → Contains (owners l) p
unfolding owners
owned-by_files l p c = Contains-append_right l.directory (flat_map file_owns l.files) p c

-- clean images
exact-agree : (a b : Image) (f : File) → AgreeAt a b f.sides → IsExactFile a f → IsExactFile b f
exact-agree a b f same h = record {
  sides = λ j q e. sym (same q (get-contains f.sides j q e)) ∙ h.sides j q e;
  count = h.count;
}

exact_files-agree : (a b : Image) (fs : List File) → ((f : File) → Contains fs f → AgreeAt a b f.sides)
    → AllByRecursion (λ f. IsTrue (is_rel f.slot) → IsExactFile a f) fs → AllByRecursion (λ f. IsTrue (is_rel f.slot)
    → IsExactFile b f) fs
exact_files-agree a b [] same h = tt
exact_files-agree a b (f ∷ fs) same h = (
  λ t. exact-agree a b f (same f (Contains-here f fs)) (h.0 t),
  exact_files-agree a b fs (λ g c. same g (Contains-there g f fs c)) h.1,
)

-- an image that has the layout, and agrees in side sectors and map with a clean one, is clean
pub IsCleanLayout-agree : (a b : Image) (l : Layout) → AgreeAt a b (all_sides l.files)
    → sector a map_place ≡ sector b map_place → IsLayout b l → IsCleanLayout a l → IsCleanLayout b l
IsCleanLayout-agree a b l same map h k = record {
  layout = h;
  files = exact_files-agree a b l.files (λ f c p d. same p (flat_map-in (λ g. g.sides) l.files f p c d)) k.files;
  map = let P : Sector → Type 0 = λ s. IsMapOf s (map_place ∷ owners l) in subst P map k.map;
}

-- a write to a data block that keeps its link keeps an image clean
pub IsCleanLayout-put_block : (img : Image) (l : Layout) (p : Place) (b : Sector) → length img ≡ 683
    → Contains (all_blocks l.files) p → slice_index b 0 ≡ byte img p 0 → slice_index b 1 ≡ byte img p 1
    → IsCleanLayout img l → IsCleanLayout (put img p b) l
unfolding owners
IsCleanLayout-put_block img l p b full own e0 e1 k =
    let once = k.layout.once in
    IsCleanLayout-agree img (put img p b) l
    (λ q c. unless-same img p q b (λ e. block-no_side l.files (EachOnce-right l.directory (flat_map file_owns l.files)
    once.1) p own (rw e c)))
    (unless-same img p map_place b (λ e. once.0 (rw (← e) (owned-by_files l p (block-owned l.files p own)))))
    (IsLayout-put_block img l p b full own e0 e1 k.layout) k
