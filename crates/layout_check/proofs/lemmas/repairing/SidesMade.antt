-- Side sectors made right: the image has the layout that it had, and its files.
use Rattle.std.proofs.Common.{ℕ, ◌≡◌, ◌≤◌, ◌++◌, List, length, drop, take, true, false, Bool, sym, ◌∙◌, ap, refl, arith, subst, inl, inr}
use Rattle.std.proofs.Common.{IsTrue, slice_index}
use Rattle.std.specs.Prelude.{Contains, Some, slice_get}
use Rattle.d64_image.specs.Images.{Image, sector}
use Rattle.d64_image.specs.declared.place.Place.{Place}
use Rattle.disk_layout.proofs.lemmas.counts.Recount.{flat_map-out}
use Rattle.disk_layout.proofs.lemmas.counts.Recounts.{map-same_on}
use Rattle.disk_layout.proofs.lemmas.layouts.Agree.{stays-agree}
use Rattle.disk_layout.proofs.lemmas.layouts.Exact.{exact-side}
use Rattle.disk_layout.proofs.lemmas.layouts.Frames.{HasChain-frame, IsDirectory-frame, IsSide-frame, block-no_side}
use Rattle.disk_layout.proofs.lemmas.chains.Chains.{links-agree}
use Rattle.disk_layout.proofs.lemmas.layouts.Layouts.{get-contains}
use Rattle.disk_layout.proofs.lemmas.layouts.Twice.{file-once}
use Rattle.disk_layout.proofs.lemmas.lists.Count.{places-few}
use Rattle.disk_layout.proofs.lemmas.lists.Lists.{contains-get}
use Rattle.disk_layout.proofs.lemmas.lists.Once.{EachOnce-left, all-in, flat_map-in}
use Rattle.disk_layout.specs.Directory.{map_place}
use Rattle.disk_layout.specs.InOrder.{AreMade}
use Rattle.disk_layout.specs.Layout.{File, IsFile, IsLayout, IsRelFile, IsSide, Layout, is_rel}
use Rattle.disk_layout.specs.Same.{SameFiles, stays_of}
use Rattle.layout_check.proofs.lemmas.judging.Verdict.{all-of}
use Rattle.layout_check.proofs.lemmas.mending.Mendings.{mended-then}
use Rattle.layout_check.proofs.lemmas.mending.SideMends.{file-sector, parts-in}
use Rattle.layout_check.proofs.lemmas.repairing.RightSides.{part-right, plain-sides}
use Rattle.layout_check.proofs.lemmas.repairing.Rights.{files-once, side-not_directory, side-not_map}
use Rattle.layout_check.proofs.lemmas.repairing.StaysSame.{in-or-out}
use Rattle.layout_check.specs.Mended.{AreExactFor, IsMended, IsPartsOf}
use Rattle.layout_check.specs.RepairOrder.{IsRight, sides_of}

module _ (a : Image) (l : Layout) (is : IsLayout a l) where
  -- a file with a side sector is relative
  rel-of : (f : File) (j : ℕ) (p : Place) → Contains l.files f → slice_get f.sides j ≡ Some p → IsTrue (is_rel f.slot)
  rel-of f j p own there = step (is_rel f.slot) refl
    where
      step : (t : Bool) → is_rel f.slot ≡ t → IsTrue (is_rel f.slot)
      step true e = e
      step false e = let none = sym there ∙ ap (λ (xs : List Place). slice_get xs j) (plain-sides a l f is own e) in cc

  -- what side sector j of a file is of an image
  parts-of-file : (f : File) (j : ℕ) (p : Place) → Contains l.files f → slice_get f.sides j ≡ Some p
      → IsPartsOf a f.slot f.blocks f.sides
  parts-of-file f j p own there = record {
    layout = l;
    sound = is;
    file = f;
    own = own;
    rel = rel-of f j p own there;
    slot = refl;
    blocks_are = refl;
    sides_are = refl;
  }

  -- exact side sectors are right
  pub exact-right : AreExactFor a a → (p : Place) → Contains (sides_of l.files) p → IsRight l p (sector a p)
  exact-right exact p c =
      let (f, own, on) = flat_map-out (λ (x : File). x.sides) l.files p c in
      let (j, there) = contains-get f.sides p on in
      let parts = parts-of-file f j p own there in
      let P : List ℕ → Type 0 = IsRight l p in
      subst P (sym (exact f.slot f.blocks f.sides parts j p there))
      (part-right a l is f.slot f.blocks f.sides parts j p there)

  module _ (ps : List Place) (in_sides : (p : Place) → Contains ps p → Contains (sides_of l.files) p) (c : Image)
      (made : AreMade (IsRight l) ps a c) where
    elsewhere : (p : Place) → ¬ (Contains (sides_of l.files) p) → sector c p ≡ sector a p
    elsewhere p out = made.rest p (λ d. out (in_sides p d))

    few-sides : (f : File) → Contains l.files f → IsRelFile a f → length f.sides ≤ 6
    few-sides f own rel = omega (
      arith,
      rel.count,
      places-few f.blocks (EachOnce-left f.blocks f.sides (file-once l.files f (files-once a l is) own)),
    )

    side-made : (f : File) (j : ℕ) (p : Place) → Contains l.files f → IsRelFile a f → slice_get f.sides j ≡ Some p
        → IsSide c f j p
    side-made f j p own rel there = elim (in-or-out ps p) [
      | inl d ↦ exact-side c f j p (few-sides f own rel) ((made.right p d).side f j own (rel-of f j p own there) there)
      | inr out ↦ IsSide-frame a c f j p (sym (made.rest p out)) (rel.sides j p there)
    ]

    block-stays : (f : File) (p : Place) → Contains l.files f → Contains f.blocks p → sector a p ≡ sector c p
    block-stays f p own on = sym (elsewhere p (block-no_side l.files (files-once a l is) p
        (flat_map-in (λ (x : File). x.blocks) l.files f p own on)))

    file-made : (f : File) → Contains l.files f → IsFile c f
    file-made f own =
        let file = all-in (IsFile a) l.files f is.files own in
        let links = links-agree a c f.blocks (λ p on. block-stays f p own on) in
        record {
          closed = file.closed;
          rel = λ t. let rel = file.rel t in
              record {
                chain = HasChain-frame a c f links rel.chain;
                length_low = rel.length_low;
                length_high = rel.length_high;
                count = rel.count;
                first_side = rel.first_side;
                sides = λ j p there. side-made f j p own rel there;
              };
          empty = file.empty;
          plain = λ t n. let h = file.plain t n in (HasChain-frame a c f links h.0, h.1);
        }

    directory-stays : (p : Place) → Contains l.directory p → sector c p ≡ sector a p
    directory-stays p on = elsewhere p (λ d. side-not_directory a l is p d on)

    pub made-map : sector c map_place ≡ sector a map_place
    made-map = elsewhere map_place (side-not_map a l is)

    pub made-layout : IsLayout c l
    made-layout = record {
      directory = IsDirectory-frame a c l.directory _ (λ p on. sym (directory-stays p on)) is.directory;
      files = all-of (IsFile c) l.files file-made;
      once = is.once;
    }

    made-files : SameFiles a c l l
    made-files = record {
      directory = refl;
      files = map-same_on (stays_of c) (stays_of a) l.files (λ f own. sym (stays-agree a c f
          (λ p on. block-stays f p own on)));
      entries = λ p on i low. inr (ap (λ (b : List ℕ). slice_index b i) (directory-stays p on));
      header = ap (λ (x : List ℕ). take 4 x ++ drop 144 x) made-map;
      elsewhere = λ p ne off out. elsewhere p out;
    }

    pub made-mended : (i : Image) (m : Layout) → (h : IsMended i m a) → h.layout ≡ l → IsMended i m c
    made-mended i m h one = mended-then i m a c l h made-layout (let P : Layout → Type 0 = λ x. SameFiles a c x l in
        subst P (sym one) made-files)

  -- all of them
  pub made-exact : (c : Image) → AreMade (IsRight l) (sides_of l.files) a c → AreExactFor a c
  made-exact c made s bs ss h j p there =
      let own = parts-in a s bs ss l h is in
      let at : slice_get h.file.sides j ≡ Some p = ap (λ (xs : List Place). slice_get xs j) h.sides_are ∙ there in
      let on = flat_map-in (λ (x : File). x.sides) l.files h.file p own (get-contains h.file.sides j p at) in
      (made.right p on).side h.file j own h.rel at ∙ file-sector a s bs ss j h
