-- A repair keeps both files of a ledger, the rest of the disk and the top.
use Rattle.std.proofs.Common.{◌≡◌, ℕ, zero, suc, ◌<◌, ◌+◌, Bool, true, false, not, ◌&&◌, List, [], ◌∷◌, ◌++◌, length}
use Rattle.std.proofs.Common.{drop, take, map, refl, sym, ◌∙◌, ap, arith, get_or-take, get_or-drop, take-take}
use Rattle.std.proofs.Common.{drop-drop, get_or}
use Rattle.std.specs.Prelude.{Some, codes, filter, flat_map, nat_eq, slice_get, slice_range, ◌||◌}
use Rattle.std.proofs.lemmas.List.{drop-take}
use Rattle.std.proofs.lemmas.Option.{none-some, same_Some}
use Rattle.d64_image.specs.Images.{Image}
use Rattle.d64_image.specs.declared.place.Place.{Place}
use Rattle.disk_layout.specs.Directory.{type_byte}
use Rattle.disk_layout.specs.Layout.{File, Layout, file_owns, record_length}
use Rattle.disk_layout.specs.Records.{joined, pieces, record_count, records}
use Rattle.disk_layout.specs.Rest.{IsFirst, IsNamed, kept_of, others, rest_of, taken_by_others}
use Rattle.disk_layout.specs.Same.{Stays, stays_of}
use Rattle.disk_layout.proofs.lemmas.kept.Kept.{joined-sectors}
use Rattle.layout_check.specs.Mended.{IsMended}
use Rattle.host_session.specs.shop.Files.{Files, HasFiles}
use Rattle.host_session.specs.shop.Shop.{IsShop, Shop}
use Rattle.host_session.proofs.lemmas.writing.SameEntries.{top-kept}

-- bytes 2 to 29 of a slot
entry-byte : (xs ys : List ℕ) → slice_range xs 2 30 ≡ slice_range ys 2 30 → (i : ℕ) → i < 28
    → get_or xs (2 + i) 0 ≡ get_or ys (2 + i) 0
entry-byte xs ys e i h = sym (at xs) ∙ ap (λ zs. get_or zs i 0) e ∙ at ys
  where
    at : (zs : List ℕ) → get_or (slice_range zs 2 30) i 0 ≡ get_or zs (2 + i) 0
    at zs = get_or-take 28 (drop 2 zs) i 0 h ∙ get_or-drop 2 zs i 0

entry-name : (xs : List ℕ) → slice_range xs 5 21 ≡ take 16 (drop 3 (slice_range xs 2 30))
entry-name xs = sym (ap (take 16) (drop-take 3 25 (drop 2 xs) ∙ ap (take 25) (drop-drop 3 2 xs))
    ∙ take-take 16 25 (drop 5 xs) (omega arith))

-- what a file is, for what stays of it
module _ (a c : Image) (f g : File) (e : stays_of c g ≡ stays_of a f) where
  stay-kind : type_byte g.slot ≡ type_byte f.slot
  stay-kind = entry-byte g.slot.bytes f.slot.bytes (ap (λ (s : Stays). s.entry) e) 0 (omega arith)

  pub stay-length : record_length g.slot ≡ record_length f.slot
  stay-length = entry-byte g.slot.bytes f.slot.bytes (ap (λ (s : Stays). s.entry) e) 21 (omega arith)

  stay-name : slice_range g.slot.bytes 5 21 ≡ slice_range f.slot.bytes 5 21
  stay-name = entry-name g.slot.bytes ∙ ap (λ (s : Stays). take 16 (drop 3 s.entry)) e ∙ sym (entry-name f.slot.bytes)

  stay-kept : kept_of c g ≡ kept_of a f
  stay-kept = λ i. record {
    kind = stay-kind i;
    name = stay-name i;
    length = stay-length i;
    blocks = (e i).blocks;
    bytes = (e i).bytes;
    sides = (e i).sides;
  }

  pub stay-records : records c g ≡ records a f
  unfolding records
  stay-records =
      let bytes : joined c g.blocks ≡ joined a f.blocks = joined-sectors c g.blocks
      ∙ ap (λ (s : Stays). flat_map (drop 2) s.bytes) e ∙ sym (joined-sectors a f.blocks) in
      λ i. pieces (stay-length i) (record_count (length (e i).blocks) (e i).last (stay-length i)) (bytes i)

  stay-owns : file_owns g ≡ file_owns f
  stay-owns = λ i. (e i).blocks ++ (e i).sides

  stay-named : (name : List ℕ) → IsNamed name f → IsNamed name g
  stay-named name n = (ap (λ t. nat_eq t 132 || nat_eq t 196) stay-kind ∙ n.0, stay-name ∙ n.1)

-- the file at a place
stay-at : (a c : Image) (fs gs : List File) → map (stays_of c) gs ≡ map (stays_of a) fs → (j : ℕ) (f : File)
    → slice_get fs j ≡ Some f
    → (g : File) × (slice_get gs j ≡ Some g) × (stays_of c g ≡ stays_of a f)
stay-at a c [] gs e j f h = absurd (none-some f h)
stay-at a c (x ∷ fs) [] e j f h = absurd (omega (arith, ap length e))
stay-at a c (x ∷ fs) (y ∷ gs) e zero f h = (
  y,
  refl,
  ap (λ (xs : List Stays). head xs (stays_of c y)) e
      ∙ ap (stays_of a) (same_Some x f h),
)
  where
    head : List Stays → Stays → Stays
    head [] d = d
    head (z ∷ zs) d = z
stay-at a c (x ∷ fs) (y ∷ gs) e (suc j) f h = stay-at a c fs gs (ap (drop 1) e) j f h

-- the first file of a name
stay-first : (a c : Image) (l m : Layout) → map (stays_of c) m.files ≡ map (stays_of a) l.files
    → (name : List ℕ) (k : ℕ) (f : File) → IsFirst l name k f
    → (g : File) × IsFirst m name k g × (stays_of c g ≡ stays_of a f)
stay-first a c l m e name k f x =
    let o = stay-at a c l.files m.files e k f x.file in (
      o.0,
      record {
        file = o.1;
        named = stay-named a c f o.0 o.2 name x.named;
        first = λ j h lt at nm.
            let p = stay-at c a m.files l.files (sym e) j h at in
            x.first j p.0 lt p.1 (stay-named c a h p.0 p.2 name nm);
      },
      o.2,
    )

-- all that is asked to stay of the others, and what they own
abbrev head-stays : List Stays → Stays → Stays
head-stays [] d = d
head-stays (z ∷ zs) d = z

stay-others : (a c : Image) (p q n : ℕ) (fs gs : List File) → map (stays_of c) gs ≡ map (stays_of a) fs
    → (map (kept_of c) (others p q n gs) ≡ map (kept_of a) (others p q n fs))
    × (flat_map file_owns (others p q n gs) ≡ flat_map file_owns (others p q n fs))
stay-others a c p q n [] [] e = (refl, refl)
stay-others a c p q n [] (y ∷ gs) e = absurd (omega (arith, ap length e))
stay-others a c p q n (x ∷ fs) [] e = absurd (omega (arith, ap length e))
stay-others a c p q n (x ∷ fs) (y ∷ gs) e =
    let same : stays_of c y ≡ stays_of a x = ap (λ (xs : List Stays). head-stays xs (stays_of c y)) e in
    step (not (nat_eq n p) && not (nat_eq n q)) same (stay-others a c p q (suc n) fs gs (ap (drop 1) e))
  where
    step : (t : Bool) → stays_of c y ≡ stays_of a x
        → (map (kept_of c) (others p q (suc n) gs) ≡ map (kept_of a) (others p q (suc n) fs))
        × (flat_map file_owns (others p q (suc n) gs) ≡ flat_map file_owns (others p q (suc n) fs))
        → (map (kept_of c) (filter (λ _. t) (y ∷ []) ++ others p q (suc n) gs) ≡ map (kept_of a)
        (filter (λ _. t) (x ∷ []) ++ others p q (suc n) fs))
        × (flat_map file_owns (filter (λ _. t) (y ∷ []) ++ others p q (suc n) gs) ≡ flat_map file_owns
        (filter (λ _. t) (x ∷ []) ++ others p q (suc n) fs))
    step true same rest = (λ i. stay-kept a c x y same i ∷ rest.0 i, λ i. stay-owns a c x y same i ++ rest.1 i)
    step false same rest = rest

-- each image held during a repair has the files of the one before
pub on-repair : (old new : Image) (f : Files) (h : HasFiles old f) → IsMended old h.layout new → HasFiles new f
unfolding rest_of taken_by_others
on-repair old new f h x =
    let l = h.layout in
    let m = x.layout in
    let e = x.same.files in
    let s = stay-first old new l m e (codes "STOCK") h.stock_place h.stock_file h.stock_first in
    let r = stay-first old new l m e (codes "REQUESTS") h.requests_place h.requests_file h.requests_first in
    let stock : records new s.0 ≡ records old h.stock_file = stay-records old new h.stock_file s.0 s.2 in
    let requests : records new r.0 ≡ records old h.requests_file = stay-records old new h.requests_file r.0 r.2 in
    let pair = stay-others old new h.stock_place h.requests_place 0 l.files m.files e in
    let alone = stay-others old new h.stock_place h.stock_place 0 l.files m.files e in
    let same : rest_of old l h.stock_place h.requests_place h.requests_file ≡ rest_of new m h.stock_place
    h.requests_place r.0
    = λ i. record {
      files = sym pair.0 i;
      header = sym x.same.header i;
      count = length (sym requests i);
      past =
          drop 64 (sym requests i);
    } in
    record {
      layout = m;
      is_layout = x.sound;
      stock_place = h.stock_place;
      requests_place = h.requests_place;
      stock_file = s.0;
      requests_file = r.0;
      stock_first = s.1;
      requests_first = r.1;
      stock_length = stay-length old new h.stock_file s.0 s.2 ∙ h.stock_length;
      requests_length = stay-length old new h.requests_file r.0 r.2 ∙ h.requests_length;
      stock = h.stock ∙ sym stock;
      requests = h.requests ∙ sym requests;
      blocks = h.blocks ∙ ap (λ (y : Stays). length y.blocks) (sym s.2);
      rest = h.rest ∙ same;
      top = top-kept l m h.stock_place f.top
          (ap (λ (ps : List Place). length (filter (λ (p : Place). not (nat_eq p.track 18)) ps)) alone.1) h.top;
    }

-- so it is the same shop's
pub repair-shop : (old new : Image) (s : Shop) (x : IsShop old s) → IsMended old x.has.layout new → IsShop new s
repair-shop old new s x y = record {
  files = x.files;
  has = on-repair old new x.files x.has y;
  records = x.records;
  is =
      x.is;
}
