-- The blank image is clean.
use Rattle.std.proofs.Common.{List, [], add-one, ap, append-nil, arith, inl, inr, length, lit<, lit≤, refl, subst}
use Rattle.std.proofs.Common.{sym, take, zero, suc, ℕ, ◌*◌, ◌+◌, ◌<◌, ◌∙◌, ◌∷◌, ◌++◌, ◌≡◌, ◌≤◌}
use Rattle.std.proofs.lemmas.Bool.{true≢false}
use Rattle.std.specs.Prelude.{None, Some, codes, replicate, slice_get, slice_index}
use Rattle.d64_image.specs.Images.{Image, IsImage, sector}
use Rattle.d64_image.specs.declared.place.Place.{Place}
use Rattle.disk_layout.proofs.ExampleDisk.{only}
use Rattle.disk_layout.proofs.lemmas.blank.BlankPlaces.{blank-first, blank-once, blank_owners}
use Rattle.disk_layout.proofs.lemmas.layouts.Exact.{exact-side, get-lt}
use Rattle.disk_layout.proofs.lemmas.lists.Once.{Contains-cases, Contains-nil, EachOnce-left}
use Rattle.disk_layout.specs.Blank.{AreRequestPlaces, IsBlank, IsBlankMap, IsEmptyBlock, blank_directory}
use Rattle.disk_layout.specs.Entries.{rel_entry}
use Rattle.disk_layout.specs.Blank.{request_blocks, requests_block, requests_side, stock_block, stock_side}
use Rattle.disk_layout.specs.BlankLayout.{BlankIsClean, IsCleanBlank, blank_layout, requests_file, stock_file}
use Rattle.disk_layout.specs.Chain.{EachOnce, EndsAt, IsChain, Names, byte}
use Rattle.disk_layout.specs.Clean.{IsClean, IsCleanLayout, IsExactFile}
use Rattle.disk_layout.specs.Directory.{directory_start, map_place, slots_in, used_slots}
use Rattle.disk_layout.specs.Layout.{File, IsFile, IsLayout, IsRelFile, IsSide, owners, sides_for}
use Rattle.disk_layout.specs.Records.{empty_record, filler, record_count, records}
use Rattle.disk_layout.specs.Rest.{IsFirst, IsNamed}
use Rattle.disk_layout.specs.Side.{link_bytes, side_sector}
use Rattle.disk_layout.proofs.lemmas.blank.BlankParts.{empty-pieces, linked, map-is, same-filler, two-bytes}

-- the blank image with n data blocks in REQUESTS
pub record IsBlankOf (img : Image) (name id : List ℕ) (n : ℕ) (blocks : List Place) : Type 0 where
  pub image : IsImage img
  pub some : 1 ≤ n
  pub few : n ≤ 32
  pub places : AreRequestPlaces blocks n
  pub map : IsBlankMap (sector img map_place) name id n
  pub directory : sector img directory_start ≡ blank_directory n
  pub stock : IsEmptyBlock (sector img stock_block) None 253 18 14
  pub stock_side : sector img stock_side ≡ side_sector 0 (stock_block ∷ []) (stock_side ∷ []) 18
  pub requests : (k : ℕ) (p : Place) → slice_get blocks k ≡ Some p
      → IsEmptyBlock (sector img p) (slice_get blocks (k + 1)) 255 127 2
  pub requests_side : sector img requests_side ≡ side_sector 0 blocks (requests_side ∷ []) 127

module _ (img : Image) (name id : List ℕ) (n : ℕ) (blocks : List Place) (b : IsBlankOf img name id n blocks) where
  once : EachOnce (map_place ∷ blank_owners blocks)
  once = blank-once blocks n b.places

  own : owners (blank_layout n blocks) ≡ blank_owners blocks
  unfolding owners
  own = ap (λ xs. directory_start ∷ stock_block ∷ stock_side ∷ xs) (append-nil (blocks ++ requests_side ∷ []))

  -- STOCK
  stock-rel : IsRelFile img (stock_file n)
  unfolding blank_directory rel_entry
  stock-rel = record {
    chain = (
      stock_block,
      (refl, refl),
      record {
        front = [];
        last = stock_block;
        places = refl;
        leads = refl;
        ends = two-bytes (sector img stock_block) 0 253 b.stock.link;
        once = (Contains-nil stock_block, tt);
      },
    );
    length_low = lit≤ tt;
    length_high = lit≤ tt;
    count = refl;
    first_side = only (λ k q. Names (stock_file n).slot.bytes 21 q) stock_side (refl, refl) 0;
    sides = only (IsSide img (stock_file n)) stock_side (exact-side img (stock_file n) 0 stock_side (lit≤ tt)
        b.stock_side);
  }

  stock-is : IsFile img (stock_file n)
  unfolding blank_directory rel_entry
  stock-is = record {
    closed = inl (lit≤ tt, lit≤ tt);
    rel = λ _. stock-rel;
    empty = λ plain. absurd (true≢false plain);
    plain = λ plain. absurd (true≢false plain);
  }

  stock-exact : IsExactFile img (stock_file n)
  unfolding blank_directory rel_entry
  stock-exact = record {
    sides = only (λ j q. sector img q ≡ side_sector j (stock_block ∷ []) (stock_side ∷ []) 18) stock_side b.stock_side;
    count = refl;
  }

  -- REQUESTS
  one-side : sides_for (length blocks) ≡ 1
  one-side = let e = b.places.count in let s = b.some in let f = b.few in omega arith

  requests-chain : IsChain img requests_block blocks 255
  requests-chain =
      let (rest, e) = blank-first blocks n b.places b.some in
      let l = linked img 255 requests_block rest (λ k q g. link k q rest e g) in
      record {
        front = l.front;
        last = l.last;
        places = e ∙ l.places;
        leads = l.leads;
        ends = l.ends;
        once = EachOnce-left blocks (requests_side ∷ []) once.1.1.1.1;
      }
    where
      link : (k : ℕ) (q : Place) (rest : List Place) → blocks ≡ requests_block ∷ rest
          → slice_get (requests_block ∷ rest) k ≡ Some q → take 2 (sector img q) ≡ link_bytes (slice_get rest k) 255
      link k q rest e g =
          let there : slice_get blocks k ≡ Some q = rw e g in
          let l = (b.requests k q there).link in
          l ∙ ap (λ o. link_bytes o 255) (ap (λ (xs : List Place). slice_get xs (k + 1)) e ∙ next)
        where
          next : slice_get (requests_block ∷ rest) (k + 1) ≡ slice_get rest k
          next = rw add-one refl

  requests-rel : IsRelFile img (requests_file n blocks)
  unfolding blank_directory rel_entry
  requests-rel = record {
    chain = (requests_block, (refl, refl), requests-chain);
    length_low = lit≤ tt;
    length_high = lit≤ tt;
    count = sym one-side;
    first_side = only (λ k q. Names (requests_file n blocks).slot.bytes 21 q) requests_side (refl, refl) 0;
    sides = only (IsSide img (requests_file n blocks)) requests_side (exact-side img (requests_file n blocks) 0
        requests_side (lit≤ tt) b.requests_side);
  }

  requests-is : IsFile img (requests_file n blocks)
  unfolding blank_directory rel_entry
  requests-is = record {
    closed = inl (lit≤ tt, lit≤ tt);
    rel = λ _. requests-rel;
    empty = λ plain. absurd (true≢false plain);
    plain = λ plain. absurd (true≢false plain);
  }

  requests-exact : IsExactFile img (requests_file n blocks)
  unfolding blank_directory rel_entry
  requests-exact = record {
    sides = only (λ j q. sector img q ≡ side_sector j blocks (requests_side ∷ []) 127) requests_side b.requests_side;
    count = let e = b.places.count in let f = b.few in let o = one-side in omega arith;
  }

  slots : (stock_file n).slot ∷ (requests_file n blocks).slot ∷ [] ≡ used_slots img (directory_start ∷ [])
  unfolding blank_directory rel_entry used_slots slots_in
  slots = rw b.directory refl

  ends : EndsAt img directory_start 255
  unfolding blank_directory rel_entry
  ends = rw b.directory (refl, refl)

  laid : IsLayout img (blank_layout n blocks)
  laid = record {
    directory = record {
      last = 255;
      chain = record {
        front = [];
        last = directory_start;
        places = refl;
        leads = refl;
        ends = ends;
        once = (Contains-nil directory_start, tt);
      };
      on_track = (refl, tt);
      not_map = λ c. elim (Contains-cases map_place directory_start [] c) [
        | inl e ↦ let z : ◌≡◌ {A = ℕ} 1 0 =
            ap (λ (p : Place). p.sector) e in omega (arith, z)
        | inr d ↦ Contains-nil map_place d
      ];
      slots = slots;
    };
    files = (stock-is, (requests-is, tt));
    once = rw own once;
  }

  clean : IsCleanLayout img (blank_layout n blocks)
  clean = record {
    layout = laid;
    files = ((λ _. stock-exact), ((λ _. requests-exact), tt));
    map = rw own (map-is (sector img map_place) name id blocks n b.some b.places b.map);
  }

  -- found by their names
  stock-first : IsFirst (blank_layout n blocks) (codes "STOCK") 0 (stock_file n)
  unfolding blank_directory rel_entry
  stock-first = record { file = refl; named = (refl, refl); first = λ k g lt. absurd (omega (arith, lt)) }

  stock-other : ¬ (IsNamed (codes "REQUESTS") (stock_file n))
  unfolding blank_directory rel_entry
  stock-other h = let e : ◌≡◌ {A = ℕ} 83 82 = ap (λ xs. slice_index xs 0) h.1 in omega (arith, e)

  requests-first : IsFirst (blank_layout n blocks) (codes "REQUESTS") 1 (requests_file n blocks)
  unfolding blank_directory rel_entry
  requests-first = record { file = refl; named = (refl, refl); first = first }
    where
      first : (k : ℕ) (g : File) → k < 1 → slice_get (stock_file n ∷ requests_file n blocks ∷ []) k ≡ Some g
          → ¬ (IsNamed (codes "REQUESTS") g)
      first zero g lt at h = let e : stock_file n ≡ g = cc in stock-other (subst (IsNamed (codes "REQUESTS")) (sym e) h)
      first (suc k) g lt at h = absurd (omega (arith, lt))

  -- their records
  stock-records : records img (stock_file n) ≡ replicate 14 (empty_record 18)
  unfolding records record_count blank_directory rel_entry
  stock-records = empty-pieces 18 14 img (stock_block ∷ []) b.image (lit< tt) (lit≤ tt)
      (λ k j p g lt. only (λ i q. byte img q (2 + j) ≡ filler 18 14 (254 * i + j)) stock_block (start j lt) k p g)
    where
      start : (j : ℕ) → j < 254 → byte img stock_block (2 + j) ≡ filler 18 14 (254 * 0 + j)
      start j lt = let z : 254 * 0 + j ≡ j = omega arith in rw z (b.stock.filled j lt)

  request-count : record_count (length blocks) 255 127 ≡ 2 * n
  unfolding record_count
  request-count = rw b.places.count (let s = b.some in omega arith)

  request-records : records img (requests_file n blocks) ≡ replicate (2 * n) (empty_record 127)
  unfolding records blank_directory rel_entry
  request-records =
      rw request-count (empty-pieces 127 (2 * n) img blocks b.image (lit< tt) (rw b.places.count (omega arith))
      (λ k j p g lt.
      (b.requests k p g).filled j lt ∙ same-filler n k j (let e = get-lt blocks k p g in let c = b.places.count in
      omega arith) lt))

  blank-whole : IsCleanBlank img n blocks
  blank-whole = record {
    clean = clean;
    stock = stock-first;
    requests = requests-first;
    stock_records = stock-records;
    request_records = request-records;
  }

pub blank-clean : BlankIsClean
blank-clean old new name id tills some few image blank = blank-whole new name id (request_blocks tills) blank.blocks
    (record {
      image = image;
      some = omega arith;
      few = omega arith;
      places = blank.places;
      map = blank.map;
      directory = blank.directory;
      stock = blank.stock;
      stock_side = blank.stock_side;
      requests = blank.requests;
      requests_side = blank.requests_side;
    })

pub blank-is_clean : (old new : Image) (name id : List ℕ) (tills : ℕ) → 1 ≤ tills → tills ≤ 64 → IsImage new
    → IsBlank old new name id tills → IsClean new
blank-is_clean old new name id tills some few image blank = (
  blank_layout (request_blocks tills) blank.blocks,
  (blank-clean old new name id tills some few image blank).clean,
)
