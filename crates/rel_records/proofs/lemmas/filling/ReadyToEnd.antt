-- An image before the last block of a file is filled.
use Rattle.std.proofs.Common.{◌≡◌, ◌≢◌, ℕ, suc, ◌+◌, ◌-◌, ◌*◌, ◌<◌, ◌≤◌, ◌⊎◌, inl, ◌∷◌, ◌++◌, get_or, length, refl, sym}
use Rattle.std.proofs.Common.{◌∙◌, ap, arith, subst, slice_index, take, drop}
use Rattle.std.specs.Prelude.{Contains, Some, slice_get}
use Rattle.d64_image.proofs.Images.{sector-put_other}
use Rattle.d64_image.specs.Images.{Image, IsImage, IsSector, Sector, put, sector}
use Rattle.d64_image.specs.declared.place.Place.{Place}
use Rattle.disk_layout.proofs.lemmas.growth.Commit.{alone}
use Rattle.disk_layout.proofs.lemmas.growth.Refills.{records-past}
use Rattle.disk_layout.proofs.lemmas.growth.SideWrites.{same-layout}
use Rattle.disk_layout.proofs.lemmas.layouts.Agree.{owned-block}
use Rattle.disk_layout.proofs.lemmas.layouts.Layouts.{get-contains}
use Rattle.disk_layout.proofs.lemmas.lists.Once.{flat_map-in}
use Rattle.disk_layout.specs.Chain.{EachOnce}
use Rattle.disk_layout.specs.Directory.{map_place}
use Rattle.disk_layout.specs.Layout.{File, Layout, file_owns, owners, record_length}
use Rattle.disk_layout.specs.Records.{filler, joined, record_count, records}
use Rattle.std.proofs.lemmas.List.Elements.{Contains-append_left}
use Rattle.rel_records.proofs.lemmas.filling.Ending.{others-after, others-before}
use Rattle.rel_records.proofs.lemmas.filling.Standing.{blocks-once, blocks-some, entry-in, file-rel, had-fit, had-low}
use Rattle.rel_records.proofs.lemmas.filling.Standing.{last-at, place, same-last, split}
use Rattle.rel_records.proofs.lemmas.Usable.{put_block-stays}
use Rattle.rel_records.proofs.lemmas.filling.Tails.{tail-new}
use Rattle.rel_records.proofs.lemmas.steps.Others.{others-kept}
use Rattle.rel_records.proofs.lemmas.steps.Sided.{get-once}
use Rattle.rel_records.specs.Others.{HasRecords, KeepsOthers}
use Rattle.rel_records.specs.Usable.{StaysClean}
use Rattle.rel_records.specs.declared.growth.step_parts.Growing.{Growing}
use Rattle.rel_records.specs.growth.Growth.{full, records_had}
use Rattle.rel_records.specs.growth.Steps.{IsAt, IsTailOf}

-- x is the image before the last block is written: the file is as in a, and what lies before its last block is filled
pub record IsReadyToEnd (a x : Image) (l : Layout) (n : ℕ) (f : File) (p : Growing) : Type 0 where
  pub at : IsAt x l n f p
  pub stays : StaysClean a l x l
  pub others : KeepsOthers a x l l n
  pub same : records x f ≡ records a f
  pub bytes : (i : ℕ) → records_had f * record_length f.slot ≤ i → i < 254 * (length f.blocks - 1)
      → get_or (joined x f.blocks) i 0 ≡ filler (record_length f.slot) (full (record_length f.slot) (length f.blocks)) i

-- so it is an image that growth may leave
pub ready-has : (a x : Image) (l : Layout) (n : ℕ) (f : File) (p : Growing) → slice_get l.files n ≡ Some f
    → IsReadyToEnd a x l n f p → HasRecords a x l n (records a f)
ready-has a x l n f p there r = record {
  layout = l;
  is_layout = r.at.clean.layout;
  others = r.others;
  file = f;
  there = there;
  records = r.same;
  places = λ y e. let same : f ≡ y = cc in (let P : File → Type 0 = λ z. (length (records a z) ≤ length (records a f))
      × ((file_owns f ≡ file_owns z) ⊎ (length (records a z) < length (records a f))) in
      subst P same (omega arith, inl refl));
}

module _ (a : Image) (l : Layout) (n : ℕ) (f : File) (p : Growing) (w : IsImage a) (at : IsAt a l n f p) where
  abbrev pub L : ℕ
  L = record_length f.slot

  abbrev pub from : ℕ
  from = records_had f * record_length f.slot

  abbrev pub total : ℕ
  total = full (record_length f.slot) (length f.blocks)

  -- nothing was to be filled before the last block
  pub ready-at-once : 254 * (length f.blocks - 1) ≤ from → IsReadyToEnd a a l n f p
  ready-at-once le = record {
    at = at;
    stays = λ strays clean. clean;
    others = record {
      directory = refl;
      entries = refl;
      files = λ k g ne h. h;
      bytes = λ k g ne h. refl;
      header = refl;
    };
    same = refl;
    bytes = λ i lo hi. absurd (omega (arith, le, lo, hi));
  }

  -- the block before the last got its tail
  module _ (q : Place) (bytes : Sector) (here : slice_get f.blocks (length f.blocks - 2) ≡ Some q)
      (low : from < 254 * (length f.blocks - 1)) (tail : IsTailOf a q (254 * (length f.blocks - 2)) from L total bytes)
      (v : IsImage (put a q bytes)) where
    two : 2 ≤ length f.blocks
    two = omega (arith, low, blocks-some a l n f p at)

    reach : 254 * (length f.blocks - 2) ≤ from
    reach = omega (arith, had-low a l n f p at, (file-rel a l n f p at).length_high, two)

    mine : Contains f.blocks q
    mine = get-contains f.blocks (length f.blocks - 2) q here

    other : q ≢ at.last_place
    other e =
        let s : slice_get f.blocks (length f.blocks - 2) ≡ Some at.last_place = here ∙ ap Some e in
        let k = get-once f.blocks (length f.blocks - 2) (length f.blocks - 1) at.last_place (blocks-once a l n f p at) s
        (last-at a l n f p at) in
        omega (arith, k, two)

    in-files : Contains l.files f
    in-files = get-contains l.files n f at.there

    not-map : q ≢ map_place
    not-map e = at.clean.layout.once.0 (let P : Place → Type 0 = Contains (owners l) in
        subst P e (owned-block l f q in-files mine))

    not-entry : q ≢ f.slot.sector
    not-entry e =
        let once = (let P : Layout → Type 0 = λ k. EachOnce (map_place ∷ owners k) in
        subst P (sym (same-layout l (take n l.files) (drop (suc n) l.files) f (split a l n f p at)))
        at.clean.layout.once) in
        (alone l (take n l.files) (drop (suc n) l.files) f once q (Contains-append_left f.blocks f.sides q
        mine)).directory
        (let P : Place → Type 0 = Contains l.directory in subst P (sym e) (entry-in a l n f p at))

    stays-now : StaysClean a l (put a q bytes) l
    stays-now = put_block-stays a l q bytes w.size (flat_map-in (λ (g : File). g.blocks) l.files f q in-files mine)
        (tail.link 0 (omega arith)) (tail.link 1 (omega arith))

    at-now : IsAt (put a q bytes) l n f p
    at-now = record {
      strays = at.strays;
      clean = stays-now at.strays at.clean;
      there = at.there;
      rel = at.rel;
      place = at.place;
      number = at.number;
      size = at.size;
      sides = at.sides;
      blocks = at.blocks;
      map = at.map ∙ sym (sector-put_other a q map_place bytes not-map);
      front = at.front;
      last_place = at.last_place;
      last_is = at.last_is;
      last = at.last ∙ sym (sector-put_other a q at.last_place bytes other);
      directory = at.directory ∙ sym (sector-put_other a q f.slot.sector bytes not-entry);
    }

    pub ready-with-tail : IsReadyToEnd a (put a q bytes) l n f p
    ready-with-tail = record {
      at = at-now;
      stays = stays-now;
      others =
          let P : ℕ → Type 0 = λ k. KeepsOthers a (put a q bytes) l l k in
          let Q : Layout → Type 0 = λ m. KeepsOthers a (put a q bytes) l m (length (take n l.files)) in
          subst P (place a l n f p at)
          (subst Q (same-layout l (take n l.files) (drop (suc n) l.files) f (split a l n f p at))
          (others-kept a (put a q bytes) l (take n l.files) (drop (suc n) l.files) f f (split a l n f p at) refl
          (others-before a l (take n l.files) (drop (suc n) l.files) f at.clean.layout (split a l n f p at) at.rel q
          bytes mine w)
          (others-after a l (take n l.files) (drop (suc n) l.files) f at.clean.layout (split a l n f p at) at.rel q
          bytes mine w)
          (ap (λ s. take 4 s ++ drop 144 s) (sector-put_other a q map_place bytes not-map))));
      same = records-past a f (length f.blocks - 2) q bytes w v (blocks-once a l n f p at) here (had-fit a l n f p at w)
          tail.kept;
      bytes = λ i lo hi. tail-new a f.blocks (length f.blocks - 2) from L total q bytes w v (blocks-once a l n f p at)
          here tail.kept tail.filled i lo (omega (arith, reach, lo)) (omega (arith, hi, two));
    }

-- the last index stands in the last block
pub last-index : (a : Image) (l : Layout) (n : ℕ) (f : File) (p : Growing) → IsAt a l n f p
    → slice_index p.last 1 ≡ f.last
last-index a l n f p at =
    let c = (file-rel a l n f p at).chain.2 in
    ap (λ s. slice_index s 1) (at.last ∙ ap (sector a) (sym (same-last a l n f p at))) ∙ c.ends.1

-- so the count of records is that of what is in memory
pub had-is : (a : Image) (l : Layout) (n : ℕ) (f : File) (p : Growing) → IsAt a l n f p
    → records_had f ≡ record_count (length p.blocks.items) (slice_index p.last 1) p.size
had-is a l n f p at =
    let many : length p.blocks.items ≡ length f.blocks = ap length at.blocks in
    ap (λ k. record_count k f.last (record_length f.slot)) (sym many)
    ∙ ap (λ u. record_count (length p.blocks.items) u (record_length f.slot)) (sym (last-index a l n f p at))
    ∙ ap (record_count (length p.blocks.items) (slice_index p.last 1)) (sym at.size)

-- the tail of a block, as it is filled
pub tail-of : (a : Image) (place : Place) (old new : Sector) (k n from L total : ℕ) → k ≡ n → old ≡ sector a place
    → IsSector new
    → ((j : ℕ) → j < 2 → slice_index new j ≡ slice_index old j)
    → ((j : ℕ) → j < 254 → 254 * (k - 2) + j < from → slice_index new (2 + j) ≡ slice_index old (2 + j))
    → ((j : ℕ) → j < 254 → from ≤ 254 * (k - 2) + j → slice_index new (2 + j) ≡ filler L total (254 * (k - 2) + j))
    → IsTailOf a place (254 * (n - 2)) from L total new
tail-of a place old new k n from L total e is fresh link kept filled =
    let P : ℕ → Type 0 = λ m. IsTailOf a place (254 * (m - 2)) from L total new in
    subst P e (record {
      link = λ j lt. link j lt ∙ ap (λ s. slice_index s j) is;
      kept = λ j lt h. kept j lt h ∙ ap (λ s. slice_index s (2 + j)) is;
      filled = filled;
      is_sector = fresh;
    })
