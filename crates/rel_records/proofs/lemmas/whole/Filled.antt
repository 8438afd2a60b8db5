-- A file whose last blocks are filled is whole, and so is one that has grown.
use Rattle.std.proofs.Common.{◌≡◌, ◌≢◌, ℕ, suc, ◌+◌, ◌-◌, ◌*◌, ◌/◌, ◌<◌, ◌≤◌, List, [], ◌∷◌, ◌++◌, map, length, refl, sym, ◌∙◌}
use Rattle.std.proofs.Common.{ap, arith, inl, inr, subst, Bool, IsTrue, length-append, slice_index, take, drop}
use Rattle.std.proofs.Math.Nat.{lt-div-mul-add}
use Rattle.std.proofs.lemmas.Bool.{cases_eq}
use Rattle.std.proofs.lemmas.Option.{slice_get-map}
use Rattle.std.specs.Prelude.{Some, nat_eq, option_map, slice_get, ◌||◌}
use Rattle.d64_image.proofs.Images.{sector-put_same}
use Rattle.d64_image.specs.Images.{Image, IsImage, Sector, put, sector}
use Rattle.d64_image.specs.declared.place.Place.{Place}
use Rattle.disk_layout.proofs.lemmas.counts.Counts.{uncounted-face, uncounted-name}
use Rattle.disk_layout.proofs.lemmas.growth.GrowthRecords.{get-seam}
use Rattle.disk_layout.proofs.lemmas.growth.Refills.{ended}
use Rattle.disk_layout.proofs.lemmas.layouts.Exact.{get-lt}
use Rattle.disk_layout.proofs.lemmas.lists.Lists.{get-some}
use Rattle.disk_layout.specs.Chain.{byte}
use Rattle.disk_layout.specs.Entries.{uncounted}
use Rattle.disk_layout.specs.Layout.{File, IsLayout, IsRelFile, Layout, exchanged, record_length}
use Rattle.disk_layout.specs.Records.{record_count}
use Rattle.disk_layout.specs.declared.slot.Slot.{Slot}
use Rattle.rel_records.proofs.lemmas.filling.Ending.{ended-clean, ended-others}
use Rattle.rel_records.proofs.lemmas.filling.Fulls.{full-last}
use Rattle.rel_records.proofs.lemmas.filling.ReadyToEnd.{IsReadyToEnd}
use Rattle.rel_records.proofs.lemmas.filling.Standing.{blocks-some, file-rel, last-at, last-in, place, pos, same-last, split}
use Rattle.disk_layout.proofs.lemmas.whole.Ends.{zeros-at}
use Rattle.disk_layout.proofs.lemmas.whole.Files.{HasEnd, chain-some, not-zeros}
use Rattle.rel_records.proofs.lemmas.whole.Files.{clean-whole, same-files}
use Rattle.rel_records.proofs.lemmas.whole.Written.{none-reaches}
use Rattle.disk_layout.specs.Listed.{HasStock, IsStock, NeverGrows, is_plain}
use Rattle.layout_check.specs.Keeping.{IsCleanBut}
use Rattle.rel_records.specs.Others.{KeepsOthers}
use Rattle.disk_layout.specs.Whole.{IsWhole}
use Rattle.rel_records.specs.declared.growth.step_parts.Growing.{Growing}
use Rattle.rel_records.specs.growth.Growth.{full}
use Rattle.rel_records.specs.growth.Steps.{IsAt, IsFilledUp, IsRunTo}

-- the same place of a list
one-there : (ps : List Place) (k : ℕ) (x y : Place) → slice_get ps k ≡ Some x → slice_get ps k ≡ Some y → x ≡ y
one-there ps k x y a b = let both : Some x ≡ Some y = sym a ∙ b in cc

-- before the last block is written
pub ready-whole : (a x : Image) (l : Layout) (n : ℕ) (f : File) (p : Growing) → IsAt a l n f p → IsReadyToEnd a x l n f p
    → IsWhole a → IsWhole x
ready-whole a x l n f p at r w = clean-whole a x l l n f at.clean.layout r.at.clean r.others r.at.there r.at.rel end w
  where
    end : HasEnd x f
    end q last zeros =
        let here : q ≡ r.at.last_place = one-there f.blocks _ q r.at.last_place last (last-at x l n f p r.at) in
        let there : q ≡ at.last_place = one-there f.blocks _ q at.last_place last (last-at a l n f p at) in
        let same : sector a q ≡ sector x q =
        ap (sector a) there ∙ sym at.last ∙ r.at.last ∙ ap (sector x) (sym here) in
        (w l at.clean.layout n f at.there).ended (ap (λ b. b || is_plain f.slot) at.rel) q last (same ∙ zeros)

-- once it is
pub filled-whole : (x : Image) (l : Layout) (n : ℕ) (f : File) (p : Growing) → IsImage x → (at : IsAt x l n f p)
    → (bytes : Sector) → slice_index bytes 1 + 254 * (length f.blocks - 1)
    ≡ full (record_length f.slot) (length f.blocks) * record_length f.slot + 1 → slice_index bytes 0 ≡ 0
    → IsWhole x → IsWhole (put x at.last_place bytes)
filled-whole x l n f p wx at bytes index ends w =
    clean-whole x b l m n h at.clean.layout clean keeps there at.rel end w
  where
    b : Image
    b = put x at.last_place bytes

    h : File
    h = ended f (slice_index bytes 1)

    m : Layout
    m = exchanged l (take n l.files) h (drop (suc n) l.files)

    clean : IsCleanBut at.strays b m
    clean = ended-clean x l (take n l.files) (drop (suc n) l.files) f at.clean.layout (split x l n f p at) at.rel
        at.last_place bytes (last-in x l n f p at) wx (file-rel x l n f p at) (same-last x l n f p at)
        (slice_index bytes 1) ends refl at.strays at.clean

    keeps : KeepsOthers x b l m n
    keeps =
        let P : ℕ → Type 0 = λ k. KeepsOthers x b l m k in
        subst P (place x l n f p at) (ended-others x l (take n l.files) (drop (suc n) l.files) f at.clean.layout
        (split x l n f p at) at.rel at.last_place bytes (last-in x l n f p at) wx (slice_index bytes 1))

    there : slice_get m.files n ≡ Some h
    there = let P : ℕ → Type 0 = λ k. slice_get (take n l.files ++ h ∷ drop (suc n) l.files) k ≡ Some h in
        subst P (place x l n f p at) (get-seam (take n l.files) (drop (suc n) l.files) h)

    some : slice_index bytes 1 ≢ 0
    some z =
        let e : length f.blocks - 1 + 1 ≡ length f.blocks = omega (arith, blocks-some x l n f p at) in
        let P : ℕ → Type 0 = λ k. 254 * (length f.blocks - 1) < full (record_length f.slot) k * record_length f.slot + 1 in
        omega (
          arith,
          z,
          index,
          subst P e (full-last (record_length f.slot) (length f.blocks - 1) (pos x l n f p at)
              (file-rel x l n f p at).length_high),
        )

    end : HasEnd b h
    end q last =
        let here : at.last_place ≡ q = one-there f.blocks _ at.last_place q (last-at x l n f p at) last in
        let same : sector b q ≡ bytes = ap (sector b) (sym here) ∙ sector-put_same x at.last_place bytes wx.size in
        not-zeros (sector b q) 1 (λ z. some (ap (λ (s : Sector). slice_index s 1) (sym same) ∙ z))

-- the whole records that fit reach into the last block
full-reaches : (L N : ℕ) → 0 < L → L ≤ 254 → 1 ≤ N → 254 * (N - 1) < full L N * L
full-reaches L N pos few some =
    let above : 254 * N < 254 * N / L * L + L = lt-div-mul-add pos in
    omega (arith, above, few, some)

-- so a file that has them ends in a block with bytes of them
pub up-end : (x : Image) (f : File) → IsRelFile x f → IsFilledUp f → HasEnd x f
up-end x f r up q last zeros = omega (
  arith,
  reaches,
  none-reaches N L (full L N) some-full (omega (arith, ap (λ u. record_count N u L) (sym no-index) ∙ up)),
)
  where
    N : ℕ
    N = length f.blocks

    L : ℕ
    L = record_length f.slot

    reaches : 254 * (N - 1) < full L N * L
    reaches = full-reaches L N (omega (arith, r.length_low)) r.length_high (chain-some x f r)

    some-full : 1 ≤ full L N
    some-full = elim (cases_eq (full L N) 0) [
      | inl z ↦ let none : full L N * L ≡ 0 * L = ap (λ k. k * L) z in absurd (omega (arith, none, reaches))
      | inr some ↦ omega (arith, some)
    ]

    no-index : f.last ≡ 0
    no-index =
        let c = r.chain.2 in
        let front : N - 1 ≡ length c.front =
        omega (arith, ap length c.places, length-append c.front (c.last ∷ [])) in
        let here : c.last ≡ q =
        one-there f.blocks (N - 1) c.last q (ap (λ xs. slice_get xs (N - 1)) c.places
        ∙ ap (slice_get (c.front ++ c.last ∷ [])) front ∙ get-seam c.front [] c.last) last in
        sym c.ends.1 ∙ ap (λ y. byte x y 1) here ∙ ap (λ (s : Sector). slice_index s 1) zeros ∙ zeros-at 256 1

-- at the end of a run
pub run-whole : (a x : Image) (l : Layout) (n : ℕ) (f : File) (k : ℕ) (p : Growing) → IsLayout a l
    → IsRunTo a x l n f k p → IsWhole a → IsWhole x
run-whole a x l n f k p is run w =
    clean-whole a x l run.layout n run.file is run.at.clean run.others run.at.there run.at.rel
    (up-end x run.file (file-rel x run.layout n run.file p run.at) run.filled) w

module _ (a x : Image) (l m : Layout) (n : ℕ) (keeps : KeepsOthers a x l m n) where
  -- the entry at a place is that of before, its block count aside
  slot-back : (k : ℕ) (f g : File) → slice_get l.files k ≡ Some f → slice_get m.files k ≡ Some g
      → uncounted g.slot ≡ uncounted f.slot
  slot-back k f g at to =
      let both : Some (uncounted g.slot) ≡ Some (uncounted f.slot) =
      sym (there m.files g to) ∙ ap (λ (ss : List Slot). slice_get ss k) keeps.entries ∙ there l.files f at in
      cc
    where
      there : (fs : List File) (y : File) → slice_get fs k ≡ Some y
          → slice_get (map uncounted (map (λ (h : File). h.slot) fs)) k ≡ Some (uncounted y.slot)
      there fs y at = slice_get-map uncounted (map (λ (h : File). h.slot) fs) k
          ∙ ap (option_map uncounted) (slice_get-map (λ (h : File). h.slot) fs k
          ∙ ap (option_map (λ (h : File). h.slot)) at)

  stock-back : (s t : Slot) → uncounted s ≡ uncounted t → IsStock s → IsStock t
  stock-back s t e (rel, name, long) =
      let face = uncounted-face s t e in (
        (let P : Bool → Type 0 = IsTrue in
            subst P (ap (λ k. nat_eq k 132 || nat_eq k 196) face.kind) rel),
        sym (uncounted-name s t e) ∙ name,
        sym face.length ∙ long,
      )

  -- a file that never grows never grew
  pub never-back : (f g : File) → slice_get l.files n ≡ Some f → slice_get m.files n ≡ Some g
      → NeverGrows (HasStock m) g.slot → NeverGrows (HasStock l) f.slot
  never-back f g at to ((k, y, there, stock), long, name) =
      let (x, was) = get-some l.files k (omega (arith, get-lt m.files k y there, same-files a x l m n keeps)) in
      let e = slot-back n f g at to in (
        (k, x, was, stock-back y.slot x.slot (slot-back k x y was there) stock),
        sym (uncounted-face g.slot f.slot e).length ∙ long,
        sym (uncounted-name g.slot f.slot e) ∙ name,
      )
