-- A file of GEOS that was made of a file with one chain: the shop's files are as they were.
use Rattle.std.proofs.Common.{◌≡◌, ◌≢◌, ◌<◌, ◌≤◌, ◌+◌, ◌*◌, ◌∙◌, ℕ, false, List, None, ap, arith, drop, inl, inr, length, length-take, map, refl, slice_index, subst, sym}
use Rattle.std.specs.Prelude.{Contains, IsTrue, codes, slice_range}
use Rattle.std.proofs.lemmas.Bool.{and_parts, cases_Bool, false≢true}
use Rattle.d64_image.proofs.Images.{length-put, sector-put_same}
use Rattle.d64_image.proofs.Places.{index_below, same_or_other}
use Rattle.d64_image.specs.Images.{Image, IsImage, Sector, put, sector}
use Rattle.d64_image.specs.Offsets.{overwritten}
use Rattle.d64_image.specs.Places.{index_of}
use Rattle.d64_image.specs.declared.place.Place.{Place}
use Rattle.damaged_files.specs.reached.Reached.{IsReached}
use Rattle.disk_changes.specs.GeosPuts.{IsLaid}
use Rattle.disk_changes.specs.Sorts.{all_slots}
use Rattle.disk_layout.proofs.lemmas.chains.Chains.{AgreeAt, IsChain-one, SameLink, SameLinks}
use Rattle.disk_layout.proofs.lemmas.counts.Recount.{filter-out, flat_map-out, slot-number}
use Rattle.disk_layout.proofs.lemmas.layouts.Frames.{unless-same}
use Rattle.disk_layout.proofs.lemmas.layouts.Layouts.{get-contains}
use Rattle.disk_layout.proofs.lemmas.layouts.Twice.{files-apart}
use Rattle.disk_layout.proofs.lemmas.layouts.Unsound.{has-chain}
use Rattle.disk_layout.proofs.lemmas.lists.Once.{Contains-nil, EachOnce-right, all-in, map-in}
use Rattle.std.proofs.lemmas.List.Elements.{Contains-append_left}
use Rattle.disk_layout.specs.Chain.{IsChain, Names}
use Rattle.disk_layout.specs.Directory.{is_used, slot_in, slots_in, used_slots}
use Rattle.disk_layout.specs.Layout.{File, IsFile, IsLayout, Layout, is_rel, is_rel_type, owners}
use Rattle.disk_layout.specs.declared.slot.Slot.{Slot}
use Rattle.file_changes.proofs.Overwritten.{over-before, over-slots}
use Rattle.changed_life.proofs.Blocks.{AreSameBlocks, same-block}
use Rattle.changed_life.proofs.Entries.{keeps-entries, named-one, named_in, off-directory, slots-frame, slots-one}
use Rattle.changed_life.proofs.Firsts.{entry-type, entry_of, is_entry}
use Rattle.changed_life.specs.Changes.{KeepsShops}

-- a file that isn't relative is none of a name
plain-no-entry : (name : List ℕ) (s : Slot) → is_rel s ≡ false → is_entry name (entry_of s) ≡ false
plain-no-entry name s plain = elim (cases_Bool (is_entry name (entry_of s))) [
  | inl e ↦ absurd (false≢true (sym plain ∙ sym (ap is_rel_type (entry-type s.bytes)) ∙ (and_parts _ _ e).0))
  | inr e ↦ e
]

sector-long : (img : Image) (p : Place) → IsImage img → length (sector img p) ≡ 256
unfolding sector
sector-long img p whole = (whole.each (index_of p) (index_below p)).size

module _ (b : Image) (l : Layout) (name : List ℕ) (s : Slot) (c : Image) (whole : IsImage b) (full : length c ≡ 683)
    (h : IsLayout b l) (x : IsLaid b l name s c) (now : is_rel (slot_in s.sector (sector c s.sector) s.number) ≡ false) where
  abbrev p : Place
  p = s.sector

  abbrev k : ℕ
  k = s.number

  abbrev new : List ℕ
  new = slice_range x.entry.bytes 2 32

  abbrev was : Sector
  was = sector b p

  abbrev is : Sector
  is = overwritten (sector x.middle p) (32 * k + 2) new

  -- the file of the entry
  own : (g : File) × Contains l.files g × (g.slot ≡ s)
  own = map-in (λ (f : File). f.slot) l.files s
      (get-contains (map (λ (f : File). f.slot) l.files) x.named.number s x.named.first.there)

  abbrev g : File
  g = own.0

  place : Contains l.directory p × (k < 8) × (s ≡ slot_in p was k)
  unfolding used_slots
  place =
      let listed : Contains (all_slots b l.directory) s = (filter-out is_used (all_slots b l.directory) s
      (subst (λ (xs : List Slot). Contains xs s) h.directory.slots
      (get-contains (map (λ (f : File). f.slot) l.files) x.named.number s x.named.first.there))).0 in
      let (q, on, e) = flat_map-out (λ q. slots_in q (sector b q)) l.directory s listed in
      let (low, same) = slot-number q (sector b q) s e in
      let one : s.sector ≡ q = ap (λ (t : Slot). t.sector) same in
      (rw one on, low, same ∙ ap (λ (y : Place). slot_in y (sector b y) s.number) (sym one))

  -- the blocks that have changed are its own
  in-blocks : (q : Place) → Contains x.blocks q → Contains g.blocks q
  in-blocks q on = of x.reached
    where
      of : IsReached b s x.blocks None x.last → Contains g.blocks q
      of (inl (none, nothing, fine, zero)) = absurd (Contains-nil q (subst (λ (ps : List Place). Contains ps q) nothing on))
      of (inr (inl (some, none, nothing, fault, zero))) = absurd (Contains-nil q (subst (λ (ps : List Place). Contains ps q) nothing on))
      of (inr (inr (first, named, reach))) =
          let own-chain : IsChain b first g.blocks g.last = has-chain b g first (all-in (IsFile b) l.files g h.files own.1)
          (subst (λ (t : Slot). Names t.bytes 3 first) (sym own.2) named) in
          let chain : IsChain b first x.blocks x.last = record {
            front = reach.front;
            last = reach.last;
            places = reach.places;
            leads = reach.leads;
            ends = reach.ends;
            once = reach.once;
          } in
          subst (λ (ps : List Place). Contains ps q) (IsChain-one b first x.blocks g.blocks x.last g.last chain own-chain).0 on

  -- no relative file has one of them, nor the directory
  apart : (f : File) → Contains l.files f → IsTrue (is_rel f.slot) → (q : Place) → Contains f.blocks q → ¬ (Contains x.blocks q)
  unfolding owners
  apart f mine rel q there on =
      let same : f ≡ g = files-apart l.files f g q (EachOnce-right l.directory _ h.once.1) mine own.1
      (Contains-append_left f.blocks f.sides q there) (Contains-append_left g.blocks g.sides q (in-blocks q on)) in
      false≢true (sym x.named.plain ∙ ap is_rel (sym own.2) ∙ ap (λ (y : File). is_rel y.slot) (sym same) ∙ rel)

  off : (q : Place) → Contains l.directory q → ¬ (Contains x.blocks q)
  off q there on = off-directory b l q g q h there own.1 (in-blocks q on) refl

  -- what is on the disk now
  middle-full : length x.middle ≡ 683
  middle-full = sym (length-put x.middle p is) ∙ ap length (sym x.is) ∙ full

  same-p : sector x.middle p ≡ was
  same-p = x.beside p (off p place.0)

  here : sector c p ≡ is
  here = ap (λ (i : Image). sector i p) x.is ∙ sector-put_same x.middle p is middle-full

  there : (q : Place) → p ≢ q → ¬ (Contains x.blocks q) → sector c q ≡ sector b q
  there q ne not = ap (λ (i : Image). sector i q) x.is ∙ sym (unless-same x.middle p q is ne) ∙ x.beside q not

  blocks-stay : (f : File) → Contains l.files f → IsTrue (is_rel f.slot) → AreSameBlocks b c f.blocks
  blocks-stay f mine rel q on = same-block b c q
      (sym (there q (off-directory b l p f q h place.0 mine on) (apart f mine rel q on)))

  size : length (sector x.middle p) ≡ 256
  size = ap length same-p ∙ sector-long b p whole

  short : length new ≤ 30
  short = omega (arith, length-take 30 (drop 2 x.entry.bytes))

  link : (i : ℕ) → i < 2 → slice_index was i ≡ slice_index is i
  link i lt = ap (λ (bs : List ℕ). slice_index bs i) (sym same-p)
      ∙ sym (over-before (sector x.middle p) new (32 * k + 2) (omega (arith, size, place.1, short)) i (omega (arith, lt)))

  links : SameLinks b c l.directory
  links q on = elim (same_or_other p q) [
    | inl e ↦ subst (SameLink b c) e (
      link 0 (omega arith) ∙ ap (λ (bs : List ℕ). slice_index bs 0) (sym here),
      link 1 (omega arith) ∙ ap (λ (bs : List ℕ). slice_index bs 1) (sym here),
    )
    | inr ne ↦ (
      ap (λ (bs : List ℕ). slice_index bs 0) (sym (there q ne (off q on))),
      ap (λ (bs : List ℕ). slice_index bs 1) (sym (there q ne (off q on))),
    )
  ]

  agree : AgreeAt (put b p is) c l.directory
  agree q on = elim (same_or_other p q) [
    | inl e ↦ subst (λ (y : Place). sector (put b p is) y ≡ sector c y) e (sector-put_same b p is whole.size ∙ sym here)
    | inr ne ↦ sym (unless-same b p q is ne) ∙ sym (there q ne (off q on))
  ]

  others : (j : ℕ) → j < 8 → j ≢ k → slot_in p was j ≡ slot_in p is j
  others j lt ne = ap (λ (bs : List ℕ). record { sector = p; number = j; bytes = bs })
      (ap (λ (y : List ℕ). slice_range y (32 * j) (32 * j + 32)) (sym same-p)
      ∙ over-slots (sector x.middle p) new k 2 size place.1 (omega (arith, short)) j lt ne)

  named-stays : (nm : List ℕ) → named_in nm (all_slots c l.directory) ≡ named_in nm (all_slots b l.directory)
  named-stays nm =
      let (xs, ys, e, d) = slots-one b l.directory p k is whole.size h.directory.chain.once place.0 place.1 others in
      ap (named_in nm) (sym (slots-frame (put b p is) c l.directory agree) ∙ d)
      ∙ named-one nm xs ys (slot_in p was k) (slot_in p is k)
      (plain-no-entry nm (slot_in p was k) (ap is_rel (sym place.2) ∙ x.named.plain))
      (plain-no-entry nm (slot_in p is k) (ap (λ (y : Sector). is_rel (slot_in p y k)) (sym here) ∙ now))
      ∙ ap (named_in nm) (sym e)

  pub laid-keeps : (m : Layout) → IsLayout c m → KeepsShops b c
  laid-keeps m sound = keeps-entries b c l m h sound blocks-stay links
      (λ n f first long. named-stays (codes "STOCK")) (λ n f first long. named-stays (codes "REQUESTS"))
