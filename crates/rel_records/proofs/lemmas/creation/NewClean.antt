-- What makes a new relative file's sectors and its entry a file, of empty records.
use Rattle.std.proofs.Common.{◌≡◌, ℕ, ◌+◌, ◌*◌, ◌/◌, ◌≤◌, inl, inr, true, List, [], ◌∷◌, ap, length}
use Rattle.std.proofs.Common.{arith, false, get_or, refl, slice_index, subst, sym, ◌∙◌, ◌≢◌, Bool}
use Rattle.std.specs.Prelude.{Contains, Some, drop, if◌then◌else◌, nat_lt, replicate, slice_get}
use Rattle.std.proofs.lemmas.List.Elements.{Contains-append_left}
use Rattle.d64_image.specs.Images.{Image, IsImage, Sector, sector}
use Rattle.d64_image.specs.declared.place.Place.{Place}
use Rattle.disk_layout.proofs.lemmas.growth.GrowthRecords.{count-full}
use Rattle.disk_layout.proofs.lemmas.layouts.Agree.{records-agree}
use Rattle.disk_layout.proofs.lemmas.lists.Lists.{read-there}
use Rattle.disk_layout.proofs.lemmas.lists.Once.{Contains-here, Contains-there}
use Rattle.disk_layout.specs.Chain.{EachOnce}
use Rattle.disk_layout.specs.Directory.{map_place}
use Rattle.disk_layout.specs.Entries.{rel_entry}
use Rattle.disk_layout.specs.Layout.{File, Layout, owners, record_length}
use Rattle.disk_layout.specs.Records.{empty_record, filler, records}
use Rattle.disk_layout.specs.Side.{side_sector}
use Rattle.disk_layout.specs.declared.slot.Slot.{Slot}
use Rattle.rel_records.proofs.lemmas.creation.Entering.{IsEntering, site-taking}
use Rattle.rel_records.proofs.lemmas.creation.NewEntry.{HasEntered, IsFileBy, IsSlotOf}
use Rattle.rel_records.proofs.lemmas.creation.NewFiles.{IsNewFile, new-exact, new-is_file, new-records, new_file}
use Rattle.rel_records.proofs.lemmas.directory.Entered.{IsEntry, is-entry, rel-used}
use Rattle.rel_records.proofs.lemmas.filling.Fulls.{full-inside}
use Rattle.rel_records.proofs.lemmas.whole.Created.{fresh-long}
use Rattle.rel_records.specs.creation.Made.{IsCreating, creation_writes}
use Rattle.rel_records.specs.creation.NewFile.{AreApart, HasNewSectors}
use Rattle.rel_records.specs.creation.Site.{HasFileAt, IsSite}
use Rattle.rel_records.specs.declared.creation.site.Site.{Site}
use Rattle.rel_records.specs.growth.Growth.{full}
use Rattle.rel_records.specs.growth.Next.{IsFresh}

module _ (b : Image) (s : Slot) (name : List ℕ) (block side : Place) (L : ℕ) (e : IsEntry s name block side L)
    (fresh : IsFresh 0 L (sector b block)) (links : sector b side ≡ side_sector 0 (block ∷ []) (side ∷ []) L)
    (low : 1 ≤ L) (high : L ≤ 254) where
  is-new : IsNewFile b s block side (slice_index (sector b block) 1)
  is-new = record {
    kind = e.kind;
    first = e.first;
    first_side = e.first_side;
    low = omega (arith, e.size, low);
    high = omega (arith, e.size, high);
    ends = fresh.ends;
    last = refl;
    side_bytes = links ∙ ap (side_sector 0 (block ∷ []) (side ∷ [])) (sym e.size);
  }

  empty-records : IsImage b → records b (new_file s block side (slice_index (sector b block) 1)) ≡ replicate
      (254 / L) (empty_record L)
  empty-records w =
      let K : ℕ = record_length s in
      let u : ℕ = slice_index (sector b block) 1 in
      let P : ℕ → Type 0 = λ k. IsFresh 0 k (sector b block) in
      let here : IsFresh 0 (record_length s) (sector b block) = subst P (sym e.size) fresh in
      new-records b s block side u is-new (full (record_length s) 1) w
      (count-full 0 u (record_length s) (full (record_length s) 1) (omega (arith, e.size, low))
      (omega (arith, e.size, high)) refl here.index) (full-inside (record_length s) 1)
      (λ j lt. here.filled j lt ∙ ap (filler (record_length s) (full (record_length s) 1)) (let z : 254 * 0 + j ≡ j =
      omega arith in z))
      ∙ ap (λ k. replicate (254 / k) (empty_record k)) e.size

module _ (c : Image) (w : IsImage c) (name : List ℕ) (map : Sector) (block side : Place) (L : ℕ)
    (few : length name ≤ 16) (low : 1 ≤ L) (high : L ≤ 254) (has : HasNewSectors map block side L c) where
  abbrev u : ℕ
  u = slice_index (sector c block) 1

  entry-of : (s : Slot) → IsSlotOf s (rel_entry name block side L 2) → IsEntry s name block side L
  entry-of s of = subst (λ t. IsEntry t name block side L) of.is
      (is-entry of.old of.new of.number name block side L of.low few of.entered of.place)

  -- the entry's file, of one fresh block
  pub rel-by : IsFileBy c (block ∷ side ∷ []) (rel_entry name block side L 2)
      (λ s. new_file s block side (slice_index (sector c block) 1))
  rel-by = record {
    used = rel-used name block side L;
    slot = λ s. refl;
    owns = λ s. refl;
    right = λ b agree s of.
        let e = entry-of s of in
        let at = agree block (Contains-here block (side ∷ [])) in
        let fresh = subst (λ x. IsFresh 0 L x) at has.fresh in
        let links = sym (agree side (Contains-there side block (side ∷ []) (Contains-here side []))) ∙ has.links in
        let same : slice_index (sector b block) 1 ≡ u = ap (λ x. slice_index x 1) (sym at) in
        let P : ℕ → Type 0 = λ v. IsNewFile b s block side v in
        let new = subst P same (is-new b s name block side L e fresh links low high) in
        record {
          file = new-is_file b s block side u new;
          exact = λ t. new-exact b s block side u new e.count;
          long = fresh-long b s block side u L (rw e.kind refl) fresh;
        };
  }

  -- one file more, as it was chosen
  pub file-more : (a b : Image) (l : Layout) (st : Site) → st.blocks.items ≡ block ∷ side ∷ []
      → HasEntered a c l st (rel_entry name block side L 2) (λ s. new_file s block side (slice_index (sector c block) 1)) b
      → HasFileAt a l name L st b
  file-more a b l st both h =
      let e = entry-of h.slot h.of in
      let f : File = new_file h.slot block side u in
      record {
        more = record {
          layout = h.layout;
          sound = h.sound;
          clean = h.clean;
          file = f;
          adds = h.adds;
          slot = h.new;
          kind = e.kind;
          named = (rw e.kind refl, e.named);
          size = e.size;
          one = refl;
          records_are = sym (records-agree c b f (λ q d. h.kept q (subst (λ qs. Contains qs q) (sym both)
              (Contains-append_left (block ∷ []) (side ∷ []) q d)))) ∙ empty-records c h.slot name block side L e has.fresh has.links low high w;
        };
        there = h.there;
        sector = h.sector_is;
        number = h.number_is;
        sides = ap (drop 1) (sym both);
        last = omega (arith, has.fresh.index);
      }

  -- while it is made
  pub creating-of : (a b : Image) (l : Layout) (st : Site) → st.blocks.items ≡ block ∷ side ∷ []
      → IsEntering a c l st (rel_entry name block side L 2) (λ s. new_file s block side (slice_index (sector c block) 1)) b
      → IsCreating a l name L b
  creating-of a b l st both (inl was, whole) = (inl was, whole)
  creating-of a b l st both (inr made, whole) = (inr (file-more a b l st both made).more, whole)

-- the sectors of the site are these two
two-of : (ps : List Place) (p q : Place) → length ps ≡ 2 → slice_get ps 0 ≡ Some p → slice_get ps 1 ≡ Some q
    → ps ≡ p ∷ q ∷ []
two-of [] p q long one two = cc
two-of (x ∷ []) p q long one two = cc
two-of (x ∷ y ∷ []) p q long one two = cc
two-of (x ∷ y ∷ z ∷ zs) p q long one two = absurd (omega (arith, long))

pub both-of : (a : Image) (l : Layout) (st : Site) (xs ys : List Place) (p q : Place) → IsSite a l 2 st
    → xs ≡ st.blocks.items → ys ≡ st.blocks.items → p ≡ get_or xs 0 p → q ≡ get_or ys 1 q → st.blocks.items ≡ p ∷ q ∷ []
both-of a l st xs ys p q h ex ey one two =
    let count = (site-taking a l 2 st h).count in
    let P : ℕ → List Place → Place → Type 0 = λ n qs x. slice_get qs n ≡ Some x in
    two-of st.blocks.items p q count
    (subst (λ qs. P 0 qs p) ex (read-there xs 0 p (omega (arith, count, ap length ex)) one))
    (subst (λ qs. P 1 qs q) ey (read-there ys 1 q (omega (arith, count, ap length ey)) two))

pub apart-of : (a : Image) (l : Layout) (st : Site) (p q : Place) → IsSite a l 2 st → st.blocks.items ≡ p ∷ q ∷ []
    → AreApart p q
apart-of a l st p q h both =
    let taking = site-taking a l 2 st h in
    let out : (x : Place) → Contains (p ∷ q ∷ []) x → x ≢ map_place = λ x d e. taking.unowned x
    (subst (λ qs. Contains qs x) (sym both) d)
    (subst (λ y. Contains (y ∷ owners l) x) e (Contains-here x (owners l))) in
    let once : EachOnce (p ∷ q ∷ []) = subst (λ qs. EachOnce qs) both taking.once in
    record {
      block = out p (Contains-here p (q ∷ []));
      side = out q (Contains-there q p (q ∷ []) (Contains-here q []));
      apart = λ e. once.0 (subst (λ x. Contains (q ∷ []) x) (sym e) (Contains-here q []));
    }

-- four writes at least
pub some-writes : (l : Layout) → 3 ≤ creation_writes l
some-writes l = some (nat_lt (length l.files) (8 * length l.directory))
  where
    some : (b : Bool) → 3 ≤ (if b then 4 else 5)
    some true = omega arith
    some false = omega arith
