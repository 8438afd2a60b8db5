-- A new file's entry, of whatever type the file is, put into a free slot or linked: this write makes the file.
use Rattle.std.proofs.Common.{drop, take, ◌≡◌, ℕ, ◌+◌, ◌<◌, inl, inr, false, true, List, [], ◌∷◌, ◌++◌, ap, append-nil}
use Rattle.std.proofs.Common.{append_assoc}
use Rattle.std.proofs.Common.{arith, length, map, refl, slice_index, subst, sym, ◌∙◌, ◌*◌, ◌≢◌, IsTrue, None, Some}
use Rattle.std.proofs.lemmas.List.{map-append, length-map}
use Rattle.std.proofs.lemmas.List.Elements.{Contains-append_cases, Contains-append_left}
use Rattle.disk_layout.proofs.lemmas.chains.Chains.{IsChain-grow, chain-front, links-agree, AgreeAt}
use Rattle.disk_layout.proofs.lemmas.counts.Recounts.{map-map, reread, reslot, slot-of}
use Rattle.disk_layout.proofs.lemmas.growth.Commit.{all-join, keeps-other}
use Rattle.disk_layout.proofs.lemmas.growth.LongerDirectory.{used_slots-relinked, IsRelinked}
use Rattle.disk_layout.proofs.lemmas.layouts.Frames.{KeepsFiles, unless-same}
use Rattle.disk_layout.proofs.lemmas.lists.Once.{Contains-cases, Contains-here, Contains-nil, flat_map-in}
use Rattle.disk_layout.proofs.lemmas.lists.Once.{Contains-there, EachOnce-apart}
use Rattle.disk_layout.specs.Chain.{IsChain, Names, EachOnce}
use Rattle.disk_layout.specs.Directory.{IsDirectory, directory_start, used_slots, is_used, map_place, slot_in}
use Rattle.rel_records.proofs.lemmas.directory.NewSlots.{used_slots-sector}
use Rattle.std.specs.Prelude.{Contains, flat_map, nat_eq, not, slice_get}
use Rattle.d64_image.proofs.Images.{sector-put_other, sector-put_same}
use Rattle.d64_image.specs.Images.{Image, Sector, put, sector}
use Rattle.d64_image.specs.declared.place.Place.{Place}
use Rattle.disk_layout.proofs.lemmas.counts.CountWrites.{slot-byte}
use Rattle.disk_layout.proofs.lemmas.growth.GrowthRecords.{get-seam}
use Rattle.disk_layout.proofs.lemmas.lists.Lists.{snoc-last}
use Rattle.disk_layout.specs.Clean.{IsExactFile}
use Rattle.disk_layout.specs.Layout.{File, IsFile, IsLayout, Layout, count_field, file_owns, is_rel, owners}
use Rattle.disk_layout.specs.Map.{IsFirstOn, IsMapOf}
use Rattle.disk_layout.specs.Same.{AddsFile}
use Rattle.disk_layout.specs.Whole.{IsWhole}
use Rattle.disk_layout.specs.declared.slot.Slot.{Slot}
use Rattle.rel_records.proofs.lemmas.creation.Creating.{SameEntry, created-adds, created-layout, with_new}
use Rattle.rel_records.proofs.lemmas.creation.InSector.{linked-stays}
use Rattle.rel_records.proofs.lemmas.creation.InSlot.{Made, TakesSlot, made, not_file, same-entry, slot-stays}
use Rattle.rel_records.proofs.lemmas.creation.InSlot.{with_file}
use Rattle.rel_records.proofs.lemmas.creation.NewWrites.{before-same, files-before}
use Rattle.rel_records.proofs.lemmas.creation.StillClean.{still-clean}
use Rattle.rel_records.proofs.lemmas.creation.Unowned.{IsUnowned, among, among-directory, map-same, once-linked}
use Rattle.rel_records.proofs.lemmas.creation.Unowned.{owners-with}
use Rattle.rel_records.proofs.lemmas.directory.AnyEntry.{entry-apart, entry-links, entry-used}
use Rattle.rel_records.proofs.lemmas.directory.FullSlots.{files-full, slots-before}
use Rattle.rel_records.proofs.lemmas.whole.Created.{IsLong, more-whole}
use Rattle.rel_records.specs.Usable.{StaysClean}
use Rattle.rel_records.specs.creation.Made.{HasFilesOf, IsNewSlot}
use Rattle.rel_records.specs.creation.NewFile.{ChangesOnly, IsEntered, IsLinkedTo, IsNewDirectory}
use Rattle.rel_records.specs.creation.Room.{AreFullSectors, IsFirstRoom, IsFirstSlot, IsFullDirectory, IsFullSector}
use Rattle.rel_records.specs.creation.Site.{IsTaking, sector_of, sector_or}
use Rattle.rel_records.specs.declared.creation.site.Site.{Site}

-- the slot has the entry
pub record IsSlotOf (s : Slot) (entry : List ℕ) : Type 0 where
  pub old : Sector
  pub new : Sector
  pub place : Place
  pub number : ℕ
  pub low : number < 8
  pub entered : IsEntered old new number entry
  pub is : slot_in place new number ≡ s

-- the file is one, with exact side sectors if it is relative, and neither cut nor empty
pub record IsRight (b : Image) (f : File) : Type 0 where
  pub file : IsFile b f
  pub exact : IsTrue (is_rel f.slot) → IsExactFile b f
  pub long : IsLong b f

-- k is the file of a slot with the entry: it has these sectors, which are written in c
pub record IsFileBy (c : Image) (ps : List Place) (entry : List ℕ) (k : Slot → File) : Type 0 where
  pub used : slice_index entry 0 ≢ 0
  pub slot : (s : Slot) → (k s).slot ≡ s
  pub owns : (s : Slot) → file_owns (k s) ≡ ps
  pub right : (b : Image) → AgreeAt c b ps → (s : Slot) → IsSlotOf s entry → IsRight b (k s)

-- b is as clean as a, and has the files of a and one more, that of the entry, whose sectors are as in c
pub record HasEntered (a c : Image) (l : Layout) (st : Site) (entry : List ℕ) (k : Slot → File) (b : Image) : Type 0
  where
    pub layout : Layout
    pub sound : IsLayout b layout
    pub clean : StaysClean a l b layout
    pub slot : Slot
    pub of : IsSlotOf slot entry
    pub adds : AddsFile a b l layout (k slot)
    pub new : IsNewSlot a l layout slot
    pub there : slice_get layout.files st.entry ≡ Some (k slot)
    pub sector_is : slot.sector ≡ sector_of st
    pub number_is : slot.number ≡ st.number
    pub kept : AgreeAt c b st.blocks.items

-- so and with whole files
abbrev pub IsMadeBy : Image → Image → Layout → Site → List ℕ → (Slot → File) → Image → Type 0
IsMadeBy a c l st entry k b = HasEntered a c l st entry k b × (IsWhole a → IsWhole b)

-- In d the sectors are written, qs and no others; the last write is that of the directory sector of the site.
module _ (a c d : Image) (l : Layout) (n : ℕ) (st : Site) (entry : List ℕ) (k : Slot → File) (qs : List Place)
    (full : length d ≡ 683) (map_is : sector d map_place ≡ st.map.bytes) (by : IsFileBy c st.blocks.items entry k)
    (h : IsTaking a l n st) (none : (q : Place) → Contains qs q → ¬ (Contains (owners l) q))
    (changes : ChangesOnly a st.map.bytes qs d) (agree : AgreeAt c d st.blocks.items)
    (listed : Contains l.directory st.place) (bytes : Sector) where
  abbrev ps : List Place
  ps = st.blocks.items

  abbrev p : Place
  p = st.place

  abbrev b : Image
  b = put d st.place bytes

  was : HasFilesOf a l d
  was = files-before a d st.map.bytes qs l h.usable.1.layout none h.header changes

  same : AgreeAt a d (owners l)
  same = before-same a d st.map.bytes qs l h.usable.1.layout none changes

  in-dir : (q : Place) → Contains l.directory q → Contains (owners l) q
  unfolding owners
  in-dir q e = Contains-append_left l.directory (flat_map file_owns l.files) q e

  here : sector a st.place ≡ sector d st.place
  here = same p (in-dir p listed)

  kept : AgreeAt c (put d st.place bytes) st.blocks.items
  kept q e = agree q e ∙ sym (sector-put_other d p q bytes (λ x. h.unowned q e
      (Contains-there q map_place (owners l) (subst (λ y. Contains (owners l) y) x (in-dir p listed)))))

  no-map : st.place ≢ map_place
  no-map e = was.layout.directory.not_map (subst (λ x. Contains l.directory x) e listed)

  unowned : (s : Slot) → IsUnowned l (k s)
  unowned s = record {
    once = subst (λ os. EachOnce os) (sym (by.owns s)) h.once;
    none = λ q e. h.unowned q (subst (λ os. Contains os q) (by.owns s) e);
  }

  -- it puts the entry into a free slot
  module _ (room : IsFirstRoom a l.directory st.place st.number)
      (map_of : (owned : List Place) → IsMapOf (sector a map_place) owned → IsMapOf st.map.bytes (st.blocks.items ++ owned))
      (at : st.entry ≡ 8 * length room.front + st.number) (no_sector : None ≡ st.fresh)
      (entered : IsEntered st.bytes bytes st.number entry) where
    abbrev s : Slot
    s = slot_in st.place bytes st.number

    put-in : IsEntered (sector d st.place) bytes st.number entry
    put-in = subst (λ x. IsEntered x bytes st.number entry) (h.bytes ∙ here) entered

    of : IsSlotOf (slot_in st.place bytes st.number) entry
    of = record {
      old = sector d p;
      new = bytes;
      place = p;
      number = st.number;
      low = room.slot.number;
      entered = put-in;
      is = refl;
    }

    right : IsRight (put d st.place bytes) (k (slot_in st.place bytes st.number))
    right = by.right b kept s of

    takes : TakesSlot a d l room.front room.back st.place st.number bytes (k (slot_in st.place bytes st.number))
    takes = record {
      full = full;
      layout = was.layout;
      was = was;
      sectors = room.split;
      low = room.slot.number;
      apart = entry-apart (sector d p) bytes st.number entry room.slot.number put-in p;
      links = entry-links (sector d p) bytes st.number entry room.slot.number put-in;
      free = ap (λ x. is_used (slot_in p x st.number)) (sym here) ∙ room.slot.free;
      used = entry-used (sector d p) bytes st.number entry room.slot.number put-in by.used p;
      slot = by.slot s;
      unowned = unowned s;
      new = right.file;
    }

    it : Made a d l room.front st.place st.number bytes (k (slot_in st.place bytes st.number))
    it = made takes

    map-there : (strays xs ys : List Place) → IsMapOf (sector a map_place) (strays ++ map_place ∷ owners l)
        → owners l ≡ xs ++ ys → IsMapOf (sector d map_place)
        (strays ++ map_place ∷ (xs ++ (file_owns (k (slot_in st.place bytes st.number)) ++ ys)))
    map-there strays xs ys was e =
        let P : List Place → Type 0 = λ os. IsMapOf (sector d map_place) (strays ++ map_place ∷ (xs ++ (os ++ ys))) in
        let Q : Sector → Type 0 = λ x. IsMapOf x (strays ++ map_place ∷ (xs ++ (ps ++ ys))) in
        let X : List Place = strays ++ map_place ∷ xs in
        let had : strays ++ map_place ∷ (xs ++ ys) ≡ (strays ++ map_place ∷ xs) ++ ys = simp append_assoc in
        let has : (strays ++ map_place ∷ xs) ++ (ps ++ ys) ≡ strays ++ map_place ∷ (xs ++ (ps ++ ys)) =
        simp append_assoc in
        let all : strays ++ map_place ∷ owners l ≡ (strays ++ map_place ∷ xs) ++ ys =
        ap (λ os. strays ++ map_place ∷ os) e ∙ had in
        subst P (sym (by.owns s)) (subst Q (sym map_is) (subst (λ os. IsMapOf st.map.bytes os) has
        (map-same st.map.bytes (ps ++ (X ++ ys)) (X ++ (ps ++ ys)) (among X ys ps)
        (subst (λ os. IsMapOf st.map.bytes (ps ++ os)) all (map_of (strays ++ map_place ∷ owners l) was)))))

    stays : (f : File) → Contains l.files f → SameEntry f.slot (reslot (put d st.place bytes) f.slot)
        × (count_field (reslot (put d st.place bytes) f.slot) ≡ count_field f.slot)
    stays f e = let still = slot-stays takes f.slot (slot-of d l f was.layout e) in
        (same-entry f.slot (reslot b f.slot) still, ap count_field still)

    slot-clean : StaysClean a l (put d st.place bytes)
        (with_file (put d st.place bytes) l it.before it.after (k (slot_in st.place bytes st.number)))
    slot-clean strays was = still-clean a d l p bytes same (not_file takes) stays strays l.directory it.before it.after (k s)
        was it.split it.layout right.exact no-map
        (subst (λ os. IsMapOf (sector d map_place) (strays ++ map_place ∷ os)) (sym it.has)
        (map-there strays (l.directory ++ flat_map file_owns it.before) (flat_map file_owns it.after) was.map it.had))

    -- the slots before it are as they were, all used
    place-of : length (map (reread (put d st.place bytes)) it.before) ≡ st.entry
    place-of =
        let still : AreFullSectors d room.front =
        λ q e. subst (λ x. IsFullSector q x) (same q (in-dir q (subst (λ os. Contains os q) (sym room.split)
        (Contains-append_left room.front (p ∷ room.back) q e)))) (room.full q e) in
        let first : IsFirstSlot p (sector d p) st.number = subst (λ x. IsFirstSlot p x st.number) here room.slot in
        length-map it.before (reread b) ∙ it.count ∙ slots-before d room.front p st.number still first ∙ sym at

    pub slot-made : IsMadeBy a c l st entry k (put d st.place bytes)
    slot-made = (
      record {
        layout = with_file b l it.before it.after (k s);
        sound = it.layout;
        clean = slot-clean;
        slot = s;
        of = of;
        adds = it.adds;
        new = inl (room, refl);
        there = ap (slice_get (with_new b it.before it.after (k s))) (sym place-of)
            ∙ get-seam (map (reread b) it.before) (map (reread b) it.after) (k s);
        sector_is = ap (sector_or p) no_sector;
        number_is = refl;
        kept = kept;
      },
      more-whole a d p bytes l _ it.before it.after (k s) h.usable.1.layout it.split refl it.layout
          (slot-clean h.usable.0 h.usable.1).files same
          (not_file takes) stays right.long,
    )

  -- it links a new directory sector, in which the entry stands
  module _ (fresh : Place) (dir : IsFullDirectory a l.directory st.place)
      (map_of : (owned : List Place) → IsMapOf (sector a map_place) owned
      → IsMapOf st.map.bytes (fresh ∷ st.blocks.items ++ owned))
      (at : st.entry ≡ 8 * length l.directory) (first_slot : st.number ≡ 0)
      (lowest : IsFirstOn (sector a map_place) 18 fresh) (no_fresh : ¬ (Contains (map_place ∷ owners l) fresh))
      (apart : ¬ (Contains st.blocks.items fresh)) (has_sector : Some fresh ≡ st.fresh)
      (made_of : IsNewDirectory (sector d fresh) entry) (linked : IsLinkedTo st.bytes bytes fresh) where
    abbrev t : Slot
    t = slot_in fresh (sector d fresh) 0

    abbrev m : Layout
    m = record {
      directory = l.directory ++ fresh ∷ [];
      files = with_new (put d st.place bytes) l.files [] (k (slot_in fresh (sector d fresh) 0));
    }

    not-file : ¬ (Contains (flat_map file_owns l.files) st.place)
    unfolding owners
    not-file = EachOnce-apart l.directory (flat_map file_owns l.files) was.layout.once.1 p listed

    relinked : IsRelinked (sector d st.place) bytes
    relinked = record {
      old_long = ap length (sym (h.bytes ∙ here)) ∙ linked.old_long;
      long = linked.long;
      same = λ i le. linked.rest i le ∙ ap (λ x. slice_index x i) (h.bytes ∙ here);
    }

    is_last : was.layout.directory.chain.last ≡ st.place
    is_last = snoc-last was.layout.directory.chain.front dir.front was.layout.directory.chain.last p
        (sym was.layout.directory.chain.places ∙ dir.split)

    new-of : IsSlotOf (slot_in fresh (sector d fresh) 0) entry
    new-of = record {
      old = made_of.entered.0;
      new = sector d fresh;
      place = fresh;
      number = 0;
      low = omega arith;
      entered = made_of.entered.1;
      is = refl;
    }

    new-right : IsRight (put d st.place bytes) (k (slot_in fresh (sector d fresh) 0))
    new-right = by.right b kept t new-of

    used : is_used (slot_in fresh (sector d fresh) 0) ≡ true
    used = entry-used made_of.entered.0 (sector d fresh) 0 entry (omega arith) made_of.entered.1 by.used fresh

    free : (i : ℕ) → 0 < i → i < 8 → is_used (slot_in fresh (sector d fresh) i) ≡ false
    free i pos lt = ap (λ x. not (nat_eq x 0)) (slot-byte (sector d fresh) i 2 (omega arith)
        ∙ made_of.free (32 * i + 2) (omega (arith, pos)) (omega (arith, lt)))

    once : EachOnce (map_place ∷ owners m)
    once = once-linked b l fresh (k t) was.layout.once no_fresh (unowned t)
        (λ e. apart (subst (λ os. Contains os fresh) (by.owns t) e))

    sector-map : (strays : List Place) → IsMapOf (sector a map_place) (strays ++ map_place ∷ owners l)
        → IsMapOf (sector d map_place) (strays ++ map_place ∷ owners m)
    unfolding owners
    sector-map strays had =
        let F : List Place = flat_map file_owns l.files in
        let all : List Place = (l.directory ++ fresh ∷ []) ++ F in
        let X : List Place = strays ++ map_place ∷ l.directory in
        let P : List Place → Type 0 = λ os. IsMapOf (sector d map_place) (strays ++ map_place ∷ (all ++ (os ++ []))) in
        let Q : Sector → Type 0 = λ x. IsMapOf x (strays ++ map_place ∷ (all ++ (ps ++ []))) in
        let R : List Place → Type 0 = λ os. IsMapOf (sector d map_place) (strays ++ map_place ∷ os) in
        let S : List Place → Type 0 = λ os. IsMapOf st.map.bytes os in
        let before : fresh ∷ (ps ++ (strays ++ map_place ∷ (l.directory ++ F))) ≡ fresh ∷ (ps ++ (X ++ F)) =
        simp append_assoc in
        let after : ((X ++ fresh ∷ []) ++ F) ++ (ps ++ []) ≡ strays ++ map_place ∷ (all ++ (ps ++ [])) =
        simp append_assoc in
        subst R (sym (owners-with b (l.directory ++ fresh ∷ []) l.files [] (k t) all [] refl refl))
        (subst P (sym (by.owns t)) (subst Q (sym map_is)
        (subst S after (map-same st.map.bytes _ _ (among-directory X F ps fresh)
        (subst S before (map_of (strays ++ map_place ∷ (l.directory ++ F)) had))))))

    out-dir : ¬ (Contains l.directory fresh)
    out-dir e = no_fresh (Contains-there fresh map_place (owners l) (in-dir fresh e))

    fresh-stays : sector (put d st.place bytes) fresh ≡ sector d fresh
    fresh-stays = sector-put_other d p fresh bytes (λ e. out-dir (subst (λ x. Contains l.directory x) e listed))

    chain : IsChain (put d st.place bytes) directory_start (l.directory ++ fresh ∷ []) (slice_index (sector d fresh) 1)
    chain =
        let dir = was.layout.directory in
        IsChain-grow d b directory_start fresh l.directory dir.last (slice_index (sector d fresh) 1) dir.chain
        (links-agree d b dir.chain.front (λ q e. unless-same d p q bytes
        (λ x. (chain-front d directory_start l.directory dir.last dir.chain q e).1 (sym x ∙ sym is_last))))
        (subst (λ x. Names (sector b x) 0 fresh) (sym is_last) (rw (sector-put_same d p bytes full) linked.link))
        (ap (λ x. slice_index x 0) fresh-stays ∙ made_of.ends, ap (λ x. slice_index x 1) fresh-stays) out-dir

    slots : map (λ f. f.slot) (with_new (put d st.place bytes) l.files [] (k (slot_in fresh (sector d fresh) 0)))
        ≡ used_slots (put d st.place bytes) (l.directory ++ fresh ∷ [])
    slots =
        map-append (λ (f : File). f.slot) (map (reread b) l.files) (k t ∷ [])
        ∙ ap (λ x. map (λ (f : File). f.slot) (map (reread b) l.files) ++ x ∷ []) (by.slot t)
        ∙ ap (λ xs. xs ++ t ∷ [])
        (map-map (λ f. f.slot) (reread b) l.files ∙ sym (map-map (reslot b) (λ f. f.slot) l.files)
        ∙ ap (map (reslot b)) was.layout.directory.slots ∙ sym (used_slots-relinked d p bytes full relinked l.directory))
        ∙ ap (λ x. used_slots b l.directory ++ slot_in fresh x 0 ∷ []) (sym fresh-stays)
        ∙ sym (used_slots-sector b l.directory fresh (ap (λ x. is_used (slot_in fresh x 0)) fresh-stays ∙ used)
        (λ i pos lt. ap (λ x. is_used (slot_in fresh x i)) fresh-stays ∙ free i pos lt))

    directory : IsDirectory (put d st.place bytes) (l.directory ++ fresh ∷ [])
        (map (λ f. f.slot) (with_new (put d st.place bytes) l.files [] (k (slot_in fresh (sector d fresh) 0))))
    directory = record {
      last = slice_index (sector d fresh) 1;
      chain = chain;
      on_track = all-join (λ q. q.track ≡ 18) l.directory (fresh ∷ []) was.layout.directory.on_track (lowest.track, tt);
      not_map = λ e. elim (Contains-append_cases l.directory (fresh ∷ []) map_place e) [
        | inl on ↦ was.layout.directory.not_map on
        | inr on ↦ elim (Contains-cases map_place fresh [] on) [
          | inl x ↦ no_fresh (subst (λ y. Contains (map_place ∷ owners l) y) (sym x) (Contains-here map_place (owners l)))
          | inr none ↦ Contains-nil map_place none
        ]
      ];
      slots = slots;
    }

    keeps : KeepsFiles d (put d st.place bytes) l.files
    keeps = keeps-other d p bytes l.files not-file

    entries : (f : File) → Contains l.files f → SameEntry f.slot (reslot (put d st.place bytes) f.slot)
    entries f e = (linked-stays d l p bytes full relinked was.layout f e).0

    sector-sound : IsLayout (put d st.place bytes) m
    sector-sound = created-layout d b l l.files [] (k t) (l.directory ++ fresh ∷ []) was.layout
        (sym (append-nil l.files)) keeps entries directory new-right.file once

    sector-clean : StaysClean a l (put d st.place bytes) m
    sector-clean strays had = still-clean a d l p bytes same not-file
        (linked-stays d l p bytes full relinked was.layout) strays (l.directory ++ fresh ∷ []) l.files [] (k t) had
        (sym (append-nil l.files)) sector-sound new-right.exact no-map (sector-map strays had.map)

    pub sector-made : IsMadeBy a c l st entry k (put d st.place bytes)
    sector-made =
        let made : HasEntered a c l st entry k (put d st.place bytes) = record {
          layout = m;
          sound = sector-sound;
          clean = sector-clean;
          slot = t;
          of = new-of;
          adds = created-adds d b l l.files [] (k t) (l.directory ++ fresh ∷ []) was.layout (sym (append-nil l.files))
              keeps entries directory new-right.file a was
              (λ f e q x. unless-same d p q bytes (λ one. not-file (subst (λ y. Contains (flat_map file_owns l.files) y)
              (sym one) (flat_map-in file_owns l.files f q e (Contains-append_left f.blocks f.sides q x)))))
              (ap (λ x. take 4 x ++ drop 144 x) (sector-put_other d p map_place bytes no-map));
          new = inr (dir.full, (lowest, (refl, refl)));
          there = ap (slice_get m.files) (sym (length-map l.files (reread b)
              ∙ files-full a l h.usable.1.layout dir.full ∙ sym at))
              ∙ get-seam (map (reread b) l.files) [] (k t);
          sector_is = ap (sector_or p) has_sector;
          number_is = sym first_slot;
          kept = kept;
        } in (
          made,
          more-whole a d p bytes l _ l.files [] (k t) h.usable.1.layout (sym (append-nil l.files)) refl sector-sound
              (sector-clean h.usable.0 h.usable.1).files same not-file (linked-stays d l p bytes full relinked was.layout) new-right.long,
        )
