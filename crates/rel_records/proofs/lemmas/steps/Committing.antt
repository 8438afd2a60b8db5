-- The write that makes a file longer: it links the file's last block to the fresh one.
use Rattle.std.proofs.Common.{◌≡◌, ◌≢◌, ℕ, ◌+◌, ◌<◌, ◌≤◌, List, [], ◌∷◌, ◌++◌, map, length, refl, sym, ◌∙◌, ap, arith}
use Rattle.std.proofs.Common.{subst, IsTrue, slice_index}
use Rattle.std.specs.Prelude.{Contains, slice_get, Some, flat_map, replicate, take, drop}
use Rattle.std.proofs.lemmas.List.Elements.{Contains-append_left, Contains-append_right}
use Rattle.d64_image.proofs.Images.{put_is_image, sector-put_other}
use Rattle.d64_image.specs.Images.{Image, IsImage, IsSector, Sector, put, sector}
use Rattle.d64_image.specs.declared.place.Place.{Place}
use Rattle.disk_layout.proofs.lemmas.chains.Chains.{AgreeAt}
use Rattle.disk_layout.proofs.lemmas.counts.Recount.{slot-there}
use Rattle.disk_layout.proofs.lemmas.growth.Commit.{IsReady, alone, commit, grown, own-once}
use Rattle.disk_layout.proofs.lemmas.growth.GrowthRecords.{records-grown}
use Rattle.disk_layout.proofs.lemmas.growth.SideWrites.{IsLonger, file-there}
use Rattle.disk_layout.proofs.lemmas.layouts.Agree.{owned-block}
use Rattle.disk_layout.proofs.lemmas.layouts.Exact.{exact-side}
use Rattle.disk_layout.proofs.lemmas.lists.Lists.{snoc-last}
use Rattle.disk_layout.proofs.lemmas.lists.Once.{Contains-here, Contains-there, EachOnce-apart, EachOnce-left}
use Rattle.disk_layout.proofs.lemmas.lists.Once.{flat_map-in}
use Rattle.disk_layout.specs.Chain.{EachOnce, Names}
use Rattle.disk_layout.specs.Directory.{map_place}
use Rattle.disk_layout.specs.Layout.{File, IsLayout, IsRelFile, Layout, exchanged, file_owns, is_rel, owners}
use Rattle.disk_layout.specs.Layout.{record_length, sides_for}
use Rattle.disk_layout.specs.Records.{IsFilled, empty_record, record_count, records}
use Rattle.disk_layout.specs.Rest.{header_of}
use Rattle.rel_records.proofs.lemmas.steps.Preparing.{after-stays, before-stays, blocks-stay, directory-stays, file-in}
use Rattle.rel_records.proofs.lemmas.steps.Preparing.{preparing-layout, preparing-records}
use Rattle.rel_records.proofs.lemmas.steps.Others.{has-records, places-more}
use Rattle.rel_records.specs.Others.{HasRecords}
use Rattle.rel_records.specs.growth.Preparing.{IsPrepared}

-- all is ready for the write of the link on c, the image before it; a is the one at the start. The file f, of the
-- layout l, gets the block `fresh`, used up to index u, and then has the side sectors ss; its last block so far, `last`
-- behind `front`, gets the bytes with the link
pub record IsReadyToLink (a c : Image) (l : Layout) (before after : List File) (f : File) (fresh : Place) (u : ℕ)
    (ss : List Place) (map' block last_bytes : Sector) (front : List Place) (last : Place) : Type 0 where
  pub full : length c ≡ 683
  pub is_layout : IsLayout a l
  pub split : l.files ≡ before ++ f ∷ after
  pub rel : IsTrue (is_rel f.slot)
  pub once : EachOnce (map_place ∷ owners (exchanged l before (grown f fresh u ss) after))
  pub long : IsLonger f (grown f fresh u ss)
  pub count : length ss ≡ sides_for (length f.blocks + 1)
  pub few : length ss ≤ 6
  pub some : 0 < length f.sides
  pub prepared : IsPrepared a c l f (grown f fresh u ss) fresh map' block
  pub zero_there : slice_index block 0 ≡ 0
  pub last_there : slice_index block 1 ≡ u
  pub blocks : f.blocks ≡ front ++ last ∷ []
  pub link : Names last_bytes 0 fresh

module _ {a c : Image} {l : Layout} {before after : List File} {f : File} {fresh : Place} {u : ℕ} {ss : List Place}
    {map' block last_bytes : Sector} {front : List Place} {last : Place}
    (to_link : IsReadyToLink a c l before after f fresh u ss map' block last_bytes front last) where
  open to_link use {full, is_layout, split, rel, once, long, count, few, some, prepared, zero_there, last_there}
  open to_link use {blocks, link}
  open to_link.prepared use {preparing}

  abbrev g : File
  g = grown f fresh u ss

  sound : IsLayout c l
  sound = preparing-layout a c l before after f g is_layout split rel long few preparing

  r : IsRelFile c f
  r = (file-there c l before after f sound split).rel rel

  ready : IsReady c f fresh u ss
  ready = record {
    ends = (
      ap (λ s. slice_index s 0) prepared.block ∙ zero_there,
      ap (λ s. slice_index s 1) prepared.block ∙ last_there,
    );
    count = count;
    first_side = λ q e. first f.sides refl q e;
    sides = λ j q e. exact-side c g j q few (prepared.sides j q e);
  }
    where
      first : (xs : List Place) → f.sides ≡ xs → (q : Place) → slice_get ss 0 ≡ Some q → Names f.slot.bytes 21 q
      first [] e q at = absurd (omega (arith, some, ap length e))
      first (x ∷ xs) e q at =
          let here : slice_get f.sides 0 ≡ Some x = ap (λ zs. slice_get zs 0) e in
          let there : slice_get ss 0 ≡ Some x = long.sides 0 x here in
          let both : Some x ≡ Some q = sym there ∙ at in
          let same : x ≡ q = cc in
          r.first_side q (here ∙ ap Some same)

  same-last : r.chain.2.last ≡ last
  same-last = snoc-last r.chain.2.front front r.chain.2.last last (sym r.chain.2.places ∙ blocks)

  -- the image after the commit
  abbrev b : Image
  b = put c last last_bytes

  pub committed : IsLayout b (exchanged l before g after)
  committed =
      let P : Place → Type 0 = λ q. IsLayout (put c q last_bytes) (exchanged l before g after) in
      subst P same-last (commit c l before after f fresh u ss last_bytes full sound split r rel ready link once)

  pub last-in : Contains f.blocks last
  last-in = rw blocks (Contains-append_right front (last ∷ []) last (Contains-here last []))

  pub last-mine : Contains (file_owns g) last
  last-mine = Contains-append_left g.blocks ss last (Contains-append_left f.blocks (fresh ∷ []) last last-in)

  -- a place that is owned in the longer file's layout by others
  pub other-last : (q : Place) → ¬ (Contains (file_owns g) q) → last ≢ q
  other-last q out e = out (let P : Place → Type 0 = Contains (file_owns g) in subst P e last-mine)

  -- the directory sector
  abbrev d : Place
  d = f.slot.sector

  slots-in : (fs : List File) → Contains (map (λ x. x.slot) (fs ++ f ∷ after)) f.slot
  slots-in [] = Contains-here f.slot (map (λ x. x.slot) after)
  slots-in (x ∷ fs) = Contains-there f.slot x.slot (map (λ y. y.slot) (fs ++ f ∷ after)) (slots-in fs)

  pub entry-in : Contains l.directory d
  entry-in = (slot-there a l.directory f.slot (rw (← is_layout.directory.slots, split) (slots-in before))).0

  pub entry-unowned : (q : Place) → Contains (flat_map file_owns (before ++ g ∷ after)) q → d ≢ q
  unfolding owners
  entry-unowned q own e = EachOnce-apart l.directory (flat_map file_owns (before ++ g ∷ after)) once.1 d entry-in
      (let P : Place → Type 0 = Contains (flat_map file_owns (before ++ g ∷ after)) in subst P (sym e) own)

  pub g-owned : (q : Place) → Contains (file_owns g) q → Contains (flat_map file_owns (before ++ g ∷ after)) q
  g-owned q own = flat_map-in file_owns (before ++ g ∷ after) g q (Contains-append_right before (g ∷ after) g
      (Contains-here g after)) own

  pub last-not_entry : last ≢ d
  last-not_entry e = entry-unowned last (g-owned last last-mine) (sym e)

  -- the directory sector is as it was, before and after the commit
  pub entry-same : sector b d ≡ sector a d
  entry-same = sector-put_other c last d last_bytes last-not_entry
      ∙ sym (directory-stays a c l before after f g is_layout split rel long few preparing d entry-in)

  -- the bytes outside the map stay with the commit
  pub commit-header : header_of b ≡ header_of a
  commit-header = ap (λ s. take 4 s ++ drop 144 s) (sector-put_other c last map_place last_bytes not-map)
      ∙ preparing.header
    where
      not-map : last ≢ map_place
      not-map x = is_layout.once.0 (let P : Place → Type 0 = Contains (owners l) in
          subst P x (owned-block l f last (file-in l before after f split) last-in))

  -- what other files own is as it was, after the commit
  commit-around : (fs : List File) → AgreeAt a c (flat_map file_owns fs)
      → ((q : Place) → Contains (flat_map file_owns fs) q → ¬ (Contains (file_owns g) q))
      → AgreeAt a b (flat_map file_owns fs)
  commit-around fs same apart q own = same q own
      ∙ sym (sector-put_other c last q last_bytes (other-last q (apart q own)))

  pub commit-before : AgreeAt a b (flat_map file_owns before)
  commit-before = commit-around before (before-stays a c l before after f g is_layout split rel long few preparing)
      (λ q own mine. (alone l before after g once q mine).before own)

  pub commit-after : AgreeAt a b (flat_map file_owns after)
  commit-after = commit-around after (after-stays a c l before after f g is_layout split rel long few preparing)
      (λ q own mine. (alone l before after g once q mine).after own)

  module _ (n m : ℕ) (w : IsImage c) (v : IsSector last_bytes) (some_more : 0 < m)
      (filled : IsFilled a f front last n (n + m) last_bytes block) (counts : record_count (length f.blocks + 1) u
      (record_length f.slot) ≡ n + m) where
    filled-c : IsFilled c f front last n (n + m) last_bytes block
    filled-c = record {
      positive = filled.positive;
      blocks = filled.blocks;
      records_there = filled.records_there;
      from_last = filled.from_last;
      inside = filled.inside;
      within = filled.within;
      kept = λ j lt low. filled.kept j lt low
          ∙ ap (λ s. slice_index s (2 + j)) (blocks-stay a c l before after f g is_layout split rel long few
          preparing last last-in);
      tail = filled.tail;
      block = filled.block;
    }

    pub records-longer : records b g ≡ records a f ++ replicate m (empty_record (record_length f.slot))
    unfolding records
    records-longer =
        let each : EachOnce (f.blocks ++ fresh ∷ []) = EachOnce-left (f.blocks ++ fresh ∷ []) ss
        (own-once l before after g once) in
        records-grown c f front n m u last fresh last_bytes block w (put_is_image c last last_bytes w v) prepared.block
        each filled-c counts
        ∙ ap (λ rs. rs ++ replicate m (empty_record (record_length f.slot))) (preparing-records a c l before after f g
        is_layout split rel long few preparing)

    -- after the commit the file has empty records more
    pub committed-has : HasRecords a b l (length before)
        (records a f ++ replicate m (empty_record (record_length f.slot)))
    committed-has = has-records a b l before after f g _ split refl commit-before commit-after commit-header committed
        (places-more a f g m (empty_record (record_length f.slot)) some_more) records-longer
