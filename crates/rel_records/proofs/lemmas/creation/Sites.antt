-- What a new file takes of a disk that can be used: room in the directory, and sectors that nobody owned.
use Rattle.std.proofs.Common.{◌≡◌, ◌+◌, ◌*◌, ◌<◌, ◌⊎◌, ℕ, inl, inr, List, [], ◌∷◌, ◌++◌, None, Option, Some, ap, arith, drop}
use Rattle.std.proofs.Common.{length, length-append, subst, sym, take, ◌∙◌}
use Rattle.std.specs.Prelude.{Contains, MatchOption, slice_get}
use Rattle.std.proofs.lemmas.Bool.{false≢true}
use Rattle.std.proofs.lemmas.List.Elements.{Contains-append_cases, Contains-append_left, Contains-append_right}
use Rattle.std.proofs.lemmas.Option.{slice_get_within}
use Rattle.d64_image.specs.Images.{Image, Sector, sector}
use Rattle.d64_image.specs.declared.place.Place.{Place}
use Rattle.disk_layout.proofs.lemmas.chains.Directories.{few-sectors}
use Rattle.disk_layout.proofs.lemmas.growth.GrowthRecords.{get-seam}
use Rattle.disk_layout.proofs.lemmas.lists.Lists.{get-once}
use Rattle.disk_layout.proofs.lemmas.lists.Once.{Contains-cases, Contains-here, Contains-there}
use Rattle.disk_layout.proofs.lemmas.map.Maps.{set-free, taken-map}
use Rattle.disk_layout.specs.Chain.{EachOnce}
use Rattle.disk_layout.specs.Directory.{map_place}
use Rattle.disk_layout.specs.Layout.{IsLayout, Layout, owners}
use Rattle.disk_layout.specs.Map.{IsFirstOn, IsFree, IsFullTrack, IsMapOf, IsTaken}
use Rattle.disk_layout.specs.View.{blocks_free}
use Rattle.rel_records.specs.Usable.{IsUsableLayout}
use Rattle.rel_records.specs.creation.Made.{HasNoRoomFor}
use Rattle.rel_records.specs.creation.Room.{AreFullSectors, IsFirstRoom, IsFullDirectory}
use Rattle.rel_records.specs.creation.Site.{IsRoomOf, IsSectorSite, IsSlotSite, IsTaking, TakesSectors}
use Rattle.rel_records.specs.declared.creation.directory_room.Room.{Room}
use Rattle.rel_records.specs.declared.creation.site.Site.{Site}

pub before-few : (img : Image) (l : Layout) (r : Room) → IsLayout img l → IsRoomOf img l r → r.before < 18
before-few img l r h room = omega (
  arith,
  slice_get_within l.directory r.before r.place room.place,
  few-sectors img l.directory _ h.directory,
)

-- the first free slot, or none
pub room-slot : (img : Image) (l : Layout) (r : Room) (n : ℕ) → IsRoomOf img l r → r.number ≡ Some n
    → IsFirstRoom img l.directory r.place n
room-slot img l r n room is = let P : Option ℕ → Type 0 = λ o. MatchOption o (IsFullDirectory img l.directory r.place)
    (IsFirstRoom img l.directory r.place) in subst P is room.slot

pub room-none : (img : Image) (l : Layout) (r : Room) → IsRoomOf img l r → r.number ≡ None
    → IsFullDirectory img l.directory r.place
room-none img l r room is = let P : Option ℕ → Type 0 = λ o. MatchOption o (IsFullDirectory img l.directory r.place)
    (IsFirstRoom img l.directory r.place) in subst P is room.slot

-- its sector's place among them
before-is : (img : Image) (l : Layout) (r : Room) (front back : List Place) → IsLayout img l → IsRoomOf img l r
    → l.directory ≡ front ++ r.place ∷ back → r.before ≡ length front
before-is img l r front back h room split =
    get-once l.directory r.before (length front) r.place h.directory.chain.once room.place
    (ap (λ ps. slice_get ps (length front)) split ∙ get-seam front back r.place)

-- a directory isn't full, and has a free slot
pub not-full : (img : Image) (l : Layout) (p : Place) (n : ℕ) → IsFirstRoom img l.directory p n
    → ¬ (AreFullSectors img l.directory)
not-full img l p n room full =
    let on : Contains l.directory p = (let P : List Place → Type 0 = λ ps. Contains ps p in
    subst P (sym room.split) (Contains-append_right room.front (p ∷ room.back) p (Contains-here p room.back))) in
    false≢true (sym room.slot.free ∙ full p on n room.slot.number)

either : (p q : Place) (ps : List Place) → (p ≡ q) ⊎ Contains ps q → Contains (p ∷ ps) q
either p q ps (inl e) = let P : Place → Type 0 = Contains (p ∷ ps) in subst P e (Contains-here p ps)
either p q ps (inr c) = Contains-there q p ps c

module _ (img : Image) (l : Layout) (usable : IsUsableLayout img l) (old mid : Sector) (read : old ≡ sector img map_place)
    (ps : List Place) (count : ℕ) (taken : TakesSectors old mid ps) (long : length ps ≡ count) where
  abbrev all : List Place
  all = usable.0 ++ map_place ∷ owners l

  owned-in : (q : Place) → Contains (map_place ∷ owners l) q → Contains all q
  owned-in q own = Contains-append_right usable.0 (map_place ∷ owners l) q own

  at-first : (owned : List Place) → IsMapOf (sector img map_place) owned → IsMapOf old owned
  at-first owned is = let P : Sector → Type 0 = λ x. IsMapOf x owned in subst P (sym read) is

  map-old : IsMapOf old all
  map-old = at-first all usable.1.map

  map-mid : IsMapOf mid (ps ++ all)
  map-mid = taken.owned all map-old

  -- the sectors, with a map that has the header of the one in which they are taken
  by-header : (s : Site) (r : Room) → s.blocks.items ≡ ps → s.bytes ≡ r.bytes → s.place ≡ r.place → IsRoomOf img l r
      → (take 4 s.map.bytes ≡ take 4 mid) × (drop 144 s.map.bytes ≡ drop 144 mid) → IsTaking img l count s
  by-header s r blocks bytes place room h =
      let P : List Place → Type 0 = EachOnce in
      let Q : List Place → Type 0 = λ qs. (p : Place) → Contains qs p → ¬ (Contains (map_place ∷ owners l) p) in
      record {
        usable = usable;
        count = ap length blocks ∙ long;
        once = subst P (sym blocks) taken.once;
        unowned = subst Q (sym blocks) (λ p c own. taken.unowned all map-old p c (owned-in p own));
        header = (h.0 ∙ taken.header.0 ∙ ap (take 4) read, h.1 ∙ taken.header.1 ∙ ap (drop 144) read);
        bytes = bytes ∙ room.bytes ∙ ap (sector img) (sym place);
      }

  many : ¬ (blocks_free old < count) → ¬ (blocks_free (sector img map_place) < count)
  many enough = let P : Sector → Type 0 = λ x. ¬ (blocks_free x < count) in subst P read enough

  -- which sectors of track 18 are free hasn't changed
  still-free : (q : Place) → q.track ≡ 18 → IsFree (sector img map_place) q → IsFree mid q
  still-free q on is = (map-mid.marked q).1 (λ c. elim (Contains-append_cases ps all q c) [
    | inl d ↦ taken.off q d on
    | inr own ↦ set-free (sector img map_place) all q usable.1.map is own
  ])

  was-free : (q : Place) → IsFree mid q → IsFree (sector img map_place) q
  was-free q is = (usable.1.map.marked q).1 (λ own. set-free mid (ps ++ all) q map-mid is
      (Contains-append_right ps all q own))

  -- a free slot
  pub slot-chosen : (s : Site) (r : Room) (k : ℕ) → ¬ (blocks_free old < count) → s.map.bytes ≡ mid
      → s.blocks.items ≡ ps → s.place ≡ r.place → s.bytes ≡ r.bytes → s.number ≡ k → s.entry ≡ 8 * r.before + k
      → IsRoomOf img l r → r.number ≡ Some k → IsSlotSite img l count s × ¬ (HasNoRoomFor img l count)
  slot-chosen s r k enough map blocks place bytes number entry room is =
      let slot = room-slot img l r k room is in
      let T : List Place → List Place → Type 0 = λ owned qs. IsMapOf s.map.bytes (qs ++ owned) in
      let F : Place → ℕ → Type 0 = λ p n. (room : IsFirstRoom img l.directory p n)
      × (s.entry ≡ 8 * length room.front + n) in
      let U : Place → Type 0 = λ p. F p k in
      let V : ℕ → Type 0 = F s.place in
      let before = before-is img l r slot.front slot.back usable.1.layout room slot.split in
      let at = subst V (sym number) (subst U (sym place) (slot, omega (arith, entry, before))) in (
        record {
          taking = by-header s r blocks bytes place room (ap (take 4) map, ap (drop 144) map);
          map = λ owned is.
              let R : Sector → Type 0 = λ x. IsMapOf x (ps ++ owned) in
              let P : List Place → Type 0 = T owned in
              subst P (sym blocks) (subst R (sym map) (taken.owned owned (at-first owned is)));
          room = at.0;
          entry = at.1;
        },
        λ none. elim none [ inl few ↦ many enough few | inr full ↦ not-full img l r.place k slot full.0 ],
      )

  -- no slot, and no sector for another directory sector
  pub no-sector : (r : Room) → IsRoomOf img l r → r.number ≡ None → IsFullTrack mid 18 → HasNoRoomFor img l count
  no-sector r room is full = inr ((room-none img l r room is).full, λ q on free. full q on (still-free q on free))

  -- no slot, but such a sector
  pub sector-chosen : (s : Site) (r : Room) (fresh : Place) → ¬ (blocks_free old < count)
      → s.blocks.items ≡ ps → s.place ≡ r.place → s.bytes ≡ r.bytes → s.number ≡ 0 → s.entry ≡ 8 * (r.before + 1)
      → IsRoomOf img l r → r.number ≡ None → IsFirstOn mid 18 fresh
      → (IsFree mid fresh → IsTaken mid s.map.bytes fresh)
      → IsSectorSite img l count s fresh × ¬ (HasNoRoomFor img l count)
  sector-chosen s r fresh enough blocks place bytes number entry room is on take_it =
      let full = room-none img l r room is in
      let before = before-is img l r full.front [] usable.1.layout room full.split in
      let now = take_it on.free in
      let out : ¬ (Contains (ps ++ all) fresh) = set-free mid (ps ++ all) fresh map-mid on.free in
      let U : Place → Type 0 = IsFullDirectory img l.directory in
      let site : IsSectorSite img l count s fresh = record {
        taking = by-header s r blocks bytes place room now.rest.header;
        map = λ owned is.
            let had : IsMapOf mid (ps ++ owned) = taken.owned owned (at-first owned is) in
            let T : List Place → Type 0 = λ qs. IsMapOf s.map.bytes (fresh ∷ (qs ++ owned)) in
            subst T (sym blocks) (taken-map mid s.map.bytes (ps ++ owned) (fresh ∷ (ps ++ owned)) fresh had
            (set-free mid (ps ++ owned) fresh had on.free) now
            (λ q. (λ d. Contains-cases q fresh (ps ++ owned) d, either fresh q (ps ++ owned))));
        full = subst U (sym place) full;
        lowest = record {
          track = on.track;
          free = was-free fresh on.free;
          first = λ q at below free. on.first q at below (still-free q at free);
        };
        no_fresh = λ own. out (Contains-append_right ps all fresh (owned-in fresh own));
        apart = λ c. out (Contains-append_left ps all fresh (let W : List Place
            → Type 0 = λ qs. Contains qs fresh in subst W blocks c));
        number = number;
        entry = omega
            (arith, entry, before, ap length full.split, length-append full.front (r.place ∷ []));
      } in
      (site, λ none. elim none [ inl few ↦ many enough few | inr (slots, track) ↦ track fresh on.track (was-free fresh on.free) ])
