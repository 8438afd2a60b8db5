-- The sectors of a new file are written: the map, the data block, the side sector.
use Rattle.std.proofs.Common.{ℕ, ◌≡◌, ◌≢◌, ◌≤◌, ◌+◌, inl, inr, List, [], ◌∷◌, ◌++◌, ap, ap₂, drop, length, take, refl}
use Rattle.std.proofs.Common.{subst, sym, ◌∙◌}
use Rattle.std.specs.Prelude.{Contains}
use Rattle.d64_image.proofs.Images.{sector-put_other, sector-put_same}
use Rattle.d64_image.proofs.Moments.{at_end, one_write_more, write_change}
use Rattle.d64_image.specs.History.{Changes, HeldOnly, History, OldOr}
use Rattle.d64_image.specs.Images.{Image, Sector, put, sector}
use Rattle.d64_image.specs.declared.place.Place.{Place}
use Rattle.disk_layout.proofs.lemmas.chains.Chains.{AgreeAt}
use Rattle.disk_layout.proofs.lemmas.lists.Once.{Contains-there}
use Rattle.disk_layout.specs.Directory.{map_place}
use Rattle.disk_layout.specs.Layout.{IsLayout, Layout, owners}
use Rattle.disk_layout.specs.Side.{side_sector}
use Rattle.rel_records.proofs.lemmas.creation.Creating.{creating-before}
use Rattle.rel_records.specs.creation.Made.{HasFilesOf}
use Rattle.rel_records.specs.creation.NewFile.{ChangesOnly, HasNewSectors}
use Rattle.rel_records.specs.growth.Next.{IsFresh}

pub changes-none : (a : Image) (map : Sector) (ps : List Place) → ChangesOnly a map ps a
changes-none a map ps = record { map = inl refl; rest = λ q n o. refl }

changes-map : (a : Image) (map : Sector) (ps : List Place) → length a ≡ 683 → ChangesOnly a map ps (put a map_place map)
changes-map a map ps full = record {
  map = inr (sector-put_same a map_place map full);
  rest = λ q off out. sector-put_other a map_place q map (λ e. off (sym e));
}

pub changes-one : (a c : Image) (map : Sector) (ps : List Place) (p : Place) (bytes : Sector) → Contains ps p
    → p ≢ map_place → ChangesOnly a map ps c → ChangesOnly a map ps (put c p bytes)
changes-one a c map ps p bytes on off h =
    let same : sector (put c p bytes) map_place ≡ sector c map_place = sector-put_other c p map_place bytes off in
    record {
      map = elim h.map [ inl e ↦ inl (same ∙ e) | inr e ↦ inr (same ∙ e) ];
      rest = λ q ne out. sector-put_other c p q bytes (λ e. out (let P : Place → Type 0 = Contains ps in subst P e on))
          ∙ h.rest q ne out;
    }

-- and as they are written, one after another
module _ {D : Type 0} (S : History D) (a : D) (map : Sector) (ps : List Place) where
  pub map-first : (b : D) (m : Place) → m ≡ map_place → HeldOnly S a b (OldOr (S.image a) (put (S.image a) m map))
      → S.writes b ≤ S.writes a + 1 → Changes S a b 1 (ChangesOnly (S.image a) map ps)
  map-first b m is held counted =
      let P : Place → Type 0 = λ x. ChangesOnly (S.image a) map ps (put (S.image a) x map) in
      write_change S a b (S.image a) (put (S.image a) m map) _ held counted (changes-none (S.image a) map ps)
      (subst P (sym is) (changes-map (S.image a) map ps (S.whole a).size))

  pub one-more : (b c : D) (n : ℕ) (p : Place) (bytes : Sector) → Contains ps p → p ≢ map_place
      → Changes S a b n (ChangesOnly (S.image a) map ps) → HeldOnly S b c (OldOr (S.image b) (put (S.image b) p bytes))
      → S.writes c ≤ S.writes b + 1 → Changes S a c (n + 1) (ChangesOnly (S.image a) map ps)
  one-more b c n p bytes on off so_far held counted =
      let now : ChangesOnly (S.image a) map ps (S.image b) = at_end S a b _ so_far.held in
      one_write_more S a b c n (S.image b) (put (S.image b) p bytes) _ so_far held counted now
      (changes-one (S.image a) (S.image b) map ps p bytes on off now)

-- what is written then
pub new-sectors : (a b c d : Image) (map made links : Sector) (m block side : Place) (L : ℕ) → length a ≡ 683
    → length b ≡ 683 → length c ≡ 683 → m ≡ map_place → block ≢ map_place → side ≢ map_place → block ≢ side
    → b ≡ put a m map → c ≡ put b block made → IsFresh 0 L made → links ≡ side_sector 0 (block ∷ []) (side ∷ []) L
    → d ≡ put c side links → HasNewSectors map block side L d
new-sectors a b c d map made links m block side L la lb lc is block_off side_off apart one two is_fresh exact three =
    record {
      map = ap (λ i. sector i map_place) three ∙ sector-put_other c side map_place links side_off
          ∙ ap (λ i. sector i map_place) two ∙ sector-put_other b block map_place made block_off
          ∙ ap (λ i. sector i map_place) (one ∙ ap (λ p. put a p map) is) ∙ sector-put_same a map_place map la;
      fresh =
          let at : sector d block ≡ made = ap (λ i. sector i block) three
          ∙ sector-put_other c side block links (λ e. apart (sym e)) ∙ ap (λ i. sector i block) two
          ∙ sector-put_same b block made lb in
          let P : Sector → Type 0 = IsFresh 0 L in
          subst P (sym at) is_fresh;
      links = ap (λ i. sector i side) three ∙ sector-put_same c side links lc ∙ exact;
    }

-- where nobody owned these sectors, all that is owned is as it was
pub before-same : (a c : Image) (map : Sector) (ps : List Place) (l : Layout) → IsLayout a l
    → ((q : Place) → Contains ps q → ¬ (Contains (owners l) q)) → ChangesOnly a map ps c → AgreeAt a c (owners l)
before-same a c map ps l h unowned changes q own =
    sym (changes.rest q (λ e. h.once.0 (let P : Place → Type 0 = Contains (owners l) in subst P e own))
    (λ on. unowned q on own))

-- where nobody owned these sectors, and the new map has the old header, the files are there as before
pub files-before : (a c : Image) (map : Sector) (ps : List Place) (l : Layout) → IsLayout a l
    → ((q : Place) → Contains ps q → ¬ (Contains (owners l) q)) → (take 4 map ≡ take 4 (sector a map_place))
    × (drop 144 map ≡ drop 144 (sector a map_place)) → ChangesOnly a map ps c → HasFilesOf a l c
files-before a c map ps l h unowned header changes = creating-before a c l h (before-same a c map ps l h unowned changes)
    (elim changes.map [
      | inl e ↦ ap (λ s. take 4 s ++ drop 144 s) e
      | inr e ↦ ap (λ s. take 4 s ++ drop 144 s) e ∙ ap₂ (λ x y. x ++ y) header.0 header.1
    ])

-- a new directory sector, which nobody owned either
pub changes-more : (a : Image) (map : Sector) (ps : List Place) (p : Place) (c : Image) → ChangesOnly a map ps c
    → ChangesOnly a map (p ∷ ps) c
changes-more a map ps p c h =
    record { map = h.map; rest = λ q off out. h.rest q off (λ d. out (Contains-there q p ps d)) }
