-- A new file's sectors are written, and then its entry, of whatever type the file is: what is held on the way.
use Rattle.std.proofs.Common.{◌≡◌, ◌⊎◌, ℕ, ◌+◌, ◌≤◌, inl, inr, List, [], ◌∷◌, ap}
use Rattle.std.proofs.Common.{arith, length, refl, subst, sym, ◌∙◌, ◌≢◌, None, Option, Some}
use Rattle.std.specs.Prelude.{Contains, MatchOption, OnOk, Result}
use Rattle.std.proofs.lemmas.Result.{on_ok_weaker}
use Rattle.std.proofs.lemmas.List.Elements.{Contains-append_right}
use Rattle.d64_image.proofs.Images.{length-put, sector-put_other, sector-put_same}
use Rattle.d64_image.proofs.Moments.{at_end, changes_then, changes_weaker, weaker}
use Rattle.d64_image.specs.History.{Changes, History}
use Rattle.d64_image.specs.Images.{Image, Sector, put, sector}
use Rattle.d64_image.specs.declared.faults.DeviceFault.{DeviceFault}
use Rattle.d64_image.specs.declared.place.Place.{Place}
use Rattle.disk_layout.proofs.lemmas.lists.Once.{Contains-cases, Contains-here, Contains-there}
use Rattle.disk_layout.specs.Directory.{map_place}
use Rattle.disk_layout.specs.Layout.{File, Layout, owners}
use Rattle.disk_layout.specs.Whole.{IsWhole}
use Rattle.disk_layout.specs.declared.slot.Slot.{Slot}
use Rattle.rel_records.proofs.lemmas.creation.NewWrites.{before-same, changes-more, changes-one, files-before}
use Rattle.rel_records.proofs.lemmas.directory.FullSlots.{five-writes, four-writes}
use Rattle.rel_records.proofs.lemmas.whole.Created.{before-whole}
use Rattle.rel_records.specs.Puts.{IsPutSoFar, put_each}
use Rattle.rel_records.specs.creation.Made.{HasFilesOf, creation_writes}
use Rattle.rel_records.specs.creation.NewFile.{ChangesOnly, IsNewDirectory}
use Rattle.rel_records.specs.creation.Site.{ArePutsOf, IsSectorSite, IsSite, IsSlotSite, IsTaking, PutsEntry}
use Rattle.rel_records.specs.declared.creation.site.Site.{Site}
use Rattle.rel_records.proofs.lemmas.creation.NewEntry.{HasEntered, IsFileBy, sector-made, slot-made}

-- a new directory sector is no more owned than the file's
beside-unowned : (l : Layout) (ps : List Place) (fresh : Place)
    → ((q : Place) → Contains ps q → ¬ (Contains (map_place ∷ owners l) q)) → ¬ (Contains (map_place ∷ owners l) fresh)
    → (q : Place) → Contains (fresh ∷ ps) q → ¬ (Contains (owners l) q)
beside-unowned l ps fresh none no_fresh q c own = elim (Contains-cases q fresh ps c) [
  | inl e ↦ no_fresh (subst (λ x. Contains (map_place ∷ owners l) x) (sym e) (Contains-there q map_place (owners l) own))
  | inr d ↦ none q d (Contains-there q map_place (owners l) own)
]

-- what is held from when the file's first sector is written: the files of before, or one more
abbrev pub IsEntering : Image → Image → Layout → Site → List ℕ → (Slot → File) → Image → Type 0
IsEntering a c l st entry k b = (HasFilesOf a l b ⊎ HasEntered a c l st entry k b) × (IsWhole a → IsWhole b)

taking-in : (a : Image) (l : Layout) (n : ℕ) (st : Site) (o : Option Place)
    → MatchOption o (IsSlotSite a l n st) (IsSectorSite a l n st) → IsTaking a l n st
taking-in a l n st None h = h.taking
taking-in a l n st (Some fresh) h = h.taking

pub site-taking : (a : Image) (l : Layout) (n : ℕ) (st : Site) → IsSite a l n st → IsTaking a l n st
site-taking a l n st h = taking-in a l n st st.fresh h

-- while sectors are written that nobody owned, the files are there as before
still-of : (a b : Image) (l : Layout) (n : ℕ) (st : Site) (ps : List Place) → IsTaking a l n st
    → ((q : Place) → Contains ps q → ¬ (Contains (owners l) q)) → ChangesOnly a st.map.bytes ps b
    → HasFilesOf a l b × (IsWhole a → IsWhole b)
still-of a b l n st ps h unowned changes =
    let layout = h.usable.1.layout in
    let was = files-before a b st.map.bytes ps l layout unowned h.header changes in (
      was,
      before-whole a b l layout h.usable.1.files was.layout
          (before-same a b st.map.bytes ps l layout unowned changes),
    )

pub still : (a b : Image) (l : Layout) (n : ℕ) (st : Site) → IsTaking a l n st
    → ChangesOnly a st.map.bytes st.blocks.items b → HasFilesOf a l b × (IsWhole a → IsWhole b)
still a b l n st h changes = still-of a b l n st st.blocks.items h
    (λ q d own. h.unowned q d (Contains-there q map_place (owners l) own)) changes

module _ (a c : Image) (l : Layout) (n : ℕ) (st : Site) (entry : List ℕ) (k : Slot → File) where
  module _ (full : length c ≡ 683) (map_is : sector c map_place ≡ st.map.bytes)
      (changes : ChangesOnly a st.map.bytes st.blocks.items c) (by : IsFileBy c st.blocks.items entry k) where
    -- what is held while the entry is put, and what is there then
    abbrev Enters : List (Place × Sector) → Type 0
    Enters puts = ((b : Image) → IsPutSoFar puts c b → IsEntering a c l st entry k b)
        × HasEntered a c l st entry k (put_each puts c)

    enters : (o : Option Place) → o ≡ st.fresh → MatchOption o (IsSlotSite a l n st) (IsSectorSite a l n st)
        → (puts : List (Place × Sector)) → ArePutsOf st entry o puts → Enters puts
    enters None none h puts (bytes, entered, is) =
        let on = subst (λ qs. Contains qs st.place) (sym h.room.split)
        (Contains-append_right h.room.front (st.place ∷ h.room.back) st.place (Contains-here st.place h.room.back)) in
        let now = slot-made a c c l n st entry k st.blocks.items full map_is by h.taking
        (λ q d own. h.taking.unowned q d (Contains-there q map_place (owners l) own)) changes (λ q d. refl) on bytes
        h.room h.map h.entry none entered in
        let as_before = still a c l n st h.taking changes in
        let P : Image → Type 0 = IsEntering a c l st entry k in
        subst Enters (sym is) (
          λ b so_far. elim so_far [
            | inl e ↦ subst P (sym e) (inl as_before.0, as_before.1)
            | inr e ↦ subst P (sym e) (inr now.0, now.1)
          ],
          now.0,
        )
    enters (Some fresh) some h puts (first, last, made_of, linked, is) =
        let d : Image = put c fresh first in
        let no_map : fresh ≢ map_place = λ e. h.no_fresh (subst (λ x. Contains (x ∷ owners l) fresh) e
        (Contains-here fresh (owners l))) in
        let none = beside-unowned l st.blocks.items fresh h.taking.unowned h.no_fresh in
        let more : ChangesOnly a st.map.bytes (fresh ∷ st.blocks.items) d =
        changes-one a c st.map.bytes (fresh ∷ st.blocks.items) fresh first (Contains-here fresh st.blocks.items) no_map
        (changes-more a st.map.bytes st.blocks.items fresh c changes) in
        let on = subst (λ qs. Contains qs st.place) (sym h.full.split)
        (Contains-append_right h.full.front (st.place ∷ []) st.place (Contains-here st.place [])) in
        let now = sector-made a c d l n st entry k (fresh ∷ st.blocks.items) (length-put c fresh first ∙ full)
        (sector-put_other c fresh map_place first no_map ∙ map_is) by h.taking none more
        (λ q on. sym (sector-put_other c fresh q first (λ e. h.apart (subst (λ x. Contains st.blocks.items x) (sym e) on))))
        on last fresh h.full h.map h.entry h.number h.lowest h.no_fresh h.apart some
        (subst (λ x. IsNewDirectory x entry) (sym (sector-put_same c fresh first full)) made_of) linked in
        let as_before = still a c l n st h.taking changes in
        let with_sector = still-of a d l n st (fresh ∷ st.blocks.items) h.taking none more in
        let P : Image → Type 0 = IsEntering a c l st entry k in
        subst Enters (sym is) (
          λ b so_far. elim so_far [
            | inl e ↦ subst P (sym e) (inl as_before.0, as_before.1)
            | inr then ↦ elim then [
              | inl e ↦ subst P (sym e) (inl with_sector.0, with_sector.1)
              | inr e ↦ subst P (sym e) (inr now.0, now.1)
            ]
          ],
          now.0,
        )

module _ {D : Type 0} (S : History D) (d e f : D) (l : Layout) (n : ℕ) (st : Site) (entry : List ℕ) (k : Slot → File)
    (m : ℕ) (h : IsSite (S.image d) l n st)
    (prepared : Changes S d e m (ChangesOnly (S.image d) st.map.bytes st.blocks.items))
    (map_is : sector (S.image e) map_place ≡ st.map.bytes) (by : IsFileBy (S.image e) st.blocks.items entry k)
    (r : Result (Unit {0}) DeviceFault) (puts : PutsEntry S e f st entry r) where
  both : ((b : Image) → IsPutSoFar puts.puts (S.image e) b → IsEntering (S.image d) (S.image e) l st entry k b)
      × HasEntered (S.image d) (S.image e) l st entry k (put_each puts.puts (S.image e))
  both = enters (S.image d) (S.image e) l n st entry k (S.whole e).size map_is (at_end S d e _ prepared.held) by st.fresh
      refl h puts.puts puts.are

  pub entry-moments : Changes S d f (m + length puts.puts) (IsEntering (S.image d) (S.image e) l st entry k)
  entry-moments = changes_then S d e f m (length puts.puts) _ _ (omega arith)
      (changes_weaker S d e m m _ _ (omega arith) (λ b x.
      let as_before = still (S.image d) b l n st (site-taking (S.image d) l n st h) x in
      (inl as_before.0, as_before.1)) prepared)
      (record { held = weaker S e f _ _ both.0 puts.held; writes = puts.writes })

  pub entry-done : OnOk r (HasEntered (S.image d) (S.image e) l st entry k (S.image f))
  entry-done = on_ok_weaker r (λ is. subst (λ i. HasEntered (S.image d) (S.image e) l st entry k i) (sym is) both.1) puts.ok

-- one write into a free slot, two for a new directory sector
pub puts-few : (st : Site) (entry : List ℕ) (o : Option Place) (puts : List (Place × Sector)) → ArePutsOf st entry o puts
    → length puts ≤ 2
puts-few st entry None puts (bytes, entered, is) = omega (arith, ap length is)
puts-few st entry (Some fresh) puts (first, last, made_of, linked, is) = omega (arith, ap length is)

pub puts-counted : (a : Image) (l : Layout) (n : ℕ) (st : Site) (entry : List ℕ) (o : Option Place)
    → MatchOption o (IsSlotSite a l n st) (IsSectorSite a l n st) → (puts : List (Place × Sector))
    → ArePutsOf st entry o puts → 3 + length puts ≡ creation_writes l
puts-counted a l n st entry None h puts (bytes, entered, is) = omega
    (arith, ap length is, four-writes a l st.place st.number h.taking.usable.1.layout h.room)
puts-counted a l n st entry (Some fresh) h puts (first, last, made_of, linked, is) = omega
    (arith, ap length is, five-writes a l h.taking.usable.1.layout h.full.full)
