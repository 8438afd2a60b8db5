-- A file's next data block, laid out in memory: who owns what with it, and what the disk holds until it is linked.
use Rattle.std.proofs.Common.{◌≡◌, ◌≢◌, ℕ, suc, ◌+◌, ◌*◌, ◌%◌, ◌<◌, ◌≤◌, ◌⊎◌, inl, inr, List, [], ◌∷◌, ◌++◌, length}
use Rattle.std.proofs.Common.{refl, sym, ◌∙◌, ap, arith, subst, IsTrue, length-append, slice_index, take, drop}
use Rattle.std.specs.Prelude.{Contains, Some, slice_get}
use Rattle.std.specs.List.{AllByRecursion}
use Rattle.std.proofs.lemmas.List.{length-take}
use Rattle.std.proofs.lemmas.Option.{slice_get_within}
use Rattle.d64_image.specs.Images.{Image, IsImage, Sector, put, sector}
use Rattle.d64_image.specs.declared.place.Place.{Place}
use Rattle.disk_layout.proofs.lemmas.growth.Commit.{all-right, grown, own-once}
use Rattle.disk_layout.proofs.lemmas.layouts.Agree.{owned-side}
use Rattle.disk_layout.proofs.lemmas.layouts.Layouts.{get-contains}
use Rattle.disk_layout.proofs.lemmas.lists.Once.{Contains-here, EachOnce-apart, EachOnce-right}
use Rattle.std.proofs.lemmas.List.Elements.{Contains-append_cases, Contains-append_left, Contains-append_right}
use Rattle.disk_layout.proofs.lemmas.counts.Recount.{around}
use Rattle.disk_layout.proofs.lemmas.growth.SideWrites.{file-there}
use Rattle.disk_layout.specs.Chain.{EachOnce}
use Rattle.disk_layout.specs.Clean.{IsExactFile}
use Rattle.disk_layout.specs.Directory.{map_place}
use Rattle.disk_layout.specs.Layout.{File, IsRelFile, Layout, file_owns, is_rel, owners, record_length}
use Rattle.disk_layout.specs.Map.{IsMapOf}
use Rattle.disk_layout.specs.Records.{records}
use Rattle.disk_layout.specs.Side.{side_sector}
use Rattle.rel_records.proofs.lemmas.steps.Before.{before-grows, prepared-of}
use Rattle.rel_records.proofs.lemmas.steps.FullSides.{side_sector-full}
use Rattle.rel_records.proofs.lemmas.steps.Owned.{IsNextOf, next-block, next-side}
use Rattle.rel_records.proofs.lemmas.steps.Preparing.{file-in}
use Rattle.rel_records.specs.growth.Next.{IsLaidOut}
use Rattle.rel_records.specs.growth.Preparing.{IsPrepared}
use Rattle.rel_records.specs.growth.Steps.{AreSidedFrom, IsAt, IsBefore, IsSided}
use Rattle.rel_records.specs.Others.{HasRecords}
use Rattle.rel_records.specs.Written.{grown_by}
use Rattle.rel_records.specs.declared.growth.step_parts.Growing.{Growing}

-- a step is laid out in memory: the file f, at place n of the image a, is to get one block more, `block` at
-- `fresh`; what is kept of the file is p before the step, and q after it
pub record IsStep (a : Image) (l : Layout) (n : ℕ) (f : File) (p q : Growing) (fresh : Place) (block : Sector) : Type 0
  where
    pub whole : IsImage a
    pub at : IsAt a l n f p
    pub few : length f.blocks < 720
    pub laid : IsLaidOut p q fresh block

pub step-of : {a : Image} {l : Layout} {n : ℕ} {f : File} {p q : Growing} {fresh : Place} {block : Sector} → IsImage a
    → IsAt a l n f p → length p.blocks.items < 720 → IsLaidOut p q fresh block → IsStep a l n f p q fresh block
step-of whole at few laid = record {
  whole = whole;
  at = at;
  few = omega (arith, few, ap length at.blocks);
  laid = laid;
}

-- the side sectors below k need no other bytes
pub record IsRewritten (f : File) (q : Growing) (k : ℕ) : Type 0 where
  pub from : (k ≡ 0) ⊎ ((k + 1 ≡ length q.sides.items) × (length f.blocks % 120 ≢ 0))

module _ {a : Image} {l : Layout} {n : ℕ} {f : File} {p q : Growing} {fresh : Place} {block : Sector}
    (step : IsStep a l n f p q fresh block) where
  open step use {whole, at, few, laid}

  abbrev before : List File
  before = take n l.files

  abbrev after : List File
  after = drop (suc n) l.files

  abbrev u : ℕ
  u = slice_index block 1

  abbrev ss : List Place
  ss = q.sides.items

  abbrev g : File
  g = grown f fresh u ss

  pub split : l.files ≡ before ++ f ∷ after
  split = around l.files n f at.there

  pub place : length before ≡ n
  place = omega (arith, length-take n l.files, slice_get_within l.files n f at.there)

  pub rel-file : IsRelFile a f
  rel-file = (file-there a l before after f at.clean.layout split).rel at.rel

  pub many : length p.blocks.items ≡ length f.blocks
  many = ap length at.blocks

  pub blocks-some : length f.blocks ≡ length at.front + 1
  blocks-some = ap length at.last_is ∙ length-append at.front (at.last_place ∷ [])

  abbrev taken : List Place
  taken = at.strays ++ map_place ∷ owners l

  old-map : IsMapOf p.map.bytes taken
  old-map = let P : Sector → Type 0 = λ b. IsMapOf b taken in subst P (sym at.map) at.clean.map

  owned-in : (ps : List Place) (x : Place) → Contains (ps ++ map_place ∷ owners l) x → Contains (ps ++ taken) x
  owned-in ps x c = elim (Contains-append_cases ps (map_place ∷ owners l) x c) [
    | inl d ↦ Contains-append_left ps taken x d
    | inr d ↦ Contains-append_right ps taken x (Contains-append_right at.strays (map_place ∷ owners l) x d)
  ]

  pub free : ¬ (Contains (map_place ∷ owners l) fresh)
  free c = laid.places.unowned taken old-map (owned-in [] fresh c)

  pub next : IsNextOf l before after f fresh u p.map.bytes q.map.bytes ss
  next =
      let P : List Place → Type 0 = IsNextOf l before after f fresh u p.map.bytes q.map.bytes in
      elim laid.places.taken [
        | inl t ↦ subst P (sym (t.sides ∙ at.sides)) (next-block l before after f fresh u p.map.bytes q.map.bytes
            at.clean.layout.once split free rel-file.count
            (λ e. t.within (ap (λ k. k % 120) many ∙ e)) t.owned)
        | inr t ↦ subst P (sym (t.sides ∙ ap (λ xs. xs ++ t.side ∷ []) at.sides))
            (next-side l before after f fresh u p.map.bytes q.map.bytes at.clean.layout.once split free rel-file.count
            t.side (ap (λ k. k % 120) (sym many) ∙ t.full)
            (λ c. t.unowned taken old-map (owned-in (fresh ∷ []) t.side c)) t.owned)
      ]

  pub few-sides : length ss ≤ 6
  few-sides = omega (arith, next.count, few)

  pub some-sides : 1 ≤ length ss
  some-sides = omega (arith, next.count)

  pub some : 0 < length f.sides
  some = omega (arith, rel-file.count, blocks-some)

  pub each : EachOnce (file_owns g)
  each = own-once l before after g next.once

  pub sides-once : EachOnce ss
  sides-once = EachOnce-right g.blocks ss each

  pub header : (take 4 q.map.bytes ≡ take 4 (sector a map_place)) × (drop 144 q.map.bytes ≡ drop 144 (sector a map_place))
  header = (laid.places.header.0 ∙ ap (take 4) at.map, laid.places.header.1 ∙ ap (drop 144) at.map)

  pub apart : (j : ℕ) → ¬ (slice_get f.sides j ≡ Some map_place)
  apart j e = at.clean.layout.once.0 (owned-side l f map_place (file-in l before after f split)
      (get-contains f.sides j map_place e))

  pub blocks-are : q.blocks.items ≡ g.blocks
  blocks-are = laid.places.blocks ∙ ap (λ xs. xs ++ fresh ∷ []) at.blocks

  pub size-is : q.size ≡ record_length f.slot
  size-is = laid.places.size ∙ at.size

  -- each image held before the link
  pub before-has : (c : Image) → IsBefore a q fresh block c
      → HasRecords a c l n (grown_by (record_length f.slot) 0 (records a f))
  before-has c is =
      let P : ℕ → Type 0 = λ k. HasRecords a c l k (grown_by (record_length f.slot) 0 (records a f)) in
      subst P place (before-grows a l f g q fresh block whole.size at.clean.layout header free blocks-are refl size-is
      next.sided apart before after split at.rel next.long few-sides c is)

  same-sides : length f.blocks % 120 ≢ 0 → ss ≡ f.sides
  same-sides within = elim laid.places.taken [
    | inl t ↦ t.sides ∙ at.sides
    | inr t ↦ absurd (within (ap (λ k. k % 120) (sym many) ∙ t.full))
  ]

  exact-file : IsExactFile a f
  exact-file =
      let P : List File → Type 0 = λ fs. AllByRecursion (λ x. IsTrue (is_rel x.slot) → IsExactFile a x) fs in
      (all-right (λ x. IsTrue (is_rel x.slot) → IsExactFile a x) before (f ∷ after) (subst P split at.clean.files)).0
      at.rel

  right : (k : ℕ) → IsRewritten f q k → (j : ℕ) (x : Place) → j < k → slice_get ss j ≡ Some x → Contains (owners l) x
      × (sector a x ≡ side_sector j g.blocks ss (record_length f.slot))
  right k r j x lt here = elim r.from [
    | inl z ↦ absurd (omega (arith, z, lt))
    | inr s ↦
        let same : ss ≡ f.sides = same-sides s.1 in
        let there : slice_get f.sides j ≡ Some x = ap (λ xs. slice_get xs j) (sym same) ∙ here in
        let low : 120 * j + 120 ≤ length f.blocks = omega (arith, s.0, lt, next.count) in (
          owned-side l f x (file-in l before after f split) (get-contains f.sides j x there),
          exact-file.sides j x there ∙ ap (λ xs. side_sector j f.blocks xs (record_length f.slot)) (sym same)
              ∙ sym (side_sector-full j f.blocks (fresh ∷ []) ss (record_length f.slot) low),
        )
  ]

  -- all that comes before the link is written
  pub prepared : (c : Image) (k : ℕ) → IsRewritten f q k → AreSidedFrom k c q.blocks.items ss q.size
      → IsSided (put (put a map_place q.map.bytes) fresh block) q.blocks.items ss q.size c
      → IsPrepared a c l f g fresh q.map.bytes block
  prepared c k r from is =
      prepared-of a l f g q fresh block whole.size at.clean.layout header free blocks-are refl size-is next.sided apart
      c k is from sides-once
      (λ j e. EachOnce-apart g.blocks ss each fresh (Contains-append_right f.blocks (fresh ∷ []) fresh
      (Contains-here fresh [])) (get-contains ss j fresh e))
      (right k r)
