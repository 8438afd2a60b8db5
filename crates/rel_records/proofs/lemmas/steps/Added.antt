-- What a disk holds while a file takes its next data block, write by write.
use Rattle.std.proofs.Common.{◌≡◌, ◌≢◌, ℕ, ◌+◌, ◌-◌, ◌%◌, ◌<◌, ◌≤◌, inl, inr, Bool, true, false, List, [], ◌∷◌, ◌++◌}
use Rattle.std.proofs.Common.{length, slice_index, refl, sym, ◌∙◌, ap, arith, subst, length-append}
use Rattle.std.specs.Prelude.{Some, get_or, if◌then◌else◌, nat_eq, slice_get}
use Rattle.std.proofs.lemmas.Bool.{eqb-true}
use Rattle.d64_image.proofs.Moments.{at_end, changes_weaker, one_write_more}
use Rattle.d64_image.specs.History.{Changes, HeldOnly, History, OldOr}
use Rattle.d64_image.specs.Images.{Image, IsImage, IsSector, Sector, put}
use Rattle.d64_image.specs.declared.place.Place.{Place}
use Rattle.disk_layout.proofs.lemmas.growth.Commit.{grown}
use Rattle.disk_layout.proofs.lemmas.growth.GrowthRecords.{get-seam}
use Rattle.disk_layout.specs.Directory.{map_place}
use Rattle.disk_layout.specs.Layout.{File, Layout, sides_for}
use Rattle.disk_layout.proofs.lemmas.lists.Lists.{read-there}
use Rattle.rel_records.proofs.lemmas.steps.Adding.{block-more, counted-has', linked-has}
use Rattle.rel_records.proofs.lemmas.steps.LaidOut.{IsRewritten, IsStep, before-has, next, prepared, some-sides}
use Rattle.rel_records.proofs.lemmas.steps.LastBlocks.{records_more, some-more}
use Rattle.rel_records.proofs.lemmas.whole.Linked.{counted-whole, linked-whole}
use Rattle.rel_records.proofs.lemmas.whole.Prepared.{before-whole}
use Rattle.rel_records.specs.Written.{IsGrowingBy}
use Rattle.rel_records.specs.declared.growth.step_parts.Growing.{Growing}
use Rattle.rel_records.specs.growth.Next.{IsLaidOut}
use Rattle.rel_records.specs.growth.Preparing.{IsPrepared}
use Rattle.rel_records.specs.growth.Steps.{AreSidedFrom, HasBlockMore, IsAt, IsBefore, IsFilledUp, IsSided, step_writes}

-- the place read at the end of a list is its last
pub last-read : (xs front : List Place) (last x : Place) (k : ℕ) → xs ≡ front ++ last ∷ [] → k + 1 ≡ length xs
    → x ≡ get_or xs k x → x ≡ last
last-read xs front last x k e long is =
    let n : length xs ≡ length front + 1 = ap length e ∙ length-append front (last ∷ []) in
    let at : slice_get xs k ≡ Some x = read-there xs k x (omega (arith, long)) is in
    let here : k ≡ length front = omega (arith, long, n) in
    let there : slice_get xs k ≡ Some last = ap (λ ys. slice_get ys k) e ∙ ap (slice_get (front ++ last ∷ [])) here
    ∙ get-seam front [] last in
    let both : Some x ≡ Some last = sym at ∙ there in
    cc

not_zero : (k : ℕ) → nat_eq k 0 ≡ false → k ≢ 0
not_zero k e z = let one : false ≡ true = sym e ∙ ap (λ n. nat_eq n 0) z in cc

module _ {D : Type 0} (S : History D) (d : D) (l : Layout) (n : ℕ) (f : File) (p q : Growing) (fresh : Place)
    (block : Sector) (new : Bool) (at : IsAt (S.image d) l n f p) (few : length f.blocks < 720)
    (lay : IsLaidOut p q fresh block) (v : IsSector q.last) (up : IsFilledUp f)
    (is_new : new ≡ nat_eq (length p.blocks.items % 120) 0) where
  abbrev a : Image
  a = S.image d

  abbrev step : IsStep a l n f p q fresh block
  step = record { whole = S.whole d; at = at; few = few; laid = lay }

  abbrev Adds : Image → Type 0
  Adds = IsGrowingBy a l n f (records_more f)

  abbrev before_link : ℕ
  before_link = 2 + (if new then (length q.sides.items) else 1)

  new-of-file : new ≡ nat_eq (length f.blocks % 120) 0
  new-of-file = is_new ∙ ap (λ xs. nat_eq (length xs % 120) 0) at.blocks

  writes-fit : before_link + 2 ≡ step_writes (length f.blocks)
  writes-fit = by new new-of-file
    where
      by : (b : Bool) → b ≡ nat_eq (length f.blocks % 120) 0 → 2 + (if b then (length q.sides.items) else 1) + 2
          ≡ (if nat_eq (length f.blocks % 120) 0 then (5 + sides_for (length f.blocks)) else 5)
      by true e =
          let t : (if nat_eq (length f.blocks % 120) 0 then (5 + sides_for (length f.blocks)) else 5) ≡ 5 + sides_for
          (length f.blocks) = ap (λ x. if x then (5 + sides_for (length f.blocks)) else 5) (sym e) in
          let z : length f.blocks % 120 ≡ 0 = eqb-true (length f.blocks % 120) 0 (sym e) in
          omega (arith, t, (next step).count, z)
      by false e = sym (ap (λ x. if x then (5 + sides_for (length f.blocks)) else 5) (sym e))

  rewritten : IsRewritten f q (if new then 0 else (length q.sides.items - 1))
  rewritten = by new new-of-file
    where
      by : (b : Bool) → b ≡ nat_eq (length f.blocks % 120) 0
          → IsRewritten f q (if b then 0 else (length q.sides.items - 1))
      by true e = record { from = inl refl }
      by false e = record {
        from = inr (omega (arith, some-sides step), not_zero (length f.blocks % 120) (sym e));
      }

  -- before the link
  before-adds : (c : Image) → IsBefore a q fresh block c → Adds c
  before-adds c is = (
    0,
    omega arith,
    before-has step c is,
    λ never. before-whole step c (λ h. omega (arith, never h, some-more step)) is,
  )

  -- while it is prepared
  pub preparing-moments : (b : D) → Changes S d b before_link (IsBefore a q fresh block)
      → Changes S d b before_link Adds
  preparing-moments b first = changes_weaker S d b before_link before_link _ Adds (omega arith)
      before-adds first

  pub prepared-moments : (b : D) → Changes S d b before_link (IsBefore a q fresh block)
      → Changes S d b (step_writes (length f.blocks)) Adds
  prepared-moments b first = changes_weaker S d b before_link (step_writes (length f.blocks)) Adds Adds
      (omega (arith, writes-fit)) (λ c h. h) (preparing-moments b first)

  -- with the link, and with the count
  module _ (c : Image) (w : IsImage c)
      (ready : IsPrepared a c l f (grown f fresh (slice_index block 1) q.sides.items) fresh q.map.bytes block) where
    linked-adds : Adds (put c at.last_place q.last)
    linked-adds = (
      records_more f,
      omega arith,
      linked-has step up c w v ready,
      λ never. linked-whole step up c w v ready,
    )

    counted-adds : Adds (put (put c at.last_place q.last) f.slot.sector q.directory)
    counted-adds = (
      records_more f,
      omega arith,
      counted-has' step up c w v ready,
      λ never. counted-whole step up c w v ready,
    )

  module _ (b c : D) (old : Place) (last : old ≡ at.last_place)
      (first : Changes S d b before_link (IsBefore a q fresh block))
      (right : AreSidedFrom (if new then 0 else (length q.sides.items - 1)) (S.image b) q.blocks.items q.sides.items
      q.size × IsSided (put (put a map_place q.map.bytes) fresh block) q.blocks.items q.sides.items q.size
      (S.image b))
      (held : HeldOnly S b c (OldOr (S.image b) (put (S.image b) old q.last))) (counted : S.writes c ≤ S.writes b + 1)
    where
      ready : IsPrepared a (S.image b) l f (grown f fresh (slice_index block 1) q.sides.items) fresh q.map.bytes block
      ready = prepared step (S.image b) (if new then 0 else (length q.sides.items - 1)) rewritten right.0 right.1

      -- the link
      linked : Adds (put (S.image b) old q.last)
      linked =
          let P : Place → Type 0 = λ x. Adds (put (S.image b) x q.last) in
          subst P (sym last) (linked-adds (S.image b) (S.whole b) ready)

      so-far : Changes S d c (before_link + 1) Adds
      so-far =
          let prior = preparing-moments b first in
          one_write_more S d b c before_link (S.image b) (put (S.image b) old q.last) Adds prior held counted
          (at_end S d b Adds prior.held) linked

      pub linking-moments : Changes S d c (step_writes (length f.blocks)) Adds
      linking-moments = changes_weaker S d c (before_link + 1) (step_writes (length f.blocks)) Adds Adds
          (omega (arith, writes-fit)) (λ i h. h) so-far

      -- the count
      module _ (e : D) (place : Place) (entry : place ≡ f.slot.sector) (done : S.image c ≡ put (S.image b) old q.last)
        where
          end-is : put (S.image c) place q.directory ≡ put (put (S.image b) at.last_place q.last) f.slot.sector
              q.directory
          end-is = ap (λ x. put x place q.directory) (done ∙ ap (λ x. put (S.image b) x q.last) last)
              ∙ ap (λ x. put (put (S.image b) at.last_place q.last) x q.directory) entry

          counted-now : Adds (put (S.image c) place q.directory)
          counted-now = subst Adds (sym end-is) (counted-adds (S.image b) (S.whole b) ready)

          pub counting-moments : HeldOnly S c e (OldOr (S.image c) (put (S.image c) place q.directory))
              → S.writes e ≤ S.writes c + 1 → Changes S d e (step_writes (length f.blocks)) Adds
          counting-moments h k =
              changes_weaker S d e (before_link + 1 + 1) (step_writes (length f.blocks)) Adds Adds
              (omega (arith, writes-fit)) (λ i x. x)
              (one_write_more S d c e (before_link + 1) (S.image c) (put (S.image c) place q.directory) Adds so-far h k
              (at_end S d c Adds so-far.held) counted-now)

          -- and what is left
          pub added : (z : Growing) → S.image e ≡ put (S.image c) place q.directory → z.map.bytes ≡ q.map.bytes
              → z.sector ≡ q.sector → z.number ≡ q.number → z.size ≡ q.size → z.sides.items ≡ q.sides.items
              → z.blocks.items ≡ q.blocks.items → z.last ≡ block → z.directory ≡ q.directory
              → HasBlockMore a (S.image e) l n f p z
          added z end map s number size sides blocks lastb directory =
              let P : Image → Type 0 = λ i. HasBlockMore a i l n f p z in
              subst P (sym (end ∙ end-is)) (block-more step up (S.image b) (S.whole b) v ready z map s number size sides
              blocks lastb directory)
