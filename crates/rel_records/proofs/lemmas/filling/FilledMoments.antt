-- What a disk holds while a file's last blocks are filled, write by write.
use Rattle.std.proofs.Common.{◌≡◌, ◌≢◌, ℕ, ◌+◌, ◌-◌, ◌*◌, ◌≤◌, ◌⊎◌, inl, inr, Bool, true, false, Result, OnOk, length}
use Rattle.std.proofs.Common.{refl, sym, ◌∙◌, ap, arith, subst, slice_index}
use Rattle.std.specs.Prelude.{if◌then◌else◌, nat_eq, nat_lt}
use Rattle.std.proofs.lemmas.Bool.{ne_eqb}
use Rattle.std.proofs.lemmas.Result.{on_ok_weaker}
use Rattle.d64_image.proofs.Moments.{at_end, changes_weaker, one_write_more}
use Rattle.d64_image.specs.History.{Changes, HeldOnly, History, OldOr}
use Rattle.d64_image.specs.Images.{Image, IsSector, Sector, put, sector}
use Rattle.d64_image.specs.declared.place.Place.{Place}
use Rattle.disk_layout.specs.Layout.{File, Layout, record_length}
use Rattle.disk_layout.specs.Records.{record_count}
use Rattle.disk_layout.proofs.lemmas.lists.Lists.{snoc-last}
use Rattle.rel_records.proofs.lemmas.filling.Filled.{filled-has, filled-up}
use Rattle.rel_records.proofs.lemmas.filling.BeforeLast.{old-grows, ready-grows, ready-then}
use Rattle.rel_records.proofs.lemmas.filling.ReadyToEnd.{IsReadyToEnd, had-is}
use Rattle.rel_records.proofs.lemmas.filling.Standing.{file-rel, had-low}
use Rattle.rel_records.specs.growth.Growth.{fill_writes, full, records_had}
use Rattle.rel_records.specs.growth.Steps.{FillsBefore, HasFilled, IsAt, IsEnd}
use Rattle.rel_records.specs.Written.{IsGrowingBy}
use Rattle.rel_records.specs.declared.growth.step_parts.Growing.{Growing}

-- what is known when it begins: how many records there are, where the new ones begin, and how many there are to be
pub record IsFillOf (p : Growing) (had from total : ℕ) : Type 0 where
  pub count : had ≡ record_count (length p.blocks.items) (slice_index p.last 1) p.size
  pub begins : from ≡ had * p.size
  pub sum : total ≡ full p.size (length p.blocks.items)
  pub other : had ≢ total

module _ {D : Type 0} (S : History D) (d : D) (l : Layout) (n : ℕ) (f : File) (p : Growing) (had from total : ℕ)
    (at : IsAt (S.image d) l n f p) (fill : IsFillOf p had from total) where
  abbrev a : Image
  a = S.image d

  abbrev Grows : Image → Type 0
  Grows = IsGrowingBy a l n f (full (record_length f.slot) (length f.blocks) - records_had f)

  had-here : had ≡ records_had f
  had-here = fill.count ∙ sym (had-is a l n f p at)

  from-here : from ≡ records_had f * record_length f.slot
  from-here = fill.begins ∙ ap (λ k. k * p.size) had-here ∙ ap (λ k. records_had f * k) at.size

  total-here : total ≡ full (record_length f.slot) (length f.blocks)
  total-here = fill.sum ∙ ap (λ k. full k (length p.blocks.items)) at.size
      ∙ ap (full (record_length f.slot)) (ap length at.blocks)

  -- where the first new record begins
  pub from-low : 254 * (length p.blocks.items - 2) ≤ from
  from-low = omega (arith, from-here, had-low a l n f p at, (file-rel a l n f p at).length_high, ap length at.blocks)

  abbrev before_end : ℕ
  before_end = if nat_lt from (254 * (length p.blocks.items - 1)) then 1 else 0

  writes-fit : before_end + 1 ≡ fill_writes f
  writes-fit = by (nat_lt from (254 * (length p.blocks.items - 1)))
      (nat_eq (records_had f) (full (record_length f.slot) (length f.blocks)))
      (nat_lt (records_had f * record_length f.slot) (254 * (length f.blocks - 1))) same-test none
    where
      same-test : nat_lt from (254 * (length p.blocks.items - 1)) ≡ nat_lt (records_had f * record_length f.slot)
          (254 * (length f.blocks - 1))
      same-test = ap (λ k. nat_lt k (254 * (length p.blocks.items - 1))) from-here
          ∙ ap (λ xs. nat_lt (records_had f * record_length f.slot) (254 * (length xs - 1))) at.blocks

      none : nat_eq (records_had f) (full (record_length f.slot) (length f.blocks)) ≡ false
      none = ne_eqb (records_had f) (full (record_length f.slot) (length f.blocks)) (λ e. fill.other (had-here ∙ e
          ∙ sym total-here))

      by : (s t u : Bool) → s ≡ u → t ≡ false → (if s then 1 else 0) + 1 ≡ (if t then 0 else (if u then 2 else 1))
      by true true u e z = cc
      by false true u e z = cc
      by true false true e z = refl
      by true false false e z = cc
      by false false true e z = cc
      by false false false e z = refl

  old-or-ready : (c : Image) → (c ≡ a) ⊎ FillsBefore a p from total c → Grows c
  old-or-ready c (inl e) = subst Grows (sym e) (old-grows a l n f p (S.whole d) at _)
  old-or-ready c (inr h) = ready-grows a l n f p (S.whole d) at _ c (ready-then a l n f p (S.whole d) at from total c
      from-here total-here h)

  -- up to the block before the last
  pub filling-moments : (b : D) → Changes S d b before_end (λ c. (c ≡ a) ⊎ FillsBefore a p from total c)
      → Changes S d b (fill_writes f) Grows
  filling-moments b h = changes_weaker S d b before_end (fill_writes f) _ Grows (omega (arith, writes-fit)) old-or-ready
      h

  module _ (b : D) (ready : FillsBefore a p from total (S.image b)) (place : Place) (last : place ≡ at.last_place)
      (bytes : Sector) (fresh : IsSector bytes) (end : IsEnd (length p.blocks.items) p.size from p.last bytes) where
    r : IsReadyToEnd a (S.image b) l n f p
    r = ready-then a l n f p (S.whole d) at from total (S.image b) from-here total-here ready

    same-place : place ≡ r.at.last_place
    same-place = last ∙ snoc-last at.front r.at.front at.last_place r.at.last_place (sym at.last_is ∙ r.at.last_is)

    ends : IsEnd (length f.blocks) (record_length f.slot) (records_had f * record_length f.slot)
        (sector (S.image b) r.at.last_place) bytes
    ends =
        let P : ℕ → Type 0 = λ k. IsEnd k (record_length f.slot) (records_had f * record_length f.slot)
        (sector (S.image b) r.at.last_place) bytes in
        let Q : ℕ → Type 0 = λ k. IsEnd (length p.blocks.items) k (records_had f * record_length f.slot)
        (sector (S.image b) r.at.last_place) bytes in
        let R : ℕ → Type 0 = λ k. IsEnd (length p.blocks.items) p.size k (sector (S.image b) r.at.last_place) bytes in
        let T : Sector → Type 0 = λ s. IsEnd (length p.blocks.items) p.size from s bytes in
        subst P (ap length at.blocks) (subst Q at.size (subst R from-here (subst T r.at.last end)))

    last-write : Grows (put (S.image b) place bytes)
    last-write =
        let P : Place → Type 0 = λ x. Grows (put (S.image b) x bytes) in
        subst P (sym same-place) (filled-has a (S.image b) l n f p (S.whole d) (S.whole b) at r bytes fresh ends)

    -- the last block
    pub filled-moments : (c : D) → Changes S d b before_end (λ i. (i ≡ a) ⊎ FillsBefore a p from total i)
        → HeldOnly S b c (OldOr (S.image b) (put (S.image b) place bytes)) → S.writes c ≤ S.writes b + 1
        → Changes S d c (fill_writes f) Grows
    filled-moments c h held counted =
        let prior = changes_weaker S d b before_end before_end _ Grows (omega arith) old-or-ready h in
        changes_weaker S d c (before_end + 1) (fill_writes f) Grows Grows (omega (arith, writes-fit)) (λ i x. x)
        (one_write_more S d b c before_end (S.image b) (put (S.image b) place bytes) Grows prior held counted
        (at_end S d b Grows prior.held) last-write)

    pub filled-end : {T E : Type 0} (c : D) (result : Result T E) (z : Growing) → z.map.bytes ≡ p.map.bytes
        → z.sector ≡ p.sector → z.number ≡ p.number → z.size ≡ p.size → z.sides.items ≡ p.sides.items
        → z.blocks.items ≡ p.blocks.items → z.last ≡ bytes → z.directory ≡ p.directory
        → OnOk result (S.image c ≡ put (S.image b) place bytes) → OnOk result (HasFilled a (S.image c) l n f p z)
    filled-end c result z map s number size sides blocks lastb directory done =
        on_ok_weaker result (λ e.
        let P : Image → Type 0 = λ i. HasFilled a i l n f p z in
        subst P (sym (e ∙ ap (λ x. put (S.image b) x bytes) same-place))
        (filled-up a (S.image b) l n f p (S.whole d) (S.whole b) at r bytes fresh ends z map s number size sides blocks
        lastb directory)) done
