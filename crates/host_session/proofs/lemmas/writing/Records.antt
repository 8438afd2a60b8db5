-- A record that is written, from the words of a record to those of the two files.
use Rattle.std.proofs.Common.{◌≡◌, ℕ, zero, suc, ◌≤◌, List, length, Result, Ok, Err, sym, subst, arith}
use Rattle.std.specs.Prelude.{OnOk, OnErr, codes}
use Rattle.d64_image.specs.History.{History}
use Rattle.host_session.specs.Held.{Changes}
use Rattle.d64_image.specs.Images.{Image}
use Rattle.host_session.proofs.lemmas.Held.{changes_weaker}
use Rattle.disk_layout.specs.Layout.{File, Layout, record_length}
use Rattle.disk_layout.specs.Records.{records}
use Rattle.rel_records.specs.Others.{HasRecords}
use Rattle.rel_records.specs.Written.{IsInOneBlock, IsWriting, touched, with_written}
use Rattle.host_session.specs.shop.Putting.{HasAnswer, HasCard, IsPlaced, IsPuttingAnswer, IsPuttingCard}
use Rattle.host_session.specs.shop.Files.{Files, HasFiles}
use Rattle.host_session.proofs.lemmas.writing.Calls.{writing-files}
use Rattle.host_session.proofs.lemmas.writing.PlacedRecords.{answer-once, answer-one, answer-placed, answer-put}
use Rattle.host_session.proofs.lemmas.writing.PlacedRecords.{card-placed, card-put, card-putting}
use Rattle.host_session.proofs.lemmas.shop.Shops.{HasFiles-one}

-- REQUESTS
module _ (old : Image) (f g : Files) (h : HasFiles old f) (k r : ℕ) (same : k ≡ r) (text : List ℕ)
    (long : length text ≡ 127) (other : HasFiles old g) (low : 1 ≤ r) (few : r ≤ 64) (there : r ≤ length g.requests)
  where
    answer-in : r ≤ length f.requests
    answer-in = subst (λ (x : Files). r ≤ length x.requests) (HasFiles-one old g f other h) there

    answer-at : IsPlaced old (codes "REQUESTS") k h.layout h.requests_place h.requests_file
    answer-at = subst (λ (j : ℕ). IsPlaced old (codes "REQUESTS") j h.layout h.requests_place h.requests_file)
        (sym same)
        (answer-placed old f h r low answer-in)

    pub answer-ok : {T E : Type 0} (new : Image) (res : Result T E)
        → ((l : Layout) (n : ℕ) (x : File) → IsPlaced old (codes "REQUESTS") k l n x
        → OnOk res (HasRecords old new l n (with_written (record_length x.slot) k 1 text (records old x))))
        → OnOk res (HasAnswer f r text new)
    answer-ok new (Err e) all = tt
    answer-ok new (Ok x) all =
        by r few (subst (λ (j : ℕ). HasRecords old new h.layout h.requests_place
        (with_written (record_length h.requests_file.slot) j 1 text (records old h.requests_file))) same
        (all h.layout h.requests_place h.requests_file answer-at)) low
      where
        by : (j : ℕ) → j ≤ 64
            → HasRecords old new h.layout h.requests_place (with_written (record_length h.requests_file.slot) j 1 text
            (records old h.requests_file)) → 1 ≤ j → HasAnswer f j text new
        by zero le x some = absurd (omega (arith, some))
        by (suc j) le x some = answer-put old new f h j le text long x

    pub answer-changes : {D : Type 0} (S : History D) (a b : D) → S.image a ≡ old
        → ((l : Layout) (n : ℕ) (x : File) → IsPlaced old (codes "REQUESTS") k l n x
        → Changes S a b (touched (record_length x.slot) k 1) (IsWriting old l n x 0 k 1 text))
        → Changes S a b 1 (IsPuttingAnswer f r text)
    answer-changes S a b is all =
        by r few low (subst (λ (j : ℕ). Changes S a b (touched (record_length h.requests_file.slot) j 1)
        (IsWriting old h.layout h.requests_place h.requests_file 0 j 1 text)) same
        (all h.layout h.requests_place h.requests_file answer-at))
      where
        by : (j : ℕ) → j ≤ 64 → 1 ≤ j → Changes S a b (touched (record_length h.requests_file.slot) j 1)
            (IsWriting old h.layout h.requests_place h.requests_file 0 j 1 text)
            → Changes S a b 1 (IsPuttingAnswer f j text)
        by zero le some x = absurd (omega (arith, some))
        by (suc j) le some x = changes_weaker S a b (touched (record_length h.requests_file.slot) (suc j) 1) 1 _ _
            (subst (λ (L : ℕ). touched L (suc j) 1 ≤ 1) (sym h.requests_length) (answer-once j))
            (λ i w. writing-files old i f h j le text long w) x

    pub answer-one_step : {T E : Type 0} (res : Result T E) (P : Type 0)
        → ((l : Layout) (n : ℕ) (x : File) → IsPlaced old (codes "REQUESTS") k l n x
        → IsInOneBlock (record_length x.slot) k → OnErr res P) → OnErr res P
    answer-one_step res P all = all h.layout h.requests_place h.requests_file answer-at
        (subst (λ (L : ℕ). IsInOneBlock L k) (sym h.requests_length) (subst (λ (j : ℕ). IsInOneBlock 127 j) (sym same)
        (by r low)))
      where
        by : (j : ℕ) → 1 ≤ j → IsInOneBlock 127 j
        by zero some = absurd (omega (arith, some))
        by (suc j) some = answer-one j

    pub answer-there : (l : Layout) × (n : ℕ) × (x : File) × IsPlaced old (codes "REQUESTS") k l n x
    answer-there = (h.layout, h.requests_place, h.requests_file, answer-at)

-- STOCK
module _ (old : Image) (f g : Files) (h : HasFiles old f) (r : ℕ) (text : List ℕ) (long : length text ≡ 18)
    (other : HasFiles old g) (low : 1 ≤ r) (there : r ≤ length g.stock) where
  card-in : r ≤ length f.stock
  card-in = subst (λ (x : Files). r ≤ length x.stock) (HasFiles-one old g f other h) there

  card-at : IsPlaced old (codes "STOCK") r h.layout h.stock_place h.stock_file
  card-at = card-placed old f h r low card-in

  pub card-ok : {T E : Type 0} (new : Image) (res : Result T E)
      → ((l : Layout) (n : ℕ) (x : File) → IsPlaced old (codes "STOCK") r l n x
      → OnOk res (HasRecords old new l n (with_written (record_length x.slot) r 1 text (records old x))))
      → OnOk res (HasCard f r text new)
  card-ok new (Err e) all = tt
  card-ok new (Ok x) all = by r (all h.layout h.stock_place h.stock_file card-at) low
    where
      by : (j : ℕ)
          → HasRecords old new h.layout h.stock_place (with_written (record_length h.stock_file.slot) j 1 text
          (records old h.stock_file)) → 1 ≤ j → HasCard f j text new
      by zero x some = absurd (omega (arith, some))
      by (suc j) x some = card-put old new f h j text long x

  pub card-changes : {D : Type 0} (S : History D) (a b : D) → S.image a ≡ old
      → ((l : Layout) (n : ℕ) (x : File) → IsPlaced old (codes "STOCK") r l n x
      → Changes S a b (touched (record_length x.slot) r 1) (IsWriting old l n x 0 r 1 text))
      → Changes S a b (touched 18 r 1) (IsPuttingCard f r text)
  card-changes S a b is all = by r low (all h.layout h.stock_place h.stock_file card-at)
    where
      by : (j : ℕ) → 1 ≤ j → Changes S a b (touched (record_length h.stock_file.slot) j 1)
          (IsWriting old h.layout h.stock_place h.stock_file 0 j 1 text)
          → Changes S a b (touched 18 j 1) (IsPuttingCard f j text)
      by zero some x = absurd (omega (arith, some))
      by (suc j) some x = changes_weaker S a b (touched (record_length h.stock_file.slot) (suc j) 1)
          (touched 18 (suc j) 1) _ _
          (subst (λ (L : ℕ). touched L (suc j) 1 ≤ touched 18 (suc j) 1) (sym h.stock_length) (omega arith))
          (λ i w. card-putting old i f h j text long w) x

  pub card-there : (l : Layout) × (n : ℕ) × (x : File) × IsPlaced old (codes "STOCK") r l n x
  card-there = (h.layout, h.stock_place, h.stock_file, card-at)
