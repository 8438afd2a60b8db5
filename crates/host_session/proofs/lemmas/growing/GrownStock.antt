-- STOCK that grows through the drive: what the drive's words come to in those of the two files.
use Rattle.std.proofs.Common.{◌≡◌, ℕ, ◌≤◌, ◌+◌, ◌-◌, ◌⊎◌, inl, inr, Bool, true, false, List, [], ◌++◌, length}
use Rattle.std.proofs.Common.{replicate, Some, Result, Ok, Err, refl, sym, ◌∙◌, ap, subst, arith}
use Rattle.std.specs.Prelude.{OnOk, if◌then◌else◌, nat_le}
use Rattle.std.proofs.lemmas.Bool.Decides.{nat_tests}
use Rattle.std.proofs.lemmas.List.{append-nil, length-append, length-replicate}
use Rattle.std.proofs.lemmas.Option.{same_Some}
use Rattle.d64_image.specs.History.{History, OnlyReads}
use Rattle.host_session.specs.Held.{Changes}
use Rattle.d64_image.specs.Images.{Image}
use Rattle.d64_image.specs.History as devices
use Rattle.host_session.proofs.lemmas.Held.{changes_enrich, changes_then, changes_weaker, reads_change}
use Rattle.disk_layout.specs.Clean.{IsClean}
use Rattle.disk_layout.specs.Layout.{File, Layout, record_length}
use Rattle.disk_layout.specs.Records.{empty_record, records}
use Rattle.drive_channels.specs.Files.{IsRelAt}
use Rattle.drive_channels.specs.Moments.{IsOnTheWay, writes_for}
use Rattle.drive_channels.specs.Serving.{Serves}
use Rattle.drive_channels.specs.State.{Channel, Seen, View, view_of}
use Rattle.drive_channels.specs.Tables.{IsOn, Writes, WritesIn}
use Rattle.rel_records.specs.Others.{HasRecords}
use Rattle.rel_records.specs.Written.{IsGrowingTo, grown_by, grown_to}
use Rattle.rel_records.specs.growth.Growth.{IsFull, IsTooLarge, added, blocks_for, full, growth_writes, records_had}
use Rattle.rel_records.proofs.lemmas.growth.Grows.{count-is}
use Rattle.host_session.specs.shop.Files.{Files, HasFiles}
use Rattle.host_session.specs.shop.Growing.{HasGrown, HasGrownTo, grown}
use Rattle.host_session.specs.shop.Shop.{AreLedgerRecords, IsShop, shop_of}
use Rattle.host_session.specs.shop.Selecting.{IsAt, IsReady, channel_at}
use Rattle.host_session.proofs.lemmas.writing.Layers.{on-stock}
use Rattle.host_session.proofs.lemmas.shop.Moments.{grown-cards, grown-state}
use Rattle.host_session.proofs.lemmas.writing.Selection.{alive-of}
use Rattle.host_session.proofs.lemmas.shop.Steps.{blank-record, step-grown}
use Rattle.host_session.proofs.lemmas.shop.Shops.{HasFiles-one}
use Rattle.host_session.proofs.lemmas.growing.StockRoom.{not-refused, stock-rel}

-- an image has one top
pub top-of : (img : Image) (f g : Files) (r : ℕ) → HasFiles img f → HasFiles img g → r ≤ f.top → r ≤ g.top
top-of img f g r x y le = subst (λ (z : Files). r ≤ z.top) (HasFiles-one img f g x y) le

-- the row of a write of nothing
grown-row : (x y : View) (l : Layout) (n r : ℕ) (s : File) → x.channel ≡ Some (channel_at n r) → IsRelAt x.image l n s
    → ¬ (IsTooLarge s r ⊎ IsFull x.image s r) → Writes x 2 [] y
    → HasRecords x.image y.image l n (grown_to x.image s r) × (y.channel ≡ Some (channel_at n r))
    × (y.checked ≡ x.checked)
grown-row x y l n r s on rel fits row = past row
  where
    grows : WritesIn x [] y (channel_at n r) l s → HasRecords x.image y.image l n (grown_to x.image s r)
        × (y.channel ≡ Some (channel_at n r)) × (y.checked ≡ x.checked)
    grows (inl (bad, _)) = absurd (fits bad)
    grows (inr (_, inl (_, (h, e)))) = (h, ap (λ (v : View). v.channel) e ∙ on, ap (λ (v : View). v.checked) e)
    grows (inr (_, inr (bad, _))) = absurd (bad refl)

    past : Writes x 2 [] y → HasRecords x.image y.image l n (grown_to x.image s r) × (y.channel ≡ Some (channel_at n r))
        × (y.checked ≡ x.checked)
    past (inl (bad, _)) = absurd (bad (channel_at n r, (on, refl)))
    past (inr (_, go)) = grows (go (channel_at n r) l s on rel)

-- so many empty records reach to record r
reaches : (c r : ℕ) → r ≤ c + added 18 c r
reaches c r = by (nat_le r c) refl
  where
    by : (b : Bool) → nat_le r c ≡ b → r ≤ c + (if b then 0 else (full 18 (blocks_for 18 r) - c))
    by true e = grind (arith, nat_tests)
    by false e = omega arith

module _ (old new : Image) (f : Files) (h : HasFiles old f) where
  -- STOCK with m records more, among the files
  with-more : (m : ℕ)
      → HasRecords old new h.layout h.stock_place (grown_by (record_length h.stock_file.slot) m
      (records old h.stock_file)) → (b : ℕ) × HasFiles new (grown f m b)
  with-more m x =
      let e : grown_by (record_length h.stock_file.slot) m (records old h.stock_file) ≡ f.stock ++ replicate m
      (empty_record 18)
      = λ i. sym h.stock i ++ replicate m (empty_record (h.stock_length i)) in
      let y : HasRecords old new h.layout h.stock_place (f.stock ++ replicate m (empty_record 18)) =
      subst (λ (rs : List (List ℕ)). HasRecords old new h.layout h.stock_place rs) e x in
      (length y.file.blocks, on-stock old new f h (f.stock ++ replicate m (empty_record 18)) y)

  on-the-way : (r : ℕ) → IsGrowingTo old h.layout h.stock_place h.stock_file r new → HasGrown f new
  on-the-way r g = let y = with-more g.0 g.2 in (g.0, y.0, y.1)

  at-end : (r : ℕ) → HasRecords old new h.layout h.stock_place (grown_to old h.stock_file r) → HasGrownTo f r new
  at-end r x =
      let m = added (record_length h.stock_file.slot) (records_had h.stock_file) r in
      let y = with-more m x in
      let count : records_had h.stock_file ≡ length f.stock = sym (ap length h.stock ∙ count-is old h.stock_file) in
      let far : r ≤ records_had h.stock_file + m =
      subst (λ (L : ℕ). r ≤ records_had h.stock_file + added L (records_had h.stock_file) r) (sym h.stock_length)
      (reaches (records_had h.stock_file) r) in
      (m, y.0, y.1, subst (λ (c : ℕ). r ≤ c + m) count far)

-- the files as they are
none-yet : (img : Image) (f : Files) → HasFiles img f → HasGrown f img
none-yet img f h =
    (0, f.blocks, subst (λ (rs : List (List ℕ)). HasFiles img (record f { stock = rs })) (sym (append-nil f.stock)) h)

pub unread-moments : {D : Type 0} (S : History D) (a b : D) (k n : ℕ) (f : Files) → HasFiles (S.image a) f
    → OnlyReads S a b k → Changes S a b n (HasGrown f)
unread-moments S a b k n f h reads =
    changes_weaker S a b 0 n (HasGrown f) (HasGrown f) (omega arith) (λ i x. x) (reads_change S a b k (HasGrown f) reads
    (none-yet (S.image a) f h))

-- what the write of nothing leaves, where the item has room
pub grown-ok : {D T E : Type 0} (S : History D) (d0 d1 d2 : Seen D) (res : Result T E) (f : Files)
    (h : HasFiles (S.image d0.disk) f) (r : ℕ) → r ≤ f.top
    → IsClean (S.image d0.disk) → S.image d1.disk ≡ S.image d0.disk → IsAt d1 h.stock_place r → Serves S d1 d2 res
    → OnOk res (Writes (view_of S d1) 2 [] (view_of S d2))
    → OnOk res (IsReady S d2 × HasGrownTo f r (S.image d2.disk))
grown-ok S d0 d1 d2 (Err e) f h r le clean same at serves row = tt
grown-ok S d0 d1 d2 (Ok x) f h r le clean same at serves row =
    let old = S.image d0.disk in
    let rel : IsRelAt (S.image d1.disk) h.layout h.stock_place h.stock_file =
    subst (λ (i : Image). IsRelAt i h.layout h.stock_place h.stock_file) (sym same) (stock-rel old f h) in
    let fits : ¬ (IsTooLarge h.stock_file r ⊎ IsFull (S.image d1.disk) h.stock_file r)
    = subst (λ (i : Image). ¬ (IsTooLarge h.stock_file r ⊎ IsFull i h.stock_file r)) (sym same)
    (not-refused old f h r le clean) in
    let w = grown-row (view_of S d1) (view_of S d2) h.layout h.stock_place r h.stock_file at.on rel fits row in
    let alive = alive-of S d1 d2 x serves in (
      record {
        alive = alive;
        clean = (serves.orderly alive).clean (w.2 ∙ at.checked);
        free = λ c e. ap (λ (o : Channel). o.number) (same_Some c (channel_at h.stock_place r) (sym e ∙ w.1));
      },
      at-end old (S.image d2.disk) f h r
          (subst (λ (i : Image). HasRecords i (S.image d2.disk) h.layout h.stock_place (grown_to i h.stock_file r)) same
          w.0),
    )

pub ready-part : {T E : Type 0} (res : Result T E) (P Q : Type 0) → OnOk res (P × Q) → OnOk res P
ready-part (Ok x) P Q h = h.0
ready-part (Err e) P Q h = tt

pub grown-part : {T E : Type 0} (res : Result T E) (P Q : Type 0) → OnOk res (P × Q) → OnOk res Q
grown-part (Ok x) P Q h = h.1
grown-part (Err e) P Q h = tt

-- and what is held until then
pub grown-moments : {D : Type 0} (S : History D) (d0 d1 d2 : Seen D) (k : ℕ) (f : Files)
    (h : HasFiles (S.image d0.disk) f) (r : ℕ) → OnlyReads S d0.disk d1.disk k → IsAt d1 h.stock_place r
    → ((c : Channel) (l : Layout) (s : File) → IsOn d1.channel 2 c → IsRelAt (S.image d1.disk) l c.entry s
    → devices.Changes S d1.disk d2.disk (writes_for s c []) (IsOnTheWay (S.image d1.disk) [] c l s))
    → Changes S d0.disk d2.disk (growth_writes h.stock_file r) (HasGrown f)
grown-moments S d0 d1 d2 k f h r reads at change =
    let old = S.image d0.disk in
    let rel : IsRelAt (S.image d1.disk) h.layout h.stock_place h.stock_file =
    subst (λ (i : Image). IsRelAt i h.layout h.stock_place h.stock_file) (sym reads.image) (stock-rel old f h) in
    let w = change (channel_at h.stock_place r) h.layout h.stock_file (at.on, refl) rel in
    changes_then S d0.disk d1.disk d2.disk 0 (growth_writes h.stock_file r) (growth_writes h.stock_file r) (HasGrown f)
    (none-before (growth_writes h.stock_file r))
    (unread-moments S d0.disk d1.disk k 0 f h reads)
    (changes_weaker S d1.disk d2.disk (writes_for h.stock_file (channel_at h.stock_place r) [])
    (growth_writes h.stock_file r) (IsOnTheWay (S.image d1.disk) [] (channel_at h.stock_place r) h.layout
    h.stock_file) (HasGrown f)
    (none-behind (growth_writes h.stock_file r))
    (λ i g. on-the-way old i f h r (subst (λ (j : Image). IsGrowingTo j h.layout h.stock_place h.stock_file r i)
    reads.image g)) (changes_enrich S d1.disk d2.disk _ _ w
    (λ whole i g. g.3 (λ never. absurd (omega (arith, never.1, h.stock_length))) whole)))
  where
    none-before : (t : ℕ) → 0 + t ≤ t
    none-before t = omega arith

    none-behind : (t : ℕ) → t + 0 ≤ t
    none-behind t = omega arith

-- The files with empty records more are the same shop's.
pub grown-ledger : (f : Files) (m b : ℕ) → AreLedgerRecords f.stock f.requests
    → AreLedgerRecords (grown f m b).stock (grown f m b).requests
grown-ledger f m b all = grown-cards f.stock f.requests m blank-record all

pub grown-same : (f : Files) (m b : ℕ) → shop_of (grown f m b) ≡ shop_of f
grown-same f m b = λ i. record (shop_of f) { state = grown-state f.stock f.requests m blank-record i }

pub grown-shop : (img : Image) (f : Files) → AreLedgerRecords f.stock f.requests → HasGrown f img
    → IsShop img (shop_of f)
grown-shop img f all g = step-grown img f all g.1 g.0 g.2

pub grown-shop_moments : {D : Type 0} (S : History D) (a b : D) (f : Files) (n : ℕ)
    → AreLedgerRecords f.stock f.requests → Changes S a b n (HasGrown f) → Changes S a b n (λ i. IsShop i (shop_of f))
grown-shop_moments S a b f n all x = changes_weaker S a b n n (HasGrown f) (λ i. IsShop i (shop_of f)) (omega arith)
    (λ i g. grown-shop i f all g) x

-- and record r is among those of STOCK
pub grown-long : (f : Files) (m b r : ℕ) → r ≤ length f.stock + m → r ≤ length (grown f m b).stock
grown-long f m b r far = omega (
  arith,
  far,
  length-append f.stock (replicate m (empty_record 18)),
  length-replicate m
      (empty_record 18),
)
