-- What the calls of a session on the drive come to, from the rows of the drive's tables.
use Rattle.std.proofs.Common.{◌≡◌, ◌≤◌, ◌+◌, ℕ, inl, inr, Bool, true, false, None, Some, Result, Ok, Err, List}
use Rattle.std.proofs.Common.{length, refl, sym, ◌∙◌, ap, subst, arith}
use Rattle.std.specs.Prelude.{OnOk, OnErr, if◌then◌else◌}
use Rattle.std.proofs.lemmas.Bool.{false≢true}
use Rattle.std.proofs.lemmas.List.{append-nil}
use Rattle.std.proofs.lemmas.Option.{same_Some}
use Rattle.d64_image.specs.History.{FailsInOneStep, History, OnlyReads, TellsFailure}
use Rattle.host_session.specs.Held.{Changes}
use Rattle.d64_image.specs.Images.{Image}
use Rattle.d64_image.proofs.Moments.{no_reads, reads_then_fails, reads_weaker}
use Rattle.d64_image.specs.History as devices
use Rattle.host_session.proofs.lemmas.Held.{changes_enrich, writing-whole, changes_then, changes_weaker, reads_change}
use Rattle.d64_image.proofs.Told.{told_after}
use Rattle.disk_layout.specs.Clean.{IsClean}
use Rattle.disk_layout.specs.Layout.{File, IsLayout, Layout, file_owns, record_length}
use Rattle.disk_layout.specs.Records.{records}
use Rattle.disk_layout.specs.Rest.{IsFirst}
use Rattle.drive_channels.specs.Files.{IsRelAt}
use Rattle.drive_channels.specs.Moments.{IsOnTheWay, writes_for}
use Rattle.drive_channels.specs.Serving.{Serves}
use Rattle.drive_channels.specs.Spelling.{IsName}
use Rattle.drive_channels.specs.State.{Channel, Seen, View, view_of}
use Rattle.drive_channels.specs.Tables.{Closes, Commands, IsOn, Opens, Writes, WritesIn}
use Rattle.rel_records.proofs.lemmas.growth.RunCosts.{added-none, growth-none}
use Rattle.drive_channels.proofs.Callers.{on-the-way, some-text}
use Rattle.rel_records.specs.Others.{HasRecords}
use Rattle.rel_records.specs.Written.{IsWriting, grown_by, touched, with_written}
use Rattle.rel_records.specs.growth.Growth.{records_had}
use Rattle.host_session.specs.shop.Putting.{IsInReach, IsPlaced}
use Rattle.host_session.specs.shop.Selecting.{IsAt, IsInFile, IsReady, channel_at, place_text}
use Rattle.host_session.proofs.lemmas.writing.Positions.{moved, opened, placed-count, placed-rel, reach-rel}
use Rattle.host_session.proofs.lemmas.writing.Positions.{without-two}

-- a call that answers Ok leaves the drive alive
pub alive-of : {D T E : Type 0} (S : History D) (old new : Seen D) (x : T) → Serves {E = E} S old new (Ok x)
    → new.dead ≡ false
alive-of {D} {T} {E} S old new x h = by new.dead refl
  where
    by : (b : Bool) → new.dead ≡ b → new.dead ≡ false
    by false e = e
    by true e = absurd (false≢true (h.dies.0 e))

-- close and open, one after another
pub opened-in : {D : Type 0} (S : History D) (d0 d1 d2 : Seen D) (name : List ℕ) (l : Layout) (n : ℕ) (f : File)
    → IsReady S d0 → IsName name → Closes (view_of S d0) 2 (view_of S d1) → Opens (view_of S d1) 2 name (view_of S d2)
    → d2.dead ≡ false
    → IsLayout (S.image d0.disk) l → IsFirst l name n f → (S.image d2.disk ≡ S.image d0.disk)
    × (d2.channel ≡ Some (channel_at n 1)) × (d2.checked ≡ true)
opened-in S d0 d1 d2 name l n f ready h closes opens alive is first =
    let same : S.image d1.disk ≡ S.image d0.disk = ap (λ (v : View). v.image) closes in
    let free : d1.channel ≡ None = ap (λ (v : View). v.channel) closes ∙ without-two d0.channel ready.free in
    let clean : IsClean (S.image d1.disk) = subst (λ (i : Image). IsClean i) (sym same) ready.clean in
    let layout : IsLayout (S.image d1.disk) l = subst (λ (i : Image). IsLayout i l) (sym same) is in
    let o = opened (view_of S d1) (view_of S d2) name l n f free clean h layout first opens in
    (o.0 ∙ same, o.1, o.2)

-- P, in a file that is open
pub placed-after : {D T E : Type 0} (S : History D) (d1 d2 : Seen D) (r : Result T E) (name text : List ℕ) (number : ℕ)
    (l : Layout) (n : ℕ) (f : File)
    → IsInFile d1 n → Serves S d1 d2 r → OnOk r (Commands (view_of S d1) text (view_of S d2)) → text ≡ place_text number
    → IsInReach (S.image d1.disk) name number l n f → OnOk r (IsAt d2 n number)
placed-after S d1 d2 (Err e) name text number l n f at serves row is p = tt
placed-after S d1 d2 (Ok x) name text number l n f at serves row is p =
    let m = moved (view_of S d1) (view_of S d2) l n number at.record_number f at.on
    (reach-rel (S.image d1.disk) name number l n f p) p.low p.some p.few
    (subst (λ (t : List ℕ). Commands (view_of S d1) t (view_of S d2)) is row) in
    record { alive = alive-of S d1 d2 x serves; checked = m.2 ∙ at.checked; on = m.1 }

pub reads-between : {D : Type 0} (S : History D) (a b c d : D) (k : ℕ) → b ≡ a → OnlyReads S b c k → d ≡ c
    → OnlyReads S a d k
reads-between {D} S a b c d k e h e' =
    subst (λ (x : D). OnlyReads S x d k) e (subst (λ (x : D). OnlyReads S b x k) (sym e') h)

pub told-after : {D T E : Type 0} (S : History D) (a b c : D) (r : Result T E) → S.failures b ≡ S.failures a
    → TellsFailure S b c r → TellsFailure S a c r
told-after {E = E} S a b c r same t = told_after S (λ (_ : E). true) a b c r same t

none-grown : (img : Image) (f : File) (r m : ℕ) → m ≡ 0
    → grown_by (record_length f.slot) m (records img f) ≡ records img f
none-grown img f r m e = ap (λ (k : ℕ). grown_by (record_length f.slot) k (records img f)) e
    ∙ append-nil (records img f)

-- the row of a write of a record that is there
pub written-row : (x y : View) (text : List ℕ) (l : Layout) (n r : ℕ) (f : File) → x.channel ≡ Some (channel_at n r)
    → IsRelAt x.image l n f → r ≤ records_had f → 1 ≤ length text
    → Writes x 2 text y
    → HasRecords x.image y.image l n (with_written (record_length f.slot) r 1 text (records x.image f))
    × (y.channel ≡ Some (channel_at n (r + 1))) × (y.checked ≡ x.checked)
written-row x y text l n r f on rel le some row = past row
  where
    wide : WritesIn x text y (channel_at n r) l f
        → HasRecords x.image y.image l n (with_written (record_length f.slot) r 1 text (records x.image f))
        × (y.channel ≡ Some (channel_at n (r + 1))) × (y.checked ≡ x.checked)
    wide (inl (inl big, _)) = absurd (omega (arith, le, big.0))
    wide (inl (inr big, _)) = absurd (omega (arith, le, big.0))
    wide (inr (_, inl (nil, _))) = absurd (omega (arith, some, ap length nil))
    wide (inr (_, inr (_, (h, e)))) = (
      subst (λ (rs : List (List ℕ)). HasRecords x.image y.image l n (with_written (record_length f.slot) r 1 text rs))
          (none-grown x.image f r _ (added-none (record_length f.slot) (records_had f) r le)) h,
      ap (λ (v : View). v.channel) e,
      ap (λ (v : View). v.checked) e,
    )

    past : Writes x 2 text y
        → HasRecords x.image y.image l n (with_written (record_length f.slot) r 1 text (records x.image f))
        × (y.channel ≡ Some (channel_at n (r + 1))) × (y.checked ≡ x.checked)
    past (inl (bad, _)) = absurd (bad (channel_at n r, (on, refl)))
    past (inr (_, go)) = wide (go (channel_at n r) l f on rel)

pub written-ok : {D T E : Type 0} (S : History D) (d0 d1 d2 : Seen D) (r : Result T E) (name text : List ℕ) (number : ℕ)
    (l : Layout) (n : ℕ) (f : File)
    → S.image d1.disk ≡ S.image d0.disk → IsAt d1 n number → Serves S d1 d2 r
    → OnOk r (Writes (view_of S d1) 2 text (view_of S d2)) → 1 ≤ length text
    → IsPlaced (S.image d0.disk) name number l n f
    → OnOk r (IsReady S d2 × IsClean (S.image d2.disk) × HasRecords (S.image d0.disk) (S.image d2.disk) l n
    (with_written (record_length f.slot) number 1 text (records (S.image d0.disk) f)))
written-ok S d0 d1 d2 (Err e) name text number l n f same at serves row some p = tt
written-ok S d0 d1 d2 (Ok x) name text number l n f same at serves row some p =
    let q : IsPlaced (S.image d1.disk) name number l n f = subst (λ (i : Image). IsPlaced i name number l n f)
    (sym same) p in
    let w = written-row (view_of S d1) (view_of S d2) text l n number f at.on
    (placed-rel (S.image d1.disk) name number l n f q) (placed-count (S.image d1.disk) name number l n f q) some
    row in
    let alive = alive-of S d1 d2 x serves in
    let checked : d2.checked ≡ true = w.2 ∙ at.checked in (
      record {
        alive = alive;
        clean = (serves.orderly alive).clean checked;
        free =
            λ c e. ap (λ (k : Channel). k.number) (same_Some c (channel_at n (number + 1)) (sym e ∙ w.1));
      },
      (serves.orderly alive).clean checked,
      subst (λ (i : Image). HasRecords i (S.image d2.disk) l n (with_written (record_length f.slot) number 1 text
          (records i f))) same w.0,
    )

pub ok-ready : {T E : Type 0} (r : Result T E) (P Q R : Type 0) → OnOk r (P × Q × R) → OnOk r P
ok-ready (Ok x) P Q R h = h.0
ok-ready (Err e) P Q R h = tt

pub ok-records : {T E : Type 0} (r : Result T E) (P Q R : Type 0) → OnOk r (P × Q × R) → OnOk r R
ok-records (Ok x) P Q R h = h.2
ok-records (Err e) P Q R h = tt

-- the old image is one of those on the way
pub writing-same : (img : Image) (name : List ℕ) (r : ℕ) (l : Layout) (n : ℕ) (f : File) (text : List ℕ)
    → IsPlaced img name r l n f → IsWriting img l n f 0 r 1 text img
writing-same img name r l n f text p = inl (
  0,
  omega arith,
  subst (λ (rs : List (List ℕ)). HasRecords img img l n rs) (sym (append-nil (records img f)))
      (record {
        layout = l;
        is_layout = p.layout;
        others = record {
          directory = refl;
          entries = refl;
          files = λ k g ne h. h;
          bytes = λ k g ne h. refl;
          header =
              refl;
        };
        file = f;
        there = p.first.file;
        records = refl;
        places = λ g at. let same : f ≡ g = same_Some f g (sym p.first.file ∙ at) in (
          subst (λ (x : File). length (records img x) ≤ length (records img f)) same (omega arith),
          inl
              (ap file_owns same),
        );
      }),
  λ never w. w,
)

placed-on-the-way : (old : Image) (text : List ℕ) (l : Layout) (n r : ℕ) (f : File) → r ≤ records_had f
    → 1 ≤ length text → (i : Image) → IsOnTheWay old text (channel_at n r) l f i → IsWriting old l n f 0 r 1 text i
placed-on-the-way old text l n r f le some i h = subst (λ (m : ℕ). IsWriting old l n f m r 1 text i)
    (added-none (record_length f.slot) (records_had f) r le) (on-the-way old text (channel_at n r) l f some i h)

pub written-moments : {D : Type 0} (S : History D) (d0 d1 d2 : Seen D) (name text : List ℕ) (number k : ℕ) (l : Layout)
    (n : ℕ) (f : File)
    → OnlyReads S d0.disk d1.disk k → IsAt d1 n number → 1 ≤ length text → IsPlaced (S.image d0.disk) name number l n f
    → ((c : Channel) (l : Layout) (f : File) → IsOn d1.channel 2 c → IsRelAt (S.image d1.disk) l c.entry f
    → devices.Changes S d1.disk d2.disk (writes_for f c text) (IsOnTheWay (S.image d1.disk) text c l f))
    → Changes S d0.disk d2.disk (touched (record_length f.slot) number 1)
    (IsWriting (S.image d0.disk) l n f 0 number 1 text)
written-moments {D} S d0 d1 d2 name text number k l n f reads at some p change =
    let P : Image → Type 0 = IsWriting (S.image d0.disk) l n f 0 number 1 text in
    let t = touched (record_length f.slot) number 1 in
    let q : IsPlaced (S.image d1.disk) name number l n f = subst (λ (i : Image). IsPlaced i name number l n f)
    (sym reads.image) p in
    let le = placed-count (S.image d1.disk) name number l n f q in
    let count : writes_for f (channel_at n number) text ≤ t =
    omega (arith, growth-none f number le, ap (λ (b : Bool). if b then 0 else t) (some-text text some)) in
    let w = change (channel_at n number) l f (at.on, refl) (placed-rel (S.image d1.disk) name number l n f q) in
    changes_then S d0.disk d1.disk d2.disk 0 t t P (omega arith)
    (reads_change S d0.disk d1.disk k P reads (writing-same (S.image d0.disk) name number l n f text p))
    (changes_weaker S d1.disk d2.disk (writes_for f (channel_at n number) text) t
    (IsOnTheWay (S.image d1.disk) text (channel_at n number) l f) P count
    (λ i h. subst (λ (j : Image). IsWriting j l n f 0 number 1 text i) reads.image
    (placed-on-the-way (S.image d1.disk) text l n number f le some i h))
    (changes_enrich S d1.disk d2.disk _ _ w (λ whole i h. writing-whole (S.image d1.disk) l n f 0 number 1 text i
    (placed-on-the-way (S.image d1.disk) text l n number f le some i h) (λ never. refl) whole)))

pub fails-after : {D T E : Type 0} (S : History D) (a b c : D) (r : Result T E) (n : ℕ) → OnlyReads S a b n
    → OnErr r (FailsInOneStep S b c) → OnErr r (FailsInOneStep S a c)
fails-after S a b c (Ok x) n reads h = tt
fails-after S a b c (Err e) n reads h = reads_then_fails S a b c n reads h

-- the record is there in the same image
pub moved-to : {D : Type 0} (S : History D) (a b : D) (name : List ℕ) (r : ℕ) (l : Layout) (n : ℕ) (f : File)
    → S.image b ≡ S.image a → IsPlaced (S.image a) name r l n f → IsPlaced (S.image b) name r l n f
moved-to S a b name r l n f same p = subst (λ (i : Image). IsPlaced i name r l n f) (sym same) p

pub nothing-read : {D : Type 0} (S : History D) (d : D) (n : ℕ) → OnlyReads S d d n
nothing-read S d n = reads_weaker S d d 0 n (omega arith) (no_reads S d)
