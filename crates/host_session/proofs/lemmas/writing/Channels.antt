-- What is known of the file that a drive's channel is in, after a call on it.
use Rattle.std.proofs.Common.{◌≡◌, ◌≢◌, ◌+◌, ℕ, inl, inr, Bool, true, false, Option, None, Some, Result, Ok, Err, List}
use Rattle.std.proofs.Common.{refl, sym, ◌∙◌, ap, arith, subst}
use Rattle.std.specs.Prelude.{OnOk, slice_get, slice_index, slice_range}
use Rattle.std.specs.Option.{option_eq}
use Rattle.std.proofs.lemmas.Bool.{false≢true}
use Rattle.std.proofs.lemmas.Option.{none-some, same_Some}
use Rattle.d64_image.specs.History.{History}
use Rattle.d64_image.specs.Images.{Image}
use Rattle.disk_layout.proofs.lemmas.kept.Kept.{first-kept}
use Rattle.disk_layout.proofs.lemmas.layouts.Layouts.{IsLayout-one}
use Rattle.disk_layout.proofs.lemmas.layouts.Uniques.{IsFirst-one}
use Rattle.disk_layout.specs.Layout.{File, IsLayout, Layout}
use Rattle.disk_layout.specs.Rest.{IsFirst, IsNamed, slot_name}
use Rattle.drive_channels.specs.Files.{IsRelAt}
use Rattle.drive_channels.specs.Serving.{Serves}
use Rattle.drive_channels.specs.Spelling.{IsName}
use Rattle.drive_channels.specs.State.{Channel, Seen, View, view_of}
use Rattle.drive_channels.specs.Tables.{Closes, Commands, Opens, Writes, WritesIn}
use Rattle.rel_records.specs.Others.{HasRecords}
use Rattle.host_session.proofs.lemmas.writing.Selection.{opened-in}
use Rattle.host_session.proofs.lemmas.writing.Positions.{moved, reach-rel}
use Rattle.host_session.specs.shop.Putting.{IsInReach}
use Rattle.host_session.specs.shop.Selecting.{IsInFile, IsReady, channel_at, place_text}
use Rattle.host_session.specs.shop.Channels.{IsKnownOn, IsOn, name_of}
use Rattle.host_session.specs.declared.shop.shop_drive.ShopFile.{ShopFile}
use Rattle.host_session.specs.declared.shop.shop_drive.ShopFile.TheVariants.{Requests, Stock}

-- a call that answers Ok found the drive alive
pub alive-before : {D T E : Type 0} (S : History D) (old new : Seen D) (x : T) → Serves {E = E} S old new (Ok x)
    → old.dead ≡ false
alive-before {D} {T} {E} S old new x h = by old.dead refl
  where
    by : (b : Bool) → old.dead ≡ b → old.dead ≡ false
    by false e = e
    by true e = absurd (false≢true (h.dead e).0)

-- where it is known, the channel is in the file of this entry
pub known-entry : {D : Type 0} (S : History D) (d : Seen D) (file : ShopFile) (l : Layout) (n : ℕ) (f : File)
    → IsOn S d file → d.dead ≡ false
    → IsLayout (S.image d.disk) l → IsFirst l (name_of file) n f → IsInFile d n
known-entry S d file l n f h alive is first =
    let same : h.layout ≡ l = IsLayout-one (S.image d.disk) h.layout l h.is_layout is in
    let one : h.entry ≡ n =
    (IsFirst-one l (name_of file) h.entry n h.first_file f
    (subst (λ (m : Layout). IsFirst m (name_of file) h.entry h.first_file) same h.first) first).0 in
    record {
      alive = alive;
      checked = h.checked;
      record_number = h.record_number;
      on = h.at
          ∙ ap (λ (j : ℕ). Some (channel_at j h.record_number)) one;
    }

-- both files have names of their own
name-one : (a b : ShopFile) (f g : File) → f ≡ g → IsNamed (name_of a) f → IsNamed (name_of b) g → a ≡ b
name-one a b f g same is other =
    let names : slot_name (name_of a) ≡ slot_name (name_of b) = sym is.1
    ∙ ap (λ (h : File). slice_range h.slot.bytes 5 21) same ∙ other.1 in
    by a b (ap (λ (bytes : List ℕ). slice_index bytes 0) names)
  where
    by : (a b : ShopFile) → slice_index (slot_name (name_of a)) 0 ≡ slice_index (slot_name (name_of b)) 0 → a ≡ b
    by Stock Stock e = refl
    by Stock Requests e = absurd (omega (arith, e))
    by Requests Stock e = absurd (omega (arith, e))
    by Requests Requests e = refl

-- the channel is in one file at most
on-one : {D : Type 0} (S : History D) (d : Seen D) (a b : ShopFile) → IsOn S d a → IsOn S d b → a ≡ b
on-one S d a b h k =
    let same : h.layout ≡ k.layout = IsLayout-one (S.image d.disk) h.layout k.layout h.is_layout k.is_layout in
    let one : h.entry ≡ k.entry =
    ap (λ (c : Channel). c.entry) (same_Some (channel_at h.entry h.record_number)
    (channel_at k.entry k.record_number) (sym h.at ∙ k.at)) in
    let there : slice_get k.layout.files k.entry ≡ Some h.first_file =
    subst (λ (n : ℕ). slice_get k.layout.files n ≡ Some h.first_file) one
    (subst (λ (l : Layout). slice_get l.files h.entry ≡ Some h.first_file) same h.first.file) in
    name-one a b h.first_file k.first_file (same_Some h.first_file k.first_file (sym there ∙ k.first.file))
    h.first.named k.first.named

-- what compares unequal is another file, or none
pub known-differs : (equal : ShopFile → ShopFile → Bool) → equal Stock Stock ≡ true → equal Requests Requests ≡ true
    → (known : Option ShopFile) (file : ShopFile)
    → option_eq equal known (Some file) ≡ false → known ≢ Some file
known-differs equal stock requests known file differ is =
    by file (sym (ap (λ (o : Option ShopFile). option_eq equal o (Some file)) is) ∙ differ)
  where
    by : (f : ShopFile) → equal f f ≡ false → ⊥
    by Stock e = false≢true (sym e ∙ stock)
    by Requests e = false≢true (sym e ∙ requests)

-- what compares equal is this file
pub known-same : (equal : ShopFile → ShopFile → Bool) → equal Stock Requests ≡ false → equal Requests Stock ≡ false
    → (known : Option ShopFile) (file : ShopFile)
    → option_eq equal known (Some file) ≡ true → known ≡ Some file
known-same equal stock requests None file same = absurd (false≢true same)
known-same equal stock requests (Some Stock) Stock same = refl
known-same equal stock requests (Some Stock) Requests same = absurd (false≢true (sym stock ∙ same))
known-same equal stock requests (Some Requests) Stock same = absurd (false≢true (sym requests ∙ same))
known-same equal stock requests (Some Requests) Requests same = refl

-- where another file is known, or none, the channel isn't in this one
pub known-off : {D : Type 0} (S : History D) (d : Seen D) (known : Option ShopFile) (file : ShopFile)
    → (known ≢ Some file) → IsKnownOn S d known → ¬ (IsOn S d file)
known-off S d None file other none on = none-some (channel_at on.entry on.record_number) (sym none ∙ on.at)
known-off S d (Some known) file other is on = other (ap (λ (f : ShopFile). Some f) (on-one S d known file is on))

-- after close and open
pub opened-on : {D : Type 0} (S : History D) (d0 d1 d2 : Seen D) (file : ShopFile) (text : List ℕ) (l : Layout) (n : ℕ)
    (f : File) → IsReady S d0 → text ≡ name_of file → IsName text
    → Closes (view_of S d0) 2 (view_of S d1) → Opens (view_of S d1) 2 text (view_of S d2) → d2.dead ≡ false
    → IsLayout (S.image d0.disk) l → IsFirst l (name_of file) n f → IsOn S d2 file
opened-on S d0 d1 d2 file text l n f ready e name closes opens alive is first =
    let o = opened-in S d0 d1 d2 text l n f ready name closes opens alive is (subst (λ (t : List ℕ). IsFirst l t n f)
    (sym e) first) in
    record {
      checked = o.2;
      layout = l;
      entry = n;
      first_file = f;
      record_number = 1;
      is_layout = subst (λ (i : Image). IsLayout i l) (sym o.0) is;
      first = first;
      at = o.1;
    }

pub opened-inside : {D : Type 0} (S : History D) (d0 d1 d2 : Seen D) (file : ShopFile) (text : List ℕ) (l : Layout)
    (n : ℕ) (f : File) → IsReady S d0 → text ≡ name_of file → IsName text
    → Closes (view_of S d0) 2 (view_of S d1) → Opens (view_of S d1) 2 text (view_of S d2) → d2.dead ≡ false
    → IsLayout (S.image d0.disk) l → IsFirst l (name_of file) n f → IsInFile d2 n
opened-inside S d0 d1 d2 file text l n f ready e name closes opens alive is first =
    let o = opened-in S d0 d1 d2 text l n f ready name closes opens alive is (subst (λ (t : List ℕ). IsFirst l t n f)
    (sym e) first) in
    record { alive = alive; checked = o.2; record_number = 1; on = o.1 }

-- after P
pub known-moved : {D : Type 0} (S : History D) (d e : Seen D) (n k r : ℕ) (known : Option ShopFile)
    → S.image e.disk ≡ S.image d.disk → d.channel ≡ Some (channel_at n k)
    → e.channel ≡ Some (channel_at n r) → e.checked ≡ d.checked → IsKnownOn S d known → IsKnownOn S e known
known-moved S d e n k r None same at to checked h = absurd (none-some (channel_at n k) (sym h ∙ at))
known-moved S d e n k r (Some file) same at to checked h =
    let one : n ≡ h.entry =
    ap (λ (c : Channel). c.entry) (same_Some (channel_at n k) (channel_at h.entry h.record_number) (sym at ∙ h.at))
    in
    record {
      checked = checked ∙ h.checked;
      layout = h.layout;
      entry = h.entry;
      first_file = h.first_file;
      record_number = r;
      is_layout = subst (λ (i : Image). IsLayout i h.layout) (sym same) h.is_layout;
      first = h.first;
      at = to ∙ ap (λ (j : ℕ). Some (channel_at j r)) one;
    }

pub known-placed : {D T E : Type 0} (S : History D) (d1 d2 : Seen D) (r : Result T E) (name text : List ℕ) (number : ℕ)
    (l : Layout) (n : ℕ) (f : File) (known : Option ShopFile)
    → IsInFile d1 n → Serves S d1 d2 r → OnOk r (Commands (view_of S d1) text (view_of S d2)) → text ≡ place_text number
    → IsInReach (S.image d1.disk) name number l n f
    → IsKnownOn S d1 known → d2.dead ≡ false → IsKnownOn S d2 known
known-placed S d1 d2 (Err e) name text number l n f known at serves row is p h alive =
    absurd (false≢true (sym alive ∙ serves.dies.1 refl))
known-placed S d1 d2 (Ok x) name text number l n f known at serves row is p h alive =
    let m = moved (view_of S d1) (view_of S d2) l n number at.record_number f at.on
    (reach-rel (S.image d1.disk) name number l n f p) p.low p.some p.few
    (subst (λ (t : List ℕ). Commands (view_of S d1) t (view_of S d2)) is row) in
    known-moved S d1 d2 n at.record_number number known m.0 at.on m.1 m.2 h

-- after a write
written-on : {D : Type 0} (S : History D) (d e : Seen D) (text : List ℕ) (file : ShopFile)
    → Writes (view_of S d) 2 text (view_of S e) → IsOn S d file → IsOn S e file
written-on S d e text file row h = past row
  where
    there : IsRelAt (S.image d.disk) h.layout h.entry h.first_file
    there = record { layout = h.is_layout; there = h.first.file; rel = h.first.named.0 }

    stay : (q : Option Channel) → q ≡ d.channel → S.image e.disk ≡ S.image d.disk → e.channel ≡ q
        → e.checked ≡ d.checked → IsOn S e file
    stay q at same to checked = record {
      checked = checked ∙ h.checked;
      layout = h.layout;
      entry = h.entry;
      first_file = h.first_file;
      record_number = h.record_number;
      is_layout = subst (λ (i : Image). IsLayout i h.layout) (sym same) h.is_layout;
      first = h.first;
      at = to ∙ at ∙ h.at;
    }

    over : (rs : List (List ℕ)) (r : ℕ) → HasRecords (S.image d.disk) (S.image e.disk) h.layout h.entry rs
        → e.channel ≡ Some (channel_at h.entry r) → e.checked ≡ d.checked → IsOn S e file
    over rs r new to checked = record {
      checked = checked ∙ h.checked;
      layout = new.layout;
      entry = h.entry;
      first_file = new.file;
      record_number = r;
      is_layout = new.is_layout;
      first = first-kept h.layout new.layout (name_of file) h.entry h.first_file new.file new.others.entries new.there
          h.first;
      at = to;
    }

    wide : WritesIn (view_of S d) text (view_of S e) (channel_at h.entry h.record_number) h.layout h.first_file
        → IsOn S e file
    wide (inl (_, told)) = stay d.channel refl (ap (λ (v : View). v.image) told) (ap (λ (v : View). v.channel) told)
        (ap (λ (v : View). v.checked) told)
    wide (inr (_, inl (_, (new, told)))) = over _ h.record_number new (ap (λ (v : View). v.channel) told
        ∙ h.at) (ap (λ (v : View). v.checked) told)
    wide (inr (_, inr (_, (new, told)))) = over _ (h.record_number + 1) new (ap (λ (v : View). v.channel) told)
        (ap (λ (v : View). v.checked) told)

    past : Writes (view_of S d) 2 text (view_of S e) → IsOn S e file
    past (inl (bad, _)) = absurd (bad (channel_at h.entry h.record_number, (h.at, refl)))
    past (inr (_, go)) = wide (go (channel_at h.entry h.record_number) h.layout h.first_file h.at there)

-- no channel was open, and none is opened by a write
written-off : (x y : View) (text : List ℕ) → Writes x 2 text y → x.channel ≡ None → y.channel ≡ None
written-off x y text (inl (bad, told)) none = ap (λ (v : View). v.channel) told ∙ none
written-off x y text (inr (has, go)) none = absurd (has (λ on. none-some on.0 (sym none ∙ on.1.0)))

pub known-written : {D T E : Type 0} (S : History D) (d e : Seen D) (r : Result T E) (text : List ℕ)
    (known : Option ShopFile) → Serves S d e r
    → OnOk r (Writes (view_of S d) 2 text (view_of S e)) → (d.dead ≡ false → IsKnownOn S d known) → e.dead ≡ false
    → IsKnownOn S e known
known-written S d e (Err x) text known serves row h alive = absurd (false≢true (sym alive ∙ serves.dies.1 refl))
known-written S d e (Ok x) text None serves row h alive = written-off (view_of S d) (view_of S e) text row
    (h (alive-before S d e x serves))
known-written S d e (Ok x) text (Some file) serves row h alive =
    written-on S d e text file row (h (alive-before S d e x serves))
