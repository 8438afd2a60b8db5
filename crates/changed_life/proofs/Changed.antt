-- What the changes leave of the first closed relative file of a name.
use Rattle.std.proofs.Common.{◌≡◌, ◌≢◌, ◌≤◌, ◌+◌, ◌-◌, ◌∙◌, ◌++◌, ◌∷◌, ℕ, Bool, false, List, [], Some, ap, append_assoc, length-append, arith, drop, inl, inr, length, map, option_map, refl, slice_get, subst, suc, sym, take, true}
use Rattle.std.specs.Prelude.{Contains, codes, filter, flat_map, replicate, slice_range}
use Rattle.std.proofs.lemmas.Bool.{cases_lt, false≢true}
use Rattle.std.proofs.lemmas.List.{drop_at, length-drop, length-replicate, length-take, length-take-le, map-append, set_split, take_at}
use Rattle.std.proofs.lemmas.Option.{same_Some, slice_get-map}
use Rattle.std.proofs.lemmas.List.Elements.{Contains-append_left, Contains-append_right}
use Rattle.d64_image.specs.History.{History}
use Rattle.d64_image.specs.Images.{Image, IsImage, put, sector}
use Rattle.d64_image.specs.Offsets.{overwritten}
use Rattle.d64_image.specs.declared.place.Place.{Place}
use Rattle.d64_image.specs.Memory.{disk_image, memory, sectors_in}
use Rattle.damaged_files.specs.declared.sides.planning.Loss.{Loss}
use Rattle.damaged_files.specs.declared.sides.planning.Loss.TheVariants.{Accepted, Refused}
use Rattle.disk_changes.proofs.UnsoundArt.{sound-artless}
use Rattle.disk_changes.specs.Changes.{IsChanged, IsDoneBy, IsFit}
use Rattle.disk_changes.specs.Copies.{HasLockOf, IsCopyAs, IsEmptyCopyOf, IsRecordCopyOf}
use Rattle.disk_changes.specs.Empties.{IsEmptied}
use Rattle.disk_changes.specs.Rebuilds.{IsBuiltAnew, IsRebuilt}
use Rattle.disk_changes.specs.declared.changes.Lock.TheVariants.{Set}
use Rattle.changed_life.proofs.Rebuilt.{built-keeps, named-same}
use Rattle.changed_life.proofs.Settled.{settled-keeps}
use Rattle.disk_changes.specs.Deletes.{IsDeleted}
use Rattle.disk_changes.specs.GeosPuts.{IsGeosPut}
use Rattle.disk_changes.specs.Judged.{IsSoundDisk}
use Rattle.disk_changes.specs.Makes.{IsMade}
use Rattle.disk_changes.specs.Puts.{IsPut}
use Rattle.disk_changes.specs.Renames.{IsRenamed}
use Rattle.disk_changes.specs.Repairs.{IsMended, IsRepaired, frees}
use Rattle.disk_changes.specs.ShopFiles.{HasShopFile, IsRelativeOf, IsShopSlot}
use Rattle.disk_changes.specs.Stores.{IsStored, IsStoredAs}
use Rattle.disk_changes.specs.declared.changes.Change.{Change}
use Rattle.disk_changes.specs.declared.changes.ChangeKind.{ChangeKind}
use Rattle.disk_changes.specs.declared.changes.ChangeKind.TheVariants as kinds
use Rattle.disk_changes.specs.declared.changes.Changed.{Changed}
use Rattle.disk_changes.specs.declared.changes.Columns.{Columns}
use Rattle.disk_changes.specs.declared.changes.Columns.TheVariants as columns
use Rattle.disk_layout.proofs.lemmas.chains.Chains.{AgreeAt}
use Rattle.disk_layout.proofs.lemmas.layouts.Agree.{IsLayout-put_map, map-unowned, owned-block, stays-agree}
use Rattle.disk_layout.proofs.lemmas.layouts.Exact.{get-lt}
use Rattle.disk_layout.proofs.lemmas.layouts.Frames.{unless-same}
use Rattle.disk_layout.proofs.lemmas.layouts.Layouts.{IsLayout-one, get-contains}
use Rattle.disk_layout.proofs.lemmas.lists.Once.{Contains-cases, Contains-here, Contains-there, flat_map-in}
use Rattle.disk_layout.specs.Directory.{map_place}
use Rattle.disk_layout.specs.Layout.{File, IsLayout, Layout, file_owns, is_rel_type, owners, record_length}
use Rattle.disk_layout.specs.Records.{records}
use Rattle.disk_layout.specs.Rest.{IsFirst, IsNamed, slot_name}
use Rattle.disk_layout.specs.Same.{AddsFile, Stays, stays_of}
use Rattle.disk_layout.specs.declared.slot.Slot.{Slot}
use Rattle.file_changes.proofs.Renamed.{length-name}
use Rattle.file_changes.proofs.Reslotted.{split, unowned}
use Rattle.file_changes.specs.Deletes.{HasLost}
use Rattle.file_changes.specs.Entries.{IsFirstNamed, entries_of, renamed, with_file, without_file}
use Rattle.file_changes.specs.Names.{name_bytes}
use Rattle.file_changes.specs.Puts.{type_number}
use Rattle.file_changes.specs.declared.file_type.FileType.{FileType}
use Rattle.file_changes.specs.declared.file_type.FileType.TheVariants.{Prg, Seq, Usr}
use Rattle.host_session.proofs.lemmas.writing.SameEntries.{first-kept as still-first, records-same}
use Rattle.host_session.proofs.lemmas.writing.Mended.{on-repair, stay-length, stay-records}
use Rattle.host_session.proofs.lemmas.shop.Shops.{IsShop-one}
use Rattle.host_session.specs.shop.Shop.{IsShop, Shop}
use Rattle.layout_check.specs.Mended as layouts
use Rattle.shop_life.proofs.Kept.{kept}
use Rattle.shop_life.proofs.Later.{at_the_end, begins_at}
use Rattle.shop_life.specs.Chapters.{IsChapter, KeepsCards}
use Rattle.shop_life.specs.Lives.{IsLife, Step, disk_at, off, shop_after, went_all}
use Rattle.shop_life.specs.Lives as lives
use Rattle.shop_life.specs.OneList.{counted_from}
use Rattle.changed_life.specs.Changes.{KeepsRecords, KeepsShops, SparesCards}
use Rattle.changed_life.proofs.Entries.{one-more}
use Rattle.d64_image.specs.declared.mem_disk.MemDisk.{MemDisk}
use Rattle.disk_changes.specs.Sorts.{IsSorted}
use Rattle.disk_changes.specs.Undeletes.{IsKeptRight, IsUndeleted, entry_number, with_type}
use Rattle.disk_changes.specs.declared.entry_types.EntryType.{EntryType}
use Rattle.changed_life.proofs.Locked.{locked-keeps}
use Rattle.changed_life.proofs.Laid.{laid-keeps}
use Rattle.changed_life.proofs.OneByte.{sectors-full}
use Rattle.changed_life.proofs.Sorted.{sorted-keeps}
use Rattle.changed_life.proofs.Undeleted.{undeleted-keeps}
use Rattle.disk_changes.specs.Locks.{IsLockSet, with_lock}
use Rattle.disk_changes.specs.declared.changes.Lock.{Lock}
use Rattle.changed_life.proofs.Firsts.{file-at, first-kept, is_of, not-entry, stays-tell}
use Rattle.changed_life.proofs.Shops.{kept-shop}

-- where the files of the name are the same
records-kept : (a c : Image) (l m : Layout) (name : List ℕ) (L : ℕ) (n : ℕ) (f : File)
    → filter (is_of name) (map (stays_of c) m.files) ≡ filter (is_of name) (map (stays_of a) l.files) → IsFirst l name n f
    → record_length f.slot ≡ L
    → (k : ℕ) × (g : File) × IsFirst m name k g × (record_length g.slot ≡ L) × (records c g ≡ records a f)
records-kept a c l m name L n f same first long =
    let r = first-kept (is_of name) (stays_of a) (stays_of c) l m name (stays-tell a name) (stays-tell c name) same n f first in
    (r.0, r.1, r.2, stay-length a c f r.1 r.3 ∙ long, stay-records a c f r.1 r.3)

added : (a c : Image) (l m : Layout) (x : File) (name : List ℕ) → AddsFile a c l m x → ¬ (IsNamed name x)
    → filter (is_of name) (map (stays_of c) m.files) ≡ filter (is_of name) (map (stays_of a) l.files)
added a c l m x name adds other = ap (filter (is_of name)) adds.has
    ∙ one-more (is_of name) adds.before adds.after (stays_of c x) (not-entry name x other)
    ∙ sym (ap (filter (is_of name)) adds.had)

-- a file that is put isn't relative
plain-type : (kind : FileType) → is_rel_type (type_number kind) ≡ false
plain-type Seq = refl
plain-type Prg = refl
plain-type Usr = refl

pub put-keeps : (image name : List ℕ) (kind : FileType) (content : List ℕ) (cut : Loss) (made : Changed)
    → IsPut image name kind content cut made → KeepsShops (sectors_in image) (disk_image made.disk)
put-keeps image name kind content cut made x =
    kept-shop (sectors_in image) (disk_image made.disk) x.before.layout x.after.layout x.before.usable.clean.layout
    x.after.sound (keeps (codes "STOCK") 18) (keeps (codes "REQUESTS") 127)
  where
    other : (of : List ℕ) → ¬ (IsNamed of x.after.file)
    other of named = false≢true (sym (ap is_rel_type x.after.kind_is ∙ plain-type kind) ∙ named.0)

    keeps : (of : List ℕ) (L : ℕ) → KeepsRecords (sectors_in image) (disk_image made.disk) x.before.layout x.after.layout of L
    keeps of L n f first long = records-kept (sectors_in image) (disk_image made.disk) x.before.layout x.after.layout of L
        n f (added (sectors_in image) (disk_image made.disk) x.before.layout x.after.layout x.after.file of x.after.adds
        (other of)) first long

pub make-keeps : (image name : List ℕ) (size : ℕ) (cut : Loss) (made : Changed) → IsMade image name size cut made
    → KeepsShops (sectors_in image) (disk_image made.disk)
make-keeps image name size cut made x =
    kept-shop (sectors_in image) (disk_image made.disk) x.before.layout x.after.layout x.before.usable.clean.layout
    x.after.sound (keeps (codes "STOCK") 18) (keeps (codes "REQUESTS") 127)
  where
    -- its name was free, and the other isn't
    other : (of : List ℕ) (n : ℕ) (f : File) → IsFirst x.before.layout of n f → ¬ (IsNamed of x.after.file)
    other of n f first named = x.free (
      f,
      get-contains x.before.layout.files n f first.file,
      first.named.1 ∙ sym named.1 ∙ x.after.named.1,
    )

    keeps : (of : List ℕ) (L : ℕ) → KeepsRecords (sectors_in image) (disk_image made.disk) x.before.layout x.after.layout of L
    keeps of L n f first long = records-kept (sectors_in image) (disk_image made.disk) x.before.layout x.after.layout of L
        n f (added (sectors_in image) (disk_image made.disk) x.before.layout x.after.layout x.after.file of x.after.adds
        (other of n f first)) first long

-- a disk that is mended is the same shop's
mended-stays : (image : List ℕ) (free : Bool) (made : Changed) (s : Shop) → IsMended image free made
    → IsShop (sectors_in image) s → IsShop (disk_image made.disk) s
mended-stays image free made s x shop =
    let mended = x.mended in
    let old = sectors_in image in
    let new = disk_image made.disk in
    let h = shop.has in
    let same : mended.before ≡ h.layout = IsLayout-one old mended.before h.layout mended.sound h.is_layout in
    let from : layouts.IsMended old h.layout new = subst (λ (l : Layout). layouts.IsMended old l new) same (record {
      layout = mended.after;
      sound = mended.clean.layout;
      same = mended.same;
    }) in
    record { files = shop.files; has = on-repair old new shop.files h from; records = shop.records; is = shop.is }

pub repair-stays : (image : List ℕ) (free : Bool) (made : Changed) (s : Shop) → IsRepaired image free Refused made
    → IsShop (sectors_in image) s → IsShop (disk_image made.disk) s
repair-stays image free made s x = mended-stays image free made s x.2

mended-keeps : (image : List ℕ) (free : Bool) (made : Changed) → IsMended image free made
    → KeepsShops (sectors_in image) (disk_image made.disk)
mended-keeps image free made x s shop = (s, mended-stays image free made s x shop, (refl, refl))

-- one change after another
keeps-both : (a b c : Image) → KeepsShops a b → KeepsShops b c → KeepsShops a c
keeps-both a b c first second s shop =
    let r = first s shop in
    let t = second r.0 r.1 in
    (t.0, t.1, (t.2.0 ∙ r.2.0, t.2.1 ∙ r.2.1))

-- files whose sectors are the same stay
stays-all : (a c : Image) (fs : List File) → ((g : File) → Contains fs g → AgreeAt a c g.blocks)
    → map (stays_of c) fs ≡ map (stays_of a) fs
stays-all a c [] same = refl
stays-all a c (f ∷ fs) same =
    let here : stays_of a f ≡ stays_of c f = stays-agree a c f (same f (Contains-here f fs)) in
    let rest = stays-all a c fs (λ g own. same g (Contains-there g f fs own)) in
    λ i. sym here i ∷ rest i

-- a disk on which nothing but 18/0 was written: no file owns that
map-keeps : (image bytes : List ℕ) (made : Changed) → IsSoundDisk image
    → disk_image made.disk ≡ put (sectors_in image) map_place bytes → KeepsShops (sectors_in image) (disk_image made.disk)
map-keeps image bytes made before after =
    let a = sectors_in image in
    let c = disk_image made.disk in
    let l = before.layout in
    let is : IsLayout c l = subst (λ (i : Image). IsLayout i l) (sym after) (IsLayout-put_map a l bytes before.sound) in
    let same : (g : File) → Contains l.files g → AgreeAt a c g.blocks =
    λ g own p there. unless-same a map_place p bytes (λ e. map-unowned a l before.sound
    (subst (λ (q : Place). Contains (owners l) q) (sym e) (owned-block l g p own there)))
    ∙ ap (λ (i : Image). sector i p) (sym after) in
    let stays = stays-all a c l.files same in
    kept-shop a c l l before.sound is
    (λ n f first long. records-kept a c l l (codes "STOCK") 18 n f (ap (filter (is_of (codes "STOCK"))) stays) first long)
    (λ n f first long. records-kept a c l l (codes "REQUESTS") 127 n f (ap (filter (is_of (codes "REQUESTS"))) stays) first
    long)

-- The first entry of a name that isn't one of a shop's files: no file of a shop has that entry.
module _ (image from : List ℕ) (l : Layout) (size : length image ≡ 174848) (sound : IsLayout (sectors_in image) l)
    (other : ¬ (HasShopFile image from)) (n : ℕ) (f : File) (at : slice_get l.files n ≡ Some f)
    (named : IsFirstNamed (entries_of l) (slot_name from) n f.slot) where
  entry-at : (k : ℕ) (g : File) → slice_get l.files k ≡ Some g → slice_get (entries_of l) k ≡ Some g.slot
  entry-at k g there = slice_get-map (λ (x : File). x.slot) l.files k ∙ ap (option_map (λ (x : File). x.slot)) there

  pub not-shops : (name : List ℕ) (L : ℕ) → ((s : Slot) → IsRelativeOf name L s → IsShopSlot s) → (k : ℕ) (g : File)
      → IsFirst l name k g → record_length g.slot ≡ L → ¬ (IsNamed name f)
  not-shops name L shops k g first long is = elim (cases_lt k n) [
    | inl lt ↦ named.first k g.slot lt (entry-at k g first.file) (first.named.1 ∙ sym is.1 ∙ named.named)
    | inr le ↦ elim (cases_lt n k) [
      | inl lt ↦ first.first n f lt at is
      | inr ge ↦
          let same : k ≡ n = omega (arith, le, ge) in
          let one : g ≡ f = same_Some g f (sym first.file ∙ ap (slice_get l.files) same ∙ at) in
          other (record {
            size = size;
            sectors = l.directory;
            entries = entries_of l;
            directory = sound.directory;
            number = n;
            slot = f.slot;
            there = entry-at n f at;
            shop = (
              named.named,
              shops f.slot (is.0, sym (ap (λ (x : File). record_length x.slot) one) ∙ long, is.1),
            );
          })
    ]
  ]

-- among these and one more
with-one : (g : File) (before : List File) (f : File) (behind : List File) → Contains (before ++ behind) g
    → Contains (before ++ f ∷ behind) g
with-one g [] f behind own = Contains-there g f behind own
with-one g (b ∷ before) f behind own = elim (Contains-cases g b (before ++ behind) own) [
  | inl e ↦ subst (λ (y : File). Contains (y ∷ before ++ f ∷ behind) g) (sym e) (Contains-here g (before ++ f ∷ behind))
  | inr rest ↦ Contains-there g b (before ++ f ∷ behind) (with-one g before f behind rest)
]

-- a file less
module _ (image name : List ℕ) (cut : Loss) (made : Changed) (x : IsDeleted image name cut made) where
  abbrev a : Image
  a = sectors_in image

  abbrev c : Image
  c = disk_image made.disk

  abbrev l : Layout
  l = x.before.layout

  abbrev lost : HasLost (sectors_in image) x.before.layout name (disk_image made.disk)
  lost = x.after.lost

  abbrev m : Layout
  m = without_file x.before.layout x.after.lost.number

  sound : IsLayout (sectors_in image) x.before.layout
  sound = x.before.usable.clean.layout

  abbrev front : List File
  front = take x.after.lost.number x.before.layout.files

  abbrev behind : List File
  behind = drop (suc x.after.lost.number) x.before.layout.files

  same : (g : File) → Contains l.files g → AgreeAt a c g.blocks
  same g own p there = sym (lost.without.elsewhere p
      (λ e. map-unowned a l sound (subst (λ (q : Place). Contains (owners l) q) e (owned-block l g p own there)))
      (λ e. unowned a l lost.number lost.file sound lost.of.file
      (subst (λ (q : Place). Contains (flat_map file_owns l.files) q) e
      (flat_map-in file_owns l.files g p own (Contains-append_left g.blocks g.sides p there)))))

  parts : l.files ≡ front ++ lost.file ∷ behind
  parts = split a l lost.number lost.file sound lost.of.file

  had : map (stays_of a) l.files ≡ map (stays_of a) front ++ stays_of a lost.file ∷ map (stays_of a) behind
  had = ap (map (stays_of a)) parts ∙ map-append (stays_of a) front (lost.file ∷ behind)

  has : map (stays_of c) m.files ≡ map (stays_of a) front ++ map (stays_of a) behind
  has = stays-all a c m.files (λ g own. same g (subst (λ (fs : List File). Contains fs g) (sym parts)
      (with-one g front lost.file behind own)))
      ∙ map-append (stays_of a) front behind

  keeps : (of : List ℕ) (L : ℕ) → ((s : Slot) → IsRelativeOf of L s → IsShopSlot s) → KeepsRecords a c l m of L
  keeps of L shops n f first long =
      let out = not-entry of lost.file (not-shops image name l x.before.taken.0 sound x.other lost.number lost.file
      lost.of.file lost.of.first of L shops n f first long) in
      records-kept a c l m of L n f (ap (filter (is_of of)) has
      ∙ sym (one-more (is_of of) (map (stays_of a) front) (map (stays_of a) behind) (stays_of a lost.file) out)
      ∙ sym (ap (filter (is_of of)) had)) first long

  pub delete-keeps : KeepsShops (sectors_in image) (disk_image made.disk)
  delete-keeps = kept-shop a c l m sound lost.without.layout (keeps (codes "STOCK") 18 (λ s is. inl is))
      (keeps (codes "REQUESTS") 127 (λ s is. inr is))

-- the name in an entry that was written over
name-now : (bytes ys : List ℕ) → 5 ≤ length bytes → length ys ≡ 16 → slice_range (overwritten bytes 5 ys) 5 21 ≡ ys
name-now bytes ys long size =
    ap (λ (zs : List ℕ). take 16 (drop 5 zs)) (append_assoc (take 5 bytes) ys (drop (5 + length ys) bytes))
    ∙ ap (take 16) (drop_at (take 5 bytes) (ys ++ drop (5 + length ys) bytes) 5 (length-take-le 5 bytes long))
    ∙ take_at ys (drop (5 + length ys) bytes) 16 size

-- an entry with a padded name is long enough for one
entry-long : (bytes from : List ℕ) → slice_range bytes 5 21 ≡ slot_name from → 5 ≤ length bytes
entry-long bytes from e =
    let size : length (take 16 (drop 5 bytes)) ≡ length from + (16 - length from) = ap length e
    ∙ length-append from (replicate (16 - length from) 160)
    ∙ ap (λ (n : ℕ). length from + n) (length-replicate {A = ℕ} (16 - length from) 160) in
    omega (arith, size, length-take 16 (drop 5 bytes), length-drop 5 bytes)

-- a file with another name
module _ (image from to : List ℕ) (few : length to ≤ 16) (made : Changed) (x : IsRenamed image from to made) where
  abbrev old-image : Image
  old-image = sectors_in image

  abbrev new-image : Image
  new-image = disk_image made.disk

  abbrev old-layout : Layout
  old-layout = x.before.layout

  abbrev one : File
  one = x.after.file

  abbrev now : File
  now = renamed x.after.file to

  abbrev new-layout : Layout
  new-layout = with_file x.before.layout x.after.number (renamed x.after.file to)

  abbrev those-before : List File
  those-before = take x.after.number x.before.layout.files

  abbrev those-behind : List File
  those-behind = drop (suc x.after.number) x.before.layout.files

  split-old : old-layout.files ≡ those-before ++ one ∷ those-behind
  split-old = split old-image old-layout x.after.number one x.before.sound x.after.of.file

  split-new : new-layout.files ≡ those-before ++ now ∷ those-behind
  split-new = set_split old-layout.files x.after.number now
      (get-lt old-layout.files x.after.number one x.after.of.file)

  kept-at : (g : File) → Contains (those-before ++ those-behind) g → AgreeAt old-image new-image g.blocks
  kept-at g own p there = sym (x.after.done.files g p
      (subst (λ (fs : List File). Contains fs g) (sym split-old) (with-one g those-before one those-behind own))
      (Contains-append_left g.blocks g.sides p there))

  stays-new : map (stays_of new-image) new-layout.files ≡ map (stays_of old-image) those-before
      ++ stays_of new-image now ∷ map (stays_of old-image) those-behind
  stays-new = ap (map (stays_of new-image)) split-new
      ∙ map-append (stays_of new-image) those-before (now ∷ those-behind)
      ∙ ap (λ (ss : List Stays). ss ++ stays_of new-image now ∷ map (stays_of new-image) those-behind)
      (stays-all old-image new-image those-before (λ g own. kept-at g (Contains-append_left those-before those-behind g own)))
      ∙ ap (λ (ss : List Stays). map (stays_of old-image) those-before ++ stays_of new-image now ∷ ss)
      (stays-all old-image new-image those-behind (λ g own. kept-at g (Contains-append_right those-before those-behind g own)))

  stays-old : map (stays_of old-image) old-layout.files ≡ map (stays_of old-image) those-before
      ++ stays_of old-image one ∷ map (stays_of old-image) those-behind
  stays-old = ap (map (stays_of old-image)) split-old ∙ map-append (stays_of old-image) those-before (one ∷ those-behind)

  -- its new name
  is-named : slice_range now.slot.bytes 5 21 ≡ slot_name to
  is-named = name-now one.slot.bytes (slot_name to) (entry-long one.slot.bytes from x.after.of.first.named)
      (length-name to few)

  kept-files : (of : List ℕ) (L : ℕ) → ((s : Slot) → IsRelativeOf of L s → IsShopSlot s)
      → KeepsRecords old-image new-image old-layout new-layout of L
  kept-files of L shops n f first long =
      let was = not-entry of one (not-shops image from old-layout x.before.size x.before.sound x.other x.after.number
      one x.after.of.file x.after.of.first of L shops n f first long) in
      let is = not-entry of now (λ named. x.after.of.free n f.slot
      (slice_get-map (λ (y : File). y.slot) old-layout.files n ∙ ap (option_map (λ (y : File). y.slot)) first.file)
      (first.named.1 ∙ sym named.1 ∙ is-named)) in
      let xs = map (stays_of old-image) those-before in
      let ys = map (stays_of old-image) those-behind in
      records-kept old-image new-image old-layout new-layout of L n f (ap (filter (is_of of)) stays-new
      ∙ one-more (is_of of) xs ys (stays_of new-image now) is
      ∙ sym (one-more (is_of of) xs ys (stays_of old-image one) was) ∙ sym (ap (filter (is_of of)) stays-old)) first long

  pub rename-keeps : KeepsShops (sectors_in image) (disk_image made.disk)
  rename-keeps = kept-shop old-image new-image old-layout new-layout x.before.sound x.after.done.layout
      (kept-files (codes "STOCK") 18 (λ s is. inl is)) (kept-files (codes "REQUESTS") 127 (λ s is. inr is))

-- a file locked or unlocked
pub lock-keeps : (image name : List ℕ) (lock : Lock) (made : Changed) → IsLockSet image name lock made
    → KeepsShops (sectors_in image) (disk_image made.disk)
lock-keeps image name lock made x =
    let l = x.before.layout in
    let f = file-at {X = Slot} (λ _. true) (λ (g : File). g.slot) l.files x.number x.entry x.first.there in
    let named : IsFirstNamed (entries_of l) (slot_name name) x.number f.0.slot = subst
    (λ (s : Slot). IsFirstNamed (entries_of l) (slot_name name) x.number s) (sym f.2) x.first in
    subst (KeepsShops (sectors_in image)) (sym (x.after ∙ ap (λ (s : Slot). with_lock (sectors_in image) s lock) (sym f.2)))
    (locked-keeps image l x.number f.0 lock x.before.size x.before.sound f.1
    (λ of L i y shops. not-shops image name l x.before.size x.before.sound x.other x.number f.0 f.1 named of L shops i y))

-- the directory in another order
pub sort-keeps : (image : List ℕ) (made : Changed) → IsSorted image made → KeepsShops (sectors_in image) (disk_image made.disk)
sort-keeps image made x = subst (KeepsShops (sectors_in image)) (sym x.after)
    (sorted-keeps image x.bytes x.before.layout x.sound.layout x.before.size x.before.sound x.sound.sound x.reordered)

-- a deleted file that is a file again
pub undelete-keeps : (image name : List ℕ) (kind : EntryType) (cut : Loss) (made : Changed) → IsUndeleted image name kind cut made
    → KeepsShops (sectors_in image) (disk_image made.disk)
undelete-keeps image name kind cut made x =
    let r = x.retyped in
    let a = sectors_in image in
    let mended = kept-right x.bytes cut x.second x.repaired in
    let m = mended.mended.before in
    let is : IsLayout (with_type a r.entry kind) m = subst (λ (i : Image). IsLayout i m) r.is mended.mended.sound in
    let first : KeepsShops a (sectors_in x.bytes) = subst (KeepsShops a) (sym r.is)
    (undeleted-keeps image name r.before.layout r.entry (entry_number kind) r.before.size r.before.sound r.of m is) in
    subst (λ (d : MemDisk). KeepsShops a (disk_image d)) (sym x.disk)
    (keeps-both a (sectors_in x.bytes) (disk_image x.second.disk) first (mended-keeps x.bytes false x.second mended))
  where
    kept-right : (bytes : List ℕ) (cut : Loss) (second : Changed) → IsKeptRight bytes cut second → IsMended bytes false second
    kept-right bytes Refused second y = y.2
    kept-right bytes Accepted second y = y

-- records stored in a file of another name
pub store-keeps : (image name given : List ℕ) (cut : Loss) (made : Changed) → IsStored image name given cut made
    → slot_name name ≢ slot_name (codes "STOCK") → slot_name name ≢ slot_name (codes "REQUESTS")
    → KeepsShops (sectors_in image) (disk_image made.disk)
store-keeps image name given cut made x no-stock no-requests =
    kept-shop (sectors_in image) (disk_image made.disk) x.before.layout x.has.layout x.before.usable.clean.layout
    x.has.is_layout (keeps (codes "STOCK") 18 no-stock) (keeps (codes "REQUESTS") 127 no-requests)
  where
    keeps : (of : List ℕ) (L : ℕ) → slot_name name ≢ slot_name of
        → KeepsRecords (sectors_in image) (disk_image made.disk) x.before.layout x.has.layout of L
    keeps of L ne n f first long =
        let o = x.has.others in
        let away : n ≢ x.number = λ e. ne (sym x.first.named.1
        ∙ ap (λ (g : File). slice_range g.slot.bytes 5 21) (same_Some x.file f (sym x.first.file
        ∙ ap (slice_get x.before.layout.files) (sym e) ∙ first.file))
        ∙ first.named.1) in (
          n,
          f,
          still-first x.before.layout x.has.layout of n f f o.entries first (o.files n f away first.file),
          long,
          records-same (sectors_in image) (disk_image made.disk) f (o.bytes n f away first.file),
        )

-- a file that may be locked then
lock-after : (a : Image) (entry : Slot) (to : List ℕ) (first : Changed) (disk : MemDisk)
    → KeepsShops a (disk_image first.disk) → HasLockOf entry to first disk → KeepsShops a (disk_image disk)
lock-after a entry to first disk keeps (inl (unlocked, same)) = subst (λ (d : MemDisk). KeepsShops a (disk_image d)) (sym same) keeps
lock-after a entry to first disk keeps (inr (locked, bytes, held, (second, is, same))) =
    subst (λ (d : MemDisk). KeepsShops a (disk_image d)) (sym same)
    (keeps-both a (sectors_in bytes) (disk_image second.disk) (subst (KeepsShops a) (sym held) keeps)
    (lock-keeps bytes to Set second is))

-- records copied into a new file: its name is no shop's, because those files are there
records-copied : (entry : Slot) (given to image : List ℕ) (cut : Loss) (made : Changed)
    → IsRecordCopyOf entry given to image cut made → KeepsShops (sectors_in image) (disk_image made.disk)
records-copied entry given to image cut made x s shop =
    let a = sectors_in image in
    let l = x.new.before.layout in
    let h = shop.has in
    let same : h.layout ≡ l = IsLayout-one a h.layout l h.is_layout x.new.before.usable.clean.layout in
    let other : (name : List ℕ) (n : ℕ) (f : File) → IsFirst h.layout name n f → slot_name to ≢ slot_name name =
    λ name n f first e.
    let one = subst (λ (k : Layout). IsFirst k name n f) same first in
    x.new.free (f, get-contains l.files n f one.file, one.named.1 ∙ sym e) in
    let filled : KeepsShops a (disk_image x.second.disk) = keeps-both a (sectors_in x.bytes) (disk_image x.second.disk)
    (subst (KeepsShops a) (sym x.held) (make-keeps image to (record_length entry) cut x.first x.new))
    (store-keeps x.bytes to given cut x.second x.filled
    (other (codes "STOCK") h.stock_place h.stock_file h.stock_first)
    (other (codes "REQUESTS") h.requests_place h.requests_file h.requests_first)) in
    lock-after a entry to x.second made.disk filled x.lock s shop

-- a file that gives its block back
emptied-keeps : (b : Image) (l : Layout) (name : List ℕ) (made : Changed) → IsImage b → IsLayout b l
    → IsEmptied b l name (disk_image made.disk) → KeepsShops b (disk_image made.disk)
emptied-keeps b l name made whole sound x = keeps-both b (sectors_in x.bytes) (disk_image made.disk)
    (laid-keeps b l name x.slot (sectors_in x.bytes) whole (sectors-full x.bytes) sound (record {
      named = x.named;
      blocks = x.block ∷ [];
      last = x.last;
      reached = x.one;
      middle = b;
      beside = λ q not. refl;
      entry = x.entry;
      is = x.is;
    }) x.empty.plain x.sound.layout x.sound.sound)
    (map-keeps x.bytes x.given.0 made x.sound x.given.2)

empty-copied : (entry : Slot) (to image : List ℕ) (cut : Loss) (made : Changed)
    → IsEmptyCopyOf entry to image cut made → KeepsShops (sectors_in image) (disk_image made.disk)
empty-copied entry to image cut made x =
    let a = sectors_in image in
    let b = disk_image x.first.disk in
    lock-after a entry to x.second made.disk (keeps-both a b (disk_image x.second.disk)
    (put-keeps image to x.kind [] cut x.first x.put)
    (emptied-keeps b x.put.after.layout to x.second (memory.whole x.first.disk) x.put.after.sound x.empty)) x.lock

copied-as : (entry : Slot) (content source name to image : List ℕ) (cut : Loss) (made : Changed)
    → IsCopyAs entry content source name to image cut made → KeepsShops (sectors_in image) (disk_image made.disk)
copied-as entry content source name to image cut made (inl (plain, inl (none, x))) = empty-copied entry to image cut made x
copied-as entry content source name to image cut made (inl (plain, inr (some, x))) =
    lock-after (sectors_in image) entry to x.first made.disk (put-keeps image to x.kind content cut x.first x.put) x.lock
copied-as entry content source name to image cut made (inr (relative, given, text, x)) =
    records-copied entry given to image cut made x

-- lines stored by their columns, typed ones as the lines that are made of them
stored-as-keeps : (columns : Columns) (image name given : List ℕ) (cut : Loss) (made : Changed)
    → IsStoredAs columns image name given cut made
    → slot_name name ≢ slot_name (codes "STOCK") → slot_name name ≢ slot_name (codes "REQUESTS")
    → KeepsShops (sectors_in image) (disk_image made.disk)
stored-as-keeps columns.One image name given cut made x = store-keeps image name given cut made x
stored-as-keeps (columns.Several form) image name given cut made x = store-keeps image name given cut made x
stored-as-keeps (columns.Text set) image name given cut made (text, typed, x) = store-keeps image name text cut made x

-- a disk repaired, whether or not a loss is accepted
repair-keeps : (image : List ℕ) (free : Bool) (cut : Loss) (made : Changed) → IsRepaired image free cut made
    → KeepsShops (sectors_in image) (disk_image made.disk)
repair-keeps image free Refused made x = mended-keeps image free made x.2
repair-keeps image free Accepted made x =
    let a = sectors_in image in
    let m = x.mended.mended in
    subst (KeepsShops a) (sym x.disk) (keeps-both a (sectors_in x.bytes) (disk_image x.second.disk)
    (settled-keeps image x.bytes m.before x.size x.settled m.sound) (mended-keeps x.bytes free x.second x.mended))

-- side sectors built anew, and then that
anew-keeps : (image : List ℕ) (free : Bool) (cut : Loss) (made : Changed) → IsBuiltAnew image free cut made
    → KeepsShops (sectors_in image) (disk_image made.disk)
anew-keeps image free cut made x s shop =
    let a = sectors_in image in
    let first : KeepsShops a (sectors_in x.bytes) =
    built-keeps a (sectors_in x.bytes) shop.has.layout shop.has.is_layout x.built.2 in
    subst (λ (d : MemDisk). KeepsShops a (disk_image d)) (sym x.disk)
    (keeps-both a (sectors_in x.bytes) (disk_image x.second.disk) first
    (repair-keeps x.bytes free cut x.second x.repaired)) s shop

rebuild-keeps : (image : List ℕ) (free : Bool) (cut : Loss) (made : Changed) → IsRebuilt image free cut made
    → KeepsShops (sectors_in image) (disk_image made.disk)
rebuild-keeps image free cut made (inl x) = anew-keeps image free cut made x
rebuild-keeps image free cut made (inr x) = λ s shop.
    let a = sectors_in image in
    let same : sectors_in x.bytes ≡ a = named-same a (sectors_in x.bytes) shop.has.layout shop.has.is_layout x.named in
    subst (λ (d : MemDisk). KeepsShops a (disk_image d)) (sym x.disk)
    (subst (λ (i : Image). KeepsShops i (disk_image x.second.disk)) same
    (anew-keeps x.bytes free cut x.second x.built)) s shop

-- a file of GEOS is put there as one chain, and then made of that
geos-put-keeps : (image name cvt : List ℕ) (cut : Loss) (made : Changed) → IsGeosPut image name cvt cut made
    → KeepsShops (sectors_in image) (disk_image made.disk)
geos-put-keeps image name cvt cut made x =
    let a = sectors_in image in
    let b = disk_image x.first.disk in
    let c = sectors_in x.laid.bytes in
    subst (KeepsShops a) (sym x.laid.after) (keeps-both a b c (put-keeps image name Usr x.content cut x.first x.put)
    (laid-keeps b x.put.after.layout name x.laid.slot c (memory.whole x.first.disk) (sectors-full x.laid.bytes) x.put.after.sound
    x.laid.laid x.laid.entry.plain x.laid.sound.layout x.laid.sound.sound))

-- What comes of a change.
done-keeps : (kind : ChangeKind) (loss : Loss) (source image : List ℕ) (made : Changed) → IsFit kind → SparesCards kind
    → IsDoneBy kind loss source image made → KeepsShops (sectors_in image) (disk_image made.disk)
done-keeps (kinds.Repair unowned) loss source image made fit spares done = repair-keeps image (frees unowned) loss made done
done-keeps (kinds.RepairSides unowned) loss source image made fit spares done = rebuild-keeps image (frees unowned) loss made done
done-keeps (kinds.Make L name) loss source image made fit spares done = make-keeps image (name_bytes name) L loss made done
done-keeps (kinds.Rename from to) loss source image made fit spares done =
    rename-keeps image (name_bytes from) (name_bytes to) fit made done
done-keeps (kinds.Title id name) loss source image made fit spares done =
    map-keeps image (overwritten (overwritten (sector (sectors_in image) map_place) 144 (slot_name (name_bytes name))) 162 id) made
    done.before done.after
done-keeps (kinds.Lock lock name) loss source image made fit spares done = lock-keeps image (name_bytes name) lock made done
done-keeps (kinds.Delete name) loss source image made fit spares done = delete-keeps image (name_bytes name) loss made done
done-keeps (kinds.Undelete kind name) loss source image made fit spares done =
    undelete-keeps image (name_bytes name) kind loss made done
done-keeps kinds.Sort loss source image made fit spares done = sort-keeps image made done
done-keeps (kinds.Put file kind name) loss source image made fit spares done =
    put-keeps image (name_bytes name) kind source loss made done
done-keeps (kinds.PutGeos file name) loss source image made fit spares done =
    geos-put-keeps image (name_bytes name) source loss made done
done-keeps (kinds.CopyFile from name to) loss source image made fit spares done =
    copied-as done.entry done.content source (name_bytes name) (name_bytes to) image loss made done.copy
done-keeps (kinds.Store records columns name) loss source image made fit spares done =
    stored-as-keeps columns image (name_bytes name) source loss made done spares.0 spares.1

-- a shop's disk has no art that would be put aside
pub changes-keep : (what : Change) (image : List ℕ) (made : Changed) → IsFit what.kind.now → SparesCards what.kind.now
    → IsChanged what image made → KeepsShops (sectors_in image) (disk_image made.disk)
changes-keep what image made fit spares (size, inl done) s shop =
    done-keeps what.kind.now what.loss what.source.now image made fit spares done s shop
changes-keep what image made fit spares (size, inr beside) s shop = absurd
    (sound-artless image beside.1.aside.entries (shop.has.layout, shop.has.is_layout) beside.1.aside.art)

-- a chapter that ends with it
pub chapter : {D : Type 0} (hist : History D) (s : Shop) (disk last next : D) (steps : List (Step D)) (what : Change)
    (image : List ℕ) (made : Changed) → IsShop (hist.image disk) s → IsLife hist (off disk) steps
    → went_all (off disk) steps ≡ off last → hist.image last ≡ sectors_in image → IsFit what.kind.now → SparesCards what.kind.now → IsChanged what image made
    → hist.image next ≡ disk_image made.disk
    → (t : Shop) × IsChapter hist disk (record { steps = steps; next = next; shop = t })
chapter hist s disk last next steps what image made shop life ended is fit spares changed after =
    let k = kept hist s [] (off disk) steps (begins_at hist s disk shop) life in
    let u = shop_after s (counted_from [] k.0) in
    let at : IsShop (hist.image last) u = subst (λ (p : lives.Place _). IsShop (hist.image (disk_at p)) u) ended
    (at_the_end hist s [] (off disk) steps k.0 (begins_at hist s disk shop) k.1).shop in
    let r = changes-keep what image made fit spares changed u (subst (λ (i : Image). IsShop i u) is at) in (
      r.0,
      record {
        life = life;
        last = last;
        ended = ended;
        kept = λ t here. subst (λ (v : Shop). KeepsCards v r.0) (IsShop-one (hist.image last) u t at here) r.2;
        changed = subst (λ (i : Image). IsShop i r.0) (sym after) r.1;
      },
    )
