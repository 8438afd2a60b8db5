-- A relative file found by its name: what a sound disk excludes, and what the slot says of its file.
use Rattle.std.proofs.lemmas.Bool.{false≢true}
use Rattle.std.proofs.Common.{[], ◌∷◌, Bool, IsTrue, List, ap₂, false, get_or, take, ◌++◌, Option, Some, IsSome, ap}
use Rattle.std.proofs.Common.{arith, inl, inr, length, length-append, map, refl, subst, sym, ℕ, ◌+◌, ◌*◌, ◌<◌, ◌∙◌, ◌≡◌}
use Rattle.std.proofs.Common.{◌≤◌}
use Rattle.std.proofs.lemmas.List.{take_more}
use Rattle.std.proofs.lemmas.Option.{slice_get-get_or, slice_get-map, slice_get_read, slice_get_within}
use Rattle.std.specs.Prelude.{Err, IfOk, Ok, Result, option_map, slice_get, slice_index}
use Rattle.d64_image.specs.History.{Failed, History}
use Rattle.d64_image.specs.Images.{Image, Sector, sector}
use Rattle.d64_image.specs.declared.place.Place.{Place}
use Rattle.disk_layout.proofs.lemmas.lists.Lists.{get-some, made-from}
use Rattle.disk_layout.proofs.lemmas.chains.Chains.{IsChain-one, bad_link-no_chain, loop-no_chain}
use Rattle.disk_layout.proofs.lemmas.chains.Names.{named-is}
use Rattle.disk_layout.proofs.lemmas.layouts.Layouts.{IsDirectory-one}
use Rattle.disk_layout.proofs.lemmas.layouts.Twice.{told-unsound}
use Rattle.disk_layout.specs.Chain.{IsChain, named_at}
use Rattle.disk_layout.specs.Directory.{IsDirectory}
use Rattle.disk_layout.specs.Fault.{HoldsOfChain, HoldsOfDirectory, TellsFault}
use Rattle.disk_layout.specs.Layout.{File, IsLayout, IsSound, Layout, record_length}
use Rattle.disk_layout.specs.Rest.{IsFirst, IsNamed}
use Rattle.disk_layout.specs.declared.faults.Fault.{Fault}
use Rattle.disk_layout.specs.declared.faults.Fault.TheVariants.{BadLength, BadLink, BadSide, BadType, CountWrong}
use Rattle.disk_layout.specs.declared.faults.Fault.TheVariants.{Device, Loop, MapWrong, OwnedTwice, Unclosed}
use Rattle.disk_layout.specs.declared.slot.Slot.{Slot}
use Rattle.rel_records.proofs.lemmas.reading.Opened.{rel-of}
use Rattle.rel_records.specs.File.{IsFileOf, Shows, entry_of}
use Rattle.rel_records.specs.declared.faults.RelFault.{RelFault}
use Rattle.rel_records.specs.declared.rel_file.RelFile.{RelFile}
use Rattle.rel_records.specs.reading.Named.{HasNoneNamed, HasRel, IsFirstNamed, IsNamedSlot, IsRelOf}
use Rattle.rel_records.specs.reading.Sides.{NamesEach}

-- a walk along a chain that is there fails by the device alone
pub chain-failed : {D : Type 0} (T : Type 0) (S : History D) (a b : D) (failed_at : Place → Type 0) (img : Image)
    (first : Place) (ps : List Place) (u : ℕ) (fault : Fault) → IsChain img first ps u
    → HoldsOfChain failed_at img first fault → TellsFault {T = T} S a b (Err fault) → Failed S a b
chain-failed T S a b failed_at img first ps u (BadLink p) chain (vs, visits, nowhere) tells =
    absurd (bad_link-no_chain img first p vs ps u visits.0 nowhere chain)
chain-failed T S a b failed_at img first ps u (Loop p) chain (vs, back) tells =
    absurd (loop-no_chain img first p vs ps u back.0 back.2 chain)
chain-failed T S a b failed_at img first ps u (Device p) chain h tells = tells
chain-failed T S a b failed_at img first ps u (OwnedTwice p) chain h tells = absurd h
chain-failed T S a b failed_at img first ps u (BadType p) chain h tells = absurd h
chain-failed T S a b failed_at img first ps u (Unclosed p) chain h tells = absurd h
chain-failed T S a b failed_at img first ps u (BadSide p) chain h tells = absurd h
chain-failed T S a b failed_at img first ps u (BadLength p) chain h tells = absurd h
chain-failed T S a b failed_at img first ps u (CountWrong p) chain h tells = absurd h
chain-failed T S a b failed_at img first ps u (MapWrong p) chain h tells = absurd h

-- and one along the directory of a sound disk
pub directory-failed : {D : Type 0} (T : Type 0) (S : History D) (a b : D) (failed_at : Place → Type 0) (img : Image)
    (fault : Fault) → IsSound img → HoldsOfDirectory failed_at img fault → TellsFault {T = T} S a b (Err fault)
    → Failed S a b
directory-failed T S a b failed_at img (BadLink p) sound (d, inl nowhere) tells =
    absurd (told-unsound img (BadLink p) (inl (d, nowhere)) sound)
directory-failed T S a b failed_at img (BadLink p) sound (d, inr away) tells =
    absurd (told-unsound img (BadLink p) (inr (inl (d, away))) sound)
directory-failed T S a b failed_at img (Loop p) sound h tells = absurd (told-unsound img (Loop p) (inl h) sound)
directory-failed T S a b failed_at img (Device p) sound h tells = tells
directory-failed T S a b failed_at img (OwnedTwice p) sound h tells = absurd h
directory-failed T S a b failed_at img (BadType p) sound h tells = absurd h
directory-failed T S a b failed_at img (Unclosed p) sound h tells = absurd h
directory-failed T S a b failed_at img (BadSide p) sound h tells = absurd h
directory-failed T S a b failed_at img (BadLength p) sound h tells = absurd h
directory-failed T S a b failed_at img (CountWrong p) sound h tells = absurd h
directory-failed T S a b failed_at img (MapWrong p) sound h tells = absurd h

-- the slots that are listed are those of the files
pub slots-listed : (img : Image) (l : Layout) (ps : List Place) (slots : List Slot) → IsLayout img l
    → IsDirectory img ps slots → slots ≡ map (λ (f : File). f.slot) l.files
slots-listed img l ps slots h d = (IsDirectory-one img ps l.directory slots _ d h.directory).1

some-named : (p q : Place) (o : Option Place) → o ≡ Some q → o ≡ Some p → p ≡ q
some-named p q o e f = cc

-- what the slot of a relative file says of it
module _ (img : Image) (s : Slot) (f : File) (of : IsRelOf img s f) where
  -- its first data block
  pub first-named : (p : Place) × (named_at s.bytes 3 ≡ Some p) × IsChain img p f.blocks f.last
  first-named =
      let (p, names, chain) = of.file.chain in
      (p, ap (λ (x : Slot). named_at x.bytes 3) (sym of.slot) ∙ named-is f.slot.bytes 3 p names, chain)

  -- the chain that is walked from there is the file's
  pub measured : (o : Option Place) (first : Place) (ps : List Place) (u : ℕ) → o ≡ named_at s.bytes 3 → o ≡ Some first
      → IsChain img first ps u → (ps ≡ f.blocks) × (u ≡ f.last)
  measured o first ps u named is walked =
      let (p, at, chain) = first-named in
      let e : first ≡ p = some-named first p o (named ∙ at) is in
      let P : Place → Type 0 = λ x. IsChain img x ps u in
      IsChain-one img p ps f.blocks u f.last (subst P e walked) chain

  pub some-blocks : 1 ≤ length f.blocks
  some-blocks = let c = of.file.chain.2 in omega (
    arith,
    ap (λ (ps : List Place). length ps) c.places,
    length-append c.front (c.last ∷ []),
  )

  -- its first side sector, which lists them all
  pub first-side : (q : Place) × (named_at s.bytes 21 ≡ Some q) × NamesEach (sector img q) 4 f.sides
  first-side =
      let (q, at) = get-some f.sides 0 (omega (arith, of.file.count, some-blocks)) in (
        q,
        ap (λ (x : Slot). named_at x.bytes 21) (sym of.slot) ∙ named-is f.slot.bytes 21 q (of.file.first_side q at),
        (of.file.sides 0 q at).sides,
      )

  pub sides-named : (now : Image) (o : Option Place) (first : Place) → now ≡ img → o ≡ named_at s.bytes 21
      → o ≡ Some first → NamesEach (sector now first) 4 f.sides
  sides-named now o first same named is =
      let (q, at, names) = first-side in
      let P : Image → Place → Type 0 = λ i x. NamesEach (sector i x) 4 f.sides in
      subst (λ (i : Image). P i first) (sym same) (subst (P img) (sym (some-named first q o (named ∙ at) is)) names)

  pub length-is : slice_index s.bytes 23 ≡ record_length f.slot
  length-is = ap (λ (x : Slot). slice_index x.bytes 23) (sym of.slot)

-- what the two bytes name, where they name a place
pub some-first : (img : Image) (s : Slot) (o : Option Place) → HasRel img s → o ≡ named_at s.bytes 3 → IsSome o
some-first img s o (f, of) is = let (p, at, chain) = first-named img s f of in let P : Option Place → Type 0 = IsSome in
    subst P (sym (is ∙ at)) refl

pub some-side : (img : Image) (s : Slot) (o : Option Place) → HasRel img s → o ≡ named_at s.bytes 21 → IsSome o
some-side img s o (f, of) is = let (q, at, names) = first-side img s f of in let P : Option Place → Type 0 = IsSome in
    subst P (sym (is ∙ at)) refl

-- the walk of its chain fails by the device alone
pub walk-failed : {D : Type 0} (T : Type 0) (S : History D) (a b : D) (failed_at : Place → Type 0) (img : Image)
    (s : Slot) (o : Option Place) (first : Place) (fault : Fault) → HasRel img s → o ≡ named_at s.bytes 3
    → o ≡ Some first → HoldsOfChain failed_at img first fault → TellsFault {T = T} S a b (Err fault) → Failed S a b
walk-failed T S a b failed_at img s o first fault (f, of) named is h tells =
    let (p, at, chain) = first-named img s f of in
    let P : Place → Type 0 = λ x. HoldsOfChain failed_at img x fault in
    chain-failed T S a b failed_at img p f.blocks f.last fault chain (subst P (some-named first p o (named ∙ at) is) h)
    tells

-- the file of a slot that is listed
pub slot-file : (l : Layout) (slots : List Slot) (n : ℕ) (s : Slot) → slots ≡ map (λ (f : File). f.slot) l.files
    → slice_get slots n ≡ Some s → (f : File) × (slice_get l.files n ≡ Some f) × (f.slot ≡ s)
slot-file l slots n s e at = made-from (λ (f : File). f.slot) (slice_get l.files n) s
    (sym (slice_get-map (λ (f : File). f.slot) l.files n) ∙ ap (λ (xs : List Slot). slice_get xs n) (sym e) ∙ at)

pub file-slot : (l : Layout) (slots : List Slot) (n : ℕ) (f : File) → slots ≡ map (λ (f : File). f.slot) l.files
    → slice_get l.files n ≡ Some f → slice_get slots n ≡ Some f.slot
file-slot l slots n f e at = ap (λ (xs : List Slot). slice_get xs n) e ∙ slice_get-map (λ (f : File). f.slot) l.files n
    ∙ ap (option_map (λ (f : File). f.slot)) at

-- the first slot of a name is that of the first file of it
pub first-found : (img : Image) (l : Layout) (slots : List Slot) (name : List ℕ) (n : ℕ) → IsLayout img l
    → slots ≡ map (λ (f : File). f.slot) l.files → (h : IsFirstNamed slots name n) → (f : File) × IsFirst l name n f
    × IsRelOf img h.slot f
first-found img l slots name n is e h =
    let (f, at, slot) = slot-file l slots n h.slot e h.there in
    let P : Slot → Type 0 = IsNamedSlot name in
    let named : IsNamedSlot name f.slot = subst P (sym slot) h.named in (
      f,
      record {
        file = at;
        named = named;
        first = λ k g lt there. h.first k g.slot lt (file-slot l slots k g e there);
      },
      record { slot = slot; file = rel-of img l n f is at named.0 },
    )

-- where no slot has the name, no file has
pub none-found : (l : Layout) (slots : List Slot) (name : List ℕ) → slots ≡ map (λ (f : File). f.slot) l.files
    → HasNoneNamed slots name → (k : ℕ) (f : File) → slice_get l.files k ≡ Some f → ¬ (IsNamed name f)
none-found l slots name e none k f at = none k f.slot (file-slot l slots k f e at)

-- one slot at one place
pub same-slot : (slots : List Slot) (n : ℕ) (s t : Slot) → slice_get slots n ≡ Some s → slice_get slots n ≡ Some t
    → s ≡ t
same-slot slots n s t at to = cc

-- a slot that was judged not to have the name
pub not-named : (name : List ℕ) (s t : Slot) (judged : Bool) → judged ≡ false → (IsNamedSlot name s → IsTrue judged)
    → s ≡ t → ¬ (IsNamedSlot name t)
not-named name s t judged off tells same named =
    let P : Slot → Type 0 = IsNamedSlot name in
    false≢true (sym off ∙ tells (subst P (sym same) named))

-- the place that a side sector lists next
pub listed-some : (bytes : Sector) (qs : List Place) (k : ℕ) (o : Option Place) → NamesEach bytes 4 qs → k < length qs
    → o ≡ named_at bytes (4 + 2 * k) → IsSome o
listed-some bytes qs k o names lt is =
    let (q, at) = get-some qs k lt in
    let P : Option Place → Type 0 = IsSome in
    subst P (sym (is ∙ named-is bytes (4 + 2 * k) q (names k q at))) refl

pub listed-more : (bytes : Sector) (qs before after : List Place) (k : ℕ) (o : Option Place) (p : Place)
    → NamesEach bytes 4 qs → k < length qs → o ≡ named_at bytes (4 + 2 * k) → o ≡ Some p → before ≡ take k qs
    → after ≡ before ++ p ∷ [] → after ≡ take (k + 1) qs
listed-more bytes qs before after k o p names lt is some so_far now =
    let there : slice_get qs k ≡ Some (get_or qs k p) = slice_get-get_or qs k p lt in
    let same : p ≡ get_or qs k p = some-named p (get_or qs k p) o (is
    ∙ named-is bytes (4 + 2 * k) (get_or qs k p) (names k (get_or qs k p) there)) some in
    now ∙ ap₂ (λ (xs : List Place) (x : Place). xs ++ x ∷ []) so_far same ∙ sym (take_more qs k p lt)

-- the slot that is opened is that of the first file of the name
pub opened-of : (img now : Image) (l : Layout) (slots : List Slot) (name : List ℕ) (n : ℕ) (s : Slot) → now ≡ img
    → IsLayout img l → slots ≡ map (λ (f : File). f.slot) l.files → IsFirstNamed slots name n → s ≡ get_or slots n s
    → (f : File) × IsFirst l name n f × IsRelOf now s f
opened-of img now l slots name n s same is e h read =
    let (f, first, rel) = first-found img l slots name n is e h in
    let there = slice_get_read slots (length slots) n s refl (slice_get_within slots n h.slot h.there) read in
    let slot : h.slot ≡ s = same-slot slots n h.slot s h.there there in
    let P : Image → Slot → Type 0 = λ i t. IsRelOf i t f in
    (f, first, subst (λ (i : Image). P i s) (sym same) (subst (P img) slot rel))

-- so what is kept is of it
pub opened : (img : Image) (l : Layout) (name : List ℕ) (n : ℕ) (f : File) (r : Result RelFile RelFault)
    → IsLayout img l → IsFirst l name n f → IfOk r (Shows f) → IfOk r (λ v. entry_of v ≡ n)
    → IfOk r (λ v. (g : File) × IsFirst l name (entry_of v) g × IsFileOf img l (entry_of v) g v)
opened img l name n f (Ok v) is first shows entry =
    let P : ℕ → Type 0 = λ k. (g : File) × IsFirst l name k g × IsFileOf img l k g v in
    subst P (sym entry) (f, first, record { layout = is; there = first.file; rel = first.named.0; shows = shows })
opened img l name n f (Err e) is first shows entry = tt
