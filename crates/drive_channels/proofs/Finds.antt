-- Files that are found by their names.
use Rattle.std.proofs.Common.{
  ℕ,
  zero,
  suc,
  ◌≡◌,
  ◌≢◌,
  Bool,
  true,
  false,
  List,
  [],
  ◌∷◌,
  ◌++◌,
  Option,
  None,
  Some,
  IfSome,
  MatchOption,
  IsTrue,
  ◌↔◌,
  sym,
  ◌∙◌,
  ap,
  ap₂,
  subst,
  refl,
  drop,
  get_or,
  replicate,
  slice_get,
  slice_range,
}
use Rattle.std.proofs.lemmas.Option.{none-some, same_Some}
use Rattle.std.specs.List.{AllByRecursion}
use Rattle.d64_image.specs.Images.{Image}
use Rattle.disk_layout.proofs.lemmas.layouts.Layouts.{IsLayout-one}
use Rattle.disk_layout.specs.Layout.{File, Layout}
use Rattle.disk_layout.specs.Rest.{IsFirst}
use Rattle.rel_records.specs.File.{IsFileOf, entry_of}
use Rattle.rel_records.specs.declared.rel_file.RelFile.{RelFile}
use Rattle.drive_channels.specs.Files.{HasFile, IsNamedFile}
use Rattle.drive_channels.specs.Inside.{HasLooked, IsFound, IsKnown, Remembers, channel_in, channel_of, found_in}
use Rattle.drive_channels.specs.Spelling.{IsName, is_name_byte}
use Rattle.drive_channels.specs.declared.open_file.NamedFile.{NamedFile}
use Rattle.drive_channels.specs.declared.open_file.OpenFile.{OpenFile}
use Rattle.drive_channels.specs.declared.open_file.Position.{Position}
use Rattle.drive_channels.specs.declared.open_files.OpenFiles.{OpenFiles}

-- a name that a slot holds ends where its padding begins
first-pad : (n y : ℕ) (ys : List ℕ) → replicate n 160 ≡ y ∷ ys → y ≡ 160
first-pad zero y ys e = cc
first-pad (suc n) y ys e = sym (ap (λ (xs : List ℕ). get_or xs 0 0) e)

no-pad : (y : ℕ) → IsTrue (is_name_byte y) → y ≡ 160 → ⊥
no-pad y named is = other (subst (λ (b : ℕ). IsTrue (is_name_byte b)) is named)
  where
    other : IsTrue (is_name_byte 160) → ⊥
    other h = cc

one-name : (a b : List ℕ) (m n : ℕ) → AllByRecursion (λ b. IsTrue (is_name_byte b)) a
    → AllByRecursion (λ b. IsTrue (is_name_byte b)) b
    → a ++ replicate m 160 ≡ b ++ replicate n 160 → a ≡ b
one-name [] [] m n x y e = refl
one-name [] (c ∷ b) m n x y e = absurd (no-pad c y.0 (first-pad m c (b ++ replicate n 160) e))
one-name (c ∷ a) [] m n x y e = absurd (no-pad c x.0 (first-pad n c (a ++ replicate m 160) (sym e)))
one-name (c ∷ a) (d ∷ b) m n x y e = ap₂ (λ (z : ℕ) (zs : List ℕ). z ∷ zs) (ap (λ (xs : List ℕ). get_or xs 0 0) e)
    (one-name a b m n x.1 y.1 (ap (drop 1) e))

-- the file that is found is the first of its name
pub found-named : (img : Image) (e : NamedFile) (name : List ℕ) (h : IsFound img e) → e.name.items ≡ name
    → IsNamedFile img name (entry_of e.file) h.file
found-named img e name h is =
    (h.layout, h.of.layout, subst (λ (name : List ℕ). IsFirst h.layout name (entry_of e.file) h.file) is h.first)

pub found-file : (img : Image) (e : NamedFile) (name : List ℕ) → IsFound img e → e.name.items ≡ name → HasFile img name
found-file img e name h is = (entry_of e.file, h.file, found-named img e name h is)

-- two files of different names are different files
pub apart-names : (img : Image) (a b : NamedFile) → IsFound img a → IsFound img b → a.name.items ≢ b.name.items
    → entry_of a.file ≢ entry_of b.file
apart-names img a b x y other same =
    let l : x.layout ≡ y.layout = IsLayout-one img x.layout y.layout x.of.layout y.of.layout in
    let at : slice_get y.layout.files (entry_of b.file) ≡ Some x.file = sym (ap (slice_get y.layout.files) same)
    ∙ sym (ap (λ (l : Layout). slice_get l.files (entry_of a.file)) l) ∙ x.of.there in
    let f : x.file ≡ y.file = same_Some _ _ (sym at ∙ y.of.there) in
    other (one-name a.name.items b.name.items _ _ x.named.bytes y.named.bytes (sym x.first.named.1
    ∙ ap (λ (f : File). slice_range f.slot.bytes 5 21) f ∙ y.first.named.1))

-- what is known once this file is the one opened last, with no channel, and the one opened last until now is the one
-- before
pub known-put : (img : Image) (k new : OpenFiles) (e : NamedFile) → IsKnown img k → k.checked ≡ true → IsFound img e
    → IfSome k.last (λ o. o.found.name.items ≢ e.name.items)
    → new.last ≡ Some (record { found = e; spot = None }) → new.before ≡ found_in k.last → new.checked ≡ k.checked
    → IsKnown img new
known-put img k new e known checked found other last before same =
    subst (IsKnown img) (sym whole) (record { fresh = λ no. absurd (both no); remembered = λ _. memory })
  where
    made : OpenFiles
    made = record { last = Some (record { found = e; spot = None }); before = found_in k.last; checked = k.checked }

    whole : new ≡ made
    whole = ap (λ (o : Option OpenFile). record { last = o; before = new.before; checked = new.checked }) last
        ∙ ap (λ (o : Option NamedFile). record { last = made.last; before = o; checked = new.checked }) before
        ∙ ap (λ (b : Bool). record { last = made.last; before = made.before; checked = b }) same

    both : k.checked ≡ false → ⊥
    both h = cc

    old : Remembers img k.last k.before
    old = known.remembered checked

    kept : (last : Option OpenFile) → IfSome last (λ o. IsFound img o.found) → IfSome (found_in last) (IsFound img)
    kept None h = tt
    kept (Some o) h = h

    apart : (last : Option OpenFile) → IfSome last (λ o. IsFound img o.found)
        → IfSome last (λ o. o.found.name.items ≢ e.name.items)
        → IfSome (found_in last) (λ b. entry_of b.file ≢ entry_of e.file)
    apart None h ne = tt
    apart (Some o) h ne = apart-names img o.found e h found ne

    memory : Remembers img (Some (record { found = e; spot = None })) (found_in k.last)
    memory = record {
      clean = old.clean;
      last_found = found;
      spot = tt;
      before_found = kept k.last old.last_found;
      apart = apart k.last old.last_found other;
    }

-- a file under the name by which it was found
pub found-new : (img : Image) (e : NamedFile) (v : RelFile) (name : List ℕ) (l : Layout) (f : File) → e.file ≡ v
    → e.name.items ≡ name → IsName name
    → IsFirst l name (entry_of v) f → IsFileOf img l (entry_of v) f v → IsFound img e
found-new img e v name l f file is named first of = record {
  layout = l;
  file = f;
  of = subst (λ (x : RelFile). IsFileOf img l (entry_of x) f x) (sym file) of;
  named = subst IsName (sym is) named;
  first = subst (λ (x : RelFile). IsFirst l e.name.items (entry_of x) f) (sym file)
      (subst (λ (name : List ℕ). IsFirst l name (entry_of v) f) (sym is) first);
}

-- the file of a name is the one opened last now
pub looked-put : (img : Image) (k new : OpenFiles) (e : NamedFile) (name : List ℕ) → IsKnown img k → k.checked ≡ true
    → IsFound img e → e.name.items ≡ name
    → IfSome k.last (λ o. o.found.name.items ≢ e.name.items) → new.last ≡ Some (record { found = e; spot = None })
    → new.before ≡ found_in k.last → new.checked ≡ k.checked
    → HasLooked img name new true
looked-put img k new e name known checked found is other last before same = record {
  known = known-put img k new e known checked found other last before same;
  checked = same ∙ checked;
  closed = ap channel_of last;
  found = λ _. (record { found = e; spot = None }, last, is);
  missing = λ no. absurd (differ no);
}
  where
    differ : true ≡ false → ⊥
    differ h = cc

-- a file is remembered only once a check has passed
last-checked : (img : Image) (k : OpenFiles) (o : OpenFile) → IsKnown img k → k.last ≡ Some o → k.checked ≡ true
last-checked img k o known is = by k.checked refl
  where
    by : (b : Bool) → k.checked ≡ b → k.checked ≡ true
    by true checked = checked
    by false checked = absurd (none-some o (sym (known.fresh checked).0 ∙ is))

-- it is the one opened last
pub looked-last : (img : Image) (k : OpenFiles) (name : List ℕ) (b : Bool)
    → MatchOption k.last (b ≡ false) (λ o. IsTrue b ↔ (o.found.name.items ≡ name)) → b ≡ true
    → channel_of k.last ≡ None → IsKnown img k → HasLooked img name k true
looked-last img k name b told yes-named closed known = by k.last refl told
  where
    both : b ≡ false → ⊥
    both h = cc

    differ : true ≡ false → ⊥
    differ h = cc

    by : (last : Option OpenFile) → k.last ≡ last
        → MatchOption last (b ≡ false) (λ o. IsTrue b ↔ (o.found.name.items ≡ name)) → HasLooked img name k true
    by None is told = absurd (both told)
    by (Some o) is told = record {
      known = known;
      checked = last-checked img k o known is;
      closed = closed;
      found = λ _. (o, is, told.0 yes-named);
      missing = λ no. absurd (differ no);
    }

-- it isn't
pub not-last : (last : Option OpenFile) (name : List ℕ) (b : Bool)
    → MatchOption last (b ≡ false) (λ o. IsTrue b ↔ (o.found.name.items ≡ name)) → b ≡ false
    → IfSome last (λ o. o.found.name.items ≢ name)
not-last None name b told off = tt
not-last (Some o) name b told off = λ same. both (told.1 same)
  where
    both : b ≡ true → ⊥
    both is = cc

-- it is the one before, and the two change places
pub looked-before : (img : Image) (k new : OpenFiles) (o : OpenFile) (e x y : NamedFile) (name : List ℕ) → IsKnown img k
    → k.last ≡ Some o → k.before ≡ Some e → channel_of k.last ≡ None
    → IfSome k.last (λ o. o.found.name.items ≢ name) → e.name.items ≡ name → x ≡ e → y ≡ o.found
    → new.last ≡ Some (record { found = x; spot = o.spot }) → new.before ≡ Some y → new.checked ≡ k.checked
    → HasLooked img name new true
looked-before img k new o e x y name known is before closed other named here there last was same =
    looked-put img k new e name known checked found named
    (subst (λ (name : List ℕ). IfSome k.last (λ o. o.found.name.items ≢ name)) (sym named) other)
    (last ∙ ap₂ (λ (x : NamedFile) (s : Option Position). Some (record { found = x; spot = s })) here
    (shut (entry_of o.found.file) o.spot (sym (ap channel_of is) ∙ closed)))
    (was ∙ ap (λ (y : NamedFile). Some y) there ∙ sym (ap found_in is)) same
  where
    checked : k.checked ≡ true
    checked = last-checked img k o known is

    found : IsFound img e
    found = subst (λ (o : Option NamedFile). IfSome o (IsFound img)) before (known.remembered checked).before_found

    shut : (entry : ℕ) (s : Option Position) → channel_in entry s ≡ None → s ≡ None
    shut entry None h = refl
    shut entry (Some s) h = absurd (none-some _ (sym h))
