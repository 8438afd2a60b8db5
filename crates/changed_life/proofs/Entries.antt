-- A disk whose directory has the entries of a name as before, and whose relative files have their blocks.
use Rattle.std.proofs.Common.{◌≡◌, ◌≢◌, ◌<◌, ◌∙◌, ℕ, Bool, true, false, List, [], ◌∷◌, ◌++◌, IsTrue, ap, append_assoc, arith, drop}
use Rattle.std.proofs.Common.{inl, inr, length, map, refl, subst, suc, sym, take}
use Rattle.std.specs.Prelude.{Contains, codes, cond, filter, flat_map, nat_eq, not}
use Rattle.std.proofs.lemmas.Bool.{and_parts, cases_Bool, false≢true}
use Rattle.std.proofs.lemmas.Bool.Decides.{nat_tests}
use Rattle.std.proofs.lemmas.Grind.{flat_map-append}
use Rattle.std.proofs.lemmas.List.{map-append}
use Rattle.std.proofs.lemmas.List.Elements.{Contains-append_left, filter-append}
use Rattle.d64_image.proofs.Images.{sector-put_same}
use Rattle.d64_image.specs.Images.{Image, Sector, put, sector}
use Rattle.d64_image.specs.declared.place.Place.{Place}
use Rattle.disk_changes.specs.Sorts.{all_slots}
use Rattle.disk_layout.proofs.lemmas.chains.Chains.{AgreeAt, IsChain-frame, IsChain-one, SameLinks}
use Rattle.disk_layout.proofs.lemmas.counts.Recount.{around, slot-get, slots-around, split-at}
use Rattle.disk_layout.proofs.lemmas.counts.Recounts.{map-map}
use Rattle.disk_layout.proofs.lemmas.layouts.Frames.{unless-same}
use Rattle.disk_layout.proofs.lemmas.layouts.Layouts.{get-contains}
use Rattle.disk_layout.proofs.lemmas.lists.Once.{Contains-here, Contains-there, EachOnce-apart, EachOnce-right, all-in, flat_map-in}
use Rattle.disk_layout.specs.Chain.{EachOnce}
use Rattle.disk_layout.specs.Directory.{directory_start, is_used, slot_in, slots_in, type_byte, used_slots}
use Rattle.disk_layout.specs.Layout.{File, HasChain, IsFile, IsLayout, Layout, file_owns, is_rel, is_rel_type, owners, record_length}
use Rattle.disk_layout.specs.Records.{records}
use Rattle.disk_layout.specs.Rest.{IsFirst}
use Rattle.disk_layout.specs.declared.slot.Slot.{Slot}
use Rattle.changed_life.proofs.Blocks.{AreSameBlocks, entry-length, records-same}
use Rattle.changed_life.proofs.Firsts.{entries-tell, entry-type, entry_of, first-kept, is_entry}
use Rattle.changed_life.proofs.Shops.{kept-shop}
use Rattle.changed_life.specs.Changes.{KeepsRecords, KeepsShops}

-- one more among these that a test doesn't take
pub one-more : {X : Type 0} (p : X → Bool) (before after : List X) (x : X) → p x ≡ false
    → filter p (before ++ x ∷ after) ≡ filter p (before ++ after)
one-more p before after x out = filter-append p before (x ∷ after)
    ∙ ap (λ zs. filter p before ++ zs) (rw out refl) ∙ sym (filter-append p before after)

-- the entries of these slots that are of a closed relative file of this name
abbrev pub named_in : List ℕ → List Slot → List (List ℕ)
named_in name ss = filter (is_entry name) (map entry_of ss)

-- a slot that is free holds none
used-type : (t : ℕ) → is_rel_type t ≡ true → not (nat_eq t 0) ≡ true
used-type t rel = grind (arith, nat_tests)

pub unused-no-entry : (name : List ℕ) (s : Slot) → is_used s ≡ false → is_entry name (entry_of s) ≡ false
unused-no-entry name s free = elim (cases_Bool (is_entry name (entry_of s))) [
  | inl e ↦
      let rel = (and_parts _ _ e).0 in
      absurd (false≢true (sym free ∙ used-type (type_byte s) (sym (ap is_rel_type (entry-type s.bytes)) ∙ rel)))
  | inr e ↦ e
]

-- a test that leaves out no entry of the name
pub named-filter : (name : List ℕ) (u : Slot → Bool) → ((s : Slot) → u s ≡ false → is_entry name (entry_of s) ≡ false)
    → (ss : List Slot) → named_in name (filter u ss) ≡ named_in name ss
named-filter name u out [] = refl
named-filter name u out (s ∷ ss) = step (u s) refl (named-filter name u out ss)
  where
    step : (b : Bool) → u s ≡ b → named_in name (filter u ss) ≡ named_in name ss
        → named_in name (cond b (s ∷ filter u ss) (filter u ss)) ≡ named_in name (s ∷ ss)
    step true is rest = ap (λ (zs : List (List ℕ)). cond (is_entry name (entry_of s)) (entry_of s ∷ zs) zs) rest
    step false is rest = rest ∙ sym (rw (out s is) refl)

-- what is told of the files of a layout is in its slots
pub named-files : (name : List ℕ) (img : Image) (l : Layout) → IsLayout img l
    → filter (is_entry name) (map (λ (f : File). entry_of f.slot) l.files) ≡ named_in name (all_slots img l.directory)
unfolding used_slots
named-files name img l h = ap (filter (is_entry name)) (sym (map-map entry_of (λ (f : File). f.slot) l.files))
    ∙ ap (named_in name) h.directory.slots ∙ named-filter name is_used (unused-no-entry name) (all_slots img l.directory)

-- the directory stays where its links stay
pub same-directory : (a c : Image) (l m : Layout) → IsLayout a l → IsLayout c m → SameLinks a c l.directory
    → m.directory ≡ l.directory
same-directory a c l m was is links = sym (IsChain-one c directory_start l.directory m.directory was.directory.last
    is.directory.last (IsChain-frame a c directory_start l.directory was.directory.last links was.directory.chain)
    is.directory.chain).0

module _ (a c : Image) (l m : Layout) (was : IsLayout a l) (is : IsLayout c m)
    (blocks : (f : File) → Contains l.files f → IsTrue (is_rel f.slot) → AreSameBlocks a c f.blocks) where
  chain-of : (img : Image) (k : Layout) (f : File) → IsLayout img k → Contains k.files f → IsTrue (is_rel f.slot) → HasChain img f
  chain-of img k f h own rel = ((all-in (IsFile img) k.files f h.files own).rel rel).chain

  -- where the entries of the name are the same, the first file of it has its records
  pub keeps-file : (name : List ℕ) (L : ℕ) (n : ℕ) (f : File) → filter (is_entry name) (map (λ (g : File). entry_of g.slot) m.files)
      ≡ filter (is_entry name) (map (λ (g : File). entry_of g.slot) l.files) → IsFirst l name n f → record_length f.slot ≡ L
      → (k : ℕ) × (g : File) × IsFirst m name k g × (record_length g.slot ≡ L) × (records c g ≡ records a f)
  keeps-file name L n f same first long =
      let r = first-kept (is_entry name) (λ (g : File). entry_of g.slot) (λ (g : File). entry_of g.slot) l m name
      (entries-tell name) (entries-tell name) same n f first in
      let g = r.1 in
      let own = get-contains l.files n f first.file in (
        r.0,
        g,
        r.2,
        entry-length f.slot g.slot r.3 ∙ long,
        records-same a c f g r.3 (chain-of a l f was own first.named.0)
            (chain-of c m g is (get-contains m.files r.0 g r.2.file) r.2.named.0) (blocks f own first.named.0),
      )

  -- the entries of the name are as they were, if it has a first file with such records
  abbrev pub KeepsNamed : List ℕ → ℕ → Type 0
  KeepsNamed name L = (n : ℕ) (f : File) → IsFirst l name n f → record_length f.slot ≡ L
      → named_in name (all_slots c l.directory) ≡ named_in name (all_slots a l.directory)

  pub keeps-entries : SameLinks a c l.directory → KeepsNamed (codes "STOCK") 18 → KeepsNamed (codes "REQUESTS") 127
      → KeepsShops a c
  keeps-entries links stock requests = kept-shop a c l m was is (of (codes "STOCK") 18 stock) (of (codes "REQUESTS") 127 requests)
    where
      of : (name : List ℕ) (L : ℕ) → KeepsNamed name L → KeepsRecords a c l m name L
      of name L keeps n f first long = keeps-file name L n f
          (named-files name c m is
          ∙ ap (λ (ps : List Place). named_in name (all_slots c ps)) (same-directory a c l m was is links)
          ∙ keeps n f first long ∙ sym (named-files name a l was)) first long

-- no file owns a sector of the directory
pub off-directory : (a : Image) (l : Layout) (p : Place) (f : File) (q : Place) → IsLayout a l → Contains l.directory p
    → Contains l.files f → Contains f.blocks q → p ≢ q
unfolding owners
off-directory a l p f q h on own there e = EachOnce-apart l.directory (flat_map file_owns l.files) h.once.1 p on
    (subst (Contains (flat_map file_owns l.files)) (sym e)
    (flat_map-in file_owns l.files f q own (Contains-append_left f.blocks f.sides q there)))

-- one slot of one directory sector rewritten
pub slots-frame : (a b : Image) (ps : List Place) → AgreeAt a b ps → all_slots a ps ≡ all_slots b ps
slots-frame a b [] same = refl
slots-frame a b (p ∷ ps) same =
    let here : sector a p ≡ sector b p = same p (Contains-here p ps) in
    let rest = slots-frame a b ps (λ q on. same q (Contains-there q p ps on)) in
    rw (here, rest) refl

pub slots-one : (a : Image) (ps : List Place) (p : Place) (n : ℕ) (b : Sector) → length a ≡ 683 → EachOnce ps
    → Contains ps p → n < 8 → ((k : ℕ) → k < 8 → k ≢ n → slot_in p (sector a p) k ≡ slot_in p b k)
    → (xs : List Slot) × (ys : List Slot) × (all_slots a ps ≡ xs ++ slot_in p (sector a p) n ∷ ys)
    × (all_slots (put a p b) ps ≡ xs ++ slot_in p b n ∷ ys)
slots-one a ps p n b full once on low apart =
    let (front, back, e) = split-at ps p on in
    let each : EachOnce (front ++ p ∷ back) = rw e at once in
    let not_front : ¬ (Contains front p) = λ d. EachOnce-apart front (p ∷ back) each p d (Contains-here p back) in
    let not_back : ¬ (Contains back p) = (EachOnce-right front (p ∷ back) each).0 in
    let F : all_slots a front ≡ all_slots (put a p b) front = slots-frame a (put a p b) front
    (λ q d. unless-same a p q b (λ s. not_front (let P : Place → Type 0 = λ x. Contains front x in subst P (sym s) d))) in
    let B : all_slots a back ≡ all_slots (put a p b) back = slots-frame a (put a p b) back
    (λ q d. unless-same a p q b (λ s. not_back (let P : Place → Type 0 = λ x. Contains back x in subst P (sym s) d))) in
    let T = slots-around p (sector a p) b n low apart in
    let there : sector (put a p b) p ≡ b = sector-put_same a p b full in (
      all_slots a front ++ take n (slots_in p (sector a p)),
      drop (suc n) (slots_in p (sector a p)) ++ all_slots a back,
      ap (all_slots a) e ∙ flat_map-append (λ q. slots_in q (sector a q)) front (p ∷ back)
          ∙ ap (λ xs. all_slots a front ++ (xs ++ all_slots a back))
          (around (slots_in p (sector a p)) n (slot_in p (sector a p) n) (slot-get p (sector a p) n low))
          ∙ shape (all_slots a front) _ _ (all_slots a back) (slot_in p (sector a p) n),
      ap (all_slots (put a p b)) e ∙ flat_map-append (λ q. slots_in q (sector (put a p b) q)) front (p ∷ back)
          ∙ ap (λ x. all_slots (put a p b) front ++ (slots_in p x ++ all_slots (put a p b) back)) there
          ∙ ap (λ xs. all_slots (put a p b) front ++ (xs ++ all_slots (put a p b) back))
          (around (slots_in p b) n (slot_in p b n) (slot-get p b n low))
          ∙ shape (all_slots (put a p b) front) _ _ (all_slots (put a p b) back) (slot_in p b n)
          ∙ cc (F, B, T.0, T.1),
    )
  where
    shape : (f x y g : List Slot) (s : Slot) → f ++ ((x ++ s ∷ y) ++ g) ≡ (f ++ x) ++ s ∷ (y ++ g)
    shape f x y g s = simp append_assoc

-- neither the slot that was there nor the new one is of the name
pub named-one : (name : List ℕ) (xs ys : List Slot) (s t : Slot) → is_entry name (entry_of s) ≡ false
    → is_entry name (entry_of t) ≡ false → named_in name (xs ++ t ∷ ys) ≡ named_in name (xs ++ s ∷ ys)
named-one name xs ys s t old new = without t new ∙ sym (without s old)
  where
    without : (u : Slot) → is_entry name (entry_of u) ≡ false → named_in name (xs ++ u ∷ ys)
        ≡ filter (is_entry name) (map entry_of xs ++ map entry_of ys)
    without u out = ap (filter (is_entry name)) (map-append entry_of xs (u ∷ ys))
        ∙ one-more (is_entry name) (map entry_of xs) (map entry_of ys) (entry_of u) out
