-- The first closed relative file of a name, by what is told of the files.
use Rattle.std.proofs.Common.{◌≡◌, ◌<◌, ◌∙◌, ◌&&◌, ℕ, zero, suc, Bool, true, false, List, [], ◌∷◌, Some}
use Rattle.std.proofs.Common.{ap, arith, drop, get_or, get_or-drop, get_or-take, inl, inr, map, option_map, refl, slice_get, sym, take}
use Rattle.std.proofs.Common.{drop-drop, take-take}
use Rattle.std.specs.Prelude.{filter, if◌then◌else◌, slice_range}
use Rattle.std.specs.Str.{bytes_eq}
use Rattle.std.proofs.lemmas.Bool.{and_from, and_parts, cases_Bool, false≢true}
use Rattle.std.proofs.lemmas.List.{drop-take}
use Rattle.std.proofs.lemmas.Option.{none-some, same_Some, slice_get-map}
use Rattle.std.proofs.lemmas.Slice.Eq.{bytes_eq-Decides}
use Rattle.d64_image.specs.Images.{Image}
use Rattle.disk_layout.specs.Layout.{File, Layout, is_rel_type}
use Rattle.disk_layout.specs.Rest.{IsFirst, IsNamed, slot_name}
use Rattle.disk_layout.specs.Same.{Stays, stays_of}
use Rattle.disk_layout.specs.declared.slot.Slot.{Slot}

-- the bytes of a slot that are its entry's, without the block count
abbrev pub entry_of : Slot → List ℕ
entry_of s = slice_range s.bytes 2 30

-- they are those of a closed relative file of this name
abbrev pub is_entry : List ℕ → List ℕ → Bool
is_entry name e = is_rel_type (get_or e 0 0) && bytes_eq (take 16 (drop 3 e)) (slot_name name)

-- what stays is that of such a file
abbrev pub is_of : List ℕ → Stays → Bool
is_of name s = is_entry name s.entry

pub entry-type : (xs : List ℕ) → get_or (slice_range xs 2 30) 0 0 ≡ get_or xs 2 0
entry-type xs = get_or-take 28 (drop 2 xs) 0 0 (omega arith) ∙ get_or-drop 2 xs 0 0

pub entry-name : (xs : List ℕ) → slice_range xs 5 21 ≡ take 16 (drop 3 (slice_range xs 2 30))
entry-name xs = sym (ap (take 16) (drop-take 3 25 (drop 2 xs) ∙ ap (take 25) (drop-drop 3 2 xs))
    ∙ take-take 16 25 (drop 5 xs) (omega arith))

-- What is told of a file says by a test whether it is a closed relative one of the name.
abbrev pub Tells : {X : Type 0} → List ℕ → (X → Bool) → (File → X) → Type 0
Tells name p view = (f : File) → (IsNamed name f → p (view f) ≡ true) × (p (view f) ≡ true → IsNamed name f)

pub entries-tell : (name : List ℕ) → Tells name (is_entry name) (λ f. entry_of f.slot)
entries-tell name f = (
  λ n. and_from (is_rel_type (get_or (entry_of f.slot) 0 0)) _
      (ap is_rel_type (entry-type f.slot.bytes) ∙ n.0)
      ((bytes_eq-Decides (take 16 (drop 3 (entry_of f.slot))) (slot_name name)).1
      (sym (entry-name f.slot.bytes) ∙ n.1)),
  λ e.
      let p = and_parts (is_rel_type (get_or (entry_of f.slot) 0 0)) _ e in (
        sym (ap is_rel_type (entry-type f.slot.bytes)) ∙ p.0,
        entry-name f.slot.bytes
            ∙ (bytes_eq-Decides (take 16 (drop 3 (entry_of f.slot))) (slot_name name)).0 p.1,
      ),
)

pub stays-tell : (img : Image) (name : List ℕ) → Tells name (is_of name) (stays_of img)
stays-tell img name f = entries-tell name f

pub not-entry : (name : List ℕ) (f : File) → ¬ (IsNamed name f) → is_entry name (entry_of f.slot) ≡ false
not-entry name f not = elim (cases_Bool (is_entry name (entry_of f.slot))) [
  | inl e ↦ absurd (not ((entries-tell name f).1 e))
  | inr e ↦ e
]

module _ {X : Type 0} (p : X → Bool) where
  -- s, element n of these, is the first that the test takes
  record IsFirstOf (xs : List X) (n : ℕ) (s : X) : Type 0 where
    at : slice_get xs n ≡ Some s
    is : p s ≡ true
    before : (k : ℕ) (t : X) → k < n → slice_get xs k ≡ Some t → p t ≡ false

  -- those that it takes begin with it
  head-of : (xs : List X) (n : ℕ) (s : X) → IsFirstOf xs n s → (rest : List X) × (filter p xs ≡ s ∷ rest)
  head-of [] n s x = absurd (none-some s x.at)
  head-of (y ∷ xs) zero s x =
      let e : y ≡ s = same_Some y s x.at in
      (filter p xs, rw (ap p e ∙ x.is) (ap (λ (z : X). z ∷ filter p xs) e))
  head-of (y ∷ xs) (suc n) s x =
      let r = head-of xs n s (record {
        at = x.at;
        is = x.is;
        before = λ k t lt at. x.before (suc k) t (omega (arith, lt)) at;
      }) in
      (r.0, rw (x.before 0 y (omega arith) refl) r.1)

  abbrev first-of-these : List X → X → X
  first-of-these [] d = d
  first-of-these (z ∷ zs) d = z

  -- behind one that it doesn't take
  one-behind : (y : X) (xs : List X) (n : ℕ) (s : X) → p y ≡ false → IsFirstOf xs n s
      → (k : ℕ) (t : X) → k < suc n → slice_get (y ∷ xs) k ≡ Some t → p t ≡ false
  one-behind y xs n s is x zero t lt at = sym (ap p (same_Some y t at)) ∙ is
  one-behind y xs n s is x (suc k) t lt at = x.before k t (omega (arith, lt)) at

  first-by : (y : X) (xs : List X) (s : X) (rest : List X) (b : Bool) → p y ≡ b
      → (if b then y ∷ filter p xs else filter p xs) ≡ s ∷ rest
      → (filter p xs ≡ s ∷ rest → (n : ℕ) × IsFirstOf xs n s) → (n : ℕ) × IsFirstOf (y ∷ xs) n s
  first-by y xs s rest true is e behind =
      let same : y ≡ s = ap (λ (zs : List X). first-of-these zs y) e in (
        0,
        record { at = ap Some same; is = sym (ap p same) ∙ is; before = λ k t lt at. absurd (omega (arith, lt)) },
      )
  first-by y xs s rest false is e behind =
      let r = behind e in
      (suc r.0, record { at = r.1.at; is = r.1.is; before = one-behind y xs r.0 s is r.1 })

  first-of : (xs : List X) (s : X) (rest : List X) → filter p xs ≡ s ∷ rest → (n : ℕ) × IsFirstOf xs n s
  first-of [] s rest e = cc
  first-of (y ∷ xs) s rest e = first-by y xs s rest (p y) refl e (λ d. first-of xs s rest d)

  -- the file of which that is told
  pub file-at : (view : File → X) (fs : List File) (n : ℕ) (s : X) → slice_get (map view fs) n ≡ Some s
      → (f : File) × (slice_get fs n ≡ Some f) × (view f ≡ s)
  file-at view [] n s e = absurd (none-some s e)
  file-at view (f ∷ fs) zero s e = (f, refl, same_Some (view f) s e)
  file-at view (f ∷ fs) (suc n) s e = file-at view fs n s e

  not-told : (name : List ℕ) (view : File → X) (f : File) → Tells name p view → ¬ (IsNamed name f) → p (view f) ≡ false
  not-told name view f tells not = elim (cases_Bool (p (view f))) [
    | inl e ↦ absurd (not ((tells f).1 e))
    | inr e ↦ e
  ]

  -- where what is told of the files of the name is the same, so is the first of them
  pub first-kept : (old new : File → X) (l m : Layout) (name : List ℕ) → Tells name p old → Tells name p new
      → filter p (map new m.files) ≡ filter p (map old l.files) → (n : ℕ) (f : File) → IsFirst l name n f
      → (k : ℕ) × (g : File) × IsFirst m name k g × (new g ≡ old f)
  first-kept old new l m name had has same n f x =
      let h = head-of (map old l.files) n (old f) (record {
        at = slice_get-map old l.files n ∙ ap (option_map old) x.file;
        is = (had f).0 x.named;
        before = λ k t lt at.
            let g = file-at old l.files k t at in
            ap p (sym g.2) ∙ not-told name old g.0 had (x.first k g.0 lt g.1);
      }) in
      let r = first-of (map new m.files) (old f) h.0 (same ∙ h.1) in
      let g = file-at new m.files r.0 (old f) r.1.at in (
        r.0,
        g.0,
        record {
          file = g.1;
          named = (has g.0).1 (ap p g.2 ∙ r.1.is);
          first = λ k e lt at named. false≢true
              (sym (r.1.before k (new e) lt (slice_get-map new m.files k ∙ ap (option_map new) at))
              ∙ (has e).0 named);
        },
        g.2,
      )
