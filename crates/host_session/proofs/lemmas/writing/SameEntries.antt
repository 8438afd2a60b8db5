-- The files of an image whose entries stay but for their counts.
use Rattle.std.proofs.Common.{◌≡◌, ◌≢◌, ℕ, zero, suc, ◌+◌, inl, inr, Bool, true, false, not, ◌&&◌, List, [], ◌∷◌, ◌++◌}
use Rattle.std.proofs.Common.{length, drop, map, refl, sym, ◌∙◌, ap, subst, arith, add-zero}
use Rattle.std.specs.Prelude.{IsTrue, Some, codes, filter, flat_map, nat_eq, slice_get, slice_index, slice_range}
use Rattle.std.proofs.lemmas.Bool.{and_parts, eqb-false, cases_eq, not-true}
use Rattle.std.proofs.lemmas.Option.{none-some, same_Some}
use Rattle.d64_image.specs.Images.{Image, sector}
use Rattle.d64_image.specs.declared.place.Place.{Place}
use Rattle.disk_layout.proofs.lemmas.counts.Counts.{uncounted-face, uncounted-name}
use Rattle.disk_layout.specs.Directory.{type_byte}
use Rattle.disk_layout.specs.Entries.{SameEntries, uncounted}
use Rattle.disk_layout.specs.Layout.{File, Layout, file_owns, record_length}
use Rattle.disk_layout.specs.Records.{joined, pieces, record_count, records}
use Rattle.disk_layout.specs.Room.{Fits, IsTop}
use Rattle.disk_layout.specs.Rest.{IsFirst, IsNamed, kept_of, others, slot_name, taken_by_others}
use Rattle.disk_layout.specs.declared.slot.Slot.{Slot}
use Rattle.disk_layout.proofs.lemmas.kept.Kept.{joined-sectors}

-- the entry at a place, where entries stay but for their counts
pub entry-at : (fs gs : List File) → SameEntries (map (λ (f : File). f.slot) gs) (map (λ (f : File). f.slot) fs)
    → (j : ℕ) (g : File) → slice_get gs j ≡ Some g
    → (f : File) × (slice_get fs j ≡ Some f) × (uncounted g.slot ≡ uncounted f.slot)
entry-at fs [] e j g h = absurd (none-some g h)
entry-at [] (x ∷ gs) e j g h = absurd (omega (arith, ap length e))
entry-at (f ∷ fs) (x ∷ gs) e zero g h =
    let same : x ≡ g = same_Some x g h in (
      f,
      refl,
      ap (λ (k : File). uncounted k.slot) (sym same)
          ∙ ap (λ (xs : List Slot). first_of_list xs (uncounted f.slot)) e,
    )
  where
    first_of_list : List Slot → Slot → Slot
    first_of_list [] d = d
    first_of_list (y ∷ ys) d = y
entry-at (f ∷ fs) (x ∷ gs) e (suc j) g h = entry-at fs gs (ap (drop 1) e) j g h

-- such an entry has the same name
named-kept : (name : List ℕ) (f g : File) → uncounted g.slot ≡ uncounted f.slot → IsNamed name f → IsNamed name g
named-kept name f g e n =
    let kind : type_byte g.slot ≡ type_byte f.slot = (uncounted-face g.slot f.slot e).kind in
    (subst (λ (t : ℕ). IsTrue (is_rel_type t)) (sym kind) n.0, uncounted-name g.slot f.slot e ∙ n.1)
  where
    is_rel_type : ℕ → Bool
    is_rel_type t = or (nat_eq t 132) (nat_eq t 196)
      where
        or : Bool → Bool → Bool
        or true b = true
        or false b = b

-- so the first file of a name is at the same place
pub first-kept : (l m : Layout) (name : List ℕ) (k : ℕ) (f g : File)
    → SameEntries (map (λ (x : File). x.slot) m.files) (map (λ (x : File). x.slot) l.files)
    → IsFirst l name k f → slice_get m.files k ≡ Some g → IsFirst m name k g
first-kept l m name k f g e x there =
    let o = entry-at l.files m.files e k g there in
    let same : o.0 ≡ f = same_Some o.0 f (sym o.1 ∙ x.file) in
    record {
      file = there;
      named = named-kept name f g (o.2 ∙ ap (λ (y : File). uncounted y.slot) same) x.named;
      first = λ j h lt at nm. let p = entry-at l.files m.files e j h at in
          x.first j p.0 lt p.1 (named-kept name h p.0 (sym p.2) nm);
    }

-- records, and all that is asked to stay, of a file whose blocks' bytes stay

joined-same : (a b : Image) (ps : List Place) → map (sector b) ps ≡ map (sector a) ps → joined b ps ≡ joined a ps
joined-same a b ps e = joined-sectors b ps ∙ ap (flat_map (drop 2)) e ∙ sym (joined-sectors a ps)

pub records-same : (a b : Image) (f : File) → map (sector b) f.blocks ≡ map (sector a) f.blocks
    → records b f ≡ records a f
unfolding records
records-same a b f e = ap (pieces (record_length f.slot) (record_count (length f.blocks) f.last (record_length f.slot)))
    (joined-same a b f.blocks e)

kept-same : (a b : Image) (f : File) → map (sector b) f.blocks ≡ map (sector a) f.blocks → kept_of b f ≡ kept_of a f
kept-same a b f e = λ i. record (kept_of a f) { bytes = e i }

-- the files but two are the same, where all but these two are
module _ (a b : ℕ) where
  tests : (n : ℕ) → (not (nat_eq n a) && not (nat_eq n b)) ≡ true → (n ≢ a) × (n ≢ b)
  tests n e = let p = and_parts (not (nat_eq n a)) (not (nat_eq n b)) e in
      (eqb-false n a (not-true (nat_eq n a) p.0), eqb-false n b (not-true (nat_eq n b) p.1))

  pub others-same : (n : ℕ) (fs gs : List File) → length gs ≡ length fs
      → ((k : ℕ) (f : File) → n + k ≢ a → n + k ≢ b → slice_get fs k ≡ Some f → slice_get gs k ≡ Some f)
      → others a b n gs ≡ others a b n fs
  others-same n [] [] e h = refl
  others-same n [] (g ∷ gs) e h = absurd (omega (arith, e))
  others-same n (f ∷ fs) [] e h = absurd (omega (arith, e))
  others-same n (f ∷ fs) (g ∷ gs) e h =
      let rest : others a b (suc n) gs ≡ others a b (suc n) fs
      = others-same (suc n) fs gs (omega (arith, e)) (λ k x na nb at. h (suc k) x (λ d. na (omega (arith, d)))
      (λ d. nb (omega (arith, d))) at) in
      (λ i. here (not (nat_eq n a) && not (nat_eq n b)) refl i ++ rest i)
    where
      here : (t : Bool) → (not (nat_eq n a) && not (nat_eq n b)) ≡ t
          → filter (λ _. t) (g ∷ []) ≡ filter (λ _. t) (f ∷ [])
      here true s = let p = tests n s in
          ap (λ (x : File). x ∷ [])
          (same_Some g f (h 0 f (λ d. p.0 (sym (add-zero n) ∙ d)) (λ d. p.1 (sym (add-zero n) ∙ d)) refl))
      here false s = refl

  pub kept-others : (old new : Image) (n : ℕ) (fs : List File)
      → ((k : ℕ) (f : File) → n + k ≢ a → n + k ≢ b → slice_get fs k ≡ Some f
      → map (sector new) f.blocks ≡ map (sector old) f.blocks)
      → map (kept_of new) (others a b n fs) ≡ map (kept_of old) (others a b n fs)
  kept-others old new n [] h = refl
  kept-others old new n (f ∷ fs) h =
      here (not (nat_eq n a) && not (nat_eq n b)) refl
      (kept-others old new (suc n) fs (λ k x na nb at. h (suc k) x (λ d. na (omega (arith, d)))
      (λ d. nb (omega (arith, d))) at))
    where
      here : (t : Bool) → (not (nat_eq n a) && not (nat_eq n b)) ≡ t
          → map (kept_of new) (others a b (suc n) fs) ≡ map (kept_of old) (others a b (suc n) fs)
          → map (kept_of new) (filter (λ _. t) (f ∷ []) ++ others a b (suc n) fs) ≡ map (kept_of old)
          (filter (λ _. t) (f ∷ []) ++ others a b (suc n) fs)
      here true s rest = let p = tests n s in
          λ i. kept-same old new f (h 0 f (λ d. p.0 (sym (add-zero n) ∙ d)) (λ d. p.1 (sym (add-zero n) ∙ d)) refl) i ∷
          rest i
      here false s rest = rest

-- what the files but the one at place a own, where each is the same, but that at place b owns the same
pub owned-same : (a b n : ℕ) (fs gs : List File) → length gs ≡ length fs
    → ((k : ℕ) (f : File) → n + k ≢ b → slice_get fs k ≡ Some f → slice_get gs k ≡ Some f)
    → ((k : ℕ) (f : File) → n + k ≡ b → slice_get fs k ≡ Some f → (g : File) × (slice_get gs k ≡ Some g)
    × (file_owns g ≡ file_owns f))
    → flat_map file_owns (others a a n gs) ≡ flat_map file_owns (others a a n fs)
owned-same a b n [] [] e same there = refl
owned-same a b n [] (g ∷ gs) e same there = absurd (omega (arith, e))
owned-same a b n (f ∷ fs) [] e same there = absurd (omega (arith, e))
owned-same a b n (f ∷ fs) (g ∷ gs) e same there =
    step (not (nat_eq n a) && not (nat_eq n a))
    (owned-same a b (suc n) fs gs (omega (arith, e))
    (λ k x d at. same (suc k) x (λ m. d (omega (arith, m))) at)
    (λ k x d at. there (suc k) x (omega (arith, d)) at))
  where
    one : file_owns g ≡ file_owns f
    one = elim (cases_eq n b) [
      | inl d ↦ let o = there 0 f (add-zero n ∙ d) refl in ap file_owns (same_Some g o.0 o.1) ∙ o.2
      | inr d ↦ ap file_owns (same_Some g f (same 0 f (λ m. d (sym (add-zero n) ∙ m)) refl))
    ]

    step : (t : Bool) → flat_map file_owns (others a a (suc n) gs) ≡ flat_map file_owns (others a a (suc n) fs)
        → flat_map file_owns (filter (λ _. t) (g ∷ []) ++ others a a (suc n) gs) ≡ flat_map file_owns
        (filter (λ _. t) (f ∷ []) ++ others a a (suc n) fs)
    step true rest = λ i. one i ++ rest i
    step false rest = rest

-- as many entries
pub entries-long : (fs gs : List File) → SameEntries (map (λ (f : File). f.slot) gs) (map (λ (f : File). f.slot) fs)
    → length gs ≡ length fs
entries-long [] [] e = refl
entries-long [] (g ∷ gs) e = absurd (omega (arith, ap length e))
entries-long (f ∷ fs) [] e = absurd (omega (arith, ap length e))
entries-long (f ∷ fs) (g ∷ gs) e = ap suc (entries-long fs gs (ap (drop 1) e))

-- the top is one of what the others own
pub top-kept : (l m : Layout) (n r : ℕ) → taken_by_others m n ≡ taken_by_others l n → IsTop l n r → IsTop m n r
top-kept l m n r e x = record {
  fits = moved r (sym e) x.fits;
  greatest = λ s y. x.greatest s (back s y);
}
  where
    moved : (s : ℕ) → taken_by_others l n ≡ taken_by_others m n → Fits l n s → Fits m n s
    moved s d y = record { number = y.number; blocks = y.blocks; room = omega (arith, d, y.room) }

    back : (s : ℕ) → Fits m n s → Fits l n s
    back s y = record { number = y.number; blocks = y.blocks; room = omega (arith, e, y.room) }

-- a file isn't named both ways
pub apart : (l : Layout) (a b : ℕ) (f g : File) → IsFirst l (codes "STOCK") a f → IsFirst l (codes "REQUESTS") b g
    → a ≢ b
apart l a b f g x y e =
    let same : f ≡ g = same_Some f g (sym x.file ∙ ap (slice_get l.files) e ∙ y.file) in
    let names : slot_name (codes "STOCK") ≡ slot_name (codes "REQUESTS") = sym x.named.1
    ∙ ap (λ (h : File). slice_range h.slot.bytes 5 21) same ∙ y.named.1 in
    let bytes : 83 ≡ 82 = ap (λ (xs : List ℕ). slice_index xs 0) names in
    omega (arith, bytes)
