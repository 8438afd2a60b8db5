-- A table of owners that is filled from the last entry to the map has of each sector the first that has it.
use Rattle.std.proofs.Common.{◌≡◌, ◌<◌, ◌≤◌, ◌+◌, ℕ, inl, inr, Bool, true, false, List, [], ◌∷◌, ◌++◌, drop, get_or}
use Rattle.std.proofs.Common.{length, map, refl, sym, subst, take, ap, ◌∙◌, arith, get_or-set_same, get_or-set_other}
use Rattle.std.specs.Prelude.{Contains, if◌then◌else◌, slice_set}
use Rattle.std.proofs.lemmas.Bool.{false≢true}
use Rattle.std.proofs.lemmas.List.{drop_all, drop_more, take_more}
use Rattle.std.proofs.lemmas.List.Elements.{Contains-append_left, Contains-push, Contains-push_cases}
use Rattle.d64_image.proofs.Places.{index_below, other_index, same_or_other}
use Rattle.d64_image.specs.Places.{index_of}
use Rattle.d64_image.specs.declared.place.Place.{Place}
use Rattle.disk_layout.specs.Directory.{map_place}
use Rattle.disk_pictures.proofs.DrawnOnce.{has-there, there-has}
use Rattle.disk_pictures.specs.Drawings.{drawn_of, file_in, has, owner_among, owner_of}
use Rattle.disk_pictures.specs.declared.drawn_file.DrawnFile.{DrawnFile}
use Rattle.disk_pictures.specs.declared.owners.Owner.{Owner}
use Rattle.disk_pictures.specs.declared.owners.Owner.TheVariants as owner

-- lists that have the same places
has-same : (ps qs : List Place) (p : Place) → (Contains ps p → Contains qs p) → (Contains qs p → Contains ps p)
    → has ps p ≡ has qs p
has-same ps qs p there back = by (has ps p) (has qs p) refl refl
  where
    by : (a b : Bool) → has ps p ≡ a → has qs p ≡ b → a ≡ b
    by true true e h = refl
    by false false e h = refl
    by true false e h = absurd (false≢true (sym h ∙ there-has qs p (there (has-there ps p e))))
    by false true e h = absurd (false≢true (sym e ∙ there-has ps p (back (has-there qs p h))))

-- one more sector given
pub given-more : (table : List Owner) (ps : List Place) (q p : Place) (o old : Owner) → length table ≡ 683
    → get_or table (index_of p) owner.Nobody ≡ (if has ps p then o else old)
    → get_or (slice_set table (index_of q) o) (index_of p) owner.Nobody ≡ (if has (ps ++ q ∷ []) p then o else old)
given-more table ps q p o old full so_far = elim (same_or_other q p) [
  | inl e ↦ subst (λ (x : Place). get_or (slice_set table (index_of q) o) (index_of x) owner.Nobody ≡
      (if has (ps ++ q ∷ []) x then o else old)) e
      (get_or-set_same table (index_of q) o owner.Nobody (omega (arith, index_below q, full))
      ∙ sym (ap (λ (b : Bool). if b then o else old) (there-has (ps ++ q ∷ []) q (Contains-push ps q))))
  | inr other ↦ get_or-set_other table (index_of q) (index_of p) o owner.Nobody (λ e. other_index q p other (sym e))
      ∙ so_far
      ∙ ap (λ (b : Bool). if b then o else old) (has-same ps (ps ++ q ∷ []) p (Contains-append_left ps (q ∷ []) p)
      (λ c. elim (Contains-push_cases ps q p c) [ inl d ↦ d | inr e ↦ absurd (other e) ]))
]

-- and one more of a list
pub given-next : (table : List Owner) (ps : List Place) (i : ℕ) (q p : Place) (o old : Owner) → length table ≡ 683
    → i < length ps → get_or ps i q ≡ q
    → get_or table (index_of p) owner.Nobody ≡ (if has (take i ps) p then o else old)
    → get_or (slice_set table (index_of q) o) (index_of p) owner.Nobody ≡ (if has (take (i + 1) ps) p then o else old)
given-next table ps i q p o old full inside here so_far =
    given-more table (take i ps) q p o old full so_far
    ∙ ap (λ (qs : List Place). if has qs p then o else old)
    (sym (take_more ps i q inside ∙ ap (λ (x : Place). take i ps ++ x ∷ []) here))

-- the first of the entries from number i on
abbrev pub rest_owner : List DrawnFile → ℕ → Place → Owner
rest_owner files i p = owner_among i (map file_in (drop i files)) p

-- one entry more, its side sectors given before its blocks
pub entry-given : (files : List DrawnFile) (i : ℕ) (f : DrawnFile) (p : Place) (old sides blocks : Owner)
    → i < length files → get_or files i f ≡ f
    → old ≡ rest_owner files (i + 1) p → sides ≡ (if has f.sides.items p then owner.Sides i else old)
    → blocks ≡ (if has f.blocks.items p then owner.Blocks i else sides) → blocks ≡ rest_owner files i p
unfolding owner_among
entry-given files i f p old sides blocks inside here so_far given given' =
    given' ∙ ap (λ (o : Owner). if has f.blocks.items p then owner.Blocks i else o)
    (given ∙ ap (λ (o : Owner). if has f.sides.items p then owner.Sides i else o) so_far)
    ∙ sym (ap (λ (fs : List DrawnFile). owner_among i (map file_in fs) p)
    (drop_more files i f inside ∙ ap (λ (x : DrawnFile). x ∷ drop (i + 1) files) here))

-- the directory and the map at last
pub all-given : (directory : List Place) (files : List DrawnFile) (p : Place) (entries chain all : Owner)
    → entries ≡ owner_among 0 (map file_in files) p
    → chain ≡ (if has directory p then owner.Directory else entries)
    → all ≡ (if has (map_place ∷ []) p then owner.Map else chain)
    → all ≡ owner_of (drawn_of directory files) p
unfolding owner_of
all-given directory files p entries chain all e e' e'' =
    e'' ∙ ap (λ (o : Owner). if has (map_place ∷ []) p then owner.Map else o)
    (e' ∙ ap (λ (o : Owner). if has directory p then owner.Directory else o) e)

-- no entry is given yet
pub none-given : (files : List DrawnFile) (i : ℕ) (p : Place) → length files ≤ i → rest_owner files i p ≡ owner.Nobody
unfolding owner_among
none-given files i p past = ap (λ (fs : List DrawnFile). owner_among i (map file_in fs) p) (drop_all i files past)
