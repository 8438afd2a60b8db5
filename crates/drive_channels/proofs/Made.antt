-- A file that was made is the first of its name.
use Rattle.std.proofs.Common.{
  ℕ,
  zero,
  suc,
  ◌≡◌,
  ◌≢◌,
  ◌++◌,
  [],
  ◌∷◌,
  List,
  Some,
  Contains,
  length,
  map,
  option_map,
  slice_get,
  slice_range,
  sym,
  ◌∙◌,
  ap,
  subst,
  refl,
  arith,
}
use Rattle.std.proofs.lemmas.Option.{slice_get-map}
use Rattle.d64_image.specs.Images.{Image}
use Rattle.disk_layout.proofs.lemmas.kept.Kept.{kept-of_stays}
use Rattle.disk_layout.proofs.lemmas.layouts.Layouts.{get-contains}
use Rattle.disk_layout.proofs.lemmas.lists.Once.{map-in}
use Rattle.disk_layout.specs.Layout.{File, Layout}
use Rattle.disk_layout.specs.Rest.{IsFirst, IsNamed, Kept, slot_name}
use Rattle.disk_layout.specs.Same.{AddsFile, Stays, stays_of}
use Rattle.rel_records.specs.creation.Made.{IsTakenName}

-- what isn't at this place of a list is in the list without it
elsewhere : {X : Type 0} (before after : List X) (x : X) (k : ℕ) (y : X) → k ≢ length before
    → slice_get (before ++ x ∷ after) k ≡ Some y → Contains (before ++ after) y
elsewhere [] after x zero y other at = absurd (other refl)
elsewhere [] after x (suc k) y other at = get-contains after k y at
elsewhere (b ∷ before) after x zero y other at = (0, omega arith, cc)
elsewhere (b ∷ before) after x (suc k) y other at = let c = elsewhere before after x k y (λ s. other (ap suc s)) at in
    (suc c.0, omega (arith, c.1), c.2)

module _ (old new : Image) (l m : Layout) (name : List ℕ) (f : File) (adds : AddsFile old new l m f)
    (free : ¬ (IsTakenName l name)) where
  -- of the other files none has the name
  other-name : (k : ℕ) (g : File) → k ≢ length adds.before → slice_get m.files k ≡ Some g
      → ¬ (slice_range g.slot.bytes 5 21 ≡ slot_name name)
  other-name k g away at named =
      let there : slice_get (map (stays_of new) m.files) k ≡ Some (stays_of new g) =
      slice_get-map (stays_of new) m.files k ∙ ap (option_map (stays_of new)) at in
      let was : Contains (map (stays_of old) l.files) (stays_of new g) =
      subst (λ (ss : List Stays). Contains ss (stays_of new g)) (sym adds.had)
      (elsewhere adds.before adds.after (stays_of new f) k (stays_of new g) away
      (subst (λ (ss : List Stays). slice_get ss k ≡ Some (stays_of new g)) adds.has there)) in
      let h = map-in (stays_of old) l.files (stays_of new g) was in
      free (h.0, h.1, ap (λ (k : Kept). k.name) (kept-of_stays old new h.0 g h.2) ∙ named)

  pub first-made : (n : ℕ) → slice_get m.files n ≡ Some f → IsNamed name f → IsFirst m name n f
  first-made n at named = record {
    file = at;
    named = named;
    first = λ k g lt there is. other-name k g (λ same. other-name n f (λ e. omega (arith, lt, same, e)) at named.1)
        there is.1;
  }
