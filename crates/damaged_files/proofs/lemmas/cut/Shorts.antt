-- Whether a chain is too short, from what was judged of its file.
use Rattle.std.proofs.Common.{◌≡◌, Bool, List, ap, false, inl, inr, subst, sym, true, ◌∙◌, ℕ, IsTrue}
use Rattle.std.proofs.lemmas.Bool.{false≢true}
use Rattle.std.specs.Prelude.{◌||◌, ◌↔◌, replicate, slice_index}
use Rattle.d64_image.specs.Images.{Image, Sector, sector}
use Rattle.d64_image.specs.declared.place.Place.{Place}
use Rattle.disk_layout.specs.Layout.{File, is_rel, is_rel_type}
use Rattle.disk_layout.specs.declared.slot.Slot.{Slot}
use Rattle.disk_layout.proofs.lemmas.whole.Files.{rel-not-plain}
use Rattle.damaged_files.specs.cut.Cut.{IsCutIn, IsListedPast, IsShort}
use Rattle.disk_layout.specs.Listed.{ListsWell, NeverGrows, is_plain}

-- where both grow or neither does, the same is listed well
lists-as : (img : Image) (a b : Type 0) (bytes : Sector) (used : ℕ) → (b → a) → ListsWell img a bytes used
    → ListsWell img b bytes used
lists-as img a b bytes used to (inl ends) = inl ends
lists-as img a b bytes used to (inr (grows, more)) = inr (λ h. grows (to h), more)

pub past-as : (img : Image) (a b : Type 0) (f : File) → (a → b) → IsListedPast img a f → IsListedPast img b f
past-as img a b f to h = record {
  side = h.side;
  there = h.there;
  past = λ well. h.past (lists-as img b a _ _ to well);
}

module _ (img : Image) (strays shop never : Type 0) (f : File) (s : Slot) (p : Place) (same : f.slot ≡ s)
    (rel : IsTrue (is_rel f.slot)) (grows : never ↔ NeverGrows shop s) where
  there : never → NeverGrows shop f.slot
  there h = let P : Slot → Type 0 = NeverGrows shop in subst P (sym same) (grows.0 h)

  back : NeverGrows shop f.slot → never
  back h = let P : Slot → Type 0 = NeverGrows shop in grows.1 (subst P same h)

  pub short-listed : IsListedPast img never f → IsShort img strays shop f p
  short-listed h = inl (rel, past-as img never (NeverGrows shop f.slot) f there h)

  pub short-blank : sector img p ≡ replicate 256 0 → IsShort img strays shop f p
  short-blank h = inr (inr (ap (λ b. b || is_plain f.slot) rel, h))

  -- nothing is listed past the chain: a sector of zeros ends it
  pub short-so : (listed : Bool) → listed ≡ false → (IsTrue listed ↔ IsListedPast img never f)
      → IsShort img strays shop f p → sector img p ≡ replicate 256 0
  short-so listed off told (inl (_, past)) =
      absurd (false≢true (sym off ∙ told.1 (past-as img (NeverGrows shop f.slot) never f back past)))
  short-so listed off told (inr (inl ((plain, _, _), _))) = absurd (rel-not-plain f.slot rel plain)
  short-so listed off told (inr (inr (_, zeros))) = zeros

-- the slot is that of a relative file
pub rel-is : (f : File) (s : Slot) (bytes : List ℕ) → f.slot ≡ s → bytes ≡ s.bytes
    → true ≡ is_rel_type (slice_index bytes 2) → IsTrue (is_rel f.slot)
rel-is f s bytes same view is =
    ap is_rel same ∙ sym (ap (λ (bs : List ℕ). is_rel_type (slice_index bs 2)) view) ∙ sym is

-- a file that is cut short by some facts of the disk is so by others that follow from them
pub cut-as : (img : Image) (strays strays' shop shop' : Type 0) (f : File) (p : Place) → (strays → strays')
    → (shop → shop') → IsCutIn img strays shop f p → IsCutIn img strays' shop' f p
cut-as img strays strays' shop shop' f p to up (inr h) =
    inr (record { none = h.none; counts = h.counts; lost = to h.lost; entry = h.entry })
cut-as img strays strays' shop shop' f p to up (inl h) = inl (record { last = h.last; short = short h.short })
  where
    short : IsShort img strays shop f p → IsShort img strays' shop' f p
    short (inl (rel, past)) =
        inl (rel, past-as img (NeverGrows shop f.slot) (NeverGrows shop' f.slot) f (λ (s, size, name). (up s, size, name)) past)
    short (inr (inl (counts, stray))) = inr (inl (counts, to stray))
    short (inr (inr zeros)) = inr (inr zeros)
