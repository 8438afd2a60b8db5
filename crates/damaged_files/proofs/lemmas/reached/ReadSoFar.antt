-- The directory's sectors, as far as they were read.
use Rattle.std.proofs.Common.{◌≡◌, ◌≢◌, ◌⊎◌, inl, inr, ℕ, List, [], ◌∷◌, ◌++◌, ap, refl, sym, ◌∙◌}
use Rattle.std.specs.Prelude.{Contains, None, Option, Some, slice_index}
use Rattle.d64_image.specs.Images.{Image, sector}
use Rattle.d64_image.specs.declared.place.Place.{Place}
use Rattle.disk_layout.proofs.lemmas.chains.Directories.{IsReached}
use Rattle.disk_layout.specs.Chain.{Names, NamesNone}
use Rattle.disk_layout.specs.Directory.{IsDirectoryPlace, used_slots}
use Rattle.disk_layout.specs.Listing.{LinksOut}
use Rattle.disk_layout.specs.declared.faults.Fault.{Fault}
use Rattle.disk_layout.specs.declared.faults.Fault.TheVariants.{BadLink, Loop}
use Rattle.disk_layout.specs.declared.slot.Slot.{Slot}
use Rattle.damaged_files.specs.reached.Directories.{DirectoryEnds, IsReadSoFar}

so-far : (img : Image) (before ps : List Place) (p : Place) (entries : List Slot) (fault : Option Fault)
    → IsReached img before p → ps ≡ before ++ p ∷ [] → entries ≡ used_slots img (before ++ p ∷ [])
    → DirectoryEnds img ps p fault → IsReadSoFar img ps entries fault
so-far img before ps p entries fault h all slots ends = record {
  front = before;
  last = p;
  places = all;
  leads = h.leads;
  once = rw all h.once;
  on_track = rw all h.places;
  ends = ends;
  slots = slots ∙ ap (used_slots img) (sym all);
}

pub ends-here : (img : Image) (before ps : List Place) (p : Place) (entries : List Slot) (bytes : List ℕ)
    → IsReached img before p → ps ≡ before ++ p ∷ [] → entries ≡ used_slots img (before ++ p ∷ [])
    → bytes ≡ sector img p → slice_index bytes 0 ≡ 0 → IsReadSoFar img ps entries None
ends-here img before ps p entries bytes h all slots read zero =
    so-far img before ps p entries None h all slots (sym (ap (λ (b : List ℕ). slice_index b 0) read) ∙ zero)

pub leads-out : (img : Image) (before ps : List Place) (p : Place) (entries : List Slot) (bytes : List ℕ)
    → IsReached img before p → ps ≡ before ++ p ∷ [] → entries ≡ used_slots img (before ++ p ∷ [])
    → bytes ≡ sector img p → slice_index bytes 0 ≢ 0 → LinksOut bytes → IsReadSoFar img ps entries (Some (BadLink p))
leads-out img before ps p entries bytes h all slots read ne out =
    so-far img before ps p entries (Some (BadLink p)) h all slots (refl, rw (← read) (by out))
  where
    by : LinksOut bytes
        → ((slice_index bytes 0 ≢ 0) × NamesNone bytes 0) ⊎ ((q : Place) × Names bytes 0 q × ¬ (IsDirectoryPlace q))
    by (inl none) = inl (ne, none)
    by (inr other) = inr other

pub leads-back : (img : Image) (before ps : List Place) (p next : Place) (entries : List Slot) (bytes : List ℕ)
    → IsReached img before p → ps ≡ before ++ p ∷ [] → entries ≡ used_slots img (before ++ p ∷ [])
    → bytes ≡ sector img p → Names bytes 0 next → Contains ps next → IsReadSoFar img ps entries (Some (Loop next))
leads-back img before ps p next entries bytes h all slots read names there =
    so-far img before ps p entries (Some (Loop next)) h all slots (rw (← read) names, there)
