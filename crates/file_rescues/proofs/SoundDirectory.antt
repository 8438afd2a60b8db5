-- The directory of a sound disk, read as far as its links lead, is all of it.
use Rattle.std.proofs.Common.{◌≡◌, ◌++◌, ◌∷◌, [], List, inl, inr, refl}
use Rattle.std.specs.Prelude.{None, Option, Some}
use Rattle.d64_image.specs.Images.{Image}
use Rattle.d64_image.specs.declared.place.Place.{Place}
use Rattle.disk_layout.proofs.lemmas.chains.Chains.{IsChain-one, Leads-push}
use Rattle.disk_layout.proofs.lemmas.layouts.Unsound.{no_bad_link, no_loop}
use Rattle.disk_layout.proofs.lemmas.lists.Lists.{all-map}
use Rattle.disk_layout.proofs.lemmas.lists.Once.{all-in}
use Rattle.disk_layout.specs.Chain.{byte}
use Rattle.disk_layout.specs.Directory.{IsDirectory, IsDirectoryPlace, directory_start}
use Rattle.disk_layout.specs.Fault.{IsDirectorySector}
use Rattle.disk_layout.specs.Layout.{IsLayout, Layout}
use Rattle.disk_layout.specs.declared.faults.Fault.{Fault}
use Rattle.disk_layout.specs.declared.faults.Fault.TheVariants.{BadLink, Loop}
use Rattle.disk_layout.specs.declared.slot.Slot.{Slot}
use Rattle.damaged_files.specs.reached.Directories.{IsReadSoFar}

module _ (img : Image) (l : Layout) (is : IsLayout img l) where
  pub read-whole : (ps : List Place) (entries : List Slot) (ended : Option Fault) → IsReadSoFar img ps entries ended
      → IsDirectory img ps entries
  read-whole ps entries None h = record {
    last = byte img h.last 1;
    chain = record {
      front = h.front;
      last = h.last;
      places = h.places;
      leads = h.leads;
      ends = (h.ends, refl);
      once = h.once;
    };
    on_track = all-map IsDirectoryPlace (λ p. p.track ≡ 18) ps (λ p c d. d.0) h.on_track;
    not_map = λ c. (all-in IsDirectoryPlace ps _ h.on_track c).1 refl;
    slots = h.slots;
  }
  read-whole ps entries (Some (BadLink p)) h = absurd (elim h.ends.1 [
    | inl nowhere ↦ no_bad_link img h.last (inl (last-one, nowhere)) (l, is)
    | inr out ↦ no_bad_link img h.last (inr (inl (last-one, out))) (l, is)
  ])
    where
      last-one : IsDirectorySector img h.last
      last-one = record {
        before = h.front;
        visits = (h.leads, rw h.places at h.once);
        places = rw h.places at h.on_track;
      }
  read-whole ps entries (Some (Loop p)) h = absurd (no_loop img p (inl (
    h.front ++ h.last ∷ [],
    (
      Leads-push img directory_start h.front h.last p h.leads h.ends.0,
      rw h.places at h.once,
      rw h.places at h.ends.1,
    ),
    rw h.places at h.on_track,
  )) (l, is))
  read-whole ps entries (Some fault) h = absurd h.ends

  -- its sectors are those of the layout
  pub read-sectors : (ps : List Place) (entries : List Slot) (ended : Option Fault) → IsReadSoFar img ps entries ended
      → ps ≡ l.directory
  read-sectors ps entries ended h =
      let d = read-whole ps entries ended h in
      (IsChain-one img directory_start ps l.directory d.last is.directory.last d.chain is.directory.chain).0
