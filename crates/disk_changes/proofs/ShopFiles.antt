-- A shop's file among the entries that were read of an image, and none if it has no directory.
use Rattle.std.proofs.Common.{◌≡◌, ◌∙◌, ◌++◌, ◌∷◌, [], Bool, IsTrue, List, false, inl, inr, length, subst, sym, ℕ, ◌↔◌}
use Rattle.std.proofs.lemmas.Bool.{false≢true}
use Rattle.std.specs.Prelude.{Some, slice_get}
use Rattle.d64_image.specs.Images.{Image}
use Rattle.d64_image.specs.Memory.{sectors_in}
use Rattle.d64_image.specs.declared.place.Place.{Place}
use Rattle.disk_layout.proofs.lemmas.chains.Chains.{Leads-push, bad_link-no_chain, loop-no_chain}
use Rattle.disk_layout.proofs.lemmas.layouts.Layouts.{IsDirectory-one}
use Rattle.disk_layout.proofs.lemmas.layouts.Unsound.{visited-in}
use Rattle.disk_layout.proofs.lemmas.lists.Once.{all-in}
use Rattle.disk_layout.specs.Directory.{IsDirectory, directory_start}
use Rattle.disk_layout.specs.Fault.{HoldsOfDirectory, nowhere}
use Rattle.disk_layout.specs.declared.faults.Fault.{Fault}
use Rattle.disk_layout.specs.declared.faults.Fault.TheVariants.{BadLength, BadLink, BadSide, BadType, CountWrong}
use Rattle.disk_layout.specs.declared.faults.Fault.TheVariants.{Device, Loop, MapWrong, OwnedTwice, Unclosed}
use Rattle.disk_layout.specs.declared.slot.Slot.{Slot}
use Rattle.disk_changes.specs.ShopFiles.{HasShopFile, IsNamedShopSlot}

-- an image of which such a fault holds has no directory
no-directory : (img : Image) (fault : Fault) (ps : List Place) (es : List Slot) → HoldsOfDirectory nowhere img fault
    → ¬ (IsDirectory img ps es)
no-directory img (BadLink p) ps es (at, inl none) d =
    bad_link-no_chain img directory_start p at.before ps d.last at.visits.0 none d.chain
no-directory img (BadLink p) ps es (at, inr (q, link, out)) d =
    let there = visited-in img directory_start q (at.before ++ p ∷ []) ps d.last
    (Leads-push img directory_start at.before p q at.visits.0 link) d.chain in
    out (all-in (λ x. x.track ≡ 18) ps q d.on_track there, λ e. d.not_map (rw (← e) there))
no-directory img (Loop p) ps es (vs, back, on) d = loop-no_chain img directory_start p vs ps d.last back.0 back.2 d.chain
no-directory img (Device p) ps es h d = absurd h
no-directory img (OwnedTwice p) ps es h d = absurd h
no-directory img (BadType p) ps es h d = absurd h
no-directory img (Unclosed p) ps es h d = absurd h
no-directory img (BadSide p) ps es h d = absurd h
no-directory img (BadLength p) ps es h d = absurd h
no-directory img (CountWrong p) ps es h d = absurd h
no-directory img (MapWrong p) ps es h d = absurd h

-- the directory was read: one of its entries is that, or none
pub shop-file-read : (image name : List ℕ) (now : Image) (ps : List Place) (es slots : List Slot) (has : Bool)
    → length image ≡ 174848 → now ≡ sectors_in image → slots ≡ es → IsDirectory now ps es
    → (IsTrue has ↔ ((k : ℕ) × (s : Slot) × (slice_get slots k ≡ Some s) × IsNamedShopSlot name s))
    → IsTrue has ↔ HasShopFile image name
shop-file-read image name now ps es slots has size same all d is =
    let P : Image → Type 0 = λ i. IsDirectory i ps es in
    let of-image = subst P same d in (
      λ t. let (k, s, at, shop) = is.0 t in record {
        size = size;
        sectors = ps;
        entries = es;
        directory = of-image;
        number = k;
        slot = s;
        there = subst (λ (xs : List Slot). slice_get xs k ≡ Some s) all at;
        shop = shop;
      },
      λ h.
          let one = (IsDirectory-one (sectors_in image) ps h.sectors es h.entries of-image h.directory).1 in
          is.1 (
            h.number,
            h.slot,
            subst (λ (xs : List Slot). slice_get xs h.number ≡ Some h.slot) (sym (all ∙ one)) h.there,
            h.shop,
          ),
    )

-- it wasn't: none is
pub shop-file-unread : (image name : List ℕ) (now : Image) (fault : Fault) → now ≡ sectors_in image
    → HoldsOfDirectory nowhere now fault → IsTrue false ↔ HasShopFile image name
shop-file-unread image name now fault same holds = (
  λ t. absurd (false≢true t),
  λ h. absurd (no-directory (sectors_in image) fault h.sectors h.entries
      (subst (λ i. HoldsOfDirectory nowhere i fault) same holds) h.directory),
)
