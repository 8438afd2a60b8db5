-- An entry of GEOS is that of a file of the layout; a disk that isn't sound has no layout.
use Rattle.std.proofs.Common.{◌≡◌, List, map, refl, subst, sym, ◌∙◌, ℕ}
use Rattle.std.proofs.lemmas.Bool.{false≢true}
use Rattle.std.specs.Prelude.{Some, slice_get}
use Rattle.d64_image.specs.Images.{Image}
use Rattle.d64_image.specs.Memory.{disk_image}
use Rattle.disk_layout.specs.Layout.{File, IsLayout, Layout}
use Rattle.disk_layout.specs.declared.slot.Slot.{Slot}
use Rattle.damaged_files.proofs.lemmas.cut.Entries.{entry-at, file-at}
use Rattle.damaged_files.specs.cut.Geos.{HasGeosEntry, IsGeosEntry}
use Rattle.damaged_files.proofs.cut.geos.has_geos_entry.Goals as goal

module _ (img : Image) (slots : List Slot) where
  among : (l : Layout) → IsLayout img l → slots ≡ map (λ (f : File). f.slot) l.files
      → (k : ℕ) × (s : Slot) × (slice_get slots k ≡ Some s) × IsGeosEntry s → HasGeosEntry img
  among l is e (k, s, at, geos) =
      let (f, there, same, file) = file-at img l is slots e k s at in
      (l, is, k, f, there, subst IsGeosEntry (sym same) geos)

  within : ((l : Layout) → IsLayout img l → slots ≡ map (λ (f : File). f.slot) l.files) → HasGeosEntry img
      → (k : ℕ) × (s : Slot) × (slice_get slots k ≡ Some s) × IsGeosEntry s
  within listed (l, is, k, f, there, geos) = (k, f.slot, (entry-at img l is slots (listed l is) k f there).0, geos)

pub returns-in-Ok-clause-found : goal.returns-in-Ok-clause-found
returns-in-Ok-clause-found c =
    let img = disk_image c.args.disk.now in
    let (l, is) = c.in-Ok.ensures.sound.0 refl in
    let listed : (m : Layout) → IsLayout img m → c.as_slice.result.now ≡ map (λ (f : File). f.slot) m.files = λ m lay.
    c.as_slice.ensures.value ∙ (c.in-Ok.ensures.ok m lay).0 in (
      λ t. among img c.as_slice.result.now l is (listed l is) (c.has_such.ensures.0 t),
      λ has. c.has_such.ensures.1 (within img c.as_slice.result.now listed has),
    )

pub returns-in-Err-clause-found : goal.returns-in-Err-clause-found
returns-in-Err-clause-found c = (
  λ t. absurd (false≢true t),
  λ has. absurd (false≢true (c.in-Err.ensures.sound.1 (has.0, has.1))),
)
