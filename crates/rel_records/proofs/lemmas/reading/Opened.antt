-- What is known of the file that a RelFile is of.
use Rattle.std.proofs.Common.{[], ◌∷◌, Some, IsTrue, arith, length, ℕ, ap, ◌*◌, ◌<◌, ◌≡◌, ◌≤◌, length-append}
use Rattle.std.specs.Prelude.{Contains, slice_get}
use Rattle.d64_image.proofs.Images.{is_sector}
use Rattle.d64_image.specs.Images.{Image, IsImage}
use Rattle.d64_image.specs.declared.place.Place.{Place}
use Rattle.disk_layout.proofs.lemmas.layouts.Layouts.{get-contains}
use Rattle.disk_layout.proofs.lemmas.layouts.Frames.{all_blocks}
use Rattle.disk_layout.proofs.lemmas.lists.Once.{all-in, flat_map-in}
use Rattle.disk_layout.proofs.lemmas.records.Joined.{record_count-fit}
use Rattle.disk_layout.specs.Chain.{EachOnce}
use Rattle.disk_layout.specs.Layout.{File, IsFile, IsLayout, IsRelFile, Layout, is_rel, record_length}
use Rattle.disk_layout.specs.Records.{record_count}
use Rattle.rel_records.specs.File.{IsFileOf}
use Rattle.rel_records.specs.declared.rel_file.RelFile.{RelFile}

pub rel-of : (img : Image) (l : Layout) (n : ℕ) (f : File) → IsLayout img l → slice_get l.files n ≡ Some f
    → IsTrue (is_rel f.slot) → IsRelFile img f
rel-of img l n f h at rel =
    let file : IsFile img f = all-in (IsFile img) l.files f h.files (get-contains l.files n f at) in
    file.rel rel

module _ (img : Image) (l : Layout) (n : ℕ) (f : File) (v : RelFile) (of : IsFileOf img l n f v) where
  pub file-rel : IsRelFile img f
  file-rel = rel-of img l n f of.layout of.there of.rel

  pub file-in : Contains l.files f
  file-in = get-contains l.files n f of.there

  pub blocks-once : EachOnce f.blocks
  blocks-once = file-rel.chain.2.once

  pub some-blocks : 0 < length f.blocks
  some-blocks = let c = file-rel.chain.2 in omega (arith, ap length c.places, length-append c.front (c.last ∷ []))

  pub last-small : IsImage img → f.last ≤ 255
  last-small w = let c = file-rel.chain.2 in omega (arith, c.ends.1, (is_sector img c.last w).small 1)

  pub records-fit : IsImage img → record_count (length f.blocks) f.last (record_length f.slot) * record_length f.slot
      ≤ 254 * length f.blocks
  records-fit w = record_count-fit (length f.blocks) f.last (record_length f.slot) (omega (arith, file-rel.length_low))
      some-blocks (last-small w)

  pub block-in : (p : Place) → Contains f.blocks p → Contains (all_blocks l.files) p
  block-in p c = flat_map-in (λ (g : File). g.blocks) l.files f p file-in c
