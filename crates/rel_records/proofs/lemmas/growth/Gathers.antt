-- What is read of a file is what growth keeps of it.
use Rattle.std.proofs.Common.{◌≡◌, ℕ, ◌+◌, length, ◌∙◌, ap}
use Rattle.std.specs.Prelude.{get_or}
use Rattle.d64_image.specs.Images.{Image, sector}
use Rattle.d64_image.specs.declared.place.Place.{Place}
use Rattle.disk_layout.specs.Directory.{map_place}
use Rattle.disk_layout.specs.Layout.{File, Layout}
use Rattle.rel_records.proofs.lemmas.Usable.{usable-of}
use Rattle.rel_records.proofs.lemmas.reading.Opened.{file-rel}
use Rattle.rel_records.proofs.lemmas.steps.Added.{last-read}
use Rattle.rel_records.specs.File.{IsFileOf}
use Rattle.rel_records.specs.Usable.{IsUsable}
use Rattle.rel_records.specs.declared.growth.step_parts.Growing.{Growing}
use Rattle.rel_records.specs.declared.rel_file.RelFile.{RelFile}
use Rattle.rel_records.specs.growth.Steps.{IsAt}

-- read with the map, the sector of its slot, and its last block, which stands at place k of the list
pub is-at : (img : Image) (l : Layout) (n : ℕ) (f : File) (v : RelFile) (p : Growing) (k : ℕ) (last : Place) → IsUsable img
    → IsFileOf img l n f v → p.map.bytes ≡ sector img map_place → p.sector ≡ v.sector → p.number ≡ v.number
    → p.size ≡ v.size → p.sides.items ≡ f.sides → p.blocks.items ≡ f.blocks
    → k + 1 ≡ length p.blocks.items → last ≡ get_or p.blocks.items k last → p.last ≡ sector img last
    → p.directory ≡ sector img v.sector → IsAt img l n f p
is-at img l n f v p k last usable of map place number size sides blocks long at bytes directory =
    let c = (file-rel img l n f v of).chain.2 in
    let here : last ≡ c.last = last-read p.blocks.items c.front c.last last k (blocks ∙ c.places) long at in
    let (strays, clean) = usable-of img l of.layout usable in
    record {
      strays = strays;
      clean = clean;
      there = of.there;
      rel = of.rel;
      place = place ∙ of.shows.sector;
      number = number ∙ of.shows.number;
      size = size ∙ of.shows.size;
      sides = sides;
      blocks = blocks;
      map = map;
      front = c.front;
      last_place = c.last;
      last_is = c.places;
      last = bytes ∙ ap (sector img) here;
      directory = directory ∙ ap (sector img) of.shows.sector;
    }
