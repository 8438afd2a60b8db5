-- What is told of an image's bytes.
use Rattle.std.proofs.Common.{◌≡◌, List, length, subst, ℕ}
use Rattle.std.specs.Prelude.{None, Option, Some}
use Rattle.d64_image.specs.Images.{Image}
use Rattle.d64_image.specs.Memory.{sectors_in}
use Rattle.disk_layout.proofs.lemmas.layouts.Layouts.{IsLayout-one}
use Rattle.d64_image.specs.declared.place.Place.{Place}
use Rattle.disk_layout.specs.Layout.{IsLayout, IsSound, Layout}
use Rattle.damaged_files.specs.declared.cut.shortfalls.Shortfall.{Shortfall}
use Rattle.damaged_files.specs.declared.cut.shortfalls.Shortfall.TheVariants as lacks
use Rattle.damaged_files.specs.cut.Told.{HasNoCut, IsCutShort, IsShortfall, IsShortfallOf, IsToldOf, IsToldOfDisk}

-- of a sound disk
pub told-of-disk : (img : Image) (entry : Option ℕ) (o : Option Place) → IsSound img
    → ((l : Layout) → IsLayout img l → IsToldOf img l entry o) → IsToldOfDisk img entry o
told-of-disk img entry None sound told = told
told-of-disk img entry (Some p) (l, is) told = (l, is, told l is)

-- and what the files of a sound disk lack
pub shortfall-of-disk : (img : Image) (o : Option Shortfall) → IsSound img
    → ((l : Layout) → IsLayout img l → IsShortfall img l o) → IsShortfallOf img o
shortfall-of-disk img None sound told = told
shortfall-of-disk img (Some lack) (l, is) told = (l, is, told l is)

-- a file is cut short where the first one is
pub told-cut : (image : List ℕ) (p : Place) → length image ≡ 174848 → IsShortfallOf (sectors_in image) (Some (lacks.Short p))
    → IsCutShort image p
told-cut image p size (l, is, h) = record {
  size = size;
  layout = l;
  sound = is;
  number = h.number;
  file = h.file;
  there = h.there;
  cut = h.cut;
}

-- and none if nothing is lacking, or blocks alone
pub told-uncut : (image : List ℕ) (p : Place) → IsShortfallOf (sectors_in image) None → ¬ (IsCutShort image p)
told-uncut image p told h = (told h.layout h.sound).0 h.number h.file p h.there tt h.cut

pub told-fewer : (image : List ℕ) (p q : Place) → IsShortfallOf (sectors_in image) (Some (lacks.Fewer q))
    → ¬ (IsCutShort image p)
told-fewer image p q (l, is, both) h =
    let P : Layout → Type 0 = λ m. HasNoCut (sectors_in image) m None in
    subst P (IsLayout-one (sectors_in image) l h.layout is h.sound) both.0 h.number h.file p h.there tt h.cut
