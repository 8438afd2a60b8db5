-- Which images a look is printed of. Our own.
use Rattle.std.specs.Prelude.{if◌then◌else◌}
use Rattle.image_looks.specs.declared.descriptions.ImageForm.{ImageForm}
use Rattle.image_looks.specs.declared.descriptions.ImageForm.TheVariants as forms
use Rattle.image_looks.specs.declared.kinds.Look.{Look}
use Rattle.image_looks.specs.declared.kinds.Look.TheVariants as looks
use Rattle.image_looks.specs.declared.objects.ImageObject.{ImageObject}
use Rattle.image_looks.specs.declared.objects.ImageObject.TheVariants as objects
use Rattle.opened_files.specs.declared.extents.Extent.{Extent}
use Rattle.opened_files.specs.declared.extents.Extent.TheVariants.{Disk, FirstTracks, Whole}

-- a directory, a check and a shop of a disk of 35 tracks alone, unless they are asked for as the image is; those of the whole image,
-- and so a map, a page, a poster, and the bytes and the records of a file; everything besides of the first 35 tracks of a longer image
abbrev pub extent_of : Look → Extent
extent_of (looks.List form) = Disk
extent_of looks.Check = Disk
extent_of looks.Faults = Disk
extent_of (looks.Show loss) = Disk
extent_of (looks.AsIs what) = Whole
extent_of looks.Map = Whole
extent_of looks.Picture = Whole
extent_of looks.Poster = Whole
extent_of (looks.Bytes form candidates name) = Whole
extent_of (looks.Records form candidates name) = Whole
extent_of _ = FirstTracks

-- which images are shown as an object: as the look's, and where they may be longer, their first 35 tracks, but a check and a map of the whole
-- image
abbrev pub object_extent : ImageObject → Extent
object_extent (objects.Check as_is) = if as_is then Whole else Disk
object_extent (objects.List as_is) = if as_is then FirstTracks else Disk
object_extent objects.Free = FirstTracks
object_extent objects.Map = Whole
object_extent (objects.Show loss as_is) = if as_is then FirstTracks else Disk

-- and which are described
abbrev pub form_extent : ImageForm → Extent
form_extent (forms.Shown object) = object_extent object
form_extent forms.TableAsIs = Whole
form_extent _ = Disk
