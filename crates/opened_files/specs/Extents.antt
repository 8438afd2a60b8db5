-- What is taken of the bytes of an image's file. Our own.
use Rattle.std.specs.Prelude.{ℕ, List, take}
use Rattle.opened_files.specs.declared.extents.Extent.{Extent}
use Rattle.opened_files.specs.declared.extents.Extent.TheVariants.{Disk, FirstTracks, Whole}
use Rattle.damaged_files.specs.reached.Sizes.{disk_of}

-- the bytes of an image, and of a longer file so many that it can be seen to be too long
abbrev pub taken_as : Extent → List ℕ → List ℕ
taken_as Disk all = take 174849 all
taken_as FirstTracks all = disk_of (take 206115 all)
taken_as Whole all = take 206115 all
