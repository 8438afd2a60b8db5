-- What a check found, as a sentence. Our own.
use Rattle.std.specs.Prelude.{ℕ, ◌+◌, Bool, List, [], ◌∷◌, ◌++◌, Option, Some, None, if◌then◌else◌, codes, decimal}
use Rattle.std.specs.Prelude.{length, slice_get}
use Rattle.d64_image.specs.Images.{Sector}
use Rattle.d64_image.specs.declared.place.Place.{Place}
use Rattle.disk_layout.specs.Directory.{map_place}
use Rattle.disk_layout.specs.Layout.{File, Layout}
use Rattle.disk_layout.specs.Texts.{place_text}
use Rattle.disk_layout.specs.View.{blocks_free}
use Rattle.disk_layout.specs.declared.faults.Fault.{Fault}
use Rattle.disk_layout.specs.declared.faults.Fault.TheVariants as fault
use Rattle.disk_pictures.specs.Drawings.{has}
use Rattle.disk_pictures.specs.Html.{Show}
use Rattle.damaged_files.specs.reached.Names.{name_of}
use Rattle.disk_layout.specs.Number.{place_of}
use Rattle.disk_pictures.specs.declared.owners.Owner.{Owner}
use Rattle.disk_pictures.specs.declared.verdicts.Verdict.{Verdict}
use Rattle.disk_pictures.specs.declared.owners.Owner.TheVariants as owner

-- only the owner, if it has the sector
abbrev pub own_if : Bool → Owner → List Owner
own_if b o = if b then o ∷ [] else []

-- the owners of a sector before the entries
abbrev pub system_owners : Layout → Place → List Owner
system_owners l p = own_if (has (map_place ∷ []) p) owner.Map ++ own_if (has l.directory p) owner.Directory

-- entry k, if it has the sector: as a block, and as a side sector
abbrev pub entry_owners : ℕ → File → Place → List Owner
entry_owners k f p = own_if (has f.blocks p) (owner.Blocks k) ++ own_if (has f.sides p) (owner.Sides k)

-- the owners among these entries, of which the first has number k
unfoldable pub owners_among : ℕ → List File → Place → List Owner
owners_among k [] p = []
owners_among k (f ∷ fs) p = entry_owners k f p ++ owners_among (k + 1) fs p

-- all owners of a sector, in the order of whose it is drawn as
abbrev pub owners_of : Layout → Place → List Owner
owners_of l p = system_owners l p ++ owners_among 0 l.files p

-- the name of an entry, if there is one
abbrev pub named : Show → Option File → List ℕ
named show None = []
named show (Some f) = show (name_of f.slot)

-- the name of entry k, if there is one
abbrev pub entry_named : Show → Layout → ℕ → List ℕ
entry_named show l k = named show (slice_get l.files k)

-- an owner as a sentence names it
abbrev pub owner_named : Show → Layout → Owner → List ℕ
owner_named show l owner.Map = codes "the map"
owner_named show l owner.Directory = codes "the directory"
owner_named show l (owner.Blocks k) = entry_named show l k
owner_named show l (owner.Sides k) = codes "the side sectors of " ++ entry_named show l k
owner_named show l owner.Nobody = []

-- what is said of a sector that several have, by the first two: Sector 6/17 belongs to LETTER 02 and to LETTER 04
abbrev pub shared_text : Show → Layout → Place → Option Owner → Option Owner → List ℕ
shared_text show l p (Some a) (Some b) =
    codes "Sector " ++ (place_text p ++ (codes " belongs to " ++ (owner_named show l a ++ (codes " and to "
    ++ (owner_named show l b ++ codes "; ")))))
shared_text show l p _ _ = codes "Sector " ++ (place_text p ++ codes " has more than one owner; ")

-- what is said of a fault before its place
abbrev pub words_before : Fault → List ℕ
words_before (fault.BadLink p) = codes "A link in sector "
words_before (fault.Loop p) = codes "A chain of sectors comes back to sector "
words_before (fault.OwnedTwice p) = codes "Sector "
words_before (fault.BadType p) = codes "An entry in sector "
words_before (fault.Unclosed p) = codes "A file with its entry in sector "
words_before (fault.BadSide p) = codes "A relative file's side sectors are wrong at sector "
words_before (fault.BadLength p) = codes "An entry in sector "
words_before (fault.CountWrong p) = codes "An entry in sector "
words_before (fault.MapWrong p) = codes "The map of free sectors is wrong at sector "
words_before (fault.Device p) = codes "Reading failed at sector "

-- and after it
abbrev pub words_after : Fault → List ℕ
words_after (fault.BadLink p) = codes " leads nowhere; "
words_after (fault.Loop p) = codes "; "
words_after (fault.OwnedTwice p) = codes " has more than one owner; "
words_after (fault.BadType p) = codes " has an unknown type; "
words_after (fault.Unclosed p) = codes " was never closed; "
words_after (fault.BadSide p) = codes "; "
words_after (fault.BadLength p) = codes " has a record length of 0 or 255; "
words_after (fault.CountWrong p) = codes " has a wrong block count; "
words_after (fault.MapWrong p) = codes "; "
words_after (fault.Device p) = codes "; "

-- what is said of a disk without a fault: that a file is cut short, if one is
abbrev pub sound_text : Option Place → List ℕ
sound_text None = codes "Sound: "
sound_text (Some p) = codes "A file is cut short at sector " ++ (place_text p ++ codes "; ")

-- what is said of a fault
abbrev pub fault_sentence : Show → Layout → Fault → List ℕ
fault_sentence show l (fault.OwnedTwice p) =
    shared_text show l p (slice_get (owners_of l p) 0) (slice_get (owners_of l p) 1)
fault_sentence show l f = words_before f ++ (place_text (place_of f) ++ words_after f)

-- what is said after it: that a file is cut short, if one is
abbrev pub also_text : Option Place → List ℕ
also_text None = []
also_text (Some p) = codes "a file is cut short at sector " ++ (place_text p ++ codes "; ")

-- what a verdict says, as the beginning of a sentence
abbrev pub sentence_text : Show → Layout → Option Fault → Option Place → List ℕ
sentence_text show l None cut = sound_text cut
sentence_text show l (Some f) cut = fault_sentence show l f ++ also_text cut

-- and with the number of files and of free blocks as the map counts them
unfoldable pub summary_text : Show → Verdict → Sector → Layout → List ℕ
summary_text show v map l =
    sentence_text show l v.found v.cut ++ (decimal (length l.files) ++ (codes " files, "
    ++ (decimal (blocks_free map) ++ codes " of 664 blocks free")))
