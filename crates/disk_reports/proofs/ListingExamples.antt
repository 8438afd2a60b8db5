-- Worked examples, computed by the checker. Each is named by what it shows. The bytes are those of a disk of an empty
-- shop with two tills, worked out by hand from the directory format and the block availability map (1541 User's
-- Guide).
use Rattle.std.proofs.Common.{◌≡◌, ℕ, List, [], ◌∷◌, ◌++◌, refl, Some, None}
use Rattle.std.specs.Prelude.{codes, flat_map, replicate}
use Rattle.std.specs.Fmt.{digits}
use Rattle.d64_image.specs.Images.{Sector}
use Rattle.disk_layout.specs.Directory.{directory_start, map_place}
use Rattle.disk_layout.specs.View.{blocks_free}
use Rattle.disk_layout.specs.declared.faults.Fault.TheVariants.{Loop, MapWrong}
use Rattle.disk_layout.specs.declared.slot.Slot.{Slot}
use Rattle.command_faults.specs.Faults.{command_text}
use Rattle.damaged_files.specs.reached.Types.{type_text}
use Rattle.disk_reports.specs.Texts.{disk_text, entry_text, listing, quoted}
use Rattle.disk_reports.specs.Texts.{verdict_text}
use Rattle.command_faults.specs.declared.faults.CommandFault.TheVariants as faults
use Rattle.disk_reports.specs.declared.texts.NameForm.TheVariants as names

pub verdict_of_a_clean_disk : verdict_text None ≡ codes "OK\n"
verdict_of_a_clean_disk = refl

pub verdict_names_fault_and_place : verdict_text (Some (MapWrong map_place)) ≡ codes "MAPWRONG 18/0\n"
unfolding digits
verdict_names_fault_and_place = refl

pub fault_of_the_directory_is_told_with_its_place : command_text (faults.Layout (Loop directory_start)) ≡ codes
    "LAYOUT LOOP 18/1"
unfolding digits
fault_of_the_directory_is_told_with_its_place = refl

-- byte 41 (hexadecimal) is a sequential file that isn't closed, and locked; 84 a closed relative one; 85 no type
pub types_as_they_are_printed :
    (type_text (codes "<") 65 ++ codes " " ++ type_text (codes "<") 132 ++ codes " " ++ type_text (codes "<") 133 ≡ codes "*SEQ< REL ???")
types_as_they_are_printed = refl

-- 1F, a space, 7E, 7F and C1 (hexadecimal), then padding and what isn't printed
pub bytes_out_of_range_are_question_marks : quoted names.Ascii (31 ∷ 32 ∷ 126 ∷ 127 ∷ 193 ∷ 160 ∷ 65 ∷ []) ≡ codes "\"? ~??\""
unfolding quoted
bytes_out_of_range_are_question_marks = refl

-- the slot of STOCK: two blocks with its side sector
abbrev stock : Slot
stock = record {
  sector = directory_start;
  number = 0;
  bytes = 0 ∷ 255 ∷ 132 ∷ 17 ∷ 0 ∷ (codes "STOCK" ++ replicate 11 160) ++ 17 ∷ 1 ∷ 18 ∷ replicate 6 0 ++ 2 ∷ 0 ∷ [];
}

pub entry_of_stock : entry_text names.Ascii stock ≡ codes "2 \"STOCK\" REL"
unfolding entry_text quoted digits
entry_of_stock = refl

-- 18/0: the map, in which only the counts matter here, and from byte 144 on the disk's name, id and version
abbrev map_sector : Sector
map_sector =
    18 ∷ 1 ∷ 65 ∷ 0 ∷ counts 16 21 ++ counts 1 17 ++ counts 1 17 ++ counts 6 19 ++ counts 6 18 ++ counts 5 17
    ++ codes "STOCK LEDGER" ++ replicate 6 160 ++ codes "01" ++ 160 ∷ codes "2A" ++ replicate 89 160
  where
    counts : ℕ → ℕ → List ℕ
    counts tracks free = flat_map (λ (n : ℕ). n ∷ 255 ∷ 255 ∷ 255 ∷ []) (replicate tracks free)

pub listing_of_a_disk : listing names.Ascii map_sector (stock ∷ []) ≡ codes
    "0 \"STOCK LEDGER\" 01 2A\n2 \"STOCK\" REL\n660 BLOCKS FREE\n"
unfolding listing disk_text entry_text quoted blocks_free digits
listing_of_a_disk = refl
