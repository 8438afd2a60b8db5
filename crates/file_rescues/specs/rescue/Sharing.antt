-- Whose the sectors of a disk are, by the files that are rescued. Our own.
use Rattle.std.specs.Prelude.{ℕ, ◌||◌, Bool, List, [], ◌∷◌, ◌++◌, None, Option, Some, filter, flat_map, if◌then◌else◌, length, nat_eq, nat_le}
use Rattle.std.specs.List.{list_any, range_with_len}
use Rattle.std.specs.Option.{is_some}
use Rattle.d64_image.specs.declared.place.Place.{Place}
use Rattle.damaged_files.specs.reached.Sharing.{first_shared}
use Rattle.disk_layout.specs.Directory.{map_place}
use Rattle.file_rescues.specs.rescue.Art.{is_art}
use Rattle.file_rescues.specs.declared.rescue.rescuing.Rescued.{Rescued}

-- the sectors that are somebody's: the map's, the directory's, and the blocks that can be reached of each file; once for
-- each whose they are
abbrev pub owned : List Place → List Rescued → List Place
owned directory files = map_place ∷ (directory ++ flat_map (λ f. f.blocks.items) files)

-- the sectors of the files that have some past track 35, of one file after the other
abbrev pub numbers_of : List Rescued → List ℕ
numbers_of files = flat_map (λ f. f.sectors.items) files

-- the sector is among these so many times, or more often
abbrev pub is_so_often : (least : ℕ) → (all : List ℕ) → (number : ℕ) → Bool
is_so_often least all n = nat_le least (length (filter (nat_eq n) all))

-- the sectors of tracks 36 to 42 that so many of these files have, or more: of 119 sectors after 683 others
unfoldable pub past_of : (least : ℕ) → List Rescued → List ℕ
past_of least files = filter (is_so_often least (numbers_of files)) (range_with_len 683 119)

-- the first of a file's sectors that is among these
unfoldable pub first_among : (shared : List ℕ) → List ℕ → Option ℕ
first_among shared [] = None
first_among shared (n ∷ ns) = if list_any (λ m. nat_eq m n) shared then Some n else first_among shared ns

-- the same of a file; directory art has none
abbrev pub first_past : (shared : List ℕ) → Rescued → Option ℕ
first_past shared f = if is_art f.slot then None else first_among shared f.sectors.items

-- a block of the file that can be reached is also the map's, the directory's or that of one of these files
abbrev pub is_taken : (directory : List Place) → (files : List Rescued) → Rescued → Bool
is_taken directory files f =
    is_some (first_shared (owned directory (files ++ f ∷ [])) f.blocks.items)
    || is_some (first_among (past_of 1 files) f.sectors.items)
