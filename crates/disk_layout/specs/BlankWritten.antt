-- The sectors of the blank image one by one, as they are written. Our own.
use Rattle.std.specs.Prelude.{◌≡◌, ℕ, suc, zero, ◌+◌, length, List, [], ◌∷◌, None, slice_get, Some}
use Rattle.d64_image.specs.Images.{Sector}
use Rattle.d64_image.specs.declared.place.Place.{Place}
use Rattle.disk_layout.specs.Blank.{IsBlankMap, IsEmptyBlock, blank_directory, requests_side, stock_block, stock_side}
use Rattle.disk_layout.specs.Directory.{directory_start, map_place}
use Rattle.disk_layout.specs.Side.{side_sector}

-- sector i is the one at p and has these bytes: the map, the directory, STOCK's block and side sector, REQUESTS' side
-- sector, and then its blocks
abbrev pub IsWritten : List ℕ → List ℕ → List Place → ℕ → Place → Sector → Type 0
IsWritten name id blocks zero p bytes = (p ≡ map_place) × IsBlankMap bytes name id (length blocks)
IsWritten name id blocks (suc zero) p bytes = (p ≡ directory_start) × (bytes ≡ blank_directory (length blocks))
IsWritten name id blocks (suc (suc zero)) p bytes = (p ≡ stock_block) × IsEmptyBlock bytes None 253 18 14
IsWritten name id blocks (suc (suc (suc zero))) p bytes = (p ≡ stock_side)
    × (bytes ≡ side_sector 0 (stock_block ∷ []) (stock_side ∷ []) 18)
IsWritten name id blocks (suc (suc (suc (suc zero)))) p bytes = (p ≡ requests_side)
    × (bytes ≡ side_sector 0 blocks (requests_side ∷ []) 127)
IsWritten name id blocks (suc (suc (suc (suc (suc k))))) p bytes = (slice_get blocks k ≡ Some p)
    × IsEmptyBlock bytes (slice_get blocks (k + 1)) 255 127 2
