-- Sectors outside track 18 that no other entry owns. Our own.
use Rattle.std.specs.Prelude.{ℕ, ◌≡◌, ◌≢◌, ◌⊎◌, ◌<◌, ◌≤◌}

-- the index n of a sector outside track 18
abbrev pub IsOff : ℕ → Type 0
IsOff n = (n < 357) ⊎ (376 ≤ n)

-- nobody owns the sector, or the entry e does
abbrev pub IsOpen : ℕ → ℕ → ℕ → Type 0
IsOpen e n number = IsOff n × ((number ≡ 255) ⊎ (number ≡ e))

-- it is on track 18, or another owns it
abbrev pub IsShut : ℕ → ℕ → ℕ → Type 0
IsShut e n number = ((357 ≤ n) × (n < 376)) ⊎ (IsOff n × (number ≢ 255) × (number ≢ e))
