-- Examples of the definitions on the map, each computed.
use Rattle.std.proofs.Common.{List, [], inl, inr, lit<, refl, ℕ, ◌∷◌, ◌≡◌}
use Rattle.d64_image.specs.declared.place.Place.{Place}
use Rattle.disk_layout.specs.Map.{IsBefore, distance, map_bit, map_count, numbers_below}

-- track 1 of a fresh map, 15 FF FF 1F: 21 free sectors, the last of them sector 20; bit 21 is a spare one
fresh : List ℕ
fresh = 18 ∷ 1 ∷ 65 ∷ 0 ∷ 21 ∷ 255 ∷ 255 ∷ 31 ∷ []

fresh-1 : (map_count fresh 1 ≡ 21) × (map_bit fresh 1 0 ≡ 1) × (map_bit fresh 1 20 ≡ 1) × (map_bit fresh 1 21 ≡ 0)
unfolding fresh
fresh-1 = (refl, refl, refl, refl)

-- 11 FC FF 07 as track 1: the sectors 0 and 1 are taken, the sectors 2 to 18 free
system : List ℕ
system = 18 ∷ 1 ∷ 65 ∷ 0 ∷ 17 ∷ 252 ∷ 255 ∷ 7 ∷ []

system-1 : (map_count system 1 ≡ 17) × (map_bit system 1 1 ≡ 0) × (map_bit system 1 2 ≡ 1) × (map_bit system 1 18 ≡ 1)
    × (map_bit system 1 19 ≡ 0)
unfolding system
system-1 = (refl, refl, refl, refl, refl)

numbers-3 : numbers_below 3 ≡ 2 ∷ 1 ∷ 0 ∷ []
numbers-3 = refl

distances : (distance 17 ≡ 1) × (distance 19 ≡ 1) × (distance 1 ≡ 17) × (distance 35 ≡ 17)
distances = (refl, refl, refl, refl)

-- 17/20 comes before 19/0, and 19/18 before 16/0
last_of_17 : Place
last_of_17 = record { track = 17; sector = 20; on_disk = lit< tt }

first_of_19 : Place
first_of_19 = record { track = 19; sector = 0; on_disk = lit< tt }

last_of_19 : Place
last_of_19 = record { track = 19; sector = 18; on_disk = lit< tt }

first_of_16 : Place
first_of_16 = record { track = 16; sector = 0; on_disk = lit< tt }

before-19 : IsBefore last_of_17 first_of_19
unfolding last_of_17 first_of_19
before-19 = inr (refl, inl (lit< tt))

before-16 : IsBefore last_of_19 first_of_16
unfolding last_of_19 first_of_16
before-16 = inl (lit< tt)
