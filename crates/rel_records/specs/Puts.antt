-- Sectors put one after another, each by one write. All of it is our own.
use Rattle.std.specs.Prelude.{ℕ, ◌≡◌, ◌⊎◌, ◌≤◌, ◌+◌, ◌-◌, ◌∷◌, IfErr, List, [], OnErr, OnOk, Result, drop, length, min}
use Rattle.d64_image.specs.History.{FailsInOneStep, HeldOnly, History}
use Rattle.d64_image.specs.Images.{Image, Sector, put, sector}
use Rattle.d64_image.specs.declared.place.Place.{Place}
use Rattle.rel_records.specs.Faults.{TellsRelFault}
use Rattle.rel_records.specs.Written.{patched}
use Rattle.rel_records.specs.declared.faults.RelFault.{RelFault}
use Rattle.rel_records.specs.declared.faults.RelFault.TheVariants.{Device}

-- the image with these sectors put, the first one first
abbrev pub put_each : List (Place × Sector) → Image → Image
put_each [] img = img
put_each ((p, bytes) ∷ rest) img = put_each rest (put img p bytes)

-- the image with the first of these sectors put: none of them, a part or all
abbrev pub IsPutSoFar : List (Place × Sector) → Image → Image → Type 0
IsPutSoFar [] img c = c ≡ img
IsPutSoFar ((p, bytes) ∷ rest) img c = (c ≡ img) ⊎ IsPutSoFar rest (put img p bytes) c

-- These sectors were put in this order, one write each, and at most this number of sectors were read. At an error, which
-- is the device's, the first of them were.
pub record PutsEach {D : Type 0} (S : History D) (old new : D) (puts : List (Place × Sector)) (read : ℕ)
    (result : Result (Unit {0}) RelFault) : Type 0 where
  pub ok : OnOk result (S.image new ≡ put_each puts (S.image old))
  pub err : IfErr result (λ e. e ≡ Device)
  pub held : HeldOnly S old new (IsPutSoFar puts (S.image old))
  pub writes : S.writes new ≤ S.writes old + length puts
  -- a sector that is put alone: at an error no write was counted, and what was shown of the sector isn't taken back
  pub one_step : length puts ≤ 1 → OnErr result (FailsInOneStep S old new)
  pub reads : S.reads new ≤ S.reads old + read
  pub failures : TellsRelFault S old new result

-- a text put into the block at p, over its data bytes from start to below end
abbrev pub in_block : Image → Place → ℕ → ℕ → List ℕ → Place × Sector
in_block img p start end text = (p, patched start end text (sector img p))

-- a text put into the block at p, over its data bytes from start on, and then its rest into the block at q, to below end
abbrev pub in_two : Image → Place → Place → ℕ → ℕ → List ℕ → List (Place × Sector)
in_two img p q start end text =
    let first : Image = put img p (patched start 254 text (sector img p)) in
    in_block img p start 254 text ∷ in_block first q 0 end (drop (min (length text) (254 - start)) text) ∷ []
