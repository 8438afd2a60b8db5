-- An image that is written over a file, and what remains if power fails on the way. Our own.
use Rattle.std.specs.Prelude.{◌≡◌, ◌⊎◌, ◌≤◌, ℕ, List, ◌++◌, OnOk, Result, Some, drop, length, slice_index, take}
use Rattle.d64_image.specs.Memory.{sectors_in}
use Rattle.disk_layout.specs.Layout.{IsSound}
use Rattle.image_file.specs.Remains.{Remains}

-- these bytes aren't the image of a sound disk
abbrev pub IsNoDisk : List ℕ → Type 0
IsNoDisk s = length s ≡ 174848 → IsSound (sectors_in s) → ⊥

-- byte 0 of 18/1 is 255, which is no track
abbrev pub IsSpoiled : List ℕ → Type 0
IsSpoiled s = slice_index s 91648 ≡ 255

-- if the bytes have the size of an image, byte 0 of 18/1 is 255
abbrev pub IsSpoiledImage : List ℕ → Type 0
IsSpoiledImage s = length s ≡ 174848 → IsSpoiled s

-- the bytes are this image, with any bytes in the place of 18/1
pub record IsFilled (image s : List ℕ) : Type 0 where
  pub some : List ℕ
  pub size : length some ≡ 256
  pub is : s ≡ take 91648 image ++ some ++ drop 91904 image

module _ {F : Type 0} (r : Remains F) where
  -- everything that may remain after a power loss now has P
  abbrev pub NowAll : F → (List ℕ → Type 0) → Type 0
  NowAll f P = (s : List ℕ) → r.remain f (r.moment f) s → P s

  -- From old to new there may remain what could remain before, or bytes with P.
  pub record Since (old new : F) (P : List ℕ → Type 0) : Type 0 where
    pub later : r.moment old ≤ r.moment new
    pub each : (t : ℕ) (s : List ℕ) → t ≤ r.moment old → r.remain new t s → r.remain old t s ⊎ P s

  abbrev pub AllAreSpoiled : F → Type 0
  AllAreSpoiled f = NowAll f IsSpoiled

  -- and what it holds, if that is known
  abbrev pub AllAreFilled : F → List ℕ → Type 0
  AllAreFilled f image = NowAll f (IsFilled image) × ((s : List ℕ) → r.held f ≡ Some s → IsFilled image s)

  -- the directory is being spoiled
  pub record IsSpoiling {E : Type 0} (old new : F) (result : Result Unit E) : Type 0 where
    pub since : Since old new IsSpoiledImage
    pub ok : OnOk result (AllAreSpoiled new)
    pub held : OnOk result ((all : List ℕ) → r.held old ≡ Some all → (s : List ℕ) × (r.held new ≡ Some s))

  -- everything except the first sector of the directory is being written
  pub record IsFilling {E : Type 0} (old new : F) (image : List ℕ) (result : Result Unit E) : Type 0 where
    pub since : Since old new IsSpoiled
    pub ok : OnOk result (AllAreFilled new image)
    pub held : OnOk result ((all : List ℕ) → r.held old ≡ Some all → (s : List ℕ) × (r.held new ≡ Some s))

  -- and then that sector
  pub record IsSealing {E : Type 0} (old new : F) (image : List ℕ) (result : Result Unit E) : Type 0 where
    pub since : Since old new (λ s. s ≡ image)
    pub ok : OnOk result (NowAll new (λ s. s ≡ image))
    pub held : OnOk result ((all : List ℕ) → r.held old ≡ Some all → r.held new ≡ Some image)

  -- The image was written over the file, or a part of it at an error.
  pub record IsReplaced {E : Type 0} (old new : F) (image : List ℕ) (result : Result Unit E) : Type 0 where
    -- if power went on the way, there remained what could remain before, or no disk, or the image
    pub remain : Since old new (λ s. IsNoDisk s ⊎ (s ≡ image))
    -- at Ok the image does, and the file holds it
    pub ok : OnOk result (NowAll new (λ s. s ≡ image))
    pub held : OnOk result ((all : List ℕ) → r.held old ≡ Some all → r.held new ≡ Some image)
