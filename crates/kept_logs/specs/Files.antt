-- The bytes of one file in a world. Our own.
use Rattle.std.specs.Prelude.{◌≡◌, ◌≤◌, ◌+◌, ◌==◌, ℕ, List, [], false, length, slice_index}
use Rattle.one_host.specs.Worlds.{IsMix, World}
use Rattle.image_log.specs.Files.{Mixed}

-- the bytes that a read returns
abbrev pub bytes_in : World → ℕ → List ℕ
bytes_in w n = (w.files n).bytes.now

-- a power loss leaves them
pub record IsSafe (n : ℕ) (w : World) : Type 0 where
  pub before : (w.files n).bytes.before ≡ []
  pub sure : (w.files n).bytes.in_doubt ≡ false

-- w is the world v, but for the bytes of this file
pub record OnlyFile (v : World) (n : ℕ) (w : World) : Type 0 where
  pub file : w.files n ≡ record (v.files n) { bytes = (w.files n).bytes }
  pub others : (m : ℕ) → (m == n) ≡ false → w.files m ≡ v.files m
  pub rest : w ≡ record v { files = w.files }

-- whatever a power loss leaves of the file has P
abbrev pub Leaves : ℕ → (List ℕ → Type 0) → World → Type 0
Leaves n P w = (c : List ℕ) → IsMix (w.files n).bytes.now (w.files n).bytes.before c → P c

-- the file is synced, and these bytes don't reach past its end
pub record Takes (n at : ℕ) (bytes : List ℕ) (w : World) : Type 0 where
  pub safe : IsSafe n w
  pub within : at + length bytes ≤ length (bytes_in w n)

-- w is the world v, but a power loss leaves a mix of the bytes that the file had and these, from that place on
pub record Mixes (v : World) (n at : ℕ) (bytes : List ℕ) (w : World) : Type 0 where
  pub only : OnlyFile v n w
  pub leaves : Leaves n (Mixed at bytes (bytes_in v n)) w

-- w is the world v, but the file has these bytes, synced
pub record Has (v : World) (n : ℕ) (bytes : List ℕ) (w : World) : Type 0 where
  pub only : OnlyFile v n w
  pub safe : IsSafe n w
  pub is : bytes_in w n ≡ bytes

-- the file is new: it has no bytes, and never had any
pub record IsEmpty (n : ℕ) (w : World) : Type 0 where
  pub safe : IsSafe n w
  pub none : bytes_in w n ≡ []

-- w is the world v, but the file has zeros, as many as a log has bytes; it may not be synced
pub record IsLaid (v : World) (n : ℕ) (w : World) : Type 0 where
  pub only : OnlyFile v n w
  pub sure : (w.files n).bytes.in_doubt ≡ false
  pub size : length (bytes_in w n) ≡ 4198400
  pub zeros : (i : ℕ) → slice_index (bytes_in w n) i ≡ 0

-- the same, and it is synced
pub record IsLaidOut (v : World) (n : ℕ) (w : World) : Type 0 where
  pub laid : IsLaid v n w
  pub safe : IsSafe n w
