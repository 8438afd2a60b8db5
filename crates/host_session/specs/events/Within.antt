-- How many sectors the messages of a run write at most. All of it is our own.
use Rattle.std.specs.Prelude.{◌≡◌, ◌<◌, ◌≤◌, ◌+◌, ◌*◌, ℕ, List, [], ◌∷◌, None, if◌then◌else◌, is_some, length}
use Rattle.d64_image.specs.History.{History}
use Rattle.request_cards.specs.Reading.{request_of}
use Rattle.request_cards.specs.declared.reply.Reply.{Reply}
use Rattle.host_session.specs.events.Events.{Message}
use Rattle.host_session.specs.events.Quiet.{AreUncut, AsksNothing}
use Rattle.host_session.specs.session.Handling.{most_writes}
use Rattle.host_session.specs.shop.Files.{Files, HasFiles}
use Rattle.host_session.specs.shop.Shop.{IsSettled, Shop, shop_of}

-- For any message, at most 3618 sectors were written, and no more than its request can need on that disk.
pub record IsWithin {D : Type 0} (h : History D) (m : Message) (old new : D) : Type 0 where
  pub most : h.writes new ≤ h.writes old + 3618
  pub needed : (f : Files) → (x : HasFiles (h.image old) f)
      → h.writes new ≤ h.writes old + most_writes (shop_of f) x.stock_file (request_of m.bytes)

-- Each of these messages in which power didn't fail wrote at most that, one after another from this disk on. Each reply
-- is listed with the disk that its message left.
abbrev pub AreWithin : {D : Type 0} → History D → List Message → List (Reply × D) → D → Type 0
AreWithin h (m ∷ ms) (x ∷ xs) old = (m.cut_after ≡ None → IsWithin h m old x.1) × AreWithin h ms xs x.1
AreWithin h _ _ old = Unit {0}

-- the most sectors that a run of this number of messages writes: 952 when its disk is opened, and 3618 in each of them
abbrev pub most_of_run : ℕ → ℕ
most_of_run n = 952 + 3618 * n

-- a run of these messages wrote no more than that
abbrev pub IsBounded : {D : Type 0} → History D → List Message → D → D → Type 0
IsBounded h ms old new = h.writes new ≤ h.writes old + most_of_run (length ms)

-- the most sectors that a message writes; where power fails in it, with 952 in each listed recovery, of which there are 8 at
-- most, and in the whole one
abbrev pub most_of : Message → ℕ
most_of m = if is_some m.cut_after then 12186 else 3618

-- and the most that these messages write
abbrev pub most_of_each : List Message → ℕ
most_of_each [] = 0
most_of_each (m ∷ ms) = most_of m + most_of_each ms

-- the same with the opening of its disk
abbrev pub most_of_all : List Message → ℕ
most_of_all ms = 952 + most_of_each ms

-- the message wrote no more than that on a disk at rest
abbrev pub IsWithinMost : {D : Type 0} → History D → Message → D → D → Type 0
IsWithinMost h m old new = (s : Shop) → IsSettled (h.image old) s → h.writes new ≤ h.writes old + most_of m

-- a run of these messages wrote no more than that
abbrev pub AreWithinMost : {D : Type 0} → History D → List Message → D → D → Type 0
AreWithinMost h ms old new = h.writes new ≤ h.writes old + most_of_all ms

-- few messages: a count that is exact below 2^64 - 1 has room for all that a run of them writes
abbrev pub AreFew : List Message → Type 0
AreFew ms = most_of_run (length ms) < 18446744073709551615

-- if power fails in none of few messages, each wrote no more than it can need
abbrev pub AreFewWithin : {D : Type 0} → History D → List Message → List (Reply × D) → D → Type 0
AreFewWithin h ms xs old = AreFew ms → AreUncut ms → AreWithin h ms xs old

-- if a message asks nothing new of the shop at rest on the disk, nothing was written, even if power failed in it
abbrev pub SparesTheDisk : {D : Type 0} → History D → Message → D → D → Type 0
SparesTheDisk h m old new =
    (s : Shop) → IsSettled (h.image old) s → AsksNothing s m → h.writes new ≤ h.writes old

-- The same of each of these messages, one after another from this disk on. Each reply is listed with the disk that its
-- message left.
abbrev pub AreSparing : {D : Type 0} → History D → List Message → List (Reply × D) → D → Type 0
AreSparing h (m ∷ ms) (x ∷ xs) old = SparesTheDisk h m old x.1 × AreSparing h ms xs x.1
AreSparing h _ _ old = Unit {0}

-- From old to new at most as many sectors were written as by an opening, and none on a disk at rest.
pub record IsSpared {D : Type 0} (h : History D) (s : Shop) (old new : D) : Type 0 where
  pub opening : h.writes new ≤ h.writes old + 952
  pub rests : IsSettled (h.image old) s → h.writes new ≤ h.writes old
