-- What each call does to the world. Our own.
use Rattle.std.specs.Prelude.{ℕ, suc, zero, ◌≡◌, ◌≢◌, ◌≤◌, ◌<◌, ◌+◌, ◌-◌, ◌*◌, ◌⊎◌, ◌==◌, Bool, true, false, List, [], ◌∷◌, ◌++◌, bytes_eq, length, take, drop, replicate, Result, IfOk, OnErr, if◌then◌else◌, not, ◌||◌}
use Rattle.one_host.specs.Worlds.{File, IsMix, Kept, OthersDid, World, set_at, set_path}
use Rattle.one_host.specs.History.{HostHistory, HeldOnly, Tells}
use Rattle.one_host.specs.declared.parts.Entry.{Entry}
use Rattle.one_host.specs.declared.parts.Entry.TheVariants.{Leads, Nothing, Nowhere}
use Rattle.one_host.specs.declared.parts.Failure.{Failure}
use Rattle.one_host.specs.declared.parts.Found.{Found}
use Rattle.one_host.specs.declared.parts.Found.TheVariants as found
use Rattle.one_host.specs.declared.parts.Handle.{Handle}
use Rattle.one_host.specs.declared.parts.Kind.{Kind}
use Rattle.one_host.specs.declared.parts.Kind.TheVariants as kind
use Rattle.one_host.specs.declared.parts.Lock.{Lock}
use Rattle.one_host.specs.declared.parts.Lock.TheVariants as lock
use Rattle.one_host.specs.declared.parts.Stream.{Stream}
use Rattle.one_host.specs.declared.parts.Stream.TheVariants.{Output, Errors}

-- One call. Others may have done something before it: this is the world that the call finds. At Ok the call made `done` of
-- it, and says so by its answer; at an error the world is as the call found it, or one of those on the way. Until then the
-- world was as it is afterwards, one of those on the way, or one that others had made of the old one.
pub record Steps {H T : Type 0} (S : HostHistory H) (old new : H) (done : T → World → World → Type 0)
    (way : World → World → Type 0) (result : Result T Failure) : Type 0 where
  pub found : World
  pub others : OthersDid (S.world old) found
  pub ok : IfOk result (λ x. done x found (S.world new))
  pub err : OnErr result ((S.world new ≡ found) ⊎ way found (S.world new))
  pub held : HeldOnly S old new (λ w. OthersDid (S.world old) w ⊎ ((w ≡ S.world new) ⊎ way found w))
  pub told : Tells S old new result

-- the world afterwards is this
abbrev pub makes : {T : Type 0} → (World → World) → T → World → World → Type 0
makes f _ w v = v ≡ f w

-- nothing changes, and the answer says this of the world
abbrev pub says : {T : Type 0} → (T → World → Type 0) → T → World → World → Type 0
says F x w v = (v ≡ w) × F x w

-- nothing between before and after
abbrev pub at_once : World → World → Type 0
at_once _ _ = ⊥

-- **What stays only once it was synced.**

-- it is this now
abbrev pub turned : {A : Type 0} → Kept A → A → Kept A
turned k x = record { now = x; before = k.now ∷ k.before; in_doubt = k.in_doubt }

-- it was synced
abbrev pub brought : {A : Type 0} → Kept A → Kept A
brought k = if k.in_doubt then k else record { now = k.now; before = []; in_doubt = k.in_doubt }

-- a sync of it has failed
abbrev pub doubted : {A : Type 0} → Kept A → Kept A
doubted k = record { now = k.now; before = k.before; in_doubt = true }

-- **Files.**

-- a file with other bytes
abbrev pub with_bytes : World → ℕ → Kept (List ℕ) → World
with_bytes w n bytes = record w { files = set_at w.files n (record (w.files n) { bytes = bytes }) }

-- these bytes from that place on, over what was there; zeros fill what was missing before it
abbrev pub put : List ℕ → ℕ → List ℕ → List ℕ
put old at bytes = take at old ++ replicate (at - length old) 0 ++ bytes ++ drop (at + length bytes) old

-- the first n bytes; zeros fill what was missing
abbrev pub ended : List ℕ → ℕ → List ℕ
ended old n = take n old ++ replicate (n - length old) 0

-- a file that has these bytes now
abbrev pub changed : World → ℕ → List ℕ → World
changed w n bytes = with_bytes w n (turned (w.files n).bytes bytes)

-- bytes were written into a file
abbrev pub written : World → ℕ → ℕ → List ℕ → World
written w n at bytes = changed w n (put (w.files n).bytes.now at bytes)

-- a file was ended after so many bytes
abbrev pub lengthened : World → ℕ → ℕ → World
lengthened w n size = changed w n (ended (w.files n).bytes.now size)

-- a part of the change was made: each place is as before it or as after it
abbrev pub half_changed : ℕ → (List ℕ → List ℕ) → World → World → Type 0
half_changed n change w v = (part : List ℕ) × IsMix (change (w.files n).bytes.now) ((w.files n).bytes.now ∷ []) part
    × (v ≡ changed w n part)

-- a file was synced
abbrev pub synced : World → ℕ → World
synced w n = with_bytes w n (brought (w.files n).bytes)

-- a sync of a file has failed
abbrev pub unsynced : World → ℕ → World
unsynced w n = with_bytes w n (doubted (w.files n).bytes)

-- the file has another mode; nothing is said of which one
abbrev pub IsGuarded : ℕ → World → World → Type 0
IsGuarded n w v = (mode : ℕ) × (v ≡ record w { files = set_at w.files n (record (w.files n) { mode = mode }) })

-- So many bytes were read, which stand in the file from that place on: fewer than there is room for only at its end. If a sync
-- of the file has failed, nothing is said of what a read returns.
abbrev pub AreRead : ℕ → ℕ → ℕ → List ℕ → ℕ → World → Type 0
AreRead n at room to count w = (w.files n).bytes.in_doubt ≡ false
    → take count to ≡ take room (drop at (w.files n).bytes.now)

-- **Names.**

-- a path leads there now
abbrev pub entered : World → List ℕ → Entry → World
entered w path e = record w { names = set_path w.names path (turned (w.names path) e) }

-- what a path leads to now
abbrev pub entry : World → List ℕ → Entry
entry w path = (w.names path).now

-- the bytes of a path up to the last slash, and with it, where these bytes were seen since the slash before
abbrev pub folder_part : List ℕ → List ℕ → List ℕ
folder_part seen [] = []
folder_part seen (b ∷ path) = if b == 47 then seen ++ b ∷ folder_part [] path else folder_part (seen ++ b ∷ []) path

-- the folder in which the file at a path stands
abbrev pub folder_of : List ℕ → List ℕ
folder_of path = folder_part [] path

-- each name in the folder of this path as f makes it
abbrev pub in_folder : (Kept Entry → Kept Entry) → World → List ℕ → World
in_folder f w path = record w { names = λ q. if bytes_eq (folder_of q) (folder_of path) then f (w.names q) else w.names q }

-- the names in a folder were synced
abbrev pub folder_synced : World → List ℕ → World
folder_synced w path = in_folder brought w path

-- a sync of a folder has failed
abbrev pub folder_unsynced : World → List ℕ → World
folder_unsynced w path = in_folder doubted w path

-- a file that nobody had before, and its name
abbrev pub made : World → List ℕ → Kind → ℕ → World
made w path of_kind mode = record (entered w path (Leads w.used)) {
  files = set_at w.files w.used (record { kind = of_kind; mode = mode; bytes = record { now = []; before = []; in_doubt = false } });
  used = suc w.used;
}

-- a file was made where nothing was
abbrev pub IsMade : List ℕ → Kind → Handle → World → World → Type 0
IsMade path of_kind h w v = (entry w path ≡ Nothing) × (h.number ≡ w.used) × ((mode : ℕ) × (v ≡ made w path of_kind mode))

-- a folder was made where nothing was
abbrev pub IsFolderMade : {T : Type 0} → List ℕ → T → World → World → Type 0
IsFolderMade path _ w v = (entry w path ≡ Nothing) × ((mode : ℕ) × (v ≡ made w path kind.Folder mode))

-- both names lead to one file
abbrev pub are_one : Entry → Entry → Bool
are_one (Leads n) (Leads m) = n == m
are_one _ _ = false

-- what had the first path has the second one
abbrev pub moved : World → List ℕ → List ℕ → World
moved w from to = entered (entered w to (entry w from)) from Nothing

-- A file got another name, in the place of the file that had it. Where both names led to it already, both stay.
abbrev pub renamed : World → List ℕ → List ℕ → World
renamed w from to = if are_one (entry w from) (entry w to) then w else moved w from to

-- a file that was there was renamed
abbrev pub IsRenamed : {T : Type 0} → List ℕ → List ℕ → T → World → World → Type 0
IsRenamed from to _ w v = (entry w from ≢ Nothing) × (v ≡ renamed w from to)

-- it got a name at which nothing was
abbrev pub IsMoved : {T : Type 0} → List ℕ → List ℕ → T → World → World → Type 0
IsMoved from to _ w v = (entry w to ≡ Nothing) × (v ≡ moved w from to)

-- it has both names
abbrev pub has_both : List ℕ → List ℕ → World → World → Type 0
has_both from to w v = (entry w to ≡ Nothing) × (v ≡ entered w to (entry w from))

-- a name that led somewhere was taken away
abbrev pub IsRemoved : {T : Type 0} → List ℕ → T → World → World → Type 0
IsRemoved path _ w v = (entry w path ≢ Nothing) × (v ≡ entered w path Nothing)

-- what was seen at a path
abbrev pub IsSeen : List ℕ → Found → World → Type 0
IsSeen path found.Nothing w = entry w path ≡ Nothing
IsSeen path found.Nowhere w = entry w path ≡ Nowhere
IsSeen path (found.File a) w = (n : ℕ) × (entry w path ≡ Leads n) × (a.kind ≡ (w.files n).kind) × (a.mode ≡ (w.files n).mode)
    × (a.bytes ≡ length (w.files n).bytes.now)

-- the path leads to this file, or it doesn't
abbrev pub IsSeenToLead : List ℕ → ℕ → Bool → World → Type 0
IsSeenToLead path n true w = entry w path ≡ Leads n
IsSeenToLead path n false w = entry w path ≢ Leads n

-- **Locks.**

-- a file is locked so by this program
abbrev pub locked : World → ℕ → Lock → World
locked w n how = record w { locks = set_at w.locks n how }

-- a lock that others have keeps this one out
abbrev pub keeps_out : Lock → Lock → Bool
keeps_out lock.Free _ = false
keeps_out lock.Alone _ = true
keeps_out lock.Shared lock.Alone = true
keeps_out lock.Shared _ = false

-- The program got the lock; or others have one that keeps it out, and it has lost the one that it may have had.
abbrev pub IsAnswered : ℕ → Lock → Lock → Bool → World → World → Type 0
IsAnswered n how theirs got w v = (keeps_out theirs how ≡ not got) × (v ≡ locked w n (if got then how else lock.Free))

-- **Streams.**

-- so many bytes more were read; none if the input has ended
abbrev pub heard : World → ℕ → List ℕ → World
heard w count to = record w { heard = w.heard ++ take count to; ended = w.ended || (count == 0) }

-- a text was printed on a stream
abbrev pub printed : World → Stream → List ℕ → World
printed w Output text = record w { said = w.said ++ text }
printed w Errors text = record w { warned = w.warned ++ text }

-- the first bytes of a text were printed, so many
abbrev pub IsPrinted : Stream → List ℕ → ℕ → World → World → Type 0
IsPrinted stream text count w v = (count ≤ length text) × (v ≡ printed w stream (take count text))

-- the first bytes of the room were filled from the input
abbrev pub IsHeard : List ℕ → ℕ → World → World → Type 0
IsHeard to count w v = (count ≤ length to) × (v ≡ heard w count to)
