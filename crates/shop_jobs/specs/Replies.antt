-- What a job prints that plays a script or serves: lines of replies. Our own.
use Rattle.std.specs.Prelude.{◌≡◌, ◌⊎◌, ⊤, ℕ, List, take, [], OnOk, Option, length, refl}
use Rattle.host_session.specs.shop.Shop.{Shop, IsShop, start_of}
use Rattle.image_file.specs.paths.Standing.{Stands}
use Rattle.opened_files.specs.Ends.{JobEnd}
use Rattle.std.specs.Io.KnownBytes.{Appends}
use Rattle.command_faults.specs.Outputs.{HandsPart}
use Rattle.d64_image.specs.Memory.{sectors_in}
use Rattle.host_session.specs.events.Events.{HasNoReset}
use Rattle.host_session.specs.events.Instants.{Instant}
use Rattle.host_session.specs.events.Telling.{Output}
use Rattle.host_session.specs.runs.Outputs.{written}
use Rattle.request_cards.specs.Ledgers.{replies, report}
use Rattle.request_cards.specs.declared.reply.Reply.{Reply}
use Rattle.line_text.specs.scripts.Lines.{lines}
use Rattle.shop_jobs.specs.ServiceEnds.{IsLoggedEnd}
use Rattle.shop_jobs.specs.declared.reply_lines.WatchedReplies.{WatchedReplies}
use Rattle.opened_files.specs.HostFiles.{OfWritten}

-- what a writer that was lent says of the replies that it was passed: it is the same one, and was passed them as any writer
abbrev pub lines_to : {W : Type 0} → (W → Option (List ℕ)) → Output (WatchedReplies W)
lines_to contents = record {
  told = λ old new turns. (new.out.ghost_name ≡ old.out.ghost_name)
      × (written contents).told old.out.now new.out.now turns;
  broken_off = λ old new turns last. (new.out.ghost_name ≡ old.out.ghost_name)
      × (written contents).broken_off old.out.now new.out.now turns last;
  is_handed_on = λ _. ⊤;
  room = λ _. 0;
  none = λ x. (refl, (written contents).none x.out.now);
}

-- an output was passed nothing, or replies, the last of them perhaps in part
abbrev pub IsToldSome : {T : Type 0} → Output T → T → T → Type 0
IsToldSome o old new = (new ≡ old) ⊎ ((turns : List (Reply × Instant))
    × (o.told old new turns ⊎ ((last : Reply × Instant) × o.broken_off old new turns last)))

-- these bytes are an image that stands for this shop
abbrev pub IsShopOf : (image : List ℕ) → Shop → Type 0
IsShopOf image s = (length image ≡ 174848) × IsShop (sectors_in image) s

-- this shop's replies to these lines were printed, each on a line of its own, and nothing else
abbrev pub AreAnsweredBy : {W : Type 0} → (W → Option (List ℕ)) → Shop → (ls : List (List ℕ)) → W → W → Type 0
AreAnsweredBy contents s ls old new = Appends (contents old) (contents new) (report (replies (start_of s) [] ls))

-- the same of a shop of which `Is` says which it is
abbrev pub AreAnswered : {W : Type 0} → (W → Option (List ℕ)) → (Is : Shop → Type 0) → (ls : List (List ℕ)) → W → W → Type 0
AreAnswered contents Is ls old new = (s : Shop) × Is s × AreAnsweredBy contents s ls old new

-- lines of replies were printed, the last of them perhaps not to its end, and nothing else
abbrev pub AreReplyLines : {W : Type 0} → (W → Option (List ℕ)) → W → W → Type 0
AreReplyLines contents old new = (new ≡ old) ⊎ ((rs : List Reply) × HandsPart (contents old) (contents new) (report rs))

-- A play of a script without resets ended so. When it is done, a shop's replies to all lines were printed, and nothing else.
-- `Is` says which shop.
abbrev pub IsPlainPlayed : {W : Type 0} → (W → Option (List ℕ)) → (Is : Shop → Type 0) → (script : List ℕ) → W → W
    → JobEnd → Type 0
IsPlainPlayed contents Is script old new end = HasNoReset (lines script)
    → OnOk end ((s : Shop) × Is s × AreAnsweredBy contents s (lines script) old new)

-- A service over a log ended so. Only lines of replies were printed; when it is done, those of a shop's replies to some lines.
-- `Is` says which shop.
abbrev pub IsLoggedService : {W : Type 0} → (W → Option (List ℕ)) → (Is : Shop → Type 0) → W → W → JobEnd → Type 0
IsLoggedService contents Is old new end = IsLoggedEnd old new end × AreReplyLines contents old new
    × OnOk end ((s : Shop) × (ls : List (List ℕ)) × Is s × AreAnsweredBy contents s ls old new)

module _ {H : Type 0} (stands : H → List ℕ → Stands) (host : H) where
  -- the image at a path stands for this shop, if the host says its bytes
  abbrev pub IsShopAt : List ℕ → Shop → Type 0
  IsShopAt path s = OfWritten stands host path (λ all. IsShopOf (take 174849 all) s)
