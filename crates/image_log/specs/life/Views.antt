-- What a reader sees of an image and its log, while a writer may go on. Our own.
use Rattle.std.specs.Prelude.{ℕ, ◌≡◌, ◌⊎◌, Bool, List, None, Option, Some, false, true}
use Rattle.d64_image.specs.Images.{Image}
use Rattle.image_log.specs.Recovered.{is_marked, recovered}
use Rattle.image_log.specs.life.Mixes.{IsMixOf}
use Rattle.image_log.specs.life.Shops.{given_by}

-- What stands there. After the log was opened, it is what the open file has, whatever its name leads to by then.
pub record Seen : Type 0 where
  pub log : Option (List ℕ)
  pub image : Image
  -- whether the log's name leads to that log
  pub named : Bool

-- it has a log, which has its mark
abbrev pub HasMark : Seen → Type 0
HasMark s = (f : List ℕ) × (s.log ≡ Some f) × (is_marked f ≡ true)

-- and which stands for this image
abbrev pub Lands : Image → Seen → Type 0
Lands shop s = (f : List ℕ) × (s.log ≡ Some f) × (is_marked f ≡ true) × (recovered f ≡ shop)

-- What a writer may do while a reader looks.
pub record Goes (s t : Seen) : Type 0 where
  -- with no log nothing: a writer that begins has the lock for itself
  pub none : s.log ≡ None → t ≡ s
  -- a log that has lost its name doesn't get it back
  pub name : t.named ≡ true → s.named ≡ true
  -- a mark stays, and what the log stands for
  pub mark : (shop : Image) → Lands shop s → Lands shop t
  -- while it has its name, each byte of IMAGE stays, or becomes that image's
  pub landing : (shop : Image) → Lands shop s → t.named ≡ true → IsMixOf s.image shop t.image
  -- and before there is one IMAGE stays
  pub image : (t.image ≡ s.image) ⊎ HasMark t

module _ {V : Type 0} (seen : V → Option Seen) where
  -- a writer may have gone on to what is seen now
  abbrev pub GoesTo : Seen → V → Type 0
  GoesTo s v = (t : Seen) × (seen v ≡ Some t) × Goes s t

-- Whether a writer has landed the log since it was read: it got its mark, or it had that and lost its name.
pub record HasLanded (s : Seen) (marked landed : Bool) : Type 0 where
  pub got : marked ≡ false → landed ≡ true → HasMark s
  pub not_got : marked ≡ false → HasMark s → landed ≡ true
  pub lost : marked ≡ true → landed ≡ true → s.named ≡ false
  pub not_lost : marked ≡ true → landed ≡ false → s.named ≡ true

-- the image that is given, by the log, or by IMAGE
abbrev pub SeenGives : Seen → Image → Type 0
SeenGives s given = given_by s.log s.image given

-- The image that a log gives was seen.
pub record IsLogViewed {V : Type 0} (seen : V → Option Seen) (s : Seen) (new : V) (shop : Image) : Type 0 where
  -- if an image was given when the log was read, it is this one
  pub given : (given : Image) → SeenGives s given → shop ≡ given
  -- and one was, if nothing has changed since
  pub still : seen new ≡ Some s → SeenGives s shop

-- of what the system has nothing is known
abbrev pub unseen : {V : Type 0} → V → Option Seen
unseen _ = None
