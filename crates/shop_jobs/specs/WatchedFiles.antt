-- Replies that are passed only while the shop's file is there. Our own.
use Rattle.std.specs.Prelude.{◌≡◌, ◌⊎◌, Bool, true, false, List, [], ◌∷◌, ◌++◌, refl}
use Rattle.request_cards.specs.declared.reply.Reply.{Reply}
use Rattle.request_cards.specs.declared.reply.Reply.TheVariants.{Cut, Syntax, Told}
use Rattle.request_cards.specs.declared.reply.Word.TheVariants.{Media}
use Rattle.line_server.specs.logged.Reporting.{LogOutput}
use Rattle.shop_jobs.specs.declared.watched_files.RepliesWhileNamed.{RepliesWhileNamed}

-- MEDIA to the same request; a message that is no request hears what it is
abbrev pub media_for : Reply → Reply
media_for Syntax = Syntax
media_for Cut = Cut
media_for (Told till number word) = Told till number Media

-- the replies before were passed, and then this one, whole or in part
abbrev pub IsToldOrPart : {L T : Type 0} → LogOutput L T → T → T → List (Reply × L) → Reply × L → Type 0
IsToldOrPart o old new turns last = o.told old new (turns ++ last ∷ []) ⊎ o.broken_off old new turns last

-- The last reply was broken off, and the file was there; or the file had gone, and MEDIA was passed in its place.
abbrev pub IsBrokenOff : {L T : Type 0} → LogOutput L T → (gone : Bool) → T → T → List (Reply × L) → Reply × L → Type 0
IsBrokenOff o gone old new turns last =
    ((gone ≡ false) × o.broken_off old new turns last)
    ⊎ ((gone ≡ true) × IsToldOrPart o old new turns (media_for last.0, last.1))

-- What an output to which replies go while a file is there says of itself. The file was there before the first of those
-- that were handed on together.
abbrev pub while_there : {L N T : Type 0} → LogOutput L T → LogOutput L (RepliesWhileNamed N T)
while_there o = record {
  told = λ old new turns. (new.out.ghost_name ≡ old.out.ghost_name) × (new.gone ≡ old.gone)
      × o.told old.out.now new.out.now turns;
  broken_off = λ old new turns last. (new.out.ghost_name ≡ old.out.ghost_name)
      × IsBrokenOff o new.gone old.out.now new.out.now turns last;
  is_handed_on = λ x. o.is_handed_on x.out.now;
  has_failed = λ _. true;
  none = λ x. (refl, refl, o.none x.out.now);
}
