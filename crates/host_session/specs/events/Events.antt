-- What is played in a run: messages, and the points in them at which power fails. All of it is our own.
use Rattle.std.specs.Prelude.{◌≢◌, ℕ, List, None, Option, Some, flat_map, option_map, option_to_list, slice_index}
use Rattle.std.specs.List.{AllByRecursion}
use Rattle.request_cards.specs.Reading.{request_of}
use Rattle.request_cards.specs.Requests.{Ask}
use Rattle.line_text.specs.scripts.Resets.{Line, line_of}
use Rattle.line_text.specs.declared.scripts.events.Event.{Event}

-- A message and, if power fails in it, the number of its sector writes before that. Listed recoveries are no part of
-- it: they change neither what counts nor a reply.
pub record Message : Type 0 where
  pub bytes : List ℕ
  pub cut_after : Option ℕ

-- a message that is played whole
abbrev pub uncut : List ℕ → Message
uncut bytes = record { bytes = bytes; cut_after = None }

-- a message in which power fails
abbrev pub cut_at : List ℕ → ℕ → Message
cut_at bytes after = record { bytes = bytes; cut_after = Some after }

-- the message of an event
abbrev pub message_of : Event → Message
message_of e = record { bytes = e.message.now; cut_after = option_map (λ c. c.after) e.cut }

-- the message of a line
abbrev pub message_in : Line → Message
message_in l = record { bytes = l.message; cut_after = option_map (λ r. r.0) l.reset }

-- the messages of lines that aren't bad
abbrev pub messages_of : List (List ℕ) → List Message
messages_of ls = flat_map (λ l. option_to_list (option_map message_in (line_of l))) ls

-- no line begins with @
abbrev pub HasNoReset : List (List ℕ) → Type 0
HasNoReset ls = AllByRecursion (λ l. slice_index l 0 ≢ 64) ls

-- the requests of lines without a reset
abbrev pub requests_of : List (List ℕ) → List Ask
requests_of ls = flat_map (λ l. option_to_list (request_of l)) ls
