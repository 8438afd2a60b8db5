-- A script in memory as an input of lines. All of it is our own.
use Rattle.std.specs.Prelude.{ℕ, List, [], ◌∷◌, ◌++◌, Option, Some, false, flat_map}
use Rattle.line_text.specs.scripts.Lines.{lines}
use Rattle.line_server.specs.Batches.{BatchInput}
use Rattle.line_server.specs.declared.scripts.ScriptBatches.{ScriptBatches}

-- these lines, each with CR and LF at its end
abbrev pub crlf_text : List (List ℕ) → List ℕ
crlf_text ls = flat_map (λ l. l ++ 13 ∷ 10 ∷ []) ls

-- the lines that are left of the script, as the text of an input
abbrev pub text_left : ScriptBatches → Option (List ℕ)
text_left x = Some (crlf_text (lines x.left.now))

-- what a script says of itself: which lines it has left, and that it never fails
abbrev pub of_script : BatchInput ScriptBatches
of_script = record { remaining = text_left; has_failed = λ _. false }
