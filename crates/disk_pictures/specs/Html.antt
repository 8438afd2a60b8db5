-- Bytes of a disk in HTML, as the text of bytes with HTML's escapes (HTML Living Standard, character references).
use Rattle.std.specs.Prelude.{ℕ, Bool, List, [], ◌∷◌, codes, flat_map, if◌then◌else◌, length, nat_eq, nat_lt}
use Rattle.line_text.specs.bytes.Texts.{byte_text}

-- how bytes of the disk are shown
abbrev pub Show : Type 0
Show = List ℕ → List ℕ

-- a byte of a text in HTML
abbrev pub escaped : ℕ → List ℕ
escaped c =
    if nat_eq c 38 then codes "&amp;"
    else (if nat_eq c 60 then codes "&lt;"
    else (if nat_eq c 62 then codes "&gt;" else (c ∷ [])))

-- a byte of the disk in HTML: its text, escaped
abbrev pub html_byte : ℕ → List ℕ
html_byte b = flat_map escaped (byte_text b)

-- a byte of the disk without an escape: &, < and > too are a backslash and two digits
abbrev pub plain_byte : ℕ → List ℕ
plain_byte b =
    if nat_eq b 38 then codes "\\26"
    else (if nat_eq b 60 then codes "\\3c"
    else (if nat_eq b 62 then codes "\\3e" else byte_text b))

-- the text with escapes takes more than 48 bytes
abbrev pub is_long : List ℕ → Bool
is_long bytes = nat_lt 48 (length (flat_map html_byte bytes))

-- bytes of the disk in HTML; without escapes if they would make it longer than 48 bytes, so that a name of 16 takes at
-- most 48. <SCRIPT>, FF is &lt;SCRIPT&gt;\ff
unfoldable pub html_of : List ℕ → List ℕ
html_of bytes =
    if is_long bytes then flat_map plain_byte bytes else flat_map html_byte bytes
