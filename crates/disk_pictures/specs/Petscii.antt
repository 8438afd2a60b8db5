-- Names as a C64 shows them, in Unicode, with HTML's escapes. Our own.
use Rattle.std.specs.Prelude.{ℕ, ◌||◌, Bool, List, [], Option, Some, None, flat_map, if◌then◌else◌, nat_eq, nat_lt}
use Rattle.std.specs.List.{list_all}
use Rattle.std.proofs.Math.Utf8.{encode}
use Rattle.line_text.specs.petscii.Characters.{character_of}
use Rattle.line_text.specs.declared.petscii.characters.CharacterSet.TheVariants.{Graphics}
use Rattle.disk_pictures.specs.Html.{html_byte}

-- PETSCII's character of the byte is ASCII's, or both have none. $5C is a pound sign on a C64, $5E an arrow
abbrev pub is_common : ℕ → Bool
is_common b = nat_lt b 92 || nat_eq b 93

-- a byte that has this character, in UTF-8; without one as it is typed
abbrev pub sign_text : ℕ → Option ℕ → List ℕ
sign_text b None = html_byte b
sign_text b (Some c) = encode c

-- a byte of a name. C1 is the spade
abbrev pub petscii_byte : ℕ → List ℕ
petscii_byte b = if nat_lt b 64 then html_byte b else sign_text b (character_of Graphics b)

-- the bytes of a name that are shown so: none if it has no byte whose character ASCII lacks
abbrev pub signed : List ℕ → List ℕ
signed bytes = if list_all is_common bytes then [] else bytes

-- a name as a C64 shows it after it was switched on
unfoldable pub petscii_of : List ℕ → List ℕ
petscii_of bytes = flat_map petscii_byte (signed bytes)
