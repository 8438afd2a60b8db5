-- Which files are programs in BASIC 2.0 (Commodore 64 Programmer's Reference Guide, how a program is kept).
use Rattle.std.specs.List.{position}
use Rattle.std.specs.Option.{option_map_or}
use Rattle.std.specs.Prelude.{ℕ, ◌+◌, ◌*◌, ◌||◌, Bool, List, ◌∷◌, false, nat_eq}
use Rattle.line_text.specs.basic.Listings.{is_ended}

-- The file begins with a line: after its load address come the line's link, its number, and its bytes up to a 00. The link
-- is the address of the byte after that. 01 08 07 08 0A 00 8F 00 does: the line of 10 REM ends at $0806
abbrev pub begins_with_line : List ℕ → Bool
begins_with_line (a ∷ b ∷ low ∷ high ∷ m ∷ n ∷ rest) =
    option_map_or (λ end. nat_eq (low + 256 * high) (a + 256 * b + 5 + end)) (position (λ byte. nat_eq byte 0) rest) false
begins_with_line _ = false

-- it has its end, or it is the beginning of one: a part of it may be lost
abbrev pub is_program : List ℕ → Bool
is_program file = is_ended file || begins_with_line file
