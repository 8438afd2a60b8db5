-- The numbers that the words give. Our own.
use Rattle.std.specs.Prelude.{ℕ, List, Option, Some, None, ◌==◌, codes}
use Rattle.d64_image.specs.Places.{place_at}
use Rattle.d64_image.specs.declared.place.Place.{Place}
use Rattle.std.specs.List.{after_first, before_first}
use Rattle.clap.specs.Words.{Row, Text}
use Rattle.line_text.specs.Numbers.{number_in}
use Rattle.command_table.specs.Grammar.{value}

-- the number of tills that the words give: 1 to 64, without leading zeros
abbrev pub tills_in : List Row → Option ℕ
tills_in rows = number_in 1 64 (value (codes "TILLS") rows)

-- the length of a record that they give: 1 to 254, without leading zeros
abbrev pub length_in : List Row → Option ℕ
length_in rows = number_in 1 254 (value (codes "BYTES") rows)

-- the sector of a track with these numbers, if both are given and the disk has it
abbrev pub place_if_both : Option ℕ → Option ℕ → Option Place
place_if_both (Some t) (Some s) = place_at t s
place_if_both _ _ = None

-- the sector that a text names: a track before the first slash and a sector after it, without leading zeros, as 17/4
abbrev pub spelled_place : Text → Option Place
spelled_place text =
    place_if_both (number_in 1 35 (before_first (λ b. b == 47) text)) (number_in 0 20 (after_first (λ b. b == 47) text))

-- the sector that the words give
abbrev pub place_in : List Row → Option Place
place_in rows = spelled_place (value (codes "T/S") rows)
