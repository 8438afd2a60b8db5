-- The characters of PETSCII: what a C64 shows for a byte in its two sets (Commodore 64 Programmer's Reference Guide,
-- appendix C). Unicode 13 has these characters (Block Elements, Symbols for Legacy Computing).
use Rattle.std.specs.Prelude.{ℕ, ◌+◌, ◌/◌, ◌%◌, List, [], ◌∷◌, None, Option, Some, flat_map}
use Rattle.std.specs.Prelude.{if◌then◌else◌, nat_eq, nat_lt, slice_index}
use Rattle.std.proofs.Math.Utf8.{encode}
use Rattle.line_text.specs.declared.petscii.characters.CharacterSet.{CharacterSet}
use Rattle.line_text.specs.declared.petscii.characters.CharacterSet.TheVariants.{Graphics, Mixed}

-- $40 to $5F of the graphics set
abbrev pub graphics_letters : List ℕ
graphics_letters =
    0x40 ∷ 0x41 ∷ 0x42 ∷ 0x43 ∷ 0x44 ∷ 0x45 ∷ 0x46 ∷ 0x47 ∷
    0x48 ∷ 0x49 ∷ 0x4a ∷ 0x4b ∷ 0x4c ∷ 0x4d ∷ 0x4e ∷ 0x4f ∷
    0x50 ∷ 0x51 ∷ 0x52 ∷ 0x53 ∷ 0x54 ∷ 0x55 ∷ 0x56 ∷ 0x57 ∷
    0x58 ∷ 0x59 ∷ 0x5a ∷ 0x5b ∷ 0xa3 ∷ 0x5d ∷ 0x2191 ∷ 0x2190 ∷ []

-- $40 to $5F of the mixed set
abbrev pub mixed_letters : List ℕ
mixed_letters =
    0x40 ∷ 0x61 ∷ 0x62 ∷ 0x63 ∷ 0x64 ∷ 0x65 ∷ 0x66 ∷ 0x67 ∷
    0x68 ∷ 0x69 ∷ 0x6a ∷ 0x6b ∷ 0x6c ∷ 0x6d ∷ 0x6e ∷ 0x6f ∷
    0x70 ∷ 0x71 ∷ 0x72 ∷ 0x73 ∷ 0x74 ∷ 0x75 ∷ 0x76 ∷ 0x77 ∷
    0x78 ∷ 0x79 ∷ 0x7a ∷ 0x5b ∷ 0xa3 ∷ 0x5d ∷ 0x2191 ∷ 0x2190 ∷ []

-- $60 to $7F and $C0 to $DF of the graphics set
abbrev pub graphics_shifted : List ℕ
graphics_shifted =
    0x2500 ∷ 0x2660 ∷ 0x1fb72 ∷ 0x1fb78 ∷ 0x1fb77 ∷ 0x1fb76 ∷ 0x1fb7a ∷ 0x1fb71 ∷
    0x1fb74 ∷ 0x256e ∷ 0x2570 ∷ 0x256f ∷ 0x1fb7c ∷ 0x2572 ∷ 0x2571 ∷ 0x1fb7d ∷
    0x1fb7e ∷ 0x25cf ∷ 0x1fb7b ∷ 0x2665 ∷ 0x1fb70 ∷ 0x256d ∷ 0x2573 ∷ 0x25cb ∷
    0x2663 ∷ 0x1fb75 ∷ 0x2666 ∷ 0x253c ∷ 0x1fb8c ∷ 0x2502 ∷ 0x3c0 ∷ 0x25e5 ∷ []

-- $60 to $7F and $C0 to $DF of the mixed set
abbrev pub mixed_shifted : List ℕ
mixed_shifted =
    0x2500 ∷ 0x41 ∷ 0x42 ∷ 0x43 ∷ 0x44 ∷ 0x45 ∷ 0x46 ∷ 0x47 ∷
    0x48 ∷ 0x49 ∷ 0x4a ∷ 0x4b ∷ 0x4c ∷ 0x4d ∷ 0x4e ∷ 0x4f ∷
    0x50 ∷ 0x51 ∷ 0x52 ∷ 0x53 ∷ 0x54 ∷ 0x55 ∷ 0x56 ∷ 0x57 ∷
    0x58 ∷ 0x59 ∷ 0x5a ∷ 0x253c ∷ 0x1fb8c ∷ 0x2502 ∷ 0x1fb96 ∷ 0x1fb98 ∷ []

-- $A0 to $BF and $E0 to $FE of the graphics set
abbrev pub graphics_blocks : List ℕ
graphics_blocks =
    0xa0 ∷ 0x258c ∷ 0x2584 ∷ 0x2594 ∷ 0x2581 ∷ 0x258f ∷ 0x1fb95 ∷ 0x2595 ∷
    0x1fb8f ∷ 0x25e4 ∷ 0x1fb87 ∷ 0x251c ∷ 0x2597 ∷ 0x2514 ∷ 0x2510 ∷ 0x2582 ∷
    0x250c ∷ 0x2534 ∷ 0x252c ∷ 0x2524 ∷ 0x258e ∷ 0x258d ∷ 0x1fb88 ∷ 0x1fb82 ∷
    0x1fb83 ∷ 0x2583 ∷ 0x1fb7f ∷ 0x2596 ∷ 0x259d ∷ 0x2518 ∷ 0x2598 ∷ 0x259a ∷ []

-- $A0 to $BF and $E0 to $FE of the mixed set
abbrev pub mixed_blocks : List ℕ
mixed_blocks =
    0xa0 ∷ 0x258c ∷ 0x2584 ∷ 0x2594 ∷ 0x2581 ∷ 0x258f ∷ 0x1fb95 ∷ 0x2595 ∷
    0x1fb8f ∷ 0x1fb99 ∷ 0x1fb87 ∷ 0x251c ∷ 0x2597 ∷ 0x2514 ∷ 0x2510 ∷ 0x2582 ∷
    0x250c ∷ 0x2534 ∷ 0x252c ∷ 0x2524 ∷ 0x258e ∷ 0x258d ∷ 0x1fb88 ∷ 0x1fb82 ∷
    0x1fb83 ∷ 0x2583 ∷ 0x2713 ∷ 0x2596 ∷ 0x259d ∷ 0x2518 ∷ 0x2598 ∷ 0x259a ∷ []

-- the 32 characters from $40 on
abbrev pub letters : CharacterSet → List ℕ
letters Graphics = graphics_letters
letters Mixed = mixed_letters

-- the 32 characters from $60 on, and from $C0 on again
abbrev pub shifted : CharacterSet → List ℕ
shifted Graphics = graphics_shifted
shifted Mixed = mixed_shifted

-- the 32 characters from $A0 on
abbrev pub blocks : CharacterSet → List ℕ
blocks Graphics = graphics_blocks
blocks Mixed = mixed_blocks

-- The character of a byte; the control codes $00 to $1F and $80 to $9F have none. From $E0 on the characters from $A0
-- come again, but $FF is $DE. In the graphics set $C1 is the spade, in the mixed set the letter A
unfoldable pub character_of : CharacterSet → ℕ → Option ℕ
character_of set b =
    if nat_lt b 32 then None
    else (if nat_lt b 64 then Some b
    else (if nat_lt b 96 then Some (slice_index (letters set) (b % 32))
    else (if nat_lt b 128 then Some (slice_index (shifted set) (b % 32))
    else (if nat_lt b 160 then None
    else (if nat_lt b 192 then Some (slice_index (blocks set) (b % 32))
    else (if nat_lt b 224 then Some (slice_index (shifted set) (b % 32))
    else (if nat_eq b 255 then Some (slice_index (shifted set) 30)
    else Some (slice_index (blocks set) (b % 32)))))))))

-- a digit of a number below 16: 0 to 9, a to f
abbrev pub hex_digit : ℕ → ℕ
hex_digit n = if nat_lt n 10 then 48 + n else 87 + n

-- a byte that has this character, in UTF-8; without one it is a backslash and two digits. 1D is \1d
abbrev pub shown : Option ℕ → ℕ → List ℕ
shown (Some c) b = encode c
shown None b = 92 ∷ hex_digit (b / 16) ∷ hex_digit (b % 16) ∷ []

-- a byte of a text: a carriage return, $0D, ends a line, as LF does elsewhere
abbrev pub readable_byte : CharacterSet → ℕ → List ℕ
readable_byte set b = if nat_eq b 13 then 10 ∷ [] else shown (character_of set b) b

-- bytes as text in UTF-8. In the mixed set 48 49 0D is h, i and LF; no byte is lost, and PETSCII has no backslash
abbrev pub readable : CharacterSet → List ℕ → List ℕ
readable set bytes = flat_map (readable_byte set) bytes
