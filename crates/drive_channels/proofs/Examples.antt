-- The definitions on small values: none is empty, and each says what its comment says.
use Rattle.std.proofs.Common.{◌≡◌, ◌++◌, inl, inr, true, false, [], ◌∷◌, None, Some, codes, refl, arith}
use Rattle.std.proofs.lemmas.Option.{none-some}
use Rattle.d64_image.specs.Images.{Image}
use Rattle.drive_channels.specs.Given.{IsGiven}
use Rattle.drive_channels.specs.Moments.{is_nil}
use Rattle.drive_channels.specs.Spelling.{
  BeginsWithP,
  IsInitialize,
  IsName,
  IsValidate,
  IsWish,
  is_name_byte,
  wanted_channel,
  wanted_position,
  wanted_record,
}
use Rattle.drive_channels.specs.State.{Channel, View}
use Rattle.drive_channels.specs.Statuses.{status_number, status_text}
use Rattle.drive_channels.specs.Tables.{Closes, Commands, Opens, Reads, Writes, channel_without, next_place}
use Rattle.drive_channels.specs.declared.status.Status.TheVariants as statuses

-- S is a byte of a name; a comma, @ and a byte past $5F aren't
name_bytes : (is_name_byte 83 ≡ true) × (is_name_byte 44 ≡ false) × (is_name_byte 64 ≡ false)
    × (is_name_byte 97 ≡ false)
name_bytes = (refl, refl, refl, refl)

stock_is_a_name : IsName (codes "STOCK")
stock_is_a_name = record { low = omega arith; high = omega arith; bytes = (refl, (refl, (refl, (refl, (refl, tt))))) }

-- STOCK asks for the file, and STOCK,L, with 18 behind it for one with records of 18 bytes
name_alone : IsWish (codes "STOCK") (record { name = codes "STOCK"; length = None })
name_alone = (stock_is_a_name, refl)

with_length : IsWish (codes "STOCK,L," ++ 18 ∷ []) (record { name = codes "STOCK"; length = Some 18 })
with_length = (
  stock_is_a_name,
  (
    codes ",L," ++ 18 ∷ [],
    refl,
    record {
      spelled = refl;
      low = omega arith;
      high = omega arith;
    },
  ),
)

-- P, channel 2 with 96 added, record 10161, and no position; record 0 and position 0 count as 1
places : (wanted_channel (80 ∷ 98 ∷ 177 ∷ 39 ∷ []) ≡ 2) × (wanted_record (80 ∷ 98 ∷ 177 ∷ 39 ∷ []) ≡ 10161)
    × (wanted_position (80 ∷ 98 ∷ 177 ∷ 39 ∷ []) ≡ 1)
    × (wanted_record (80 ∷ 98 ∷ 0 ∷ 0 ∷ 0 ∷ []) ≡ 1) × (wanted_position (80 ∷ 98 ∷ 0 ∷ 0 ∷ 0 ∷ []) ≡ 1)
    × (wanted_position (80 ∷ 98 ∷ 0 ∷ 0 ∷ 5 ∷ []) ≡ 5)
places = (refl, refl, refl, refl, refl, refl)

spellings : IsValidate (codes "V0") × IsInitialize (codes "INITIALIZE") × BeginsWithP (80 ∷ 98 ∷ [])
spellings = (inr (inl refl), inr (inr (inl refl)), (98 ∷ [], refl))

-- a 00 inside stays; of a record of 00 one is given
given_bytes : IsGiven (65 ∷ 0 ∷ 66 ∷ 0 ∷ 0 ∷ []) (65 ∷ 0 ∷ 66 ∷ []) × IsGiven (0 ∷ 0 ∷ []) (0 ∷ [])
given_bytes = (
  record { count = 2; zeros = refl; some = omega arith; ends = inr (λ h. cc) },
  record { count = 1; zeros = refl; some = omega arith; ends = inl refl },
)

statuses_told : (status_number statuses.Overflow ≡ 51)
    × (status_text statuses.Overflow ≡ codes "51,OVERFLOW IN RECORD,00,00")
statuses_told = (refl, refl)

empty_texts : (is_nil [] ≡ true) × (is_nil (65 ∷ []) ≡ false)
empty_texts = (refl, refl)

-- channel 2 at record 15, position 4
abbrev two : Channel
two = record { number = 2; entry = 0; record_number = 15; position = 4 }

-- closing 2 closes it, closing 3 doesn't; behind it lies record 16, position 1
channels : (channel_without 2 (Some two) ≡ None) × (channel_without 3 (Some two) ≡ Some two)
    × (next_place two ≡ Some (record { number = 2; entry = 0; record_number = 16; position = 1 }))
channels = (refl, refl, refl)

module _ (img : Image) where
  -- just switched on
  abbrev off : View
  off = record { image = img; channel = None; status = statuses.PowerOn; checked = false }

  -- with no channel open
  no_channel : Opens off 15 (codes "STOCK") (record off { status = statuses.NoChannel })
  no_channel = inl (inr (inl (omega arith)), refl)

  not_open : Reads off 2 [] (record off { status = statuses.FileNotOpen })
      × Writes off 2 (codes "A") (record off { status = statuses.FileNotOpen })
  not_open = (inl ((λ h. none-some h.0 h.1.0), (refl, refl)), inl ((λ h. none-some h.0 h.1.0), refl))

  closed : Closes off 2 (record off { status = statuses.Ok })
  closed = refl

  empty_command : Commands off [] (record off { status = statuses.SyntaxError })
  empty_command = inl (refl, refl)

  -- with channel 2 open no other is opened, and closing it shuts it
  abbrev on : View
  on = record { image = img; channel = Some two; status = statuses.Ok; checked = true }

  one_at_a_time : Opens on 3 (codes "REQUESTS") (record on { status = statuses.NoChannel })
  one_at_a_time = inl (inr (inr refl), refl)

  shut : Closes on 2 (record on { channel = None; status = statuses.Ok })
  shut = refl
