-- Worked lines with resets, computed by the checker. Each is named by what it shows.
use Rattle.std.proofs.Common.{◌≡◌, [], ◌∷◌, refl, Some, None}
use Rattle.std.specs.Prelude.{codes, map}
use Rattle.std.specs.Fmt.{digits}
use Rattle.line_text.specs.Numbers.{number_in}
use Rattle.line_text.specs.scripts.Lines.{lines}
use Rattle.line_text.specs.scripts.Resets.{first_bad, line_of, reset_of}

recoveries_are_listed : line_of (codes "@7/0/1 1,1,S,15,7") ≡ Some (record {
  message = codes "1,1,S,15,7";
  reset = Some (7, 0 ∷ 1 ∷ []);
})
unfolding reset_of number_in digits
recoveries_are_listed = refl

message_may_have_spaces_and_be_empty : map line_of (codes "@9 " ∷ codes "@3  @ /x" ∷ [])
    ≡ Some (record { message = []; reset = Some (9, []) }) ∷ Some (record {
      message = codes " @ /x";
      reset = Some (3, []);
    }) ∷ []
unfolding reset_of number_in digits
message_may_have_spaces_and_be_empty = refl

eight_recoveries_are_taken : line_of (codes "@99999/0/0/0/0/0/0/0/99999 x")
    ≡ Some (record { message = codes "x"; reset = Some (99999, 0 ∷ 0 ∷ 0 ∷ 0 ∷ 0 ∷ 0 ∷ 0 ∷ 99999 ∷ []) })
unfolding reset_of number_in digits
eight_recoveries_are_taken = refl

bad_lines : map line_of (codes "@01 x" ∷ codes "@1/00 x" ∷ codes "@100000 x" ∷ codes "@1" ∷ codes "@1//2 x" ∷ codes
    "@1/ x" ∷ codes "@0/0/0/0/0/0/0/0/0/0 x" ∷ codes "@x 1,1,S,1,0" ∷ codes "@ 1,1,S,1,0" ∷ codes "@" ∷ [])
    ≡ None ∷ None ∷ None ∷ None ∷ None ∷ None ∷ None ∷ None ∷ None ∷ None ∷ []
unfolding reset_of number_in digits
bad_lines = refl

-- an @ that doesn't stand first is the message's
third_line_is_bad : first_bad (lines (codes "1,1,S,1,0\n @x\n@x 1,1,S,1,0\n@\n")) ≡ Some 3
unfolding reset_of number_in digits
third_line_is_bad = refl
