-- What a byte of a program adds to its listing, by where it stands.
use Rattle.std.specs.Prelude.{ℕ, zero, suc, ◌+◌, ◌*◌, ◌||◌, List, [], ◌++◌, codes, decimal, false}
use Rattle.line_text.specs.basic.Characters.{shown}
use Rattle.line_text.specs.basic.Listings.{is_quoted_after, is_remark_after}
use Rattle.line_text.specs.declared.basic.places.BytePlace.{BytePlace}
use Rattle.line_text.specs.declared.basic.places.BytePlace.TheVariants as places

-- where the byte after this one stands
abbrev pub place_after : BytePlace → ℕ → BytePlace
place_after places.Link b = places.LinkHigh
place_after places.LinkHigh zero = places.End
place_after places.LinkHigh (suc b) = places.Number
place_after places.Number b = places.NumberHigh b
place_after (places.NumberHigh a) b = places.Line false false
place_after (places.Line quoted remark) zero = places.Link
place_after (places.Line quoted remark) (suc b) =
    places.Line (is_quoted_after quoted (suc b)) (is_remark_after quoted remark (suc b))
place_after places.End b = places.End

-- the text of a byte that stands there
abbrev pub text_at : BytePlace → ℕ → List ℕ
text_at (places.NumberHigh a) b = decimal (a + 256 * b) ++ codes " "
text_at (places.Line quoted remark) zero = codes "\n"
text_at (places.Line quoted remark) (suc b) = shown (quoted || remark) (suc b)
text_at _ b = []
