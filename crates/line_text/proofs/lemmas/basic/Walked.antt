-- A program that is walked byte by byte.
use Rattle.std.proofs.Common.{◌≡◌, ◌≤◌, ◌<◌, ◌+◌, ◌*◌, ◌∙◌, ℕ, zero, suc, Bool, false, true, List, [], ◌∷◌, ◌++◌, ap, drop, get_or, length, refl, sym}
use Rattle.std.specs.Prelude.{codes, decimal}
use Rattle.std.proofs.lemmas.List.{append_assoc, drop_all, drop_more}
use Rattle.line_text.specs.basic.Listings.{has_end, line_has_end, line_rest, lines}
use Rattle.line_text.specs.basic.Places.{place_after, text_at}
use Rattle.line_text.specs.declared.basic.places.BytePlace.{BytePlace}
use Rattle.line_text.specs.declared.basic.places.BytePlace.TheVariants as places

-- the text of these bytes, the first of which stands there
abbrev pub text_from : BytePlace → List ℕ → List ℕ
text_from places.Link bs = lines bs
text_from places.LinkHigh bs = lines (0 ∷ bs)
text_from places.Number bs = lines (0 ∷ 1 ∷ bs)
text_from (places.NumberHigh a) bs = lines (0 ∷ 1 ∷ a ∷ bs)
text_from (places.Line quoted remark) bs = line_rest quoted remark bs
text_from places.End bs = []

-- whether the program ends within them
abbrev pub ends_from : BytePlace → List ℕ → Bool
ends_from places.Link bs = has_end bs
ends_from places.LinkHigh bs = has_end (0 ∷ bs)
ends_from places.Number bs = has_end (0 ∷ 1 ∷ bs)
ends_from (places.NumberHigh a) bs = has_end (0 ∷ 1 ∷ a ∷ bs)
ends_from (places.Line quoted remark) bs = line_has_end bs
ends_from places.End bs = true

-- a link's first byte doesn't count
lines-low : (low : ℕ) (bs : List ℕ) → lines (low ∷ bs) ≡ lines (0 ∷ bs)
lines-low low [] = refl
lines-low low (zero ∷ bs) = refl
lines-low low (suc high ∷ []) = refl
lines-low low (suc high ∷ a ∷ []) = refl
lines-low low (suc high ∷ a ∷ b ∷ bs) = refl

ends-low : (low : ℕ) (bs : List ℕ) → has_end (low ∷ bs) ≡ has_end (0 ∷ bs)
ends-low low [] = refl
ends-low low (zero ∷ bs) = refl
ends-low low (suc high ∷ []) = refl
ends-low low (suc high ∷ a ∷ []) = refl
ends-low low (suc high ∷ a ∷ b ∷ bs) = refl

-- of its second one it counts whether it is 0
lines-high : (high : ℕ) (bs : List ℕ) → lines (0 ∷ suc high ∷ bs) ≡ lines (0 ∷ 1 ∷ bs)
lines-high high [] = refl
lines-high high (a ∷ []) = refl
lines-high high (a ∷ b ∷ bs) = refl

ends-high : (high : ℕ) (bs : List ℕ) → has_end (0 ∷ suc high ∷ bs) ≡ has_end (0 ∷ 1 ∷ bs)
ends-high high [] = refl
ends-high high (a ∷ []) = refl
ends-high high (a ∷ b ∷ bs) = refl

text-next : (at : BytePlace) (b : ℕ) (bs : List ℕ) → text_from at (b ∷ bs) ≡ text_at at b ++ text_from (place_after at b) bs
text-next places.Link b bs = lines-low b bs
text-next places.LinkHigh zero bs = refl
text-next places.LinkHigh (suc b) bs = lines-high b bs
text-next places.Number b bs = refl
text-next (places.NumberHigh a) b bs =
    sym (append_assoc (decimal (a + 256 * b)) (codes " ") (line_rest false false bs))
text-next (places.Line quoted remark) zero bs = refl
text-next (places.Line quoted remark) (suc b) bs = refl
text-next places.End b bs = refl

ends-next : (at : BytePlace) (b : ℕ) (bs : List ℕ) → ends_from at (b ∷ bs) ≡ ends_from (place_after at b) bs
ends-next places.Link b bs = ends-low b bs
ends-next places.LinkHigh zero bs = refl
ends-next places.LinkHigh (suc b) bs = ends-high b bs
ends-next places.Number b bs = refl
ends-next (places.NumberHigh a) b bs = refl
ends-next (places.Line quoted remark) zero bs = refl
ends-next (places.Line quoted remark) (suc b) bs = refl
ends-next places.End b bs = refl

-- the text so far with that of one byte more
pub text-more : (all done : List ℕ) (at : BytePlace) (xs : List ℕ) (i : ℕ) → i < length xs
    → done ++ text_from at (drop i xs) ≡ all
    → (done ++ text_at at (get_or xs i 0)) ++ text_from (place_after at (get_or xs i 0)) (drop (i + 1) xs) ≡ all
text-more all done at xs i low so_far =
    append_assoc done (text_at at (get_or xs i 0)) (text_from (place_after at (get_or xs i 0)) (drop (i + 1) xs))
    ∙ ap (λ (t : List ℕ). done ++ t) (sym (text-next at (get_or xs i 0) (drop (i + 1) xs)))
    ∙ ap (λ (bs : List ℕ). done ++ text_from at bs) (sym (drop_more xs i 0 low))
    ∙ so_far

pub ends-more : (all : Bool) (at : BytePlace) (xs : List ℕ) (i : ℕ) → i < length xs → ends_from at (drop i xs) ≡ all
    → ends_from (place_after at (get_or xs i 0)) (drop (i + 1) xs) ≡ all
ends-more all at xs i low so_far =
    sym (ends-next at (get_or xs i 0) (drop (i + 1) xs)) ∙ ap (ends_from at) (sym (drop_more xs i 0 low)) ∙ so_far

-- after the last byte a line that isn't ended gets its end
pub text-end : (all done : List ℕ) (at : BytePlace) (xs : List ℕ) (i : ℕ) → length xs ≤ i
    → done ++ text_from at (drop i xs) ≡ all → done ++ text_from at [] ≡ all
text-end all done at xs i past so_far = ap (λ (bs : List ℕ). done ++ text_from at bs) (sym (drop_all i xs past)) ∙ so_far

pub text-none : (at : BytePlace) → ((quoted remark : Bool) → at ≡ places.Line quoted remark → ⊥) → text_from at [] ≡ []
text-none places.Link other = refl
text-none places.LinkHigh other = refl
text-none places.Number other = refl
text-none (places.NumberHigh a) other = refl
text-none (places.Line quoted remark) other = absurd (other quoted remark refl)
text-none places.End other = refl
