-- Sectors that may have the tag, and images with them.
use Rattle.std.proofs.Common.{◌≡◌, ◌≢◌, ◌<◌, ◌≤◌, ◌+◌, ◌-◌, ◌⊎◌, ◌∙◌, ℕ, zero, suc, Bool, true, false, List, ap, arith, inl, inr, length, refl, slice_index, subst, sym, ⊎_elim}
use Rattle.std.proofs.lemmas.Bool.{cases_eq, cases_lt, eq-eqb, eqb-true, false≢true}
use Rattle.std.proofs.lemmas.List.{ext_get_or, get_or-drop, get_or-set_other, get_or-set_same, get_or-take, get_or_past, length-set}
use Rattle.std.specs.Prelude.{◌==◌, if◌then◌else◌, drop, slice_set, take}
use Rattle.image_log.specs.Blocks.{part}
use Rattle.image_log.specs.life.Mixes.{IsTorn}
use Rattle.image_log.specs.life.Tags.{HasNoTag, HasTagRoom, IsTagged, LacksLetters, LacksRoomAt, blanked, has_letter, has_room, tag, untagged}

-- the first n of the last eight bytes are 0, or the tag's
abbrev HasRoomTo : List ℕ → ℕ → Type 0
HasRoomTo s n = (j : ℕ) → j < n → (slice_index s (248 + j) ≡ 0) ⊎ (slice_index s (248 + j) ≡ slice_index tag j)

-- they are 0
abbrev IsBlankTo : List ℕ → ℕ → Type 0
IsBlankTo s n = (j : ℕ) → j < n → slice_index s (248 + j) ≡ 0

-- one more of them is
more : (P : ℕ → Type 0) (n : ℕ) → ((j : ℕ) → j < n → P j) → P n → (j : ℕ) → j < suc n → P j
more P n before here j low =
    ⊎_elim (λ same. subst P (sym same) here) (λ other. before j (omega (arith, low, other))) (cases_eq j n)

-- what is answered of a byte
none_there : (b c : Bool) (x : Bool) → b ≡ true → (if b then x else (if c then x else false)) ≡ x
none_there true c x is = refl
none_there false c x is = absurd (false≢true is)

letter_there : (b c : Bool) (x : Bool) → c ≡ true → (if b then x else (if c then x else false)) ≡ x
letter_there true c x is = refl
letter_there false true x is = refl
letter_there false false x is = absurd (false≢true is)

other_there : (b c : Bool) (x : Bool) → (if b then x else (if c then x else false)) ≡ true
    → (x ≡ true) × ((b ≡ true) ⊎ (c ≡ true))
other_there true c x is = (is, inl refl)
other_there false true x is = (is, inr refl)
other_there false false x is = absurd (false≢true is)

none_left : (b : Bool) (x : Bool) → b ≡ true → (if b then x else true) ≡ x
none_left true x is = refl
none_left false x is = absurd (false≢true is)

one_left : (b : Bool) (x : Bool) → (if b then x else true) ≡ false → (b ≡ true) × (x ≡ false)
one_left true x is = (refl, is)
one_left false x is = absurd (false≢true (sym is))

room_is : (s : List ℕ) (n : ℕ) → HasRoomTo s n → has_room s n ≡ true
room_is s zero room = refl
room_is s (suc n) room =
    let b = slice_index s (248 + n) == 0 in
    let c = slice_index s (248 + n) == slice_index tag n in
    ⊎_elim
    (λ none. none_there b c (has_room s n) (eq-eqb (slice_index s (248 + n)) 0 none))
    (λ letter. letter_there b c (has_room s n) (eq-eqb (slice_index s (248 + n)) (slice_index tag n) letter))
    (room n (omega arith)) ∙ room_is s n (λ j low. room j (omega (arith, low)))

room_back : (s : List ℕ) (n : ℕ) → has_room s n ≡ true → HasRoomTo s n
room_back s zero is = λ j low. absurd (omega (arith, low))
room_back s (suc n) is =
    let both = other_there (slice_index s (248 + n) == 0) (slice_index s (248 + n) == slice_index tag n) (has_room s n) is in
    more (λ j. (slice_index s (248 + j) ≡ 0) ⊎ (slice_index s (248 + j) ≡ slice_index tag j)) n (room_back s n both.0)
    (⊎_elim (λ none. inl (eqb-true (slice_index s (248 + n)) 0 none))
    (λ letter. inr (eqb-true (slice_index s (248 + n)) (slice_index tag n) letter)) both.1)

blank_is : (s : List ℕ) (n : ℕ) → IsBlankTo s n → has_letter s n ≡ false
blank_is s zero blank = refl
blank_is s (suc n) blank =
    none_left (slice_index s (248 + n) == 0) (has_letter s n) (eq-eqb (slice_index s (248 + n)) 0 (blank n (omega arith)))
    ∙ blank_is s n (λ j low. blank j (omega (arith, low)))

blank_back : (s : List ℕ) (n : ℕ) → has_letter s n ≡ false → IsBlankTo s n
blank_back s zero is = λ j low. absurd (omega (arith, low))
blank_back s (suc n) is =
    let both = one_left (slice_index s (248 + n) == 0) (has_letter s n) is in
    more (λ j. slice_index s (248 + j) ≡ 0) n (blank_back s n both.1) (eqb-true (slice_index s (248 + n)) 0 both.0)

blanked_other : (s : List ℕ) (n j : ℕ) → ((k : ℕ) → k < n → j ≢ 248 + k) → slice_index (blanked s n) j ≡ slice_index s j
blanked_other s zero j not = refl
blanked_other s (suc n) j not =
    get_or-set_other (blanked s n) (248 + n) j 0 0 (not n (omega arith))
    ∙ blanked_other s n j (λ k low. not k (omega (arith, low)))

blanked_one : (s : List ℕ) (i : ℕ) → slice_index (slice_set s i 0) i ≡ 0
blanked_one s i = ⊎_elim (λ low. get_or-set_same s i 0 0 low)
    (λ past. get_or_past (slice_set s i 0) i 0 (omega (arith, past, length-set s i 0))) (cases_lt i (length s))

blanked_here : (s : List ℕ) (n : ℕ) → IsBlankTo (blanked s n) n
blanked_here s zero = λ j low. absurd (omega (arith, low))
blanked_here s (suc n) =
    more (λ j. slice_index (slice_set (blanked s n) (248 + n) 0) (248 + j) ≡ 0) n
    (λ j low. get_or-set_other (blanked s n) (248 + n) (248 + j) 0 0 (λ same. omega (arith, low, same)) ∙ blanked_here s n j low)
    (blanked_one (blanked s n) (248 + n))

blanked_length : (s : List ℕ) (n : ℕ) → length (blanked s n) ≡ length s
blanked_length s zero = refl
blanked_length s (suc n) = length-set (blanked s n) (248 + n) 0 ∙ blanked_length s n

-- by which the tag is taken off, or not
abbrev chosen : Bool → Bool → List ℕ → List ℕ
chosen room letter s = if room then (if letter then blanked s 8 else s) else s

chosen_as : (P : List ℕ → Type 0) (room letter : Bool) (s : List ℕ) → P (blanked s 8) → P s → P (chosen room letter s)
chosen_as P true true s blank same = blank
chosen_as P true false s blank same = same
chosen_as P false letter s blank same = same

chosen_not : (room letter : Bool) (s : List ℕ) → (room ≡ true → letter ≡ true → ⊥) → chosen room letter s ≡ s
chosen_not true true s not = absurd (not refl refl)
chosen_not true false s not = refl
chosen_not false letter s not = refl

chosen_blank : (room letter : Bool) (s : List ℕ) (j : ℕ) → j < 8 → room ≡ true
    → (letter ≡ false → slice_index s (248 + j) ≡ 0) → slice_index (chosen room letter s) (248 + j) ≡ 0
chosen_blank true true s j low is blank = blanked_here s 8 j low
chosen_blank true false s j low is blank = blank refl
chosen_blank false letter s j low is blank = absurd (false≢true is)

chosen_is : (room letter : Bool) (s : List ℕ) → room ≡ true → letter ≡ true → chosen room letter s ≡ blanked s 8
chosen_is true true s is there = refl
chosen_is true false s is there = absurd (false≢true there)
chosen_is false letter s is there = absurd (false≢true is)

not_blank : (s : List ℕ) → ¬ (HasNoTag s) → (b : Bool) → has_letter s 8 ≡ b → b ≡ true
not_blank s not true is = refl
not_blank s not false is = absurd (not (blank_back s 8 is))

-- the tag is taken off
pub taken_off : (s : List ℕ) → IsTagged s → untagged s ≡ blanked s 8
taken_off s is =
    chosen_is (has_room s 8) (has_letter s 8) s (room_is s 8 is.0) (not_blank s is.1 (has_letter s 8) refl)

-- there is none
pub none_off : (s : List ℕ) → (IsTagged s → ⊥) → untagged s ≡ s
none_off s not = chosen_not (has_room s 8) (has_letter s 8) s
    (λ room letter. not (room_back s 8 room, λ blank. false≢true (sym (blank_is s 8 blank) ∙ letter)))

off_length : (s : List ℕ) → length (untagged s) ≡ length s
off_length s = chosen_as (λ t. length t ≡ length s) (has_room s 8) (has_letter s 8) s (blanked_length s 8) refl

off_other : (s : List ℕ) (j : ℕ) → ((k : ℕ) → k < 8 → j ≢ 248 + k) → slice_index (untagged s) j ≡ slice_index s j
off_other s j not = chosen_as (λ t. slice_index t j ≡ slice_index s j) (has_room s 8) (has_letter s 8) s (blanked_other s 8 j not) refl

pub off_end : (s : List ℕ) → HasTagRoom s → (j : ℕ) → j < 8 → slice_index (untagged s) (248 + j) ≡ 0
off_end s room j low = chosen_blank (has_room s 8) (has_letter s 8) s j low (room_is s 8 room) (λ is. blank_back s 8 is j low)

-- what is written of a sector
pub low_as : (old new : List ℕ) → take 248 new ≡ take 248 old → (j : ℕ) → j < 248 → slice_index new j ≡ slice_index old j
low_as old new is j low =
    sym (get_or-take 248 new j 0 low) ∙ ap (λ (l : List ℕ). slice_index l j) is ∙ get_or-take 248 old j 0 low

pub room_as : (new : List ℕ) → part new 248 8 ≡ tag → HasTagRoom new
unfolding part
room_as new is j low = inr (sym (get_or-drop 248 new j 0) ∙ sym (get_or-take 8 (drop 248 new) j 0 low)
    ∙ ap (λ (l : List ℕ). slice_index l j) is)

-- a byte is before the last eight of 256, or one of them, or behind
places : (P : ℕ → Type 0) → ((j : ℕ) → j < 248 → P j) → ((j : ℕ) → j < 8 → P (248 + j)) → ((j : ℕ) → 256 ≤ j → P j) → (j : ℕ) → P j
places P low end past j = ⊎_elim (λ is. low j is)
    (λ not. ⊎_elim (λ is. subst P (omega (arith, not)) (end (j - 248) (omega (arith, is, not)))) (λ behind. past j behind)
    (cases_lt j 256)) (cases_lt j 248)

low_other : (j : ℕ) → j < 248 → (k : ℕ) → k < 8 → j ≢ 248 + k
low_other j low k small same = omega (arith, low, small, same)

past_other : (j : ℕ) → 256 ≤ j → (k : ℕ) → k < 8 → j ≢ 248 + k
past_other j past k small same = omega (arith, past, small, same)

-- a part of a tag is one
room_torn : (old new torn : List ℕ) → IsTorn old new torn → HasTagRoom old → HasTagRoom new → HasTagRoom torn
room_torn old new torn mix was is j low = ⊎_elim
    (λ o. ⊎_elim (λ none. inl (o ∙ none)) (λ letter. inr (o ∙ letter)) (was j low))
    (λ n. ⊎_elim (λ none. inl (n ∙ none)) (λ letter. inr (n ∙ letter)) (is j low))
    (mix.each (248 + j))

-- where the tag alone is written nothing else changes
pub same_but_tag : (old new torn : List ℕ) → length old ≡ 256 → length new ≡ 256 → HasTagRoom old → HasTagRoom new
    → ((j : ℕ) → j < 248 → slice_index new j ≡ slice_index old j) → IsTorn old new torn → untagged torn ≡ untagged old
same_but_tag old new torn size size2 was is low mix =
    let long = mix.size (size ∙ sym size2) in
    ext_get_or 0 (untagged torn) (untagged old) (off_length torn ∙ long ∙ sym (off_length old))
    (λ i inside. places (λ j. slice_index (untagged torn) j ≡ slice_index (untagged old) j)
    (λ j small. off_other torn j (low_other j small) ∙ ⊎_elim (λ o. o) (λ n. n ∙ low j small) (mix.each j)
    ∙ sym (off_other old j (low_other j small)))
    (λ j small. off_end torn (room_torn old new torn mix was is) j small ∙ sym (off_end old was j small))
    (λ j past. get_or_past (untagged torn) j 0 (omega (arith, past, off_length torn, long, size))
    ∙ sym (get_or_past (untagged old) j 0 (omega (arith, past, off_length old, size))))
    i)

-- as where it is taken off
pub taken_torn : (old torn : List ℕ) → length old ≡ 256 → IsTagged old → IsTorn old (untagged old) torn → untagged torn ≡ untagged old
taken_torn old torn size is = same_but_tag old (untagged old) torn size (off_length old ∙ size) is.0
    (λ j low. inl (off_end old is.0 j low)) (λ j low. off_other old j (low_other j low))

module _ (before sector new : List ℕ) (size : length before ≡ 256) (size2 : length sector ≡ 256) (size3 : length new ≡ 256)
    (low : (j : ℕ) → j < 248 → slice_index new j ≡ slice_index sector j) (blank : HasNoTag sector) (room : HasTagRoom new) where
  -- a sector is written with the tag
  pub kept_off : untagged new ≡ sector
  kept_off = ext_get_or 0 (untagged new) sector (off_length new ∙ size3 ∙ sym size2)
      (λ i inside. places (λ j. slice_index (untagged new) j ≡ slice_index sector j)
      (λ j small. off_other new j (low_other j small) ∙ low j small)
      (λ j small. off_end new room j small ∙ sym (blank j small))
      (λ j past. get_or_past (untagged new) j 0 (omega (arith, past, off_length new, size3))
      ∙ sym (get_or_past sector j 0 (omega (arith, past, size2))))
      i)

  pub kept_torn : HasTagRoom before → (torn : List ℕ) → IsTorn before new torn → IsTorn (untagged before) sector (untagged torn)
  kept_torn was torn mix = record {
    size = λ is. off_length torn ∙ mix.size (size ∙ sym size3) ∙ sym (off_length before);
    each = places
        (λ j. (slice_index (untagged torn) j ≡ slice_index (untagged before) j) ⊎ (slice_index (untagged torn) j ≡ slice_index sector j))
        (λ j small. ⊎_elim
        (λ o. inl (off_other torn j (low_other j small) ∙ o ∙ sym (off_other before j (low_other j small))))
        (λ n. inr (off_other torn j (low_other j small) ∙ n ∙ low j small))
        (mix.each j))
        (λ j small. inl (off_end torn (room_torn before new torn mix was room) j small ∙ sym (off_end before was j small)))
        (λ j past. inl
        (get_or_past (untagged torn) j 0 (omega (arith, past, off_length torn, mix.size (size ∙ sym size3), size))
        ∙ sym (get_or_past (untagged before) j 0 (omega (arith, past, off_length before, size)))));
  }

-- no mix of two sectors looks as if it had the tag
abbrev pub NeverTagged : (one two : List ℕ) → Type 0
NeverTagged one two = (torn : List ℕ)
    → ((j : ℕ) → (slice_index torn j ≡ slice_index one j) ⊎ (slice_index torn j ≡ slice_index two j)) → IsTagged torn → ⊥

pub never_room : (one two : List ℕ) → (j : ℕ) × (j < 8) × LacksRoomAt one j × LacksRoomAt two j → NeverTagged one two
never_room one two (j, low, here, there) torn mix is =
    ⊎_elim
    (λ zero. ⊎_elim (λ o. here.0 (sym o ∙ zero)) (λ n. there.0 (sym n ∙ zero)) (mix (248 + j)))
    (λ letter. ⊎_elim (λ o. here.1 (sym o ∙ letter)) (λ n. there.1 (sym n ∙ letter)) (mix (248 + j)))
    (is.0 j low)

pub never_letters : (one two : List ℕ) → LacksLetters one → LacksLetters two → NeverTagged one two
never_letters one two here there torn mix is = is.1 (λ j low. ⊎_elim (λ zero. zero)
    (λ letter. absurd (⊎_elim (λ o. here j low (sym o ∙ letter)) (λ n. there j low (sym n ∙ letter)) (mix (248 + j)))) (is.0 j low))

pub never_off : (one two : List ℕ) → NeverTagged one two → untagged two ≡ two
never_off one two never = none_off two (never two (λ j. inr refl))

pub never_torn : (one two : List ℕ) → NeverTagged one two → (torn : List ℕ) → IsTorn one two torn
    → IsTorn (untagged one) two (untagged torn)
never_torn one two never torn mix =
    let was = none_off one (never one (λ j. inl refl)) in
    let is = none_off torn (never torn mix.each) in
    subst (λ (o : List ℕ). IsTorn o two (untagged torn)) (sym was) (subst (λ (t : List ℕ). IsTorn one two t) (sym is) mix)
