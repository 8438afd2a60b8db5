-- The text of a file's records in the characters of a set, made lines of records.
use Rattle.std.proofs.Common.{◌≡◌, ◌≢◌, ◌≤◌, ◌<◌, ◌+◌, ◌-◌, ◌∙◌, ◌⊎◌, inl, inr, ℕ, zero, suc, List, [], ◌∷◌, ◌++◌, Bool, true, false, ap, ap₂, arith}
use Rattle.std.proofs.Common.{get_or, length, refl, subst, sym, take}
use Rattle.std.specs.Prelude.{◌==◌, decimal, flat_map, if◌then◌else◌, nat_eq, slice_index}
use Rattle.std.specs.List.{AllByRecursion}
use Rattle.std.proofs.Math.Utf8.{encode}
use Rattle.std.proofs.lemmas.Bool.{false≢true}
use Rattle.std.proofs.lemmas.Bool.Decides.{eqb_tells}
use Rattle.std.proofs.lemmas.Fmt.{decimal_is_IsNumeral}
use Rattle.std.proofs.lemmas.List.{append_assoc, append-nil, length-append}
use Rattle.std.proofs.lemmas.List.Elements.{recursion_from_All}
use Rattle.line_text.specs.bytes.Texts.{AreBytes, kept_before, record_line, trimmed}
use Rattle.line_text.specs.petscii.Characters.{character_of}
use Rattle.line_text.specs.petscii.Quoted.{one_line, quoted_byte}
use Rattle.line_text.specs.petscii.Typing.{IsTextLine}
use Rattle.line_text.specs.declared.petscii.characters.CharacterSet.{CharacterSet}
use Rattle.line_text.specs.declared.petscii.characters.CharacterSet.TheVariants.{Graphics, Mixed}
use Rattle.line_text.proofs.lemmas.petscii.TextLines.{text-line-one}
use Rattle.line_text.proofs.lemmas.scripts.Lines.{Lacks, split_piece}
use Rattle.line_text.specs.scripts.Lines.{ended, lines, split, without_cr}
use Rattle.disk_changes.proofs.lemmas.lines.Lined.{digits-lack, ended-more, lacks-both, last-is, some-piece, text-is, text_from}
use Rattle.disk_changes.specs.lines.Stores.{AreRecords}
use Rattle.disk_changes.specs.lines.TypedLines.{AreMadeOf, IsLeft, IsMadeOf, IsOfRecord, LeavesNone}
use Rattle.file_rescues.specs.Forms.{form_lines_to, records_as, text_line}
use Rattle.file_rescues.specs.Records.{records_text}
use Rattle.file_rescues.specs.declared.forms.RecordForm.TheVariants as forms

-- no byte's text has an LF
abbrev lacks_feed : List ℕ → Bool
lacks_feed [] = true
lacks_feed (b ∷ bs) = if nat_eq b 10 then false else lacks_feed bs

abbrev feeds_to : CharacterSet → ℕ → Bool
feeds_to set zero = true
feeds_to set (suc n) = if lacks_feed (quoted_byte set n) then feeds_to set n else false

no-feeds : (set : CharacterSet) → feeds_to set 256 ≡ true
unfolding character_of encode
no-feeds Graphics = refl
no-feeds Mixed = refl

step-holds : (p q : Bool) → (if p then q else false) ≡ true → (p ≡ true) × (q ≡ true)
step-holds true q e = (refl, e)
step-holds false q e = absurd (false≢true e)

lacks-at : (set : CharacterSet) (n b : ℕ) → feeds_to set n ≡ true → b < n → lacks_feed (quoted_byte set b) ≡ true
lacks-at set zero b all low = absurd (omega (arith, low))
lacks-at set (suc n) b all low =
    let both = step-holds (lacks_feed (quoted_byte set n)) (feeds_to set n) all in
    elim (eqb_tells b n) [
      | inl same ↦ subst (λ (m : ℕ). lacks_feed (quoted_byte set m) ≡ true) (sym same.1) both.0
      | inr other ↦ lacks-at set n b both.1 (omega (arith, low, other.1))
    ]

lacks-of : (bs : List ℕ) → lacks_feed bs ≡ true → Lacks 10 bs
lacks-of [] e = tt
lacks-of (b ∷ bs) e = elim (eqb_tells b 10) [
  | inl same ↦ absurd (false≢true (sym (ap (λ (p : Bool). if p then false else lacks_feed bs) same.0) ∙ e))
  | inr other ↦ (other.1, lacks-of bs (sym (ap (λ (p : Bool). if p then false else lacks_feed bs) other.0) ∙ e))
]

all-lacks : (set : CharacterSet) (bs : List ℕ) → AllByRecursion (λ b. b < 256) bs → Lacks 10 (one_line set bs)
all-lacks set [] small = tt
all-lacks set (b ∷ bs) small =
    lacks-both (quoted_byte set b) (one_line set bs) (lacks-of (quoted_byte set b) (lacks-at set 256 b (no-feeds set) small.0))
    (all-lacks set bs small.1)

small-before : (b : ℕ) (bs : List ℕ) → b < 256 → AllByRecursion (λ n. n < 256) bs
    → AllByRecursion (λ n. n < 256) (kept_before b bs)
small-before zero [] low small = tt
small-before (suc b) [] low small = (low, tt)
small-before zero (x ∷ xs) low small = (low, small)
small-before (suc b) (x ∷ xs) low small = (low, small)

small-trimmed : (bs : List ℕ) → AllByRecursion (λ n. n < 256) bs → AllByRecursion (λ n. n < 256) (trimmed bs)
unfolding trimmed
small-trimmed [] small = tt
small-trimmed (b ∷ bs) small = small-before b (trimmed bs) small.0 (small-trimmed bs small.1)

one_line-lacks : (set : CharacterSet) (r : List ℕ) → AreBytes r → Lacks 10 (one_line set (trimmed r))
one_line-lacks set r bytes = all-lacks set (trimmed r) (small-trimmed r (recursion_from_All (λ n. n < 256) r bytes))

-- the lines of records, the first with number k; and those of the first n of them
abbrev lines_from : CharacterSet → ℕ → List (List ℕ) → List ℕ
lines_from set k [] = []
lines_from set k (r ∷ rs) = text_line set k r ++ lines_from set (suc k) rs

abbrev lines_to : CharacterSet → ℕ → List (List ℕ) → ℕ → List ℕ
lines_to set k rs zero = []
lines_to set k rs (suc n) = lines_to set k rs n ++ text_line set (k + n) (get_or rs n [])

first-before : (set : CharacterSet) (k n : ℕ) (r : List ℕ) (rs : List (List ℕ))
    → lines_to set k (r ∷ rs) (suc n) ≡ text_line set k r ++ lines_to set (suc k) rs n
first-before set k zero r rs =
    let here : k + 0 ≡ k = omega arith in
    ap (λ (m : ℕ). text_line set m r) here ∙ sym (append-nil (text_line set k r))
first-before set k (suc n) r rs =
    let next : k + suc n ≡ suc k + n = omega arith in
    ap (λ (t : List ℕ). t ++ text_line set (k + suc n) (get_or rs n [])) (first-before set k n r rs)
    ∙ ap (λ (m : ℕ). (text_line set k r ++ lines_to set (suc k) rs n) ++ text_line set m (get_or rs n [])) next
    ∙ append_assoc (text_line set k r) (lines_to set (suc k) rs n) (text_line set (suc k + n) (get_or rs n []))

all-from : (set : CharacterSet) (k : ℕ) (rs : List (List ℕ)) → lines_to set k rs (length rs) ≡ lines_from set k rs
all-from set k [] = refl
all-from set k (r ∷ rs) = first-before set k (length rs) r rs
    ∙ ap (λ (t : List ℕ). text_line set k r ++ t) (all-from set (suc k) rs)

to-from : (set : CharacterSet) (rs : List (List ℕ)) (n : ℕ) → form_lines_to (forms.Text set) rs n ≡ lines_to set 1 rs n
to-from set rs zero = refl
to-from set rs (suc n) =
    let same : n + 1 ≡ 1 + n = omega arith in
    ap₂ (λ (t : List ℕ) (m : ℕ). t ++ text_line set m (get_or rs n [])) (to-from set rs n) same

-- a line without its LF, in which there is none
abbrev line_at : CharacterSet → ℕ → List ℕ → List ℕ
line_at set n r = decimal n ++ (44 ∷ (34 ∷ (one_line set (trimmed r) ++ 34 ∷ [])))

line-ended : (set : CharacterSet) (n : ℕ) (r : List ℕ) → line_at set n r ++ 10 ∷ [] ≡ text_line set n r
line-ended set n r =
    append_assoc (decimal n) (44 ∷ (34 ∷ (one_line set (trimmed r) ++ 34 ∷ []))) (10 ∷ [])

mark-lacks : Lacks 10 (34 ∷ [])
mark-lacks = ((λ is. omega (arith, is)), tt)

line-lacks : (set : CharacterSet) (n : ℕ) (r : List ℕ) → n ≤ 182880 → AreBytes r → Lacks 10 (line_at set n r)
line-lacks set n r le bytes =
    let quoted : Lacks 10 (34 ∷ (one_line set (trimmed r) ++ 34 ∷ [])) = (
      (λ is. omega (arith, is)),
      lacks-both (one_line set (trimmed r)) (34 ∷ []) (one_line-lacks set r bytes) mark-lacks,
    ) in
    lacks-both (decimal n) (44 ∷ (34 ∷ (one_line set (trimmed r) ++ 34 ∷ [])))
    (digits-lack (decimal n) (decimal_is_IsNumeral n (omega (arith, le))).0.1)
    ((λ is. omega (arith, is)), quoted)

no-return : (xs : List ℕ) → without_cr (xs ++ 34 ∷ []) ≡ xs ++ 34 ∷ []
no-return xs =
    let line = xs ++ 34 ∷ [] in
    ap (λ (c : ℕ). if c == 13 then take (length line - 1) line else line) (last-is xs 34)

line-stays : (set : CharacterSet) (n : ℕ) (r : List ℕ) → without_cr (line_at set n r) ≡ line_at set n r
line-stays set n r =
    let t = one_line set (trimmed r) in
    let inner : (decimal n ++ (44 ∷ (34 ∷ t))) ++ 34 ∷ [] ≡ line_at set n r =
    append_assoc (decimal n) (44 ∷ (34 ∷ t)) (34 ∷ []) in
    subst (λ (line : List ℕ). without_cr line ≡ line) inner (no-return (decimal n ++ (44 ∷ (34 ∷ t))))

-- the first line of a text, and the lines behind it
first-shown : (set : CharacterSet) (n : ℕ) (r rest : List ℕ) → n ≤ 182880 → AreBytes r
    → lines (text_line set n r ++ rest) ≡ line_at set n r ∷ lines rest
first-shown set n r rest le bytes =
    ap (λ (t : List ℕ). lines (t ++ rest)) (sym (line-ended set n r))
    ∙ ap lines (append_assoc (line_at set n r) (10 ∷ []) rest)
    ∙ ap ended (split_piece 10 (line_at set n r) rest (line-lacks set n r le bytes))
    ∙ ended-more (line_at set n r) (split 10 rest) (some-piece rest)
    ∙ ap (λ (line : List ℕ). line ∷ lines rest) (line-stays set n r)

-- what is made of the line of a record that reads so
left-is : (set : CharacterSet) (old text bytes : List ℕ) → text ≡ one_line set (trimmed old) → IsLeft set old text bytes → bytes ≡ old
left-is set old text bytes reads (inl same) = same.1
left-is set old text bytes reads (inr other) = absurd (other.0 reads)

module _ (set : CharacterSet) (all : List (List ℕ)) (k : ℕ) (r : List ℕ) (low : 1 ≤ k) (high : k ≤ 182880)
    (here : get_or all (k - 1) [] ≡ r) (short : length r ≤ 254) where
  one : (n : ℕ) (text : List ℕ) → 1 ≤ n → n ≤ 182880 → IsTextLine (line_at set k r) n text
      → (n ≡ k) × (text ≡ one_line set (trimmed r))
  one n text l h is = text-line-one (line_at set k r) n k text (one_line set (trimmed r)) l h low high is (inl refl)

  of-record : (made : List ℕ) → IsOfRecord set all (line_at set k r) made → made ≡ record_line k r
  of-record made x =
      let is = one x.number x.text x.low x.high x.is in
      let old : get_or all (x.number - 1) [] ≡ r = ap (λ (m : ℕ). get_or all (m - 1) []) is.0 ∙ here in
      let left = subst (λ (o : List ℕ). IsLeft set o x.text x.bytes) old x.left in
      x.made_is ∙ ap₂ record_line is.0 (left-is set r x.text x.bytes is.1 left)

  some-left : LeavesNone set all (line_at set k r) → ⊥
  some-left (inl none) = none k (one_line set (trimmed r)) low high (inl refl)
  some-left (inr (n, text, l, h, is, none)) =
      let same = one n text l h is in
      let old : get_or all (n - 1) [] ≡ r = ap (λ (m : ℕ). get_or all (m - 1) []) same.0 ∙ here in
      none r short (inl (same.1 ∙ ap (λ (o : List ℕ). one_line set (trimmed o)) (sym old), sym old))

  made-is : (made : List ℕ) → IsMadeOf set all (line_at set k r) made → made ≡ record_line k r
  made-is made (inl x) = of-record made x
  made-is made (inr none) = absurd (some-left none.0)

-- those of all records from k on, which are the last of all
behind-front : (front : List (List ℕ)) (r : List ℕ) (rs : List (List ℕ)) → get_or (front ++ r ∷ rs) (length front) [] ≡ r
behind-front [] r rs = refl
behind-front (x ∷ front) r rs = behind-front front r rs

from-made : (set : CharacterSet) (L : ℕ) (front rs : List (List ℕ)) (plain : List ℕ) → L ≤ 254 → AreRecords L rs
    → length front + length rs ≤ 182880 → AreMadeOf set (front ++ rs) (lines (lines_from set (suc (length front)) rs)) plain
    → plain ≡ text_from (suc (length front)) rs
from-made set L front [] plain short are few made = made
from-made set L front (r ∷ rs) plain short are few made =
    let k = suc (length front) in
    let rest : List ℕ = lines_from set (suc k) rs in
    let high : k ≤ 182880 = omega (arith, few) in
    let long : length r ≤ 254 = omega (arith, are.0.0, short) in
    let both = subst (λ (ls : List (List ℕ)). AreMadeOf set (front ++ r ∷ rs) ls plain)
    (first-shown set k r rest high are.0.1) made in
    let place : k - 1 ≡ length front = omega arith in
    let here : get_or (front ++ r ∷ rs) (k - 1) [] ≡ r =
    ap (λ (i : ℕ). get_or (front ++ r ∷ rs) i []) place ∙ behind-front front r rs in
    let first : both.0 ≡ record_line k r = made-is set (front ++ r ∷ rs) k r (omega arith) high here long both.0 both.2 in
    let next : (front ++ r ∷ []) ++ rs ≡ front ++ r ∷ rs = append_assoc front (r ∷ []) rs in
    let count : length (front ++ r ∷ []) ≡ k = omega (arith, length-append front (r ∷ [])) in
    let others : both.1 ≡ text_from (suc k) rs =
    subst (λ (m : ℕ). both.1 ≡ text_from (suc m) rs) count
    (from-made set L (front ++ r ∷ []) rs both.1 short are.1 (omega (arith, few, count))
    (subst (λ (m : ℕ). AreMadeOf set ((front ++ r ∷ []) ++ rs) (lines (lines_from set (suc m) rs)) both.1) (sym count)
    (subst (λ (all : List (List ℕ)). AreMadeOf set all (lines rest) both.1) (sym next) both.3))) in
    both.4 ∙ ap₂ (λ (a b : List ℕ). a ++ b) first others

pub shown-back : (set : CharacterSet) (L : ℕ) (rs : List (List ℕ)) (plain : List ℕ) → L ≤ 254 → AreRecords L rs
    → length rs ≤ 182880 → AreMadeOf set rs (lines (records_as (forms.Text set) rs)) plain → plain ≡ records_text rs
shown-back set L rs plain short are few made =
    from-made set L [] rs plain short are (omega (arith, few))
    (subst (λ (t : List ℕ). AreMadeOf set rs (lines t) plain) (to-from set rs (length rs) ∙ all-from set 1 rs) made)
    ∙ sym (text-is rs)
