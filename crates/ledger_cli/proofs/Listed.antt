-- The positions that a text lists, number by number.
use Rattle.std.proofs.Common.{◌≡◌, ◌<◌, ◌≤◌, ◌∙◌, ℕ, List, [], ◌∷◌, ◌++◌, None, Option, Some, ap, arith, length, length-append}
use Rattle.std.proofs.Common.{map, refl, subst, sym}
use Rattle.std.specs.Prelude.{decimal}
use Rattle.std.specs.List.{AllByRecursion}
use Rattle.std.proofs.lemmas.List.{append_assoc}
use Rattle.line_text.specs.columns.Positions.{ArePositions}
use Rattle.line_text.proofs.lemmas.digits.Fields.{Lacks, before_spells, decimal_lacks, number_in_found, number_in_spells, number_text}
use Rattle.line_text.specs.Numbers.{number_before, number_in}
use Rattle.request_cards.specs.Texts.{commas}
use Rattle.ledger_cli.specs.Positions.{AreListed}

-- numbers with a comma between two
abbrev pub list_text : List ℕ → List ℕ
list_text ps = commas (map decimal ps)

abbrev pub AreSmall : List ℕ → Type 0
AreSmall ps = AllByRecursion (λ p. (1 ≤ p) × (p ≤ 254)) ps

-- numbers that the rest of a text lists, after those that were read
pub record HasRest (rest list ps : List ℕ) : Type 0 where
  pub others : List ℕ
  pub some : 1 ≤ length others
  pub is : ps ≡ list ++ others
  pub small : AreSmall others
  pub text : rest ≡ list_text others

-- These numbers were read of a text, and this rest is left of it.
pub record AreRead (text rest list : List ℕ) : Type 0 where
  pub back : (qs : List ℕ) → 1 ≤ length qs → rest ≡ list_text qs → text ≡ list_text (list ++ qs)
  pub all : (ps : List ℕ) → 1 ≤ length ps → AreSmall ps → text ≡ list_text ps → HasRest rest list ps
  pub small : AreSmall list

pub none-read : (text : List ℕ) → AreRead text text []
none-read text = record {
  back = λ qs some is. is;
  all = λ ps some small is. record { others = ps; some = some; is = refl; small = small; text = is };
  small = tt;
}

-- a number before others
before-others : (n : ℕ) (qs : List ℕ) → 1 ≤ length qs → list_text (n ∷ qs) ≡ decimal n ++ 44 ∷ list_text qs
before-others n [] some = absurd (omega (arith, some))
before-others n (q ∷ qs) some = refl

both-small : (ps qs : List ℕ) → AreSmall ps → AreSmall qs → AreSmall (ps ++ qs)
both-small [] qs hp hq = hq
both-small (p ∷ ps) qs hp hq = (hp.0, both-small ps qs hp.1 hq)

-- a comma
has-comma : (xs ys : List ℕ) → Lacks 44 (xs ++ 44 ∷ ys) → ⊥
has-comma [] ys lacks = lacks.0 refl
has-comma (x ∷ xs) ys lacks = has-comma xs ys lacks.1

-- a number that is the whole rest has no comma after it
alone : (q n : ℕ) (rest behind : List ℕ) → q ≤ 254 → rest ≡ list_text (q ∷ []) → rest ≡ decimal n ++ 44 ∷ behind → ⊥
alone q n rest behind few is before =
    has-comma (decimal n) behind (subst (Lacks 44) (sym is ∙ before) (decimal_lacks q (omega (arith, few))))

-- the parts of what was read
number-of : Option (ℕ × List ℕ) → ℕ
number-of None = 0
number-of (Some p) = p.0

behind-of : Option (ℕ × List ℕ) → List ℕ
behind-of None = []
behind-of (Some p) = p.1

more-rest : (rest behind list ps : List ℕ) (n : ℕ) → number_before 1 254 rest ≡ Some (n, behind) → HasRest rest list ps
    → HasRest behind (list ++ n ∷ []) ps
unfolding number-of behind-of
more-rest rest behind list ps n read has = here has.others has.some has.is has.small has.text
  where
    here : (qs : List ℕ) → 1 ≤ length qs → ps ≡ list ++ qs → AreSmall qs → rest ≡ list_text qs
        → HasRest behind (list ++ n ∷ []) ps
    here [] some is small text = absurd (omega (arith, some))
    here (q ∷ []) some is small text = absurd (alone q n rest behind small.0.1 text (before_spells 1 254 rest (n, behind) read).1.1)
    here (q ∷ (r ∷ qs)) some is small text =
        let found : number_before 1 254 rest ≡ Some (q, list_text (r ∷ qs)) =
        ap (number_before 1 254) text
        ∙ number_text 1 254 q (list_text (r ∷ qs)) (omega (arith, small.0.1)) small.0.0 small.0.1 in
        let both : Some (q, list_text (r ∷ qs)) ≡ Some (n, behind) = sym found ∙ read in
        let same : q ≡ n = ap number-of both in
        let left : list_text (r ∷ qs) ≡ behind = ap behind-of both in
        record {
          others = r ∷ qs;
          some = omega arith;
          is = is ∙ ap (λ (x : ℕ). list ++ x ∷ (r ∷ qs)) same ∙ sym (append_assoc list (n ∷ []) (r ∷ qs));
          small = small.1;
          text = sym left;
        }

-- one number more
pub one-read : (text rest behind list next : List ℕ) (n : ℕ) → number_before 1 254 rest ≡ Some (n, behind)
    → next ≡ list ++ n ∷ [] → AreRead text rest list → AreRead text behind next
one-read text rest behind list next n read is are =
    let spelled = before_spells 1 254 rest (n, behind) read in
    subst (AreRead text behind) (sym is) (record {
      back = λ qs some left.
          are.back (n ∷ qs) (omega arith) (spelled.1.1 ∙ ap (λ (t : List ℕ). decimal n ++ 44 ∷ t) left
          ∙ sym (before-others n qs some))
          ∙ ap list_text (sym (append_assoc list (n ∷ []) qs));
      all = λ ps some small text_is. more-rest rest behind list ps n read (are.all ps some small text_is);
      small = both-small list (n ∷ []) are.small ((spelled.0, spelled.1.0), tt);
    })

pub shorter : (rest behind : List ℕ) (n : ℕ) → number_before 1 254 rest ≡ Some (n, behind) → length behind < length rest
shorter rest behind n read =
    let spelled = before_spells 1 254 rest (n, behind) read in
    omega (arith, ap length spelled.1.1, length-append (decimal n) (44 ∷ behind))

-- positions are some numbers
some-positions : (ps : List ℕ) → ArePositions ps → 1 ≤ length ps
some-positions [] are = absurd (omega (arith, are.first))
some-positions (p ∷ ps) are = omega arith

rest-of : (text rest list ps : List ℕ) → AreRead text rest list → AreListed text ps → HasRest rest list ps
rest-of text rest list ps are listed = are.all ps (some-positions ps listed.are) listed.small listed.is

-- there are too many
pub too-many : (text rest list : List ℕ) → AreRead text rest list → 32 ≤ length list → (ps : List ℕ) → AreListed text ps → ⊥
too-many text rest list are full ps listed =
    let has = rest-of text rest list ps are listed in
    let count : length ps ≡ length (list ++ has.others) = ap length has.is in
    omega (arith, full, listed.are.few, count, length-append list has.others, has.some)

-- what is left is one number, or none
one-left : (rest list ps : List ℕ) → number_before 1 254 rest ≡ None → HasRest rest list ps
    → (q : ℕ) × (number_in 1 254 rest ≡ Some q) × (ps ≡ list ++ q ∷ [])
one-left rest list ps none has = here has.others has.some has.is has.small has.text
  where
    here : (qs : List ℕ) → 1 ≤ length qs → ps ≡ list ++ qs → AreSmall qs → rest ≡ list_text qs
        → (q : ℕ) × (number_in 1 254 rest ≡ Some q) × (ps ≡ list ++ q ∷ [])
    here [] some is small text = absurd (omega (arith, some))
    here (q ∷ []) some is small text =
        (q, number_in_found 1 254 q rest (omega (arith, small.0.1)) (small.0.0, (small.0.1, text)), is)
    here (q ∷ (r ∷ qs)) some is small text =
        let found : number_before 1 254 rest ≡ Some (q, list_text (r ∷ qs)) =
        ap (number_before 1 254) text
        ∙ number_text 1 254 q (list_text (r ∷ qs)) (omega (arith, small.0.1)) small.0.0 small.0.1 in
        let both : None ≡ Some (q, list_text (r ∷ qs)) = sym none ∙ found in
        cc

pub none-left : (text rest list : List ℕ) → AreRead text rest list → number_before 1 254 rest ≡ None
    → number_in 1 254 rest ≡ None → (ps : List ℕ) → AreListed text ps → ⊥
none-left text rest list are none_before none ps listed =
    let left = one-left rest list ps none_before (rest-of text rest list ps are listed) in
    let both : None ≡ Some left.0 = sym none ∙ left.1 in
    cc

pub not-listed : (text rest list next : List ℕ) (n : ℕ) → AreRead text rest list → number_before 1 254 rest ≡ None
    → number_in 1 254 rest ≡ Some n → next ≡ list ++ n ∷ [] → (ArePositions next → ⊥)
    → (ps : List ℕ) → AreListed text ps → ⊥
not-listed text rest list next n are none_before last is not ps listed =
    let left = one-left rest list ps none_before (rest-of text rest list ps are listed) in
    let both : Some left.0 ≡ Some n = sym left.1 ∙ last in
    let same : left.0 ≡ n = cc in
    not (subst ArePositions (left.2 ∙ ap (λ (q : ℕ). list ++ q ∷ []) same ∙ sym is) listed.are)

pub all-listed : (text rest list next ps : List ℕ) (n : ℕ) → AreRead text rest list → number_in 1 254 rest ≡ Some n
    → next ≡ list ++ n ∷ [] → ps ≡ next → ArePositions next → AreListed text ps
all-listed text rest list next ps n are last is same positions =
    let spelled = number_in_spells 1 254 n rest last in
    subst (AreListed text) (sym (same ∙ is)) (record {
      is = are.back (n ∷ []) (omega arith) spelled.1.1;
      small = both-small list (n ∷ []) are.small ((spelled.0, spelled.1.0), tt);
      are = subst ArePositions is positions;
    })
