-- What is kept of a line.
use Rattle.std.proofs.Common.{◌≡◌, ◌≤◌, ◌+◌, ℕ, zero, suc, List, [], ◌∷◌, ◌++◌, length, take, min, refl, sym, ◌∙◌, ap}
use Rattle.std.proofs.Common.{subst, arith, append_assoc}
use Rattle.std.proofs.Math.Seq.{take-append-add}
use Rattle.std.proofs.lemmas.List.{length-take, take_min}
use Rattle.std.specs.Prelude.{Option, Some, None, OnSome}
use Rattle.std.specs.Io.KnownBytes.{Consumes, IsAtEnd}
use Rattle.std.proofs.KnownBytes.{Consumes-trans}
use Rattle.line_server.specs.Read.{LacksLf, TookPart, has_end, lf_after}
use Rattle.line_server.specs.declared.reading.Part.{Part}
use Rattle.line_server.specs.declared.reading.Part.TheVariants.{Over}

-- as many of these bytes as there is room for
pub kept_front : (a b : List ℕ) (room n : ℕ) → room + length a ≡ 40 → n ≡ min (length b) room
    → a ++ take n b ≡ take 40 (a ++ b)
kept_front a b room n fits is =
    let count : n ≡ min room (length b) = omega (arith, is) in
    let all : length a + room ≡ 40 = omega (arith, fits) in
    ap (λ bs. a ++ bs) (ap (λ k. take k b) count ∙ take_min room b)
    ∙ sym (take-append-add a b room)
    ∙ ap (λ k. take k (a ++ b)) all

-- what is kept of a line is at most that much of it
pub kept_short : (a : List ℕ) → length (take 40 a) ≤ 40
kept_short a = omega (arith, length-take 40 a)

-- nothing more is lost where a part was kept before
kept_more_of : (n : ℕ) (a b : List ℕ) → take n (take n a ++ b) ≡ take n (a ++ b)
kept_more_of zero a b = refl
kept_more_of (suc n) [] b = refl
kept_more_of (suc n) (x ∷ a) b = ap (λ xs. x ∷ xs) (kept_more_of n a b)

pub kept_more : (a b : List ℕ) → take 40 (take 40 a ++ b) ≡ take 40 (a ++ b)
kept_more a b = kept_more_of 40 a b

pub lacks_more : (a b : List ℕ) → LacksLf a → LacksLf b → LacksLf (a ++ b)
lacks_more [] b x y = y
lacks_more (c ∷ a) b x y = (x.0, lacks_more a b x.1 y)

-- what was read of a line so far, and what is kept of it
pub record HasRead (old new : Option (List ℕ)) (kept : List ℕ) : Type 0 where
  pub raw : List ℕ
  pub lacks : LacksLf raw
  pub kept_is : kept ≡ take 40 raw
  pub consumed : Consumes old new raw

pub still_at_end : (a b c : Option (List ℕ)) (bs : List ℕ) → Consumes a b bs → OnSome b (IsAtEnd c)
    → OnSome a (IsAtEnd c)
still_at_end None b c bs p end = tt
still_at_end (Some x) None c bs p end = absurd p
still_at_end (Some x) (Some y) c bs p end = end

-- one look more
pub read_more : (a b c : Option (List ℕ)) (kept after : List ℕ) (part p : Part) → part ≡ p → HasRead a b kept
    → TookPart b c kept after part
    → (raw : List ℕ) × LacksLf raw × (after ≡ take 40 raw) × Consumes a c (raw ++ lf_after (has_end p))
    × (part ≡ Over → OnSome a (IsAtEnd c))
read_more a b c kept after part p is x y =
    let short : length kept ≤ 40 = subst (λ (bs : List ℕ). length bs ≤ 40) (sym x.kept_is) (kept_short x.raw) in
    let all : Consumes a c ((x.raw ++ y.raw) ++ lf_after (has_end part)) =
    subst (Consumes a c) (sym (append_assoc x.raw y.raw (lf_after (has_end part))))
    (Consumes-trans a b c x.raw (y.raw ++ lf_after (has_end part)) x.consumed y.consumed) in (
      x.raw ++ y.raw,
      lacks_more x.raw y.raw x.lacks y.lacks,
      y.kept short ∙ ap (λ bs. take 40 (bs ++ y.raw)) x.kept_is ∙ kept_more x.raw y.raw,
      subst (λ q. Consumes a c ((x.raw ++ y.raw) ++ lf_after (has_end q))) is all,
      λ e. still_at_end a b c x.raw x.consumed (y.over e),
    )
