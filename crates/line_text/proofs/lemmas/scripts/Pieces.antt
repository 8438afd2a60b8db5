-- What stands before the first of some bytes, and what stands after it.
use Rattle.std.proofs.Common.{
  ◌≡◌,
  ◌≢◌,
  ◌<◌,
  ℕ,
  List,
  [],
  ◌∷◌,
  ◌++◌,
  ◌+◌,
  Some,
  None,
  length,
  get_or,
  take,
  drop,
  refl,
  ◌∙◌,
  ap,
  ne_eqb,
  add-one,
  arith,
}
use Rattle.std.proofs.Math.Seq.{split_at}
use Rattle.std.proofs.lemmas.List.Elements.{recursion_from_All, All-from_get_or}
use Rattle.line_text.specs.Numbers.{cut_at}
use Rattle.line_text.proofs.lemmas.digits.Fields.{cut_at_field}
use Rattle.line_text.specs.scripts.Lines.{split}
use Rattle.line_text.proofs.lemmas.scripts.Lines.{Lacks, lacks_before, split_piece, split_whole}

-- bytes that are cut at a place
at_place : (bytes : List ℕ) (i c : ℕ) → i < length bytes → get_or bytes i 0 ≡ c
    → bytes ≡ take i bytes ++ c ∷ drop (i + 1) bytes
at_place bytes i c inside here =
    let cut : bytes ≡ take i bytes ++ get_or bytes i 0 ∷ drop (i + 1) bytes = rw add-one (split_at bytes i 0 inside) in
    cut ∙ ap (λ b. take i bytes ++ b ∷ drop (i + 1) bytes) here

pub cut_here : (c : ℕ) (bytes : List ℕ) (i : ℕ) → i < length bytes → ((k : ℕ) → k < i → get_or bytes k 0 ≢ c)
    → get_or bytes i 0 ≡ c
    → cut_at c bytes ≡ Some (take i bytes, drop (i + 1) bytes)
cut_here c bytes i inside before here =
    ap (cut_at c) (at_place bytes i c inside here)
    ∙ cut_at_field c (take i bytes) (drop (i + 1) bytes) (lacks_before c bytes i (omega arith) before)

cut_lacks : (c : ℕ) (xs : List ℕ) → Lacks c xs → cut_at c xs ≡ None
cut_lacks c [] lacks = refl
cut_lacks c (x ∷ xs) lacks = rw (ne_eqb x c lacks.0, cut_lacks c xs lacks.1) refl

pub cut_nowhere : (c : ℕ) (bytes : List ℕ) → ((k : ℕ) → k < length bytes → get_or bytes k 0 ≢ c) → cut_at c bytes ≡ None
cut_nowhere c bytes before =
    cut_lacks c bytes (recursion_from_All (λ x. x ≢ c) bytes (All-from_get_or (λ x. x ≢ c) bytes 0 before))

-- the pieces up to the first c, and from there on
pub split_here : (c : ℕ) (bytes : List ℕ) (i : ℕ) → i < length bytes → ((k : ℕ) → k < i → get_or bytes k 0 ≢ c)
    → get_or bytes i 0 ≡ c
    → split c bytes ≡ take i bytes ∷ split c (drop (i + 1) bytes)
split_here c bytes i inside before here =
    ap (split c) (at_place bytes i c inside here)
    ∙ split_piece c (take i bytes) (drop (i + 1) bytes) (lacks_before c bytes i (omega arith) before)

pub split_nowhere : (c : ℕ) (bytes : List ℕ) → ((k : ℕ) → k < length bytes → get_or bytes k 0 ≢ c)
    → split c bytes ≡ bytes ∷ []
split_nowhere c bytes before =
    split_whole c bytes (recursion_from_All (λ x. x ≢ c) bytes (All-from_get_or (λ x. x ≢ c) bytes 0 before))
