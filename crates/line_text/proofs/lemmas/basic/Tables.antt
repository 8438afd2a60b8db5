-- A table of texts, as code and definitions have it.
use Rattle.std.proofs.Common.{◌≡◌, ◌-◌, ◌∙◌, ℕ, List, [], ap, map, sym}
use Rattle.std.specs.Borrow.{Bor}
use Rattle.std.specs.Prelude.{slice_index_or}
use Rattle.std.proofs.Math.ListN.{get_or-map}
use Rattle.line_text.specs.basic.Characters.{keyword, keywords}

abbrev pub now : Bor (List ℕ) → List ℕ
now text = text.now

pub keyword-at : (xs : List (Bor (List ℕ))) (d : Bor (List ℕ)) (i b : ℕ) → i ≡ b - 128 → map now xs ≡ keywords → now d ≡ []
    → (slice_index_or xs i d).now ≡ keyword b
unfolding keyword
keyword-at xs d i b is table none =
    sym (get_or-map now xs i d)
    ∙ ap (λ (e : List ℕ). slice_index_or (map now xs) i e) none
    ∙ ap (λ (texts : List (List ℕ)). slice_index_or texts i []) table
    ∙ ap (λ (k : ℕ). slice_index_or keywords k []) is
