-- A quantity, and the item to go to, that were written from their ends.
use Rattle.std.proofs.Common.{◌≡◌, ℕ, ◌≤◌, List, ◌∷◌, ◌++◌, length, drop, true, false, ap, ap₂, refl, ◌∙◌}
use Rattle.std.specs.Prelude.{decimal}
use Rattle.std.proofs.lemmas.List.{append-nil, drop_all}
use denote.Enum.Bare.{sameb}
use Rattle.request_cards.specs.contracts.kind.Kind.{the_type}
use Rattle.request_cards.specs.declared.kind.Kind.{Kind}
use Rattle.request_cards.specs.declared.kind.Kind.TheVariants.{Receive, Issue, Set, Move}
use Rattle.request_cards.specs.Requests.{Ask, same_kind}
use Rattle.request_cards.specs.Texts.{commas, to_fields}

-- what the code asks of the kind
pub flag_is : (kind : Kind) → sameb the_type kind Move ≡ same_kind kind Move
flag_is Receive = refl
flag_is Issue = refl
flag_is Set = refl
flag_is Move = refl

-- a kind with an item to go to, and one without
to_written : (kind : Kind) (to : ℕ) (text : List ℕ) → true ≡ same_kind kind Move → text ≡ decimal to → (quantity : ℕ)
    → decimal quantity ++ 44 ∷ text ≡ commas (decimal quantity ∷ to_fields kind to)
to_written Receive to text is e quantity = cc
to_written Issue to text is e quantity = cc
to_written Set to text is e quantity = cc
to_written Move to text is e quantity = ap (λ (xs : List ℕ). decimal quantity ++ 44 ∷ xs) e

none_written : (kind : Kind) (to quantity : ℕ) → false ≡ same_kind kind Move
    → decimal quantity ≡ commas (decimal quantity ∷ to_fields kind to)
none_written Receive to quantity is = refl
none_written Issue to quantity is = refl
none_written Set to quantity is = refl
none_written Move to quantity is = cc

-- the amounts of a move, at the end of the room
pub moved_amounts : (ask own : Ask) (to : ℕ) (room whole number : List ℕ) (end : ℕ) → own ≡ ask
    → true ≡ same_kind own.body.kind Move → to ≡ own.body.to
    → length room ≤ end → whole ≡ decimal own.body.quantity ++ 44 ∷ number → number ≡ decimal to ++ drop end room
    → whole ≡ commas (decimal ask.body.quantity ∷ to_fields ask.body.kind ask.body.to)
moved_amounts ask own to room whole number end same is item all first second =
    let last : number ≡ decimal own.body.to =
    second ∙ ap₂ (λ n (xs : List ℕ). decimal n ++ xs) item (drop_all end room all) ∙ append-nil (decimal own.body.to) in
    first ∙ to_written own.body.kind own.body.to number is last own.body.quantity
    ∙ ap (λ (a : Ask). commas (decimal a.body.quantity ∷ to_fields a.body.kind a.body.to)) same

-- those of another kind
pub plain_amounts : (ask own : Ask) (room whole : List ℕ) (end : ℕ) → own ≡ ask → false ≡ same_kind own.body.kind Move
    → length room ≤ end → whole ≡ decimal own.body.quantity ++ drop end room
    → whole ≡ commas (decimal ask.body.quantity ∷ to_fields ask.body.kind ask.body.to)
plain_amounts ask own room whole end same is all first =
    first ∙ ap (λ (xs : List ℕ). decimal own.body.quantity ++ xs) (drop_all end room all)
    ∙ append-nil (decimal own.body.quantity)
    ∙ none_written own.body.kind own.body.to own.body.quantity is
    ∙ ap (λ (a : Ask). commas (decimal a.body.quantity ∷ to_fields a.body.kind a.body.to)) same
