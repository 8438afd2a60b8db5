-- The quantity of a message, and its item to go to, as they are read.
use Rattle.std.proofs.Common.{◌≡◌, ◌≤◌, ℕ, true, false, List, Some, None, eqb, refl, ap, sym, ◌∙◌, arith, eq-eqb}
use Rattle.std.specs.Prelude.{not, option_map}
use Rattle.std.proofs.lemmas.Bool.Decides.{nat_tests}
use Rattle.request_cards.specs.declared.kind.Kind.{Kind}
use Rattle.request_cards.specs.declared.kind.Kind.TheVariants.{Receive, Issue, Set, Move}
use Rattle.request_cards.specs.Reading.{amounts}
use Rattle.line_text.specs.Numbers.{number_before, number_in}
use Rattle.request_cards.specs.Requests.{may_go_to, same_kind}

-- of a kind that moves nothing
plain_is : (kind : Kind) (item : ℕ) (bytes : List ℕ) → true ≡ not (same_kind kind Move)
    → amounts kind item bytes ≡ option_map (λ quantity. (quantity, 0)) (number_in 0 999999999 bytes)
unfolding amounts
plain_is Receive item bytes plain = refl
plain_is Issue item bytes plain = refl
plain_is Set item bytes plain = refl
plain_is Move item bytes plain = cc

pub plain_none : (kind : Kind) (item : ℕ) (bytes : List ℕ) → true ≡ not (same_kind kind Move)
    → None ≡ number_in 0 999999999 bytes → None ≡ amounts kind item bytes
plain_none kind item bytes plain none =
    ap (option_map (λ quantity. (quantity, 0))) none ∙ sym (plain_is kind item bytes plain)

pub plain_some : (kind : Kind) (item : ℕ) (bytes : List ℕ) (quantity : ℕ) → true ≡ not (same_kind kind Move)
    → Some quantity ≡ number_in 0 999999999 bytes → Some (quantity, 0) ≡ amounts kind item bytes
plain_some kind item bytes quantity plain some =
    ap (option_map (λ quantity. (quantity, 0))) some ∙ sym (plain_is kind item bytes plain)

pub plain_goes : (kind : Kind) (item : ℕ) → true ≡ not (same_kind kind Move) → may_go_to kind item 0 ≡ true
plain_goes Receive item plain = refl
plain_goes Issue item plain = refl
plain_goes Set item plain = refl
plain_goes Move item plain = cc

-- of a move
pub is_move : (kind : Kind) → false ≡ not (same_kind kind Move) → kind ≡ Move
is_move Receive moves = cc
is_move Issue moves = cc
is_move Set moves = cc
is_move Move moves = refl

pub moved_none : (kind : Kind) (item : ℕ) (bytes : List ℕ) → kind ≡ Move
    → None ≡ number_before 0 999999999 bytes → None ≡ amounts kind item bytes
unfolding amounts
moved_none kind item bytes move none = rw (move, ← none) refl

pub moved_nowhere : (kind : Kind) (item : ℕ) (bytes : List ℕ) (quantity : ℕ) (rest : List ℕ) → kind ≡ Move
    → Some (quantity, rest) ≡ number_before 0 999999999 bytes → None ≡ number_in 1 65535 rest
    → None ≡ amounts kind item bytes
unfolding amounts
moved_nowhere kind item bytes quantity rest move some none = rw (move, ← some, ← none) refl

pub moved_to_itself : (kind : Kind) (item : ℕ) (bytes : List ℕ) (quantity to : ℕ) (rest : List ℕ) → kind ≡ Move
    → Some (quantity, rest) ≡ number_before 0 999999999 bytes → Some to ≡ number_in 1 65535 rest → to ≡ item
    → None ≡ amounts kind item bytes
unfolding amounts
moved_to_itself kind item bytes quantity to rest move some goes same =
    let is : eqb to item ≡ true = eq-eqb to item same in rw (move, ← some, ← goes, is) refl

pub moved_to_another : (kind : Kind) (item : ℕ) (bytes : List ℕ) (quantity to : ℕ) (rest : List ℕ) → kind ≡ Move
    → Some (quantity, rest) ≡ number_before 0 999999999 bytes → Some to ≡ number_in 1 65535 rest
    → (to ≡ item → ⊥) → Some (quantity, to) ≡ amounts kind item bytes
unfolding amounts
moved_to_another kind item bytes quantity to rest move some goes other =
    let is : eqb to item ≡ false = grind (arith, nat_tests, other) in rw (move, ← some, ← goes, is) refl

pub moved_goes : (kind : Kind) (item to : ℕ) → kind ≡ Move → 1 ≤ to → to ≤ 65535 → (to ≡ item → ⊥)
    → may_go_to kind item to ≡ true
moved_goes kind item to move low high other = rw move (grind (arith, nat_tests, other))
