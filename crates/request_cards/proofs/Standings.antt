-- How a request stands, case by case.
use Rattle.std.proofs.Common.{◌≡◌, ℕ, ◌+◌, ◌<◌, ◌≤◌, ◌&&◌, ◌==◌, Option, Some, None, refl, arith}
use Rattle.std.specs.Prelude.{nat_le, option_map}
use Rattle.std.proofs.lemmas.Bool.Decides.{nat_tests}
use Rattle.request_cards.specs.declared.answer.Answer.{Answer}
use Rattle.request_cards.specs.declared.reply.Word.{Word}
use Rattle.request_cards.specs.declared.reply.Word.TheVariants.{Ahead, NoTill, Stale}
use Rattle.request_cards.specs.declared.standing.Standing.{Standing}
use Rattle.request_cards.specs.declared.standing.Standing.TheVariants.{New, Settled}
use Rattle.request_cards.specs.Ledgers.{entry_of, is_new, number_of, standing, told_again, told_late}
use Rattle.request_cards.specs.Requests.{Ask}

-- a number below the last one
pub late_again : (prior : Option (Ask × Answer)) (kept : Ask × Answer) (a : Ask) (word : Word) → prior ≡ Some kept
    → a.number ≡ kept.0.number → word ≡ told_again (entry_of kept) a → word ≡ told_late (option_map entry_of prior) a
late_again prior kept a word is same told = rw is (grind (arith, nat_tests))

pub late_other : (prior : Option (Ask × Answer)) (kept : Ask × Answer) (a : Ask) → prior ≡ Some kept
    → (a.number ≡ kept.0.number → ⊥) → Stale ≡ told_late (option_map entry_of prior) a
late_other prior kept a is other = rw is (grind (arith, nat_tests))

pub late_none : (prior : Option (Ask × Answer)) (a : Ask) → prior ≡ None
    → Stale ≡ told_late (option_map entry_of prior) a
late_none prior a is = rw is refl

-- how it stands, and whether it is new
abbrev Stands : ℕ → Option (Ask × Answer) → Option (Ask × Answer) → Ask → Standing → Type 0
Stands tills last prior a s = (s ≡ standing tills (option_map entry_of last) (option_map entry_of prior) a)
    × (is_new s ≡ (nat_le a.till tills && a.number == number_of (option_map entry_of last) + 1))

pub stands_without_till : (tills : ℕ) (last prior : Option (Ask × Answer)) (a : Ask) → tills < a.till
    → Stands tills last prior a (Settled NoTill)
stands_without_till tills last prior a past = (grind (arith, nat_tests), grind (arith, nat_tests))

pub stands_past : (tills : ℕ) (last prior : Option (Ask × Answer)) (a : Ask) → a.till ≤ tills → last ≡ None
    → 1 < a.number → Stands tills last prior a (Settled Ahead)
stands_past tills last prior a there is far = rw is (grind (arith, nat_tests), grind (arith, nat_tests))

pub stands_first : (tills : ℕ) (last prior : Option (Ask × Answer)) (a : Ask) → a.till ≤ tills → last ≡ None
    → a.number ≡ 1 → Stands tills last prior a New
stands_first tills last prior a there is first = rw is (grind (arith, nat_tests), grind (arith, nat_tests))

pub stands_late : (tills : ℕ) (last prior : Option (Ask × Answer)) (a : Ask) (kept : Ask × Answer) (word : Word)
    → a.till ≤ tills → last ≡ Some kept → a.number < kept.0.number → word ≡ told_late (option_map entry_of prior) a
    → Stands tills last prior a (Settled word)
stands_late tills last prior a kept word there is below told =
    rw is (grind (arith, nat_tests), grind (arith, nat_tests))

pub stands_again : (tills : ℕ) (last prior : Option (Ask × Answer)) (a : Ask) (kept : Ask × Answer) (word : Word)
    → a.till ≤ tills → last ≡ Some kept → a.number ≡ kept.0.number → word ≡ told_again (entry_of kept) a
    → Stands tills last prior a (Settled word)
stands_again tills last prior a kept word there is same told =
    rw is (grind (arith, nat_tests), grind (arith, nat_tests))

pub stands_ahead : (tills : ℕ) (last prior : Option (Ask × Answer)) (a : Ask) (kept : Ask × Answer)
    → a.till ≤ tills → last ≡ Some kept → kept.0.number + 1 < a.number → Stands tills last prior a (Settled Ahead)
stands_ahead tills last prior a kept there is far = rw is (grind (arith, nat_tests), grind (arith, nat_tests))

pub stands_next : (tills : ℕ) (last prior : Option (Ask × Answer)) (a : Ask) (kept : Ask × Answer)
    → a.till ≤ tills → last ≡ Some kept → a.number ≡ kept.0.number + 1 → Stands tills last prior a New
stands_next tills last prior a kept there is next = rw is (grind (arith, nat_tests), grind (arith, nat_tests))
