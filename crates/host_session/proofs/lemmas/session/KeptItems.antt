-- Records that are there, and the item to which a request gives a new quantity.
use Rattle.std.proofs.Common.{ℕ, ◌≡◌, ◌≤◌, ◌+◌, true, false, List, [], ◌∷◌, ◌++◌, Some, length, refl, sym, ap}
use Rattle.std.specs.Prelude.{Contains, IsSome, Option, None, is_none, is_some}
use Rattle.std.proofs.lemmas.Bool.{false≢true}
use Rattle.disk_layout.proofs.lemmas.lists.Once.{Contains-here}
use Rattle.disk_layout.specs.Layout.{File}
use Rattle.rel_records.specs.growth.Growth.{growth_writes}
use Rattle.request_cards.specs.declared.answer.Answer.{Answer}
use Rattle.request_cards.specs.declared.answer.Answer.TheVariants as answers
use Rattle.request_cards.specs.CardTexts.{is_done}
use Rattle.request_cards.specs.Requests.{Body}
use Rattle.host_session.specs.shop.Files.{record_at}
use Rattle.host_session.specs.session.Handling.{card_writes, kept_writes}
use Rattle.host_session.specs.shop.Shop.{items, results_in}
use Rattle.host_session.proofs.lemmas.shop.Lists.{record-there, record_at-append}

-- a record with a number from 1 to the last is there
pub record-some : {X : Type 0} (xs : List X) (r : ℕ) → 1 ≤ r → r ≤ length xs → IsSome (record_at xs r)
record-some xs r low le = ap is_some (record-there xs r low le).1

pub some-record : {X : Type 0} (xs ys : List X) (r : ℕ) → IsSome (record_at xs r) → IsSome (record_at (xs ++ ys) r)
some-record {X = X} xs ys r some = by (record_at xs r) refl some
  where
    by : (o : Option X) → record_at xs r ≡ o → IsSome o → IsSome (record_at (xs ++ ys) r)
    by None e s = absurd (false≢true s)
    by (Some x) e s = ap is_some (record_at-append xs ys r x e)

-- an option is none, or there is one
pub none-or : {X : Type 0} (o : Option X) → is_none o ≡ false → IsSome o
none-or None e = absurd (false≢true (sym e))
none-or (Some x) e = refl

pub none-not : {X : Type 0} (o : Option X) → is_none o ≡ true → ¬ (IsSome o)
none-not None e s = false≢true s
none-not (Some x) e s = false≢true e

-- what is done gives its item a new quantity, and is counted so
pub done-item : (b : Body) (x : Answer) → is_done x ≡ true → Contains (items (results_in b x)) b.item
done-item b (answers.Done h) e = Contains-here b.item []
done-item b (answers.Moved h g) e = Contains-here b.item (b.to ∷ [])
done-item b (answers.Short h) e = absurd (false≢true e)
done-item b (answers.Over h) e = absurd (false≢true e)
done-item b answers.NoCard e = absurd (false≢true e)
done-item b answers.DiskFull e = absurd (false≢true e)
done-item b answers.TooLarge e = absurd (false≢true e)

pub done-writes : (stock : File) (item : ℕ) (b : Body) (x : Answer) → is_done x ≡ true
    → kept_writes stock item (results_in b x) ≡ growth_writes stock item + 2 + card_writes (results_in b x)
done-writes stock item b (answers.Done h) e = refl
done-writes stock item b (answers.Moved h g) e = refl
done-writes stock item b (answers.Short h) e = absurd (false≢true e)
done-writes stock item b (answers.Over h) e = absurd (false≢true e)
done-writes stock item b answers.NoCard e = absurd (false≢true e)
done-writes stock item b answers.DiskFull e = absurd (false≢true e)
done-writes stock item b answers.TooLarge e = absurd (false≢true e)
