-- How many sectors the growth of STOCK writes at most, and a request with it.
use Rattle.std.proofs.Common.{ℕ, ◌≤◌, ◌<◌, ◌+◌, ◌-◌, ◌*◌, ◌/◌, ◌⊎◌, inl, inr, Bool, true, false}
use Rattle.std.proofs.Common.{length, sym, ◌∙◌, ap, subst, arith, mul-le-mul_right}
use Rattle.std.specs.Prelude.{if◌then◌else◌, nat_eq, nat_le, nat_lt}
use Rattle.d64_image.specs.Images.{Image}
use Rattle.disk_layout.specs.Layout.{File, record_length, sides_for}
use Rattle.rel_records.proofs.lemmas.growth.RunCosts.{growth-none}
use Rattle.rel_records.proofs.lemmas.growth.Grows.{count-is}
use Rattle.rel_records.specs.growth.Growth.{blocks_for, fill_writes, full, growth_writes, records_had, run_writes}
use Rattle.rel_records.specs.growth.Growth.{side_writes}
use Rattle.request_cards.specs.declared.answer.Answer.{Answer}
use Rattle.request_cards.specs.declared.answer.Answer.TheVariants as answers
use Rattle.request_cards.specs.Requests.{Body}
use Rattle.host_session.specs.shop.Files.{Files, HasFiles}
use Rattle.host_session.specs.session.Handling.{kept_writes}
use Rattle.host_session.specs.shop.Shop.{results_in}
use Rattle.host_session.proofs.lemmas.writing.PlacedRecords.{card-touched}
use Rattle.host_session.proofs.lemmas.growing.StockRoom.{some-blocks}

fill-few : (s : File) → fill_writes s ≤ 2
fill-few s = by (nat_eq (records_had s) (full (record_length s.slot) (length s.blocks)))
    (nat_lt (records_had s * record_length s.slot) (254 * (length s.blocks - 1)))
  where
    by : (a b : Bool) → (if a then 0 else (if b then 2 else 1)) ≤ 2
    by true b = omega arith
    by false true = omega arith
    by false false = omega arith

-- six side sectors at most are written over
side-few : (w : ℕ) → w ≤ 720 → side_writes w ≤ 15
side-few w le = triangle (sides_for w) (omega (arith, le))
  where
    triangle : (s : ℕ) → s ≤ 6 → s * (s - 1) / 2 ≤ 15
    triangle s six = omega (arith, six, mul-le-mul_right (s - 1) six)

most-few : (s : File) (r : ℕ) → blocks_for (record_length s.slot) r ≤ 720 → 0 < length s.blocks
    → growth_writes s r ≤ 3612
most-few s r le some = by (nat_le r (records_had s))
  where
    by : (b : Bool)
        → (if b then 0 else (fill_writes s + run_writes (length s.blocks) (blocks_for (record_length s.slot) r))) ≤ 3612
    by true = omega arith
    by false = omega (arith, fill-few s, side-few (blocks_for (record_length s.slot) r) le, le, some)

kept-few : (s : File) (r : ℕ) (b : Body) (x : Answer) → growth_writes s r ≤ 3612
    → kept_writes s r (results_in b x) ≤ 3618
kept-few s r b (answers.Done h) le = omega (arith, le, card-touched b.item)
kept-few s r b (answers.Moved h g) le = omega (arith, le, card-touched b.item, card-touched b.to)
kept-few s r b (answers.Short h) le = omega arith
kept-few s r b (answers.Over h) le = omega arith
kept-few s r b answers.NoCard le = omega arith
kept-few s r b answers.DiskFull le = omega arith
kept-few s r b answers.TooLarge le = omega arith

module _ (img : Image) (f : Files) (h : HasFiles img f) (r : ℕ) where
  -- whatever the item is: a file has a block, and none has more than 720
  pub stock-writes_most : (r ≤ f.top) ⊎ (r ≤ length f.stock) → growth_writes h.stock_file r ≤ 3612
  stock-writes_most (inl le) =
      most-few h.stock_file r (subst (λ (L : ℕ). blocks_for L r ≤ 720) (sym h.stock_length)
      (omega (arith, le, h.top.fits.blocks))) (some-blocks img f h)
  stock-writes_most (inr le) =
      omega (
        arith,
        growth-none h.stock_file r (subst (λ (n : ℕ). r ≤ n) (ap length h.stock ∙ count-is img h.stock_file) le),
      )

  -- and so is the most that a request may write
  pub kept-most : (b : Body) (x : Answer) → (r ≤ f.top) ⊎ (r ≤ length f.stock)
      → kept_writes h.stock_file r (results_in b x) ≤ 3618
  kept-most b x where_is = kept-few h.stock_file r b x (stock-writes_most where_is)
