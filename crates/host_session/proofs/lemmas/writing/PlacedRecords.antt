-- A record that is written, in the words of the two files, and how many blocks it touches.
use Rattle.std.proofs.Common.{◌≡◌, ℕ, zero, suc, ◌≤◌, ◌-◌, inl, inr, List, [], length, replicate, set, get_or, sym, ◌∙◌}
use Rattle.std.proofs.Common.{ap, subst, arith}
use Rattle.std.specs.Prelude.{codes}
use Rattle.std.proofs.lemmas.List.{append-nil, take_at}
use Rattle.d64_image.specs.Images.{Image}
use Rattle.disk_layout.specs.Layout.{record_length}
use Rattle.disk_layout.specs.Records.{records}
use Rattle.rel_records.specs.Others.{HasRecords}
use Rattle.rel_records.specs.Written.{IsInOneBlock, IsWriting, grown_by, half_written, touched, with_half, with_written}
use Rattle.rel_records.specs.Written.{written}
use Rattle.host_session.specs.shop.Files.{Files, HasFiles, with_record}
use Rattle.host_session.specs.shop.Putting.{HasAnswer, HasCard, IsPlaced, IsPuttingCard}
use Rattle.host_session.proofs.lemmas.writing.Layers.{on-stock}
use Rattle.host_session.proofs.lemmas.writing.Calls.{changed, half-room, written-all}

-- A record that is written, in the words of the two files.
written-18 : (text old : List ℕ) → length text ≡ 18 → written 18 1 text old ≡ text
written-18 text old long = take_at text (replicate 18 0) 18 long

module _ (old new : Image) (f : Files) (h : HasFiles old f) (n : ℕ) (text : List ℕ) (long : length text ≡ 18) where
  card-of : (bytes : List ℕ)
      → HasRecords old new h.layout h.stock_place (set (records old h.stock_file) (suc n - 1) bytes)
      → HasCard f (suc n) bytes new
  card-of bytes x =
      let one : suc n - 1 ≡ n = omega arith in
      let e : set (records old h.stock_file) (suc n - 1) bytes ≡ with_record f.stock (suc n) bytes =
      λ i. set (sym h.stock i) (one i) bytes in
      let y : HasRecords old new h.layout h.stock_place (with_record f.stock (suc n) bytes) =
      subst (λ rs. HasRecords old new h.layout h.stock_place rs) e x in
      (length y.file.blocks, on-stock old new f h (with_record f.stock (suc n) bytes) y)

  pub card-put : HasRecords old new h.layout h.stock_place (with_written (record_length h.stock_file.slot) (suc n) 1
      text (records old h.stock_file)) → HasCard f (suc n) text new
  card-put x =
      let was = get_or (records old h.stock_file) (suc n - 1) [] in
      let bytes : written (record_length h.stock_file.slot) 1 text was ≡ text =
      ap (λ L. written L 1 text was) h.stock_length ∙ written-18 text was long in
      subst (λ (bs : List ℕ). HasCard f (suc n) bs new) bytes
      (card-of (written (record_length h.stock_file.slot) 1 text was) x)

  pub card-putting : IsWriting old h.layout h.stock_place h.stock_file 0 (suc n) 1 text new
      → IsPuttingCard f (suc n) text new
  card-putting (inl g) =
      let none : g.0 ≡ 0 = omega (arith, g.1) in
      let e : grown_by (record_length h.stock_file.slot) g.0 (records old h.stock_file) ≡ f.stock
      = ap (λ k. grown_by (record_length h.stock_file.slot) k (records old h.stock_file)) none
      ∙ append-nil (records old h.stock_file) ∙ sym h.stock in
      let y : HasRecords old new h.layout h.stock_place f.stock =
      subst (λ rs. HasRecords old new h.layout h.stock_place rs) e g.2 in
      inl (length y.file.blocks, on-stock old new f h f.stock y)
  card-putting (inr (inl (x, kept))) =
      let L = record_length h.stock_file.slot in
      let none : grown_by L 0 (records old h.stock_file) ≡ records old h.stock_file =
      append-nil (records old h.stock_file) in
      let y : HasRecords old new h.layout h.stock_place (with_half L (suc n) 1 text (records old h.stock_file)) =
      subst (λ rs. HasRecords old new h.layout h.stock_place (with_half L (suc n) 1 text rs)) none x in
      let was = get_or (records old h.stock_file) (suc n - 1) [] in
      let bytes : half_written L (suc n) (written L 1 text was) was ≡ half_written 18 (suc n) text
      (get_or f.stock (suc n - 1) [])
      = ap (λ k. half_written k (suc n) (written k 1 text was) was) h.stock_length
      ∙ ap (λ t. half_written 18 (suc n) t was) (written-18 text was long)
      ∙ ap (λ rs. half_written 18 (suc n) text (get_or rs (suc n - 1) [])) (sym h.stock) in
      inr (inl (subst (λ (bs : List ℕ). HasCard f (suc n) bs new) bytes
      (card-of (half_written L (suc n) (written L 1 text was) was) y)))
  card-putting (inr (inr (x, kept))) =
      let L = record_length h.stock_file.slot in
      let none : grown_by L 0 (records old h.stock_file) ≡ records old h.stock_file =
      append-nil (records old h.stock_file) in
      inr (inr (card-put (subst (λ rs. HasRecords old new h.layout h.stock_place (with_written L (suc n) 1 text rs))
      none x)))

module _ (old new : Image) (f : Files) (h : HasFiles old f) (n : ℕ) (low : suc n ≤ 64) (text : List ℕ)
    (long : length text ≡ 127) where
  pub answer-put : HasRecords old new h.layout h.requests_place (with_written (record_length h.requests_file.slot)
      (suc n) 1 text (records old h.requests_file)) → HasAnswer f (suc n) text new
  answer-put x =
      let was = get_or (records old h.requests_file) (suc n - 1) [] in
      let one : suc n - 1 ≡ n = omega arith in
      let bytes : written (record_length h.requests_file.slot) 1 text was ≡ text =
      ap (λ L. written L 1 text was) h.requests_length ∙ written-all text was long in
      let e : with_written (record_length h.requests_file.slot) (suc n) 1 text
      (records old h.requests_file) ≡ with_record f.requests (suc n) text =
      λ i. set (sym h.requests i) (one i) (bytes i) in
      changed old new f h n low text long (subst (λ rs. HasRecords old new h.layout h.requests_place rs) e x)

-- How many blocks a card's bytes touch, and that a till's card lies in one.
pub card-touched : (r : ℕ) → touched 18 r 1 ≤ 2
card-touched zero = omega arith
card-touched (suc n) = omega arith

pub answer-one : (n : ℕ) → IsInOneBlock 127 (suc n)
answer-one n = let one : suc n - 1 ≡ n = omega arith in rw one (omega (arith, half-room n))

-- A record that is there, among the files.
pub card-placed : (img : Image) (f : Files) (h : HasFiles img f) (r : ℕ) → 1 ≤ r → r ≤ length f.stock
    → IsPlaced img (codes "STOCK") r h.layout h.stock_place h.stock_file
card-placed img f h r low there = record {
  layout = h.is_layout;
  first = h.stock_first;
  low = low;
  there =
      omega (arith, there, ap length h.stock);
}

pub answer-placed : (img : Image) (f : Files) (h : HasFiles img f) (r : ℕ) → 1 ≤ r → r ≤ length f.requests
    → IsPlaced img (codes "REQUESTS") r h.layout h.requests_place h.requests_file
answer-placed img f h r low there = record {
  layout = h.is_layout;
  first = h.requests_first;
  low = low;
  there =
      omega (arith, there, ap length h.requests);
}

pub answer-once : (n : ℕ) → touched 127 (suc n) 1 ≤ 1
answer-once n = omega (arith, half-room n)
