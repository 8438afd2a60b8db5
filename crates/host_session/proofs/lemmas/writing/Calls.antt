-- What each image held during a call on one of the two files is: the shop before it, or the one after.
use Rattle.std.proofs.Common.{◌≡◌, ◌⊎◌, ℕ, zero, suc, ◌≤◌, ◌+◌, ◌-◌, ◌*◌, ◌%◌, inl, inr, List, [], ◌++◌, length}
use Rattle.std.proofs.Common.{drop, take, replicate, set, get_or, refl, sym, ◌∙◌, ap, subst, arith, length-take}
use Rattle.std.proofs.Common.{drop-set-lt}
use Rattle.std.proofs.Math.Nat.{add-mul-mod_self_right}
use Rattle.std.proofs.lemmas.List.{append-nil, length-set, take_all, take_at, drop_all}
use Rattle.d64_image.specs.History.{History}
use Rattle.host_session.specs.Held.{Changes}
use Rattle.d64_image.specs.Images.{Image}
use Rattle.disk_layout.specs.Layout.{File, file_owns, record_length}
use Rattle.disk_layout.specs.Records.{pieces, record_count, records}
use Rattle.rel_records.specs.Others.{HasRecords}
use Rattle.rel_records.specs.Written.{IsWriting, grown_by, half_written, room_in_first, with_half}
use Rattle.rel_records.specs.Written.{with_written, written}
use Rattle.host_session.specs.shop.Files.{Files, HasFiles, with_record}
use Rattle.host_session.specs.shop.Shop.{IsShop, Shop}
use Rattle.disk_layout.specs.Whole.{HoldsWhole}
use Rattle.layout_check.specs.Repaired.{MendsFrom}
use Rattle.host_session.proofs.lemmas.writing.Layers.{on-requests}
use Rattle.host_session.proofs.lemmas.writing.Mended.{repair-shop}

-- two records of 127 bytes fill a block: none crosses
pub half-room : (n : ℕ) → n * 127 % 254 ≤ 127
half-room zero = omega arith
half-room (suc zero) = omega arith
half-room (suc (suc n)) =
    let e : suc (suc n) * 127 ≡ n * 127 + 1 * 254 = omega arith in
    rw (e, add-mul-mod_self_right (n * 127) 1 254) (half-room n)

-- so all of such a record is new at once
half-whole : (n : ℕ) (new old : List ℕ) → length new ≤ 127 → length old ≤ 127 → half_written 127 (suc n) new old ≡ new
half-whole n new old short small =
    let one : suc n - 1 ≡ n = omega arith in
    let room : 127 ≤ room_in_first 127 (suc n) = rw one (omega (arith, half-room n)) in
    let front : take (room_in_first 127 (suc n)) new ≡ new =
    take_all (room_in_first 127 (suc n)) new (omega (arith, short, room)) in
    let back : drop (room_in_first 127 (suc n)) old ≡ [] =
    drop_all (room_in_first 127 (suc n)) old (omega (arith, small, room)) in
    (λ i. front i ++ back i) ∙ append-nil new

-- a record has its length at most
pieces-few : (L n : ℕ) (xs : List ℕ) (k : ℕ) → length (get_or (pieces L n xs) k []) ≤ L
pieces-few L zero xs k = omega arith
pieces-few L (suc n) xs zero = omega (arith, length-take L xs)
pieces-few L (suc n) xs (suc k) = pieces-few L n (drop L xs) k

record-few : (img : Image) (f : File) (k : ℕ) → length (get_or (records img f) k []) ≤ record_length f.slot
unfolding records
record-few img f k = pieces-few (record_length f.slot) (record_count (length f.blocks) f.last (record_length f.slot)) _
    k

-- a text of 127 bytes, written into such a record from its start
pub written-all : (text old : List ℕ) → length text ≡ 127 → written 127 1 text old ≡ text
written-all text old long = take_at text (replicate 127 0) 127 long

module _ (old new : Image) (f : Files) (h : HasFiles old f)
    (n : ℕ) (low : suc n ≤ 64) (text : List ℕ) (long : length text ≡ 127) where
  -- a call that adds no record leaves REQUESTS the sectors that it had
  stays : (rs : List (List ℕ)) (x : HasRecords old new h.layout h.requests_place rs) → length rs ≡ length f.requests
      → file_owns x.file ≡ file_owns h.requests_file
  stays rs x long =
      let k = x.places h.requests_file h.requests_first.file in
      let there : length (records old h.requests_file) ≡ length rs = ap length (sym h.requests) ∙ sym long in
      elim k.1 [
        | inl same ↦ same
        | inr more ↦ absurd (omega (arith, more, there))
      ]

  unchanged : HasRecords old new h.layout h.requests_place f.requests → HasFiles new f
  unchanged x = on-requests old new f h f.requests x (stays f.requests x refl) refl refl

  pub changed : HasRecords old new h.layout h.requests_place (with_record f.requests (suc n) text)
      → HasFiles new (record f { requests = with_record f.requests (suc n) text })
  changed x = on-requests old new f h (with_record f.requests (suc n) text) x
      (stays (with_record f.requests (suc n) text) x (length-set f.requests n text))
      (length-set f.requests n text) (drop-set-lt 64 f.requests n text (omega (arith, low)))

  -- the record of a till: as it was, or new
  pub writing-files : IsWriting old h.layout h.requests_place h.requests_file 0 (suc n) 1 text new
      → HasFiles new f ⊎ HasFiles new (record f { requests = with_record f.requests (suc n) text })
  writing-files (inl g) =
      let none : g.0 ≡ 0 = omega (arith, g.1) in
      let e : grown_by (record_length h.requests_file.slot) g.0 (records old h.requests_file) ≡ f.requests
      = ap (λ k. grown_by (record_length h.requests_file.slot) k (records old h.requests_file)) none
      ∙ append-nil (records old h.requests_file) ∙ sym h.requests in
      inl (unchanged (subst (λ rs. HasRecords old new h.layout h.requests_place rs) e g.2))
  writing-files (inr (inl (x, kept))) =
      let was : List ℕ = get_or (records old h.requests_file ++ []) (suc n - 1) [] in
      let few : length was ≤ 127 = few_of in
      let one : suc n - 1 ≡ n = omega arith in
      let bytes : half_written (record_length h.requests_file.slot) (suc n)
      (written (record_length h.requests_file.slot) 1 text was) was ≡ text
      = ap (λ L. half_written L (suc n) (written L 1 text was) was) h.requests_length
      ∙ half-whole n (written 127 1 text was) was (omega (arith, ap length (written-all text was long), long)) few
      ∙ written-all text was long in
      let e : with_half (record_length h.requests_file.slot) (suc n) 1 text
      (grown_by (record_length h.requests_file.slot) 0 (records old h.requests_file)) ≡ with_record f.requests
      (suc n) text
      = λ i. set ((append-nil (records old h.requests_file) ∙ sym h.requests) i) (one i) (bytes i) in
      inr (changed (subst (λ rs. HasRecords old new h.layout h.requests_place rs) e x))
    where
      few_of : length (get_or (records old h.requests_file ++ []) (suc n - 1) []) ≤ 127
      few_of = rw (append-nil (records old h.requests_file))
          (omega (arith, record-few old h.requests_file (suc n - 1), h.requests_length))
  writing-files (inr (inr (x, kept))) =
      let was : List ℕ = get_or (records old h.requests_file ++ []) (suc n - 1) [] in
      let one : suc n - 1 ≡ n = omega arith in
      let bytes : written (record_length h.requests_file.slot) 1 text was ≡ text =
      ap (λ L. written L 1 text was) h.requests_length ∙ written-all text was long in
      let e : with_written (record_length h.requests_file.slot) (suc n) 1 text
      (grown_by (record_length h.requests_file.slot) 0 (records old h.requests_file)) ≡ with_record f.requests
      (suc n) text
      = λ i. set ((append-nil (records old h.requests_file) ∙ sym h.requests) i) (one i) (bytes i) in
      inr (changed (subst (λ rs. HasRecords old new h.layout h.requests_place rs) e x))

-- A repair keeps the shop at each moment.
pub repair-moments : {D : Type 0} (S : History D) (a b : D) (s : Shop) → IsShop (S.image a) s → MendsFrom S a b 883
    → HoldsWhole S a b → Changes S a b 883 (λ i. IsShop i s)
repair-moments S a b s x m whole =
    let l = x.has.layout in
    let is = x.has.is_layout in
    let h = m l is in
    record {
      held = record {
        reached = h.held.reached;
        later = h.held.later;
        each = λ c held. repair-shop (S.image a) c s x (h.held.each c held);
        before = λ t c le held. elim (h.held.before t c le held) [
          | inl early ↦ inl early
          | inr mended ↦ inr (repair-shop (S.image a) c s x mended)
        ];
        whole = whole;
      };
      writes = h.writes;
    }
