-- What was read of a record is that record of the two files.
use Rattle.std.proofs.Common.{ℕ, ◌≡◌, ◌<◌, ◌≤◌, ◌-◌, inl, inr, zero, suc, List, ap, arith, subst}
use Rattle.std.proofs.Common.{◌∙◌, Err, length}
use Rattle.std.specs.Array.{IsFirstChunk}
use Rattle.std.specs.Prelude.{Some, slice_get}
use Rattle.std.proofs.lemmas.List.{take_all}
use Rattle.d64_image.specs.History.{History}
use Rattle.d64_image.specs.Images.{Image, IsImage}
use Rattle.disk_layout.specs.Records.{records}
use Rattle.rel_records.proofs.lemmas.reading.Readings.{record-long}
use Rattle.rel_records.specs.Faults.{TellsRelFault}
use Rattle.rel_records.specs.Written.{IsAbsent, IsRecord}
use Rattle.rel_records.specs.declared.faults.RelFault.{RelFault}
use Rattle.rel_records.specs.declared.faults.RelFault.TheVariants.{NotPresent}
use Rattle.host_session.specs.declared.shop.files.LedgerFiles.{LedgerFiles}
use Rattle.host_session.specs.shop.Files.{Files, record_at}
use Rattle.host_session.specs.shop.Found.{AreFilesOf}

-- record r counts from 1
record_at-down : (rs : List (List ℕ)) (r : ℕ) → 1 ≤ r → record_at rs r ≡ slice_get rs (r - 1)
record_at-down rs zero low = absurd (omega (arith, low))
record_at-down rs (suc n) low = ap (slice_get rs) (omega arith)

module _ (img : Image) (w : IsImage img) (f : Files) (x : LedgerFiles) (a : AreFilesOf img f x) (r : ℕ) (bytes : List ℕ)
  where
    pub till-read : IsRecord (records img a.has.requests_file) r bytes → (record_at f.requests r ≡ Some bytes)
        × (length bytes ≡ 127)
    till-read is = (
      record_at-down f.requests r is.low ∙ ap (λ (rs : List (List ℕ)). slice_get rs (r - 1)) a.has.requests ∙ is.there,
      record-long img a.has.layout a.has.requests_place a.has.requests_file x.requests a.requests_of w r bytes is
          ∙ a.requests_of.shows.size ∙ a.has.requests_length,
    )

    pub item-read : IsRecord (records img a.has.stock_file) r bytes → (record_at f.stock r ≡ Some bytes)
        × (length bytes ≡ 18)
    item-read is = (
      record_at-down f.stock r is.low ∙ ap (λ (rs : List (List ℕ)). slice_get rs (r - 1)) a.has.stock ∙ is.there,
      record-long img a.has.layout a.has.stock_place a.has.stock_file x.stock a.stock_of w r bytes is
          ∙ a.stock_of.shows.size ∙ a.has.stock_length,
    )

-- a record that is absent is past the last one
pub past-last : (rs qs : List (List ℕ)) (r : ℕ) → qs ≡ rs → 1 ≤ r → IsAbsent rs r → length qs < r
past-last rs qs r e low (inl z) = absurd (omega (arith, z, low))
past-last rs qs r e low (inr lt) = omega (arith, ap length e, lt)

-- the first bytes of a text that has no more are the text
pub whole-chunk : (text bytes : List ℕ) (n : ℕ) → length text ≡ n → IsFirstChunk text bytes n → bytes ≡ text
whole-chunk text bytes n long h = h.same ∙ take_all n text (omega (arith, long))

-- where there is no such record, no failure was counted
pub absent-told : {D : Type 0} (S : History D) (a b : D) (e : RelFault) → TellsRelFault {T = Unit {0}} S a b (Err e)
    → e ≡ NotPresent → S.failures b ≡ S.failures a
absent-told S a b e told is = subst (λ (x : RelFault). TellsRelFault {T = Unit {0}} S a b (Err x)) is told
