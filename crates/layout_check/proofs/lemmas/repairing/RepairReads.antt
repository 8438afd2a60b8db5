-- How many reads the calls of a repair make, one after another.
use Rattle.std.proofs.Common.{ℕ, ◌≡◌, ◌≤◌, ◌+◌, ◌*◌, List, Result, Ok, Err, length, take}
use Rattle.std.proofs.Common.{sym, ◌∙◌, ap, arith, subst, length-append, IsTrue}
use Rattle.std.specs.Prelude.{Contains, OnOk, Some, slice_get}
use Rattle.d64_image.specs.History.{History, OnlyReads}
use Rattle.d64_image.specs.Images.{Image}
use Rattle.d64_image.specs.declared.place.Place.{Place}
use Rattle.disk_layout.proofs.lemmas.layouts.Layouts.{IsLayout-one}
use Rattle.disk_layout.specs.Layout.{File, IsLayout, Layout, file_owns, is_rel, owners}
use Rattle.disk_layout.specs.declared.faults.Fault.{Fault}
use Rattle.disk_layout.specs.declared.slot.Slot.{Slot}
use Rattle.layout_check.proofs.lemmas.judging.Inexact.{parts-of}
use Rattle.layout_check.proofs.lemmas.repairing.OwnedSums.{owned-first, owned-next, owners-few}
use Rattle.layout_check.specs.Reads.{ReadsFew, owned_by}
use Rattle.layout_check.specs.Sides.{HasParts}
use Rattle.layout_check.specs.Survey.{IsSurveyOf}
use Rattle.layout_check.specs.declared.survey_outcome.Survey.{Survey}

-- what was found of a relative entry are the file's sectors
pub found-owned : (img : Image) (l : Layout) (f : File) (s : Slot) (blocks sides : List Place) → IsLayout img l
    → Contains l.files f → f.slot ≡ s → IsTrue (is_rel s) → HasParts img s blocks sides
    → length (file_owns f) ≡ length blocks + length sides
found-owned img l f s blocks sides is own same rel h =
    ap (λ x. length (file_owns x)) (parts-of img l f s blocks sides is own same rel h) ∙ length-append blocks sides

module _ {D : Type 0} (S : History D) where
  -- behind reads
  pub few_after : {T : Type 0} (a b c : D) (k m n : ℕ) (r : Result T Fault) → k + m ≤ n → S.reads b ≤ S.reads a + k
      → ReadsFew S b c m r → ReadsFew S a c n r
  few_after a b c k m n r le before h = record {
    ok = in_all r h.ok;
    any = omega (arith, before, h.any);
  }
    where
      in_all : {T : Type 0} (r : Result T Fault) → OnOk r (S.reads c ≤ S.reads b + m)
          → OnOk r (S.reads c ≤ S.reads a + n)
      in_all (Ok x) q = omega (arith, q, before)
      in_all (Err e) q = tt

  -- so few whatever is answered
  pub few_all : {T : Type 0} (a b : D) (n : ℕ) (r : Result T Fault) → S.reads b ≤ S.reads a + n → ReadsFew S a b n r
  few_all a b n (Ok x) h = record { ok = h; any = omega (arith, h) }
  few_all a b n (Err e) h = record { ok = tt; any = omega (arith, h) }

  -- one entry more
  pub entry_reads : {T : Type 0} (a b c : D) (l : Layout) (n : ℕ) (f : File) (r : Result T Fault)
      → slice_get l.files n ≡ Some f → S.reads b ≤ S.reads a + (18 + 3 * owned_by (take n l.files))
      → ReadsFew S b c (3 * length (file_owns f)) r → ReadsFew S a c (18 + 3 * owned_by (take (n + 1) l.files)) r
  entry_reads a b c l n f r there before now = few_after a b c _ _ _ r (omega (arith, owned-next l.files n f there))
      before now

  -- the first entries are no more than all
  pub entries_reads : {T : Type 0} (a b : D) (l : Layout) (n : ℕ) (r : Result T Fault)
      → ReadsFew S a b (18 + 3 * owned_by (take n l.files)) r → ReadsFew S a b (18 + 3 * owned_by l.files) r
  entries_reads a b l n r h = few_after a a b 0 _ _ r (omega (arith, owned-first l.files n)) (omega arith) h

  -- the survey, and what is mended of the disk that it found sound
  pub repair_few : {T : Type 0} (a b c : D) (r : Result T Fault) (l : Layout) → IsLayout (S.image a) l
      → (s : Survey) → ((m : Layout) × IsLayout (S.image a) m × IsSurveyOf m s
      × OnlyReads S a b (18 + 2 * length (owners m)))
      → ((m : Layout) → IsLayout (S.image b) m → ReadsFew S b c (19 + 3 * length (owners m)) r)
      → ReadsFew S a c (37 + 5 * length (owners l)) r
  repair_few a b c r l is s (m, has, of, reads) mend =
      let P : Image → Type 0 = λ i. IsLayout i l in
      few_after a b c (18 + 2 * length (owners m)) (19 + 3 * length (owners l)) _ r
      (omega (arith, ap (λ x. length (owners x)) (IsLayout-one (S.image a) m l has is))) reads.reads
      (mend l (subst P (sym reads.image) is))

  pub repair_reads : {T : Type 0} (a b c : D) (r : Result T Fault) (s : Survey) → ((m : Layout)
      × IsLayout (S.image a) m × IsSurveyOf m s × OnlyReads S a b (18 + 2 * length (owners m)))
      → ((m : Layout) → IsLayout (S.image b) m → ReadsFew S b c (19 + 3 * length (owners m)) r)
      → S.reads c ≤ S.reads a + 4179
  repair_reads a b c r s (m, has, of, reads) mend = omega (
    arith,
    owners-few (S.image a) m has,
    (repair_few a b c r m has s (m, has, of, reads) mend).any,
  )

  -- the same behind one read more, of the map
  pub keeping_few : (a b c d : D) (r : Result (Unit {0}) Fault) (l : Layout) → IsLayout (S.image a) l
      → (s : Survey) → ((m : Layout) × IsLayout (S.image a) m × IsSurveyOf m s
      × OnlyReads S a b (18 + 2 * length (owners m))) → S.reads c ≤ S.reads b + 1
      → ReadsFew S c d (19 + 3 * length (owners l)) r → ReadsFew S a d (38 + 5 * length (owners l)) r
  keeping_few a b c d r l is s (m, has, of, reads) one mend =
      few_after a c d (19 + 2 * length (owners m)) (19 + 3 * length (owners l)) _ r
      (omega (arith, ap (λ x. length (owners x)) (IsLayout-one (S.image a) m l has is)))
      (omega (arith, reads.reads, one)) mend

  pub keeping_reads : (a b c d : D) (r : Result (Unit {0}) Fault) (s : Survey)
      → (found : (m : Layout) × IsLayout (S.image a) m × IsSurveyOf m s
      × OnlyReads S a b (18 + 2 * length (owners m))) → S.reads c ≤ S.reads b + 1
      → ReadsFew S c d (19 + 3 * length (owners found.0)) r → S.reads d ≤ S.reads a + 4180
  keeping_reads a b c d r s (m, has, of, reads) one mend = omega (
    arith,
    owners-few (S.image a) m has,
    (keeping_few a b c d r m has s (m, has, of, reads) one mend).any,
  )
