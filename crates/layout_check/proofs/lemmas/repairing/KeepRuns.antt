-- A repair that leaves the strays taken, behind the reads that found them.
use Rattle.std.proofs.Common.{ℕ, ◌+◌, ◌*◌, List, Result, length, refl, sym, subst}
use Rattle.std.specs.Prelude.{OnOk}
use Rattle.std.proofs.lemmas.Result.{on_ok_weaker}
use Rattle.d64_image.proofs.Moments.{no_write_then, reads_no_write}
use Rattle.d64_image.specs.History.{Changes, History, OnlyReads, WritesNothing}
use Rattle.d64_image.specs.Images.{Image}
use Rattle.d64_image.specs.declared.place.Place.{Place}
use Rattle.disk_layout.proofs.lemmas.layouts.Layouts.{IsLayout-one}
use Rattle.disk_layout.specs.InOrder.{AreMade, GoesOver}
use Rattle.disk_layout.specs.Layout.{IsLayout, Layout, owners}
use Rattle.disk_layout.specs.declared.faults.Fault.{Fault}
use Rattle.layout_check.proofs.lemmas.repairing.RepairOrder.{made_after, order_after, spare_after}
use Rattle.layout_check.proofs.lemmas.repairing.RepairRuns.{clean_after, mends_after}
use Rattle.layout_check.proofs.lemmas.repairing.Strays.{frees_over, marks-any}
use Rattle.layout_check.specs.Keeping.{
  AreStray,
  FreesNothing,
  IsCleanBut,
  IsMendedBut,
  IsRepairedKeeping,
  IsTakenTable,
  MakesCleanBut,
  MarksTaken,
}
use Rattle.layout_check.specs.Reads.{ReadsFew}
use Rattle.layout_check.specs.RepairOrder.{ClearsSpare, IsRightBut, repair_order}
use Rattle.layout_check.specs.Repaired.{MendsFrom}
use Rattle.layout_check.specs.declared.owners.Owners.{Owners}

-- what the run did, from before the reads on
pub record IsKeepRun {D : Type 0} (S : History D) (a b c : D) (result : Result (Unit {0}) Fault) : Type 0 where
  pub moments : MendsFrom S a c 883
  pub frees : Changes S a c 883 (FreesNothing (S.image a))
  pub order : (l : Layout) (strays : List Place) → IsLayout (S.image a) l → AreStray (S.image a) l strays
      → GoesOver S a c (IsRightBut strays l) (repair_order l)
  pub made : (l : Layout) (strays : List Place) → IsLayout (S.image a) l → AreStray (S.image a) l strays
      → OnOk result (AreMade (IsRightBut strays l) (repair_order l) (S.image a) (S.image c))
  pub spare : ClearsSpare (S.image a) (S.image c)
  pub quiet : (l : Layout) (strays : List Place) → AreStray (S.image a) l strays
      → IsCleanBut strays (S.image a) l → WritesNothing S a c
  pub reads : (l : Layout) → IsLayout (S.image a) l → ReadsFew S b c (19 + 3 * length (owners l)) result

-- a repaired image, by its table
pub kept_of : (old new : Image) (t : Owners) (n : ℕ) → (table : IsTakenTable old t n)
    → IsMendedBut table.strays old new → IsRepairedKeeping old new n
kept_of old new t n table h = record {
  before = h.before;
  after = h.after;
  sound = h.sound;
  strays = table.strays;
  are = let P : Layout → Type 0 = λ l. AreStray old l table.strays in
      subst P (IsLayout-one old table.layout h.before table.sound h.sound) table.are;
  count = table.count;
  clean = h.clean;
  same = h.same;
}

module _ {D : Type 0} (S : History D) (a b : D) (n : ℕ) (reads : OnlyReads S a b n) (t : Owners) (count : ℕ) where
  pub table_before : IsTakenTable (S.image b) t count → IsTakenTable (S.image a) t count
  table_before table = let P : Image → Type 0 = λ i. IsTakenTable i t count in subst P reads.image table

  pub layout_after : (l : Layout) → IsLayout (S.image a) l → IsLayout (S.image b) l
  layout_after l is = let P : Image → Type 0 = λ i. IsLayout i l in subst P (sym reads.image) is

  module _ (table : IsTakenTable (S.image a) t count) (c : D) (result : Result (Unit {0}) Fault)
      (mend : (l : Layout) (strays : List Place) → IsLayout (S.image b) l → MarksTaken t l strays
      → MakesCleanBut strays S b c result) where
    at : (l : Layout) (strays : List Place) → IsLayout (S.image a) l → AreStray (S.image a) l strays
        → MakesCleanBut strays S b c result
    at l strays is are = mend l strays (layout_after l is)
        (marks-any (S.image a) table.layout l table.strays strays t table.sound is table.are are table.marks)

    base : MakesCleanBut table.strays S b c result
    base = at table.layout table.strays table.sound table.are

    moments : MendsFrom S a c 883
    moments = mends_after S a b c n reads base.moments

    order : (l : Layout) (strays : List Place) → IsLayout (S.image a) l → AreStray (S.image a) l strays
        → GoesOver S a c (IsRightBut strays l) (repair_order l)
    order l strays is are = order_after S (IsRightBut strays l) l a b c n is reads ((at l strays is are).order l)

    pub keep_run : IsKeepRun S a b c result
    keep_run = record {
      moments = moments;
      frees = frees_over (S.image a) table.layout table.strays table.are S a c refl
          (moments table.layout table.sound).writes (order table.layout table.strays table.sound table.are);
      order = order;
      made = λ l strays is are. on_ok_weaker result (λ made. made_after (IsRightBut strays l) l (S.image a) (S.image b)
          (S.image c) reads.image is made) ((at l strays is are).made l (layout_after l is));
      spare = spare_after S a b c n reads base.spare;
      quiet = λ l strays are clean. no_write_then S a b c (reads_no_write S a b n reads)
          ((at l strays clean.layout are).quiet l (clean_after S strays a b l n reads clean));
      reads = λ l is. base.reads l (layout_after l is);
    }
