-- What the bytes of an entry name, and what they show.
use Rattle.std.proofs.Common.{ℕ, ◌≤◌, arith, Err, refl}
use Rattle.std.specs.Prelude.{◌||◌, IsTrue, nat_eq}
use Rattle.std.proofs.lemmas.Bool.Decides.{nat_tests}
use Rattle.d64_image.proofs.Moments.{no_reads, reads_weaker}
use Rattle.d64_image.specs.History.{History}
use Rattle.d64_image.specs.Images.{Image}
use Rattle.d64_image.specs.declared.place.Place.{Place}
use Rattle.disk_layout.specs.Directory.{type_byte}
use Rattle.disk_layout.specs.Fault.{Holds, IsClosed, TellsFault}
use Rattle.disk_layout.specs.Layout.{is_rel}
use Rattle.disk_layout.specs.declared.faults.Fault.{Fault}
use Rattle.disk_layout.specs.declared.faults.Fault.TheVariants.{
  BadLength,
  BadLink,
  BadSide,
  BadType,
  CountWrong,
  Device,
  Loop,
  MapWrong,
  OwnedTwice,
  Unclosed,
}
use Rattle.disk_layout.specs.declared.slot.Slot.{Slot}
use Rattle.layout_check.specs.Calls.{TellsUnsound}
use Rattle.layout_check.specs.Entry.{IsEntry, IsShown}

pub closed-entry : (img : Image) (s : Slot) → IsEntry img s → 128 ≤ type_byte s → IsClosed img s.sector s
closed-entry img s e h = record { slot = e.slot; closed = h }

-- what a slot shows holds of the image that has the slot
pub shown-holds : (failed : Place → Type 0) (img : Image) (s : Slot) (f : Fault) → IsEntry img s → IsShown s f
    → Holds failed img f
shown-holds failed img s (BadType p) e (at, high, bad) = (s, rw at (closed-entry img s e high), bad)
shown-holds failed img s (Unclosed p) e (at, low) = (s, rw at e.slot, e.used, low)
shown-holds failed img s (BadLength p) e (at, high, rel, out) = (s, rw at (closed-entry img s e high), rel, out)
shown-holds failed img s (BadLink p) e h = absurd h
shown-holds failed img s (Loop p) e h = absurd h
shown-holds failed img s (OwnedTwice p) e h = absurd h
shown-holds failed img s (BadSide p) e h = absurd h
shown-holds failed img s (CountWrong p) e h = absurd h
shown-holds failed img s (MapWrong p) e h = absurd h
shown-holds failed img s (Device p) e h = absurd h

-- a relative entry is closed
rel-high : (t : ℕ) → IsTrue (nat_eq t 132 || nat_eq t 196) → 128 ≤ t
rel-high t h = grind (arith, nat_tests)

pub rel-closed : (img : Image) (s : Slot) → IsEntry img s → IsTrue (is_rel s) → IsClosed img s.sector s
rel-closed img s e rel = closed-entry img s e (rel-high (type_byte s) rel)

module _ {D : Type 0} (S : History D) where
  shown-tells_alone : (d : D) (s : Slot) (f : Fault) → IsShown s f → TellsFault {T = ℕ} S d d (Err f)
  shown-tells_alone d s (BadType p) h = refl
  shown-tells_alone d s (Unclosed p) h = refl
  shown-tells_alone d s (BadLength p) h = refl
  shown-tells_alone d s (BadLink p) h = refl
  shown-tells_alone d s (Loop p) h = refl
  shown-tells_alone d s (OwnedTwice p) h = refl
  shown-tells_alone d s (BadSide p) h = refl
  shown-tells_alone d s (CountWrong p) h = refl
  shown-tells_alone d s (MapWrong p) h = refl
  shown-tells_alone d s (Device p) h = absurd h

  pub shown-tells : (d : D) (n : ℕ) (s : Slot) (f : Fault) → IsEntry (S.image d) s → IsShown s f
      → TellsUnsound S d d n f
  shown-tells d n s f e h = record {
    reads = reads_weaker S d d 0 n (omega arith) (no_reads S d);
    failures = shown-tells_alone d s f h;
    holds = shown-holds (S.failed_at d) (S.image d) s f e h;
  }
