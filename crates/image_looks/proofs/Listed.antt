-- All faults of an image were printed, and what the output held back was handed on.
use Rattle.std.proofs.Common.{List, ℕ}
use Rattle.std.specs.Prelude.{Option}
use Rattle.std.specs.Io.KnownBytes.{Keeps}
use Rattle.std.proofs.KnownBytes.{Appends-kept}
use Rattle.disk_reports.specs.AllFaults.{AreListed}
use Rattle.disk_layout.specs.declared.faults.Fault.{Fault}

pub listed-kept : {W : Type 0} (contents : W → Option (List ℕ)) (image : List ℕ) (old mid new : W) (found : Option Fault)
    → AreListed contents image old mid found → Keeps (contents mid) (contents new)
    → AreListed contents image old new found
listed-kept contents image old mid new found h kept =
    record {
      size = h.size;
      verdict = h.verdict;
      lack = h.lack;
      lacks = h.lacks;
      text = h.text;
      listing = h.listing;
      printed = Appends-kept (contents old) (contents mid) (contents new) _ h.printed kept;
    }
