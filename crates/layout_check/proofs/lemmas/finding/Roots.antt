-- The directory, read twice: its entries, and its sectors.
use Rattle.std.proofs.Common.{ℕ, ◌≡◌, ◌≤◌, ◌+◌, List, Err, sym, arith, subst, inl, inr}
use Rattle.d64_image.specs.History.{History, OnlyReads}
use Rattle.d64_image.specs.Images.{Image}
use Rattle.d64_image.proofs.Moments.{reads_weaker}
use Rattle.d64_image.specs.declared.place.Place.{Place}
use Rattle.disk_layout.proofs.lemmas.chains.Chains.{IsChain-one, bad_link-no_chain, loop-no_chain}
use Rattle.disk_layout.specs.Chain.{IsChain}
use Rattle.disk_layout.specs.Directory.{IsDirectory, directory_start}
use Rattle.disk_layout.specs.Fault.{Holds, HoldsOfChain, HoldsOfDirectory, TellsFault}
use Rattle.disk_layout.specs.declared.faults.Fault.{Fault}
use Rattle.disk_layout.specs.declared.faults.Fault.TheVariants.{
  BadLength,
  BadLink,
  BadSide,
  BadType,
  CountWrong,
  Device,
  Loop,
  MapWrong,
  OwnedTwice,
  Unclosed,
}
use Rattle.disk_layout.specs.declared.slot.Slot.{Slot}
use Rattle.layout_check.proofs.lemmas.judging.Calls.{any_answer, passes_then, tells_then}
use Rattle.layout_check.specs.Calls.{Passes, TellsUnsound}

directory-holds : (failed : Place → Type 0) (img : Image) (f : Fault) → HoldsOfDirectory failed img f
    → Holds failed img f
directory-holds failed img (BadLink p) (d, inl nowhere) = inl (d, nowhere)
directory-holds failed img (BadLink p) (d, inr away) = inr (inl (d, away))
directory-holds failed img (Loop p) h = inl h
directory-holds failed img (Device p) h = h
directory-holds failed img (OwnedTwice p) h = absurd h
directory-holds failed img (BadType p) h = absurd h
directory-holds failed img (Unclosed p) h = absurd h
directory-holds failed img (BadSide p) h = absurd h
directory-holds failed img (BadLength p) h = absurd h
directory-holds failed img (CountWrong p) h = absurd h
directory-holds failed img (MapWrong p) h = absurd h

-- a walk along a directory that is there fails by the device alone
again-holds : (failed : Place → Type 0) (img : Image) (ps : List Place) (es : List Slot) (f : Fault)
    → IsDirectory img ps es → HoldsOfChain failed img directory_start f → Holds failed img f
again-holds failed img ps es (BadLink p) d (vs, visits, nowhere) =
    absurd (bad_link-no_chain img directory_start p vs ps d.last visits.0 nowhere d.chain)
again-holds failed img ps es (Loop p) d (vs, back) =
    absurd (loop-no_chain img directory_start p vs ps d.last back.0 back.2 d.chain)
again-holds failed img ps es (Device p) d h = h
again-holds failed img ps es (OwnedTwice p) d h = absurd h
again-holds failed img ps es (BadType p) d h = absurd h
again-holds failed img ps es (Unclosed p) d h = absurd h
again-holds failed img ps es (BadSide p) d h = absurd h
again-holds failed img ps es (BadLength p) d h = absurd h
again-holds failed img ps es (CountWrong p) d h = absurd h
again-holds failed img ps es (MapWrong p) d h = absurd h

-- the chain that the walk found is that of the directory
pub directory-walked : (img now : Image) (ps qs : List Place) (es : List Slot) (u : ℕ) → now ≡ img
    → IsDirectory img ps es → IsChain now directory_start qs u → IsDirectory img qs es
directory-walked img now ps qs es u same d chain =
    let there = let P : Image → Type 0 = λ i. IsChain i directory_start qs u in subst P same chain in
    let one = (IsChain-one img directory_start ps qs d.last u d.chain there).0 in
    let Q : List Place → Type 0 = λ xs. IsDirectory img xs es in
    subst Q one d

module _ {D : Type 0} (S : History D) where
  pub directory-tells : (T : Type 0) (a b : D) (f : Fault) → OnlyReads S a b 18 → TellsFault {T = T} S a b (Err f)
      → HoldsOfDirectory (S.failed_at b) (S.image a) f → TellsUnsound S a b 738 f
  directory-tells T a b f reads tells h = record {
    reads = reads_weaker S a b 18 738 (omega arith) reads;
    failures = any_answer S T ℕ a b f tells;
    holds = directory-holds (S.failed_at b) (S.image a) f h;
  }

  pub again-tells : (T : Type 0) (a b c : D) (ps : List Place) (es : List Slot) (n : ℕ) (f : Fault) → n ≤ 720
      → Passes S a b 18 → IsDirectory (S.image a) ps es → OnlyReads S b c n → TellsFault {T = T} S b c (Err f)
      → HoldsOfChain (S.failed_at c) (S.image b) directory_start f → TellsUnsound S a c 738 f
  again-tells T a b c ps es n f few passes d reads tells h = tells_then S a b c 18 n 738 f (omega arith) passes
      (record {
        reads = reads;
        failures = any_answer S T ℕ b c f tells;
        holds = again-holds (S.failed_at c) (S.image b) ps es f (let P : Image → Type 0 = λ i. IsDirectory i ps es in
            subst P (sym passes.reads.image) d) h;
      })

  pub directory-passes : (a b c : D) (n : ℕ) → Passes S a b 18 → OnlyReads S b c n → S.failures c ≡ S.failures b
      → Passes S a c (18 + n)
  directory-passes a b c n passes reads same = passes_then S a b c 18 n (18 + n) (omega arith) passes
      (record { reads = reads; failures = same })
