-- Side sectors beside their exact bytes, and what is told of a disk that isn't clean.
use Rattle.std.proofs.Common.{
  ℕ,
  ◌≡◌,
  ◌<◌,
  ◌≤◌,
  ◌+◌,
  Bool,
  true,
  false,
  IsTrue,
  List,
  length,
  get_or,
  sym,
  ◌∙◌,
  ap,
  refl,
  subst,
  inl,
}
use Rattle.std.specs.Prelude.{Contains, Err, Some, not, slice_get}
use Rattle.std.specs.Str.{bytes_eq}
use Rattle.std.proofs.lemmas.Bool.{false≢true}
use Rattle.std.proofs.lemmas.Slice.Eq.{bytes_eq-Decides}
use Rattle.d64_image.proofs.Moments.{never_failed, reads_then}
use Rattle.d64_image.specs.History.{History, NeverFailed}
use Rattle.d64_image.specs.Images.{Image}
use Rattle.d64_image.specs.declared.place.Place.{Place}
use Rattle.disk_layout.proofs.lemmas.layouts.Layouts.{IsFile-one}
use Rattle.disk_layout.proofs.lemmas.lists.Lists.{read-there}
use Rattle.disk_layout.proofs.lemmas.lists.Once.{all-in}
use Rattle.disk_layout.specs.Fault.{Holds, HoldsOfClean, TellsFault, nowhere}
use Rattle.disk_layout.specs.Layout.{File, IsFile, IsLayout, Layout, is_rel}
use Rattle.disk_layout.specs.declared.faults.Fault.{Fault}
use Rattle.disk_layout.specs.declared.faults.Fault.TheVariants.{
  BadLength,
  BadLink,
  BadSide,
  BadType,
  CountWrong,
  Device,
  Loop,
  MapWrong,
  OwnedTwice,
  Unclosed,
}
use Rattle.disk_layout.specs.declared.slot.Slot.{Slot}
use Rattle.layout_check.proofs.lemmas.finding.Assembly.{rel-file}
use Rattle.layout_check.proofs.lemmas.judging.Calls.{tells_later}
use Rattle.layout_check.specs.Calls.{Passes, TellsUnsound}
use Rattle.layout_check.specs.Entry.{IsProper}
use Rattle.layout_check.specs.Exact.{IsExactSide, TellsUnclean}
use Rattle.layout_check.specs.Sides.{HasParts}

-- two lists of bytes, compared
pub same-bytes : (xs ys : List ℕ) (r : Bool) → r ≡ not (bytes_eq xs ys) → r ≡ false → xs ≡ ys
same-bytes xs ys r is off = step (bytes_eq xs ys) refl
  where
    step : (b : Bool) → bytes_eq xs ys ≡ b → xs ≡ ys
    step true e = (bytes_eq-Decides xs ys).0 e
    step false e = absurd (false≢true (sym off ∙ is ∙ ap not e))

-- the side sector that was read
pub exact-here : (img : Image) (s : Slot) (blocks sides : List Place) (j : ℕ) (p : Place) → j < length sides
    → p ≡ get_or sides j p → IsExactSide img s blocks sides j p → (q : Place) → slice_get sides j ≡ Some q
    → IsExactSide img s blocks sides j q
exact-here img s blocks sides j p below read h q there =
    let one : p ≡ q = cc (read-there sides j p below read) in
    let P : Place → Type 0 = λ x. IsExactSide img s blocks sides j x in
    subst P one h

-- what holds of an image holds too where it is asked whether it is clean
pub clean-holds : (failed : Place → Type 0) (img : Image) (f : Fault) → Holds failed img f → HoldsOfClean failed img f
clean-holds failed img (BadLink p) h = h
clean-holds failed img (Loop p) h = h
clean-holds failed img (OwnedTwice p) h = h
clean-holds failed img (BadType p) h = h
clean-holds failed img (Unclosed p) h = h
clean-holds failed img (BadSide p) h = inl h
clean-holds failed img (BadLength p) h = h
clean-holds failed img (CountWrong p) h = absurd h
clean-holds failed img (MapWrong p) h = absurd h
clean-holds failed img (Device p) h = h

-- the parts that were found are those of the file
pub parts-of : (img : Image) (l : Layout) (f : File) (s : Slot) (blocks sides : List Place) → IsLayout img l
    → Contains l.files f → f.slot ≡ s → IsTrue (is_rel s) → (h : HasParts img s blocks sides)
    → f ≡ record { slot = s; blocks = blocks; last = h.last; sides = sides }
parts-of img l f s blocks sides is own same rel h =
    let file = all-in (IsFile img) l.files f is.files own in
    let r = file.rel (rw same rel) in
    let proper : IsProper f.slot = record { closed = file.closed; length = λ _. (r.length_low, r.length_high) } in
    let P : Slot → Type 0 = IsProper in
    IsFile-one img f (record { slot = s; blocks = blocks; last = h.last; sides = sides }) same file
    (rel-file img s blocks sides h.last (subst P same proper) rel h.chain h.walk h.lists)

module _ {D : Type 0} (S : History D) where
  pub clean_tells : (a b : D) (n : ℕ) (f : Fault) → TellsUnsound S a b n f → TellsUnclean S a b n f
  clean_tells a b n f h = record {
    reads = h.reads;
    failures = h.failures;
    holds = clean-holds (S.failed_at b) (S.image a) f h.holds;
  }

  pub clean_then : (a b c : D) (k m n : ℕ) (f : Fault) → k + m ≤ n → Passes S a b k → TellsUnclean S b c m f
      → TellsUnclean S a c n f
  clean_then a b c k m n f le first second = record {
    reads = reads_then S a b c k m n le first.reads second.reads;
    failures = tells_later S ℕ a b c f first.failures second.failures;
    holds = let P : Image → Type 0 = λ img. HoldsOfClean (S.failed_at c) img f in
        subst P first.reads.image second.holds;
  }

  pub clean_alone : (T : Type 0) (a b : D) (f : Fault) → NeverFailed S a b → TellsFault {T = T} S a b (Err f)
      → HoldsOfClean (S.failed_at b) (S.image a) f → HoldsOfClean nowhere (S.image a) f
  clean_alone T a b (BadLink p) never tells h = h
  clean_alone T a b (Loop p) never tells h = h
  clean_alone T a b (OwnedTwice p) never tells h = h
  clean_alone T a b (BadType p) never tells h = h
  clean_alone T a b (Unclosed p) never tells h = h
  clean_alone T a b (BadSide p) never tells h = h
  clean_alone T a b (BadLength p) never tells h = h
  clean_alone T a b (CountWrong p) never tells h = h
  clean_alone T a b (MapWrong p) never tells h = h
  clean_alone T a b (Device p) never tells h = absurd (never_failed S a b never tells)
