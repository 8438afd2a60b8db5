-- What a survey judges of relative files beyond their layout, and keeps back until the disk is seen to be sound.
use Rattle.std.proofs.Common.{
  ℕ,
  ◌≡◌,
  ◌<◌,
  ◌≤◌,
  ◌+◌,
  Err,
  IsTrue,
  List,
  [],
  ◌∷◌,
  ◌++◌,
  length,
  sym,
  ◌∙◌,
  ap,
  append_assoc,
  refl,
  arith,
  subst,
  inr,
}
use Rattle.std.specs.Prelude.{Contains, None, Option, Some, slice_get}
use Rattle.std.specs.Option.{option_or}
use borrow.Author.Count.{below_more}
use Rattle.std.proofs.lemmas.Option.{slice_get_within}
use Rattle.std.proofs.lemmas.List.Elements.{Contains-append_right}
use Rattle.d64_image.specs.History.{History}
use Rattle.d64_image.specs.Images.{Image, sector}
use Rattle.d64_image.specs.declared.place.Place.{Place}
use Rattle.disk_layout.proofs.lemmas.layouts.Exact.{exact-side}
use Rattle.disk_layout.proofs.lemmas.lists.Count.{places-few}
use Rattle.disk_layout.proofs.lemmas.lists.Lists.{all-push}
use Rattle.disk_layout.proofs.lemmas.lists.Once.{Contains-here}
use Rattle.disk_layout.specs.Directory.{map_place}
use Rattle.disk_layout.specs.Fault.{HoldsOfClean, TellsFault}
use Rattle.disk_layout.specs.Layout.{File, IsLayout, Layout, is_rel, owners}
use Rattle.disk_layout.specs.declared.faults.Fault.{Fault}
use Rattle.disk_layout.specs.declared.faults.Fault.TheVariants.{
  BadLength,
  BadLink,
  BadSide,
  BadType,
  CountWrong,
  Device,
  Loop,
  MapWrong,
  OwnedTwice,
  Unclosed,
}
use Rattle.disk_layout.specs.declared.slot.Slot.{Slot}
use Rattle.layout_check.proofs.lemmas.judging.Calls.{passes_weaker}
use Rattle.layout_check.specs.Calls.{Passes}
use Rattle.layout_check.specs.Exact.{
  IsCleanFile,
  IsExactSide,
  IsFirstInexact,
  IsFirstInexactFile,
  IsInexactFile,
  TellsUnclean,
  ToldOfEntry,
  ToldOfFile,
  ToldOfFiles,
  ToldOfSides,
}
use Rattle.layout_check.specs.Sides.{IsSoundSide, IsWalkOfSides}
use Rattle.layout_check.specs.Survey.{Surveys}
use Rattle.layout_check.specs.declared.survey_outcome.Findings.{Findings}

-- exact bytes are all that a sound image asks
pub exact-sound : (img : Image) (s : Slot) (blocks sides : List Place) (j : ℕ) (p : Place) → length sides ≤ 6
    → IsExactSide img s blocks sides j p → IsSoundSide (sector img p) s blocks sides j
exact-sound img s blocks sides j p few e =
    let side = exact-side img (record { slot = s; blocks = blocks; last = 0; sides = sides }) j p few e in
    record {
      fields = record { number = side.number; length_byte = side.length_byte; pointers = side.pointers };
      lists = side.sides;
    }

-- the judgement of the side sectors below the n-th
abbrev pub ToldBelow : Image → Slot → List Place → List Place → ℕ → Option Place → Type 0
ToldBelow img s blocks sides n (Some p) = IsFirstInexact img s blocks sides p
ToldBelow img s blocks sides n None = (j : ℕ) → j < n → (p : Place) → slice_get sides j ≡ Some p
    → IsExactSide img s blocks sides j p

pub judged-none : (img : Image) (s : Slot) (blocks sides : List Place) → ToldBelow img s blocks sides 0 None
judged-none img s blocks sides j h = absurd (omega arith)

-- the n-th is exact
pub judged-exact : (img : Image) (s : Slot) (blocks sides : List Place) (n : ℕ) (o : Option Place)
    → ToldBelow img s blocks sides n o → ((p : Place) → slice_get sides n ≡ Some p → IsExactSide img s blocks sides n p)
    → ToldBelow img s blocks sides (n + 1) o
judged-exact img s blocks sides n (Some p) h e = h
judged-exact img s blocks sides n None h e = below_more _ _ h e

-- it isn't
pub judged-other : (img : Image) (s : Slot) (blocks sides : List Place) (n : ℕ) (o : Option Place) (p : Place)
    → ToldBelow img s blocks sides n o → slice_get sides n ≡ Some p → ¬ (IsExactSide img s blocks sides n p)
    → ToldBelow img s blocks sides (n + 1) (option_or o (Some p))
judged-other img s blocks sides n (Some q) p h there other = h
judged-other img s blocks sides n None p h there other = record {
  number = n;
  there = there;
  other = other;
  first = λ k q lt at. h k lt q at;
}

pub judged-all : (img : Image) (s : Slot) (blocks sides : List Place) (n : ℕ) (o : Option Place) → length sides ≤ n
    → ToldBelow img s blocks sides n o → ToldOfSides img s blocks sides o
judged-all img s blocks sides n (Some p) all h = h
judged-all img s blocks sides n None all h = λ j p there. h j (omega (arith, slice_get_within sides j p there)) p there

-- the same judgement of the image before the reads
pub judged-same : (img now : Image) (s : Slot) (blocks items sides : List Place) (o : Option Place) → now ≡ img
    → items ≡ blocks → ToldOfSides now s items sides o → ToldOfSides img s blocks sides o
judged-same img now s blocks items sides o same also h =
    let P : Image → Type 0 = λ i. ToldOfSides i s blocks sides o in
    let Q : List Place → Type 0 = λ xs. ToldOfSides now s xs sides o in
    subst P same (subst Q also h)

-- the file of a relative entry, judged by its side sectors and its count
pub judged-file : (img : Image) (s : Slot) (blocks sides : List Place) (u owned : ℕ) (o : Option Place)
    (told : Option Fault) → IsTrue (is_rel s) → IsWalkOfSides img s blocks sides → owned ≡ length blocks + length sides
    → ToldOfSides img s blocks sides o → ToldOfEntry s o owned told
    → ToldOfFile img (record { slot = s; blocks = blocks; last = u; sides = sides }) told
judged-file img s blocks sides u owned (Some p) told rel walk many judged is =
    let P : Option Fault → Type 0 = ToldOfFile img (record { slot = s; blocks = blocks; last = u; sides = sides }) in
    subst P (sym is) (rel, judged)
judged-file img s blocks sides u owned None (Some fault) rel walk many judged (is, other) =
    let P : Fault → Type 0 = IsInexactFile img (record { slot = s; blocks = blocks; last = u; sides = sides }) in
    subst P (sym is) (rel, refl, λ e. other (omega (arith, e, many, walk.linked.count)))
judged-file img s blocks sides u owned None None rel walk many judged is = λ _. record {
  sides = judged;
  count = omega (arith, is, many, walk.linked.count);
}

pub judged-at : (img now : Image) (f : File) (o : Option Fault) → now ≡ img → ToldOfFile now f o → ToldOfFile img f o
judged-at img now f o same h = let P : Image → Type 0 = λ i. ToldOfFile i f o in subst P same h

-- one more file
pub judged-more : (img : Image) (fs : List File) (g : File) (kept found : Option Fault) → ToldOfFiles img fs kept
    → ToldOfFile img g found → ToldOfFiles img (fs ++ g ∷ []) (option_or kept found)
judged-more img fs g (Some fault) found h judged = record {
  before = h.before;
  file = h.file;
  after = h.after ++ g ∷ [];
  split = ap (λ xs. xs ++ g ∷ []) h.split ∙ append_assoc h.before (h.file ∷ h.after) (g ∷ []);
  exact = h.exact;
  told = h.told;
}
judged-more img fs g None (Some fault) all judged = record {
  before = fs;
  file = g;
  after = [];
  split = refl;
  exact = all;
  told = judged;
}
judged-more img fs g None None all judged = all-push (IsCleanFile img) fs g all judged

first-own : (img : Image) (fs : List File) (fault : Fault) → (h : IsFirstInexactFile img fs fault) → Contains fs h.file
first-own img fs fault h =
    rw h.split (Contains-append_right h.before (h.file ∷ h.after) h.file (Contains-here h.file h.after))

-- what was kept back holds of a sound disk
unclean-holds : (failed : Place → Type 0) (img : Image) (l : Layout) (fault : Fault) → IsLayout img l
    → IsFirstInexactFile img l.files fault → HoldsOfClean failed img fault
unclean-holds failed img l (BadSide p) is h = let own = first-own img l.files (BadSide p) h in
    inr (l, is, h.file, own, h.told.0, h.told.1.number, h.told.1.there, h.told.1.other)
unclean-holds failed img l (CountWrong p) is h = let own = first-own img l.files (CountWrong p) h in
    (l, is, h.file, record { file = own; rel = h.told.0; slot = sym h.told.1 }, h.told.2)
unclean-holds failed img l (BadLink p) is h = absurd h.told
unclean-holds failed img l (Loop p) is h = absurd h.told
unclean-holds failed img l (OwnedTwice p) is h = absurd h.told
unclean-holds failed img l (BadType p) is h = absurd h.told
unclean-holds failed img l (Unclosed p) is h = absurd h.told
unclean-holds failed img l (BadLength p) is h = absurd h.told
unclean-holds failed img l (MapWrong p) is h = absurd h.told
unclean-holds failed img l (Device p) is h = absurd h.told

module _ {D : Type 0} (S : History D) where
  unclean-tells : (a b : D) (img : Image) (fs : List File) (fault : Fault) → S.failures b ≡ S.failures a
      → ToldOfFiles img fs (Some fault) → TellsFault {T = ℕ} S a b (Err fault)
  unclean-tells a b img fs (BadSide p) same h = same
  unclean-tells a b img fs (CountWrong p) same h = same
  unclean-tells a b img fs (BadLink p) same h = same
  unclean-tells a b img fs (Loop p) same h = same
  unclean-tells a b img fs (OwnedTwice p) same h = same
  unclean-tells a b img fs (BadType p) same h = same
  unclean-tells a b img fs (Unclosed p) same h = same
  unclean-tells a b img fs (BadLength p) same h = same
  unclean-tells a b img fs (MapWrong p) same h = same
  unclean-tells a b img fs (Device p) same h = absurd h.told

  -- what is owned are 683 sectors at most
  pub survey-passes : (a b : D) (found : Findings) → Surveys S a b found → Passes S a b 2114
  survey-passes a b found (l, is, of, judged, passes) =
      passes_weaker S a b _ 2114 (omega (arith, places-few (map_place ∷ owners l) is.once)) passes

  pub kept-tells : (a b : D) (found : Findings) (fault : Fault) → found.unclean ≡ Some fault → Surveys S a b found
      → TellsUnclean S a b 2114 fault
  kept-tells a b found fault e (l, is, of, judged, passes) =
      let P : Option Fault → Type 0 = ToldOfFiles (S.image a) l.files in
      let there = subst P e judged in
      let all = survey-passes a b found (l, is, of, judged, passes) in
      record {
        reads = all.reads;
        failures = unclean-tells a b (S.image a) l.files fault all.failures there;
        holds = unclean-holds (S.failed_at b) (S.image a) l fault is there;
      }
