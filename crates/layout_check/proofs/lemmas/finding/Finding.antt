-- The survey of one entry: its file, or the fault.
use Rattle.std.proofs.Common.{
  ℕ,
  ◌≡◌,
  ◌≢◌,
  ◌≤◌,
  ◌+◌,
  ◌*◌,
  ◌⊎◌,
  IsTrue,
  List,
  [],
  ◌∷◌,
  ◌++◌,
  length,
  length-append,
  slice_index,
  sym,
  ◌∙◌,
  ap,
  refl,
  arith,
  subst,
  inl,
  inr,
  Result,
  Ok,
  Err,
}
use Rattle.std.specs.Prelude.{Contains, IsFalse, None, OnOk, Option}
use Rattle.std.proofs.lemmas.Bool.{false≢true}
use Rattle.d64_image.proofs.Places.{same_or_other}
use Rattle.d64_image.specs.History.{History}
use Rattle.d64_image.specs.Images.{Image}
use Rattle.d64_image.specs.declared.place.Place.{Place}
use Rattle.disk_layout.proofs.lemmas.lists.Once.{Contains-cases, Contains-here, Contains-nil, Contains-there}
use Rattle.disk_layout.specs.Fault.{IsClosed, blocks_of, sides_of}
use Rattle.disk_layout.specs.Layout.{is_rel}
use Rattle.disk_layout.specs.declared.faults.Fault.{Fault}
use Rattle.disk_layout.specs.declared.faults.Fault.TheVariants.{OwnedTwice}
use Rattle.disk_layout.specs.declared.slot.Slot.{Slot}
use Rattle.layout_check.proofs.lemmas.finding.Assembly.{empty-file, owns-block, owns-side, plain-file, rel-file}
use Rattle.layout_check.proofs.lemmas.finding.Assembly.{sides-once}
use Rattle.layout_check.proofs.lemmas.judging.Calls.{passes_weaker, twice_tells}
use Rattle.layout_check.specs.Calls.{Passes, TellsUnsound}
use Rattle.layout_check.specs.Entry.{HasBlocks, IsProper}
use Rattle.layout_check.specs.Exact.{ToldOfFile}
use Rattle.layout_check.specs.SurveyedEntry.{SurveysEntry, TellsOrClashes}
use Rattle.layout_check.specs.Owners.{IsClaimed, IsOwned}
use Rattle.layout_check.specs.Sides.{HasParts, IsRelEntry, IsWalkOfSides, ListsEach}
use Rattle.layout_check.specs.declared.owners.Owners.{Owners}

pub on_ok_both : {T E : Type 0} (r : Result T E) (P Q R : Type 0) → (P → Q → R) → OnOk r P → OnOk r Q → OnOk r R
on_ok_both (Ok x) P Q R f h k = f h k
on_ok_both (Err e) P Q R f h k = tt

pub contains_or_not : (ps : List Place) (p : Place) → Contains ps p ⊎ ¬ (Contains ps p)
contains_or_not [] p = inr (Contains-nil p)
contains_or_not (q ∷ ps) p = step (same_or_other q p) (contains_or_not ps p)
  where
    step : (q ≡ p) ⊎ (q ≢ p) → Contains ps p ⊎ ¬ (Contains ps p) → Contains (q ∷ ps) p ⊎ ¬ (Contains (q ∷ ps) p)
    step (inl e) d = inl (rw e (Contains-here p ps))
    step (inr n) (inl c) = inl (Contains-there p q ps c)
    step (inr n) (inr c) = inr (λ h. elim (Contains-cases p q ps h) [ inl e ↦ n e | inr r ↦ c r ])

-- nothing is claimed where nothing is owned
pub claims-none : (t : Owners) (n : ℕ) → IsClaimed t t n []
claims-none t n p = (λ c. absurd (Contains-nil p c), λ _. refl)

module _ {D : Type 0} (S : History D) where
  pub plain-finds : (a b : D) (s : Slot) (n : ℕ) (t u : Owners) (blocks : List Place) (last : ℕ) → IsProper s
      → IsFalse (is_rel s) → slice_index s.bytes 3 ≢ 0 → HasBlocks (S.image a) s blocks last
      → Passes S a b (length blocks) → IsClaimed t u n blocks → SurveysEntry S a b s n t u None
  plain-finds a b s n t u blocks last proper other some chain passes claimed = (
    record { slot = s; blocks = blocks; last = last; sides = [] },
    record {
      slot = refl;
      file = plain-file (S.image a) s blocks last proper other some chain;
      blocks_once = chain.2.once;
      sides_once = tt;
      between = u;
      blocks = claimed;
      sides = claims-none u n;
    },
    λ rel. absurd (false≢true (sym other ∙ rel)),
    passes_weaker S a b (length blocks) (2 * length (blocks ++ [])) (omega (arith, length-append {A = Place} blocks []))
        passes,
  )

  pub empty-finds : (a : D) (s : Slot) (n : ℕ) (t : Owners) → IsProper s → IsFalse (is_rel s)
      → slice_index s.bytes 3 ≡ 0 → Passes S a a 0 → SurveysEntry S a a s n t t None
  empty-finds a s n t proper other none passes = (
    record { slot = s; blocks = []; last = 0; sides = [] },
    record {
      slot = refl;
      file = empty-file (S.image a) s proper other none;
      blocks_once = tt;
      sides_once = tt;
      between = t;
      blocks = claims-none t n;
      sides = claims-none t n;
    },
    λ rel. absurd (false≢true (sym other ∙ rel)),
    passes,
  )

  pub rel-finds : (a b : D) (s : Slot) (n k : ℕ) (t v u : Owners) (blocks sides : List Place) (last : ℕ)
      (unclean : Option Fault) → IsProper s → IsTrue (is_rel s) → HasBlocks (S.image a) s blocks last
      → IsWalkOfSides (S.image a) s blocks sides → ListsEach (S.image a) sides → Passes S a b k
      → k ≤ length blocks + 2 * length sides → IsClaimed t v n blocks → IsClaimed v u n sides
      → ToldOfFile (S.image a) (record { slot = s; blocks = blocks; last = last; sides = sides }) unclean
      → SurveysEntry S a b s n t u unclean
  rel-finds a b s n k t v u blocks sides last unclean proper rel chain walk lists passes few claimed also judged = (
    record { slot = s; blocks = blocks; last = last; sides = sides },
    record {
      slot = refl;
      file = rel-file (S.image a) s blocks sides last proper rel chain walk lists;
      blocks_once = chain.2.once;
      sides_once = sides-once (S.image a) s blocks sides walk;
      between = v;
      blocks = claimed;
      sides = also;
    },
    judged,
    passes_weaker S a b k (2 * length (blocks ++ sides)) (omega (arith, length-append {A = Place} blocks sides)) passes,
  )

  -- a side sector that had an owner, or is a block of the same entry
  pub side-clash : (a b : D) (s : Slot) (n k : ℕ) (t v : Owners) (blocks sides : List Place) (f : Fault)
      → (e : IsRelEntry (S.image a) s blocks) → IsWalkOfSides (S.image a) s blocks sides → Passes S a b k → k ≤ 732
      → IsClaimed t v n blocks → IsOwned v sides f → TellsOrClashes S a b s t f
  side-clash a b s n k t v blocks sides f e walk passes few claimed (p, told, c, owned) =
      step (contains_or_not blocks p)
    where
      there : Passes S a b 732
      there = passes_weaker S a b k 732 few passes

      both : Contains blocks p → TellsUnsound S a b 732 (OwnedTwice p)
      both d = twice_tells S a b 732 p there (inl (
        blocks_of s,
        sides_of s,
        (λ e. cc),
        owns-block (S.image a) s blocks e.last p e.closed e.chain d,
        owns-side (S.image a) s blocks sides p e walk c,
      ))

      step : Contains blocks p ⊎ ¬ (Contains blocks p) → TellsOrClashes S a b s t f
      step (inl d) = inl (let P : Fault → Type 0 = λ x. TellsUnsound S a b 732 x in subst P (sym told) (both d))
      step (inr d) = inr (record {
        place = p;
        told = told;
        passes = there;
        owned = λ z. owned ((claimed p).1 d ∙ z);
        has = inr (owns-side (S.image a) s blocks sides p e walk c);
      })

  -- the entry, as the survey of its side sectors wants it
  pub rel-entry : (a b : D) (s : Slot) (blocks items : List Place) (k last : ℕ) → IsClosed (S.image a) s.sector s
      → IsTrue (is_rel s) → HasBlocks (S.image a) s blocks last → Passes S a b k → items ≡ blocks
      → IsRelEntry (S.image b) s items
  rel-entry a b s blocks items k last closed rel chain passes same =
      let P : Image → Type 0 = λ img. IsRelEntry img s items in
      let Q : List Place → Type 0 = λ xs. IsRelEntry (S.image a) s xs in
      subst P (sym passes.reads.image) (subst Q (sym same) (record {
        closed = closed;
        rel = rel;
        last = last;
        chain = chain;
      }))

  -- what was found of a relative entry by two calls, one after the other
  pub rel-walked : (a b : D) (s : Slot) (blocks items sides : List Place) (k : ℕ) → Passes S a b k → items ≡ blocks
      → IsWalkOfSides (S.image b) s items sides → IsWalkOfSides (S.image a) s blocks sides
  rel-walked a b s blocks items sides k passes same walk =
      let P : Image → Type 0 = λ img. IsWalkOfSides img s blocks sides in
      let Q : List Place → Type 0 = λ xs. IsWalkOfSides (S.image b) s xs sides in
      subst P passes.reads.image (subst Q same walk)

  pub rel-listed : (a b : D) (sides : List Place) (k : ℕ) → Passes S a b k → ListsEach (S.image b) sides
      → ListsEach (S.image a) sides
  rel-listed a b sides k passes lists = let P : Image → Type 0 = λ img. ListsEach img sides in
      subst P passes.reads.image lists

  -- 720 blocks and six side sectors
  pub rel-few : (img : Image) (s : Slot) (blocks items sides : List Place) → IsWalkOfSides img s items sides
      → items ≡ blocks → length items ≤ 720 → length blocks + 2 * length sides ≤ 732
  rel-few img s blocks items sides walk same few = omega (arith, walk.linked.count, ap length same)

  pub parts-found : (a b : D) (s : Slot) (blocks items sides : List Place) (k last : ℕ)
      → HasBlocks (S.image a) s blocks last → Passes S a b k → items ≡ blocks → IsWalkOfSides (S.image b) s items sides
      → ListsEach (S.image b) sides → HasParts (S.image a) s blocks sides
  parts-found a b s blocks items sides k last chain passes same walk lists = record {
    last = last;
    chain = chain;
    walk = rel-walked a b s blocks items sides k passes same walk;
    lists = rel-listed a b sides k passes lists;
  }
