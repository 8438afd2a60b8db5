-- A sector that is written is marked, and each other one stays as it was.
use Rattle.std.proofs.Common.{◌≡◌, ◌≢◌, ◌<◌, ◌∙◌, ℕ, List, Bool, [], false, true, OnErr, OnOk, Result, Ok, Err, ap, arith, get_or, inl, inr, length, replicate, set, subst, sym}
use Rattle.std.proofs.lemmas.Bool.{cases_lt, false≢true}
use Rattle.std.proofs.lemmas.List.{get_or-replicate, get_or-set_other, get_or-set_same, get_or_past, length-replicate}
use Rattle.d64_image.specs.Calls.{WritesSector}
use Rattle.d64_image.specs.History.{History, OldOr, TellsFailure}
use Rattle.d64_image.specs.Images.{Image, Sector, put}
use Rattle.d64_image.specs.Places.{index_of}
use Rattle.d64_image.specs.declared.place.Place.{Place}
use Rattle.d64_image.proofs.Places.{index_below}
use Rattle.image_log.specs.Marks.{Covers}
use Rattle.image_log.specs.Touched.{KeepsCover, touching, touched_disk, touched_of}
use Rattle.image_log.specs.declared.touched_disk.TouchedDisk.{TouchedDisk}

pub none_marked : (n i : ℕ) → get_or (replicate n false) i false ≡ false
none_marked n i = elim (cases_lt i n) [
  | inl low ↦ get_or-replicate n i false false low
  | inr past ↦ get_or_past (replicate n false) i false (omega (arith, past, length-replicate n false))
]

other_mark : (touched : List Bool) (k i : ℕ) → k < length touched → get_or (set touched k true) i false ≡ false → i ≢ k
other_mark touched k i within none is =
    false≢true (sym none ∙ ap (λ (j : ℕ). get_or (set touched k true) j false) is ∙ get_or-set_same touched k true false within)

other_put : (img : Image) (p : Place) (bytes : Sector) (i : ℕ) → i ≢ index_of p
    → get_or (put img p bytes) i [] ≡ get_or img i []
unfolding put
other_put img p bytes i other = get_or-set_other img (index_of p) i bytes [] other

covers_more : (touched : List Bool) (p : Place) (k : ℕ) (old new before : Image) (bytes : Sector) → k ≡ index_of p
    → length touched ≡ 683 → OldOr old (put old p bytes) new → Covers touched before old
    → Covers (set touched k true) before new
covers_more touched p k old new before bytes is long came covers i low none =
    let below = index_below p in
    let other = other_mark touched k i (omega (arith, is, below, long)) none in
    let unmarked = sym (get_or-set_other touched k i true false other) ∙ none in
    elim came [
      | inl same ↦ covers i low unmarked ∙ ap (λ (img : Image). get_or img i []) (sym same)
      | inr put ↦ covers i low unmarked ∙ sym (other_put old p bytes i (λ e. other (e ∙ sym is)))
          ∙ ap (λ (img : Image). get_or img i []) (sym put)
    ]

came_of : {T E : Type 0} (old put_in new : Image) (r : Result T E) → OnOk r (new ≡ put_in) → OnErr r (OldOr old put_in new)
    → OldOr old put_in new
came_of old put_in new (Ok x) ok err = inr ok
came_of old put_in new (Err e) ok err = err

tells : {D T E : Type 0} (h : History D) (a b : TouchedDisk D) (r : Result T E)
    → TellsFailure h (touched_disk a) (touched_disk b) r → TellsFailure (touching h) a b r
tells h a b (Ok x) same = same
tells h a b (Err e) failed = record { later = failed.later; rose = failed.rose }

-- the mark is set, and the disk beneath answered
pub write_touches : {D T E : Type 0} (h : History D) (a b : TouchedDisk D) (p : Place) (bytes : Sector) (fault : E)
    (result : Result T E) (k : ℕ) → k ≡ index_of p → length (touched_of a) ≡ 683
    → touched_of b ≡ set (touched_of a) k true → WritesSector h (touched_disk a) (touched_disk b) p bytes fault result
    → WritesSector (touching h) a b p bytes fault result
write_touches h a b p bytes fault result k is long marks writes =
    let came = came_of (h.image (touched_disk a)) (put (h.image (touched_disk a)) p bytes) (h.image (touched_disk b)) result writes.ok writes.err in
    let keeps : KeepsCover h a b = λ before covers. subst (λ (t : List Bool). Covers t before (h.image (touched_disk b))) (sym marks)
    (covers_more (touched_of a) p k (h.image (touched_disk a)) (h.image (touched_disk b)) before bytes is long came covers) in
    record {
      ok = writes.ok;
      err = writes.err;
      held = record {
        reached = (writes.held.reached, keeps);
        later = writes.held.later;
        each = writes.held.each;
        before = writes.held.before;
      };
      one_step = record {
        reached = (writes.one_step.reached, keeps);
        later = writes.one_step.later;
        each = writes.one_step.each;
        before = writes.one_step.before;
      };
      counted = writes.counted;
      uncounted = writes.uncounted;
      reads = writes.reads;
      failures = tells h a b result writes.failures;
      told = writes.told;
      failed = writes.failed;
    }
