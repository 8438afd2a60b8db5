-- The blocks of one entry after another, as they are counted.
use Rattle.std.proofs.Common.{◌≡◌, ◌<◌, ◌≤◌, ◌+◌, ◌++◌, ◌∷◌, ℕ, List, [], Option, ap, append_assoc, append-nil, get_or, length, min, refl, subst, sym, take, ◌∙◌}
use Rattle.std.proofs.lemmas.List.{take_all, take_more}
use Rattle.d64_image.specs.Images.{Image}
use Rattle.d64_image.specs.Places.{index_of}
use Rattle.d64_image.specs.declared.place.Place.{Place}
use Rattle.disk_layout.specs.Directory.{map_place}
use Rattle.disk_layout.specs.declared.faults.Fault.{Fault}
use Rattle.disk_layout.specs.declared.slot.Slot.{Slot}
use Rattle.damaged_files.proofs.lemmas.reached.Counts.{count-more}
use Rattle.damaged_files.specs.reached.Owned.{CountsAll, owners_at}
use Rattle.damaged_files.specs.reached.Reached.{IsReached}
use Rattle.damaged_files.specs.reached.Sharing.{AreReached, IsOwned, count_at}
use Rattle.damaged_files.specs.declared.reached.sharing.Owners.{Owners}

-- one entry more, after the others
reached-more : (img : Image) (ss : List Slot) (s : Slot) (all ps : List Place) (fault : Option Fault) (u : ℕ)
    → AreReached img ss all → IsReached img s ps fault u → AreReached img (ss ++ s ∷ []) (all ++ ps)
reached-more img [] s all ps fault u none reached =
    (ps, [], fault, u, reached, refl, ap (λ (xs : List Place). xs ++ ps) none ∙ sym (append-nil ps))
reached-more img (x ∷ ss) s all ps fault u (blocks, rest, f, v, first, others, are) reached = (
  blocks,
  rest ++ ps,
  f,
  v,
  first,
  reached-more img ss s rest ps fault u others reached,
  ap (λ (xs : List Place). xs ++ ps) are ∙ append_assoc blocks rest ps,
)

-- the sectors of the first k entries were counted, with the map's and the directory's
pub record Counted (img : Image) (directory : List Place) (slots : List Slot) (k : ℕ) (o : Owners) : Type 0 where
  pub blocks : List Place
  pub reached : AreReached img (take k slots) blocks
  pub counts : (i : ℕ) → min 2 (owners_at o i) ≡ min 2 (count_at i (map_place ∷ (directory ++ blocks)))

pub counted-none : (img : Image) (directory : List Place) (slots : List Slot) (o : Owners)
    → ((i : ℕ) → min 2 (owners_at o i) ≡ min 2 (count_at i (map_place ∷ directory))) → Counted img directory slots 0 o
counted-none img directory slots o counts = record {
  blocks = [];
  reached = refl;
  counts = λ i. counts i ∙ ap (λ (ps : List Place). min 2 (count_at i (map_place ∷ ps))) (sym (append-nil directory));
}

pub counted-more : (img : Image) (directory : List Place) (slots : List Slot) (k : ℕ) (o new : Owners) (s : Slot)
    (ps : List Place) (fault : Option Fault) (u : ℕ) → Counted img directory slots k o → k < length slots
    → get_or slots k s ≡ s → IsReached img s ps fault u
    → ((i : ℕ) → min 2 (owners_at new i) ≡ min 2 (owners_at o i + count_at i ps))
    → Counted img directory slots (k + 1) new
counted-more img directory slots k o new s ps fault u before inside is reached more =
    let taken : take (k + 1) slots ≡ take k slots ++ s ∷ [] =
    take_more slots k s inside ∙ ap (λ (t : Slot). take k slots ++ t ∷ []) is in
    record {
      blocks = before.blocks ++ ps;
      reached = subst (λ (ss : List Slot). AreReached img ss (before.blocks ++ ps)) (sym taken)
          (reached-more img (take k slots) s before.blocks ps fault u before.reached reached);
      counts = λ i. count-more i _ _ (map_place ∷ (directory ++ before.blocks)) ps (before.counts i) (more i)
          ∙ ap (λ (qs : List Place). min 2 (count_at i (map_place ∷ qs))) (append_assoc directory before.blocks ps);
    }

pub counted-all : (img : Image) (directory : List Place) (slots : List Slot) (k : ℕ) (o : Owners)
    → Counted img directory slots k o → length slots ≤ k
    → (all : List Place) × IsOwned img directory slots all × CountsAll o all
counted-all img directory slots k o counted end = (
  map_place ∷ (directory ++ counted.blocks),
  (
    counted.blocks,
    subst (λ (ss : List Slot). AreReached img ss counted.blocks) (take_all k slots end) counted.reached,
    refl,
  ),
  λ p. counted.counts (index_of p),
)
