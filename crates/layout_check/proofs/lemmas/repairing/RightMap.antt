-- The map as a repair goes over it: right already, or written, and then right.
use Rattle.std.proofs.Common.{ℕ, ◌≡◌, ◌≢◌, ◌++◌, List, ⊎_elim, [], ◌∷◌, length, sym, ◌∙◌, ap, refl, subst, inl, inr}
use Rattle.std.specs.Prelude.{Contains}
use Rattle.d64_image.proofs.Images.{sector-put_same}
use Rattle.d64_image.proofs.Moments.{at_end, weaker}
use Rattle.d64_image.specs.History.{HeldOnly, History, OldOr, OnlyReads}
use Rattle.d64_image.specs.Images.{Image, Sector, put, sector}
use Rattle.d64_image.specs.declared.place.Place.{Place}
use Rattle.disk_layout.proofs.lemmas.counts.Recount.{slot-there}
use Rattle.disk_layout.proofs.lemmas.counts.Recounts.{slot-of}
use Rattle.disk_layout.proofs.lemmas.kept.Orders.{made_one, made_put, over_one, over_read}
use Rattle.disk_layout.proofs.lemmas.layouts.Agree.{IsLayout-put_map}
use Rattle.disk_layout.proofs.lemmas.layouts.Layouts.{IsLayout-one, get-contains}
use Rattle.disk_layout.proofs.lemmas.lists.Once.{Contains-nil, flat_map-in}
use Rattle.disk_layout.specs.Directory.{map_place}
use Rattle.disk_layout.specs.InOrder.{AreMade, GoesOver, WritesOther}
use Rattle.disk_layout.specs.Layout.{IsLayout, Layout, owners}
use Rattle.disk_layout.specs.Map.{IsMapOf}
use Rattle.disk_layout.specs.declared.faults.Fault.{Fault}
use Rattle.layout_check.proofs.lemmas.mending.MapMends.{map-put, right-map}
use Rattle.layout_check.proofs.lemmas.repairing.Rights.{directory-not_map, side-not_map}
use Rattle.layout_check.specs.Exact.{HasMapBut}
use Rattle.layout_check.specs.Keeping.{MarksTaken}
use Rattle.layout_check.specs.RepairOrder.{IsRightBut}
use Rattle.layout_check.specs.Marked.{IsRightMap, IsWrongMap}
use Rattle.layout_check.specs.declared.owners.Owners.{Owners}

-- the map is no side sector and no sector of the directory: nothing else is asked of it
pub IsRight-map : (img : Image) (l : Layout) (strays : List Place) (bytes : Sector) → IsLayout img l
    → IsMapOf bytes (strays ++ map_place ∷ owners l) → IsRightBut strays l map_place bytes
IsRight-map img l strays bytes is h = record {
  map = λ _. h;
  side = λ f j own rel there. absurd
      (side-not_map img l is (flat_map-in (λ g. g.sides) l.files f map_place own
      (get-contains f.sides j map_place there)));
  counts = λ f own rel at. absurd (directory-not_map img l is (let P : Place → Type 0 = Contains l.directory in
      subst P at (slot-there img l.directory f.slot (slot-of img l f is own)).0));
}

pub HasMap-IsRight : (img : Image) (l : Layout) (strays : List Place) → IsLayout img l → HasMapBut strays img
    → IsRightBut strays l map_place (sector img map_place)
HasMap-IsRight img l strays is has = IsRight-map img l strays (sector img map_place) is (has l is)

pub IsRight-HasMap : (img : Image) (l : Layout) (strays : List Place) → IsLayout img l
    → IsRightBut strays l map_place (sector img map_place) → HasMapBut strays img
IsRight-HasMap img l strays is right m also = let P : Layout
    → Type 0 = λ x. IsMapOf (sector img map_place) (strays ++ map_place ∷ owners x) in
    subst P (IsLayout-one img l m is also) (right.map refl)

-- a map that is right by the table of owners
pub IsRight-made : (img : Image) (t : Owners) (bytes : Sector) (l : Layout) (strays : List Place) → length img ≡ 683
    → MarksTaken t l strays → IsRightMap bytes t → IsLayout img l → IsRightBut strays l map_place bytes
IsRight-made img t bytes l strays size marks right is =
    let P : Sector → Type 0 = λ b. IsMapOf b (strays ++ map_place ∷ owners l) in
    IsRight-map img l strays bytes is (subst P (sector-put_same img map_place bytes size)
    (map-put img t bytes l strays size is marks right l (IsLayout-put_map img l bytes is)))

-- the map stays, which is right
pub made-passed : (a b : Image) (l : Layout) (strays : List Place) → b ≡ a → HasMapBut strays b → IsLayout a l
    → AreMade (IsRightBut strays l) (map_place ∷ []) a b
made-passed a b l strays same has is =
    let P : Image → Type 0 = λ i. IsLayout i l in
    made_one (IsRightBut strays l) map_place a b (λ q ne. ap (λ (i : Image). sector i q) same)
    (HasMap-IsRight b l strays (subst P (sym same) is) has) (λ r. ap (λ (i : Image). sector i map_place) same)

-- a map that was told wrong was written by the table of owners; b is a after a read
pub made-written : (a b : Image) (t : Owners) (had bytes : Sector) (l : Layout) (strays : List Place) → length a ≡ 683
    → b ≡ a → MarksTaken t l strays → had ≡ sector a map_place → ((f : Fault) × IsWrongMap had t f)
    → IsRightMap bytes t → IsLayout a l → AreMade (IsRightBut strays l) (map_place ∷ []) a (put b map_place bytes)
made-written a b t had bytes l strays size same marks read (f, wrong) right is =
    let P : Image → Type 0 = λ i. AreMade (IsRightBut strays l) (map_place ∷ []) a (put i map_place bytes) in
    subst P (sym same) (made_put (IsRightBut strays l) map_place a bytes size
    (IsRight-made a t bytes l strays size marks right is)
    (λ r. absurd (right-map a t had f l strays is marks (IsRight-HasMap a l strays is r) read wrong)))

module _ {D : Type 0} (S : History D) (a b c : D) (n : ℕ) (reads : OnlyReads S a b n) (p : Place) (bytes : Sector)
    (held : HeldOnly S b c (OldOr (S.image b) (put (S.image b) p bytes))) where
  -- a read, and then a write that makes the sector right
  pub over_read_write : (Right : Place → Sector → Type 0) → AreMade Right (p ∷ []) (S.image a) (put (S.image b) p bytes)
      → WritesOther S b c p → GoesOver S a c Right (p ∷ [])
  over_read_write Right made other =
      let P : Image → Type 0 = λ i. AreMade Right (p ∷ []) i (put (S.image b) p bytes) in
      over_read S Right (p ∷ []) a b c n (Contains-nil p, tt) reads
      (over_one S Right p b c
      (weaker S b c _ _ (λ i. ⊎_elim (λ e. inl e) (λ e. inr (rw e (subst P (sym reads.image) made)))) held) other)

  -- the sector has what was written, where it isn't as it was
  pub changed_written : (Q : Sector → Type 0) → Q bytes → sector (S.image c) p ≢ sector (S.image a) p
      → Q (sector (S.image c) p)
  changed_written Q h changed = elim (at_end S b c (OldOr (S.image b) (put (S.image b) p bytes)) held) [
    | inl e ↦ absurd (changed (ap (λ (i : Image). sector i p) (e ∙ reads.image)))
    | inr e ↦ subst Q (sym (ap (λ (i : Image). sector i p) e ∙ sector-put_same (S.image b) p bytes (S.whole b).size)) h
  ]
