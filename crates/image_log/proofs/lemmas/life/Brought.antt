-- IMAGE as the sectors of an image are brought to it, and a log whose name is taken away.
use Rattle.std.proofs.Common.{◌≡◌, ◌≤◌, ◌<◌, ◌+◌, ◌∙◌, ℕ, List, [], ap, arith, get_or, length, refl, subst, sym, ⊎_elim, ext_get_or}
use Rattle.std.proofs.lemmas.Bool.{cases_eq}
use Rattle.std.proofs.lemmas.List.{get_or-set_other, get_or-set_same, length-set, set-get_or}
use Rattle.std.specs.Prelude.{Err, Ok, OnOk, Option, Result, Some, slice_index_or, slice_set}
use Rattle.d64_image.specs.Images.{Image}
use Rattle.image_log.specs.life.Bringing.{IsBrought, IsLanding, RestsAlone}
use Rattle.image_log.specs.life.Folders.{Acts, AllLeft, Brings, Folder, FolderHistory, HasImage, HasNames, IsImageWritten, IsRemoving, LeavesFolders, unlogged, with_image, with_sector}
use Rattle.image_log.proofs.lemmas.life.Mixed.{landing_sector}
use Rattle.image_log.proofs.lemmas.life.Steps.{goes_on, joined, started}

-- the first k sectors are those of the image, the others as they were
pub record IsPartly (k : ℕ) (now shop image : Image) : Type 0 where
  pub size : length image ≡ 683
  pub first : (j : ℕ) → j < k → get_or image j [] ≡ get_or shop j []
  pub rest : (j : ℕ) → k ≤ j → get_or image j [] ≡ get_or now j []

pub none_yet : (now shop : Image) → length now ≡ 683 → IsPartly 0 now shop now
none_yet now shop size = record { size = size; first = λ j low. absurd (omega (arith, low)); rest = λ j from. refl }

pub one_more : (k : ℕ) (now shop image : Image) → k < 683 → IsPartly k now shop image
    → IsPartly (k + 1) now shop (slice_set image k (get_or shop k []))
one_more k now shop image low partly = record {
  size = length-set image k (get_or shop k []) ∙ partly.size;
  first = λ j below. ⊎_elim
      (λ (same : j ≡ k). subst (λ (x : ℕ). get_or (slice_set image k (get_or shop k [])) x [] ≡ get_or shop x []) (sym same)
      (get_or-set_same image k (get_or shop k []) [] (omega (arith, low, partly.size))))
      (λ (other : j ≡ k → ⊥). get_or-set_other image k j (get_or shop k []) [] other
      ∙ partly.first j (omega (arith, below, other)))
      (cases_eq j k);
  rest = λ j from. get_or-set_other image k j (get_or shop k []) [] (λ same. absurd (omega (arith, from, same)))
      ∙ partly.rest j (omega (arith, from));
}

pub all_there : (k : ℕ) (now shop image : Image) → 683 ≤ k → length shop ≡ 683 → IsPartly k now shop image → image ≡ shop
all_there k now shop image all size partly =
    ext_get_or [] image shop (partly.size ∙ sym size) (λ j low. partly.first j (omega (arith, low, all, partly.size)))

-- a sector that is there already
pub same_sector : (o : Option Folder) (s : Folder) (index : ℕ) (now bytes : List ℕ) → slice_index_or s.image index [] ≡ now
    → now ≡ bytes → o ≡ Some s → o ≡ Some (with_sector index bytes s)
same_sector o s index now bytes is same held =
    let put : s.image ≡ slice_set s.image index bytes =
    sym (set-get_or s.image index []) ∙ ap (slice_set s.image index) (is ∙ same) in
    held ∙ ap (λ (i : Image). Some (with_image i s)) put

module _ {D : Type 0} (h : FolderHistory D) where
  module _ (log : List ℕ) (base shop : Image) where
    -- nothing was written
    pub same_moments : (d : D) → AllLeft h d (IsLanding log base shop) → LeavesFolders h d d (IsLanding log base shop)
    same_moments d all = started h d (IsLanding log base shop) all

    module _ {T E : Type 0} (old new : D) (index : ℕ) (bytes : List ℕ) (is : slice_index_or shop index [] ≡ bytes)
        (writing : Result T E) (acts : Acts h old new (with_sector index bytes) (IsImageWritten index bytes) writing)
        (all : AllLeft h old (IsLanding log base shop)) where
      pub written_landing : AllLeft h new (IsLanding log base shop)
      written_landing s may =
          let from = acts.outcomes s may in
          landing_sector log index bytes base shop from.0 s is from.2 (all from.0 from.1)

      pub written_moments : LeavesFolders h old new (IsLanding log base shop)
      written_moments = goes_on h old old new (IsLanding log base shop) (started h old (IsLanding log base shop) all) acts.time
          written_landing

  -- what the loop keeps
  pub record IsBringing (old d : D) (k : ℕ) (now shop : Image) : Type 0 where
    pub moments : (log : List ℕ) (base : Image) → AllLeft h old (IsLanding log base shop)
        → LeavesFolders h old d (IsLanding log base shop)
    pub landing : (log : List ℕ) (base : Image) → AllLeft h old (IsLanding log base shop) → AllLeft h d (IsLanding log base shop)
    pub held : (s : Folder) → h.held old ≡ Some s → s.image ≡ now
        → (image : Image) × IsPartly k now shop image × (h.held d ≡ Some (with_image image s))

  pub bringing_first : (old : D) (now shop : Image) → length now ≡ 683 → IsBringing old old 0 now shop
  bringing_first old now shop size = record {
    moments = λ log base all. started h old (IsLanding log base shop) all;
    landing = λ log base all. all;
    held = λ s held is. (
      now,
      none_yet now shop size,
      held ∙ ap (λ (i : Image). Some (with_image i s)) is,
    );
  }

  module _ (old d new : D) (k : ℕ) (now shop : Image) (so_far : IsBringing old d k now shop)
      (moments : (log : List ℕ) (base x : Image) → slice_index_or x k [] ≡ slice_index_or shop k []
      → AllLeft h d (IsLanding log base x) → LeavesFolders h d new (IsLanding log base x)) where
    pub bring_moments : (log : List ℕ) (base : Image) → AllLeft h old (IsLanding log base shop)
        → LeavesFolders h old new (IsLanding log base shop)
    bring_moments log base all = joined h old d new (IsLanding log base shop) (so_far.moments log base all)
        (moments log base shop refl (so_far.landing log base all))

    module _ (stays : (log : List ℕ) (base x : Image) → slice_index_or x k [] ≡ slice_index_or shop k []
        → AllLeft h d (IsLanding log base x) → AllLeft h new (IsLanding log base x)) where
      pub bring_landing : (log : List ℕ) (base : Image) → AllLeft h old (IsLanding log base shop)
          → AllLeft h new (IsLanding log base shop)
      bring_landing log base all = stays log base shop refl (so_far.landing log base all)

      pub bringing_more : k < 683
          → ((s : Folder) → h.held d ≡ Some s → slice_index_or s.image k [] ≡ slice_index_or now k []
          → h.held new ≡ Some (with_sector k (slice_index_or shop k []) s))
          → IsBringing old new (k + 1) now shop
      bringing_more low ok = record {
        moments = bring_moments;
        landing = bring_landing;
        held = λ s held is.
            let before = so_far.held s held is in (
              slice_set before.0 k (get_or shop k []),
              one_more k now shop before.0 low before.1,
              ok (with_image before.0 s) before.2 (before.1.rest k (omega arith)),
            );
      }

  module _ {E : Type 0} (old d new : D) (k : ℕ) (now shop : Image) (so_far : IsBringing old d k now shop)
      (syncing : Result Unit E) (brings : Brings h d new HasImage syncing) where
    pub brought_landing : (log : List ℕ) (base : Image) → AllLeft h old (IsLanding log base shop)
        → AllLeft h new (IsLanding log base shop)
    brought_landing log base all s may = so_far.landing log base all s (brings.outcomes s may)

    pub brought_moments : (log : List ℕ) (base : Image) → AllLeft h old (IsLanding log base shop)
        → LeavesFolders h old new (IsLanding log base shop)
    brought_moments log base all = goes_on h old d new (IsLanding log base shop) (so_far.moments log base all) brings.time
        (brought_landing log base all)

    brought_of : 683 ≤ k → length shop ≡ 683 → (r : Result Unit E)
        → OnOk r ((s : Folder) → h.held d ≡ Some s → AllLeft h new (HasImage s))
        → OnOk r ((s : Folder) → h.held old ≡ Some s → s.image ≡ now
        → (h.held new ≡ Some (with_image shop s)) × AllLeft h new (HasImage (with_image shop s)))
    brought_of all size (Ok x) synced = λ s held is.
        let before = so_far.held s held is in
        let whole : h.held d ≡ Some (with_image shop s) =
        before.2 ∙ ap (λ (i : Image). Some (with_image i s)) (all_there k now shop before.0 all size before.1) in
        (brings.held ∙ whole, synced (with_image shop s) whole)
    brought_of all size (Err e) synced = tt

    pub brought_ok : 683 ≤ k → length shop ≡ 683 → OnOk syncing ((s : Folder) → h.held old ≡ Some s → s.image ≡ now
        → (h.held new ≡ Some (with_image shop s)) × AllLeft h new (HasImage (with_image shop s)))
    brought_ok all size = brought_of all size syncing brings.ok

  -- a log's name is taken away, over an IMAGE that has what the log gives
  module _ {T E : Type 0} (old mid : D) (shop : Image) (all : AllLeft h old (IsBrought shop)) (removing : Result T E)
      (acts : Acts h old mid unlogged IsRemoving removing) where
    removed_left : AllLeft h mid (IsBrought shop)
    removed_left s may =
        let from = acts.outcomes s may in
        let was = all from.0 from.1 in
        ⊎_elim
        (λ same. subst (IsBrought shop) (sym same) was)
        (λ gone. subst (IsBrought shop) (sym gone) (was.0, was.0))
        from.2

    pub removed_moments : LeavesFolders h old mid (IsBrought shop)
    removed_moments = goes_on h old old mid (IsBrought shop) (started h old (IsBrought shop) all) acts.time removed_left

    module _ {E2 : Type 0} (new : D) (syncing : Result Unit E2) (brings : Brings h mid new HasNames syncing) where
      pub unlogged_moments : LeavesFolders h old new (IsBrought shop)
      unlogged_moments = goes_on h old mid new (IsBrought shop) removed_moments brings.time
          (λ s may. removed_left s (brings.outcomes s may))

  module _ {T E E2 : Type 0} (old mid new : D) (removing : Result T E)
      (acts : Acts h old mid unlogged IsRemoving removing)
      (ok : (s : Folder) → h.held old ≡ Some s → h.held mid ≡ Some (unlogged s))
      (syncing : Result Unit E2) (brings : Brings h mid new HasNames syncing) where
    unlogged_of : (r : Result Unit E2) → OnOk r ((s : Folder) → h.held mid ≡ Some s → AllLeft h new (HasNames s))
        → OnOk r ((shop : Image) (s : Folder) → h.held old ≡ Some s → s.image ≡ shop → AllLeft h old (IsBrought shop)
        → RestsAlone h new shop)
    unlogged_of (Ok x) synced = λ shop s held is all. record {
      some = unlogged s;
      held = brings.held ∙ ok s held;
      is = (is, refl);
      left = λ o may. (
        (removed_left old mid shop all removing acts o (brings.outcomes o may)).0,
        (synced (unlogged s) (ok s held) o may).none refl,
      );
    }
    unlogged_of (Err e) synced = tt

    pub unlogged_ok : OnOk syncing ((shop : Image) (s : Folder) → h.held old ≡ Some s → s.image ≡ shop
        → AllLeft h old (IsBrought shop) → RestsAlone h new shop)
    unlogged_ok = unlogged_of syncing brings.ok
