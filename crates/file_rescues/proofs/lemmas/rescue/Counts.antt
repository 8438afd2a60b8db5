-- The blocks of one file after another, as they are counted.
use Rattle.std.proofs.Common.{◌≡◌, ◌<◌, ◌≤◌, ◌+◌, ◌++◌, ◌∷◌, ℕ, List, [], ap, append_assoc, append-nil, get_or, length, min, subst, take, sym, ◌∙◌}
use Rattle.std.specs.Prelude.{flat_map}
use Rattle.std.proofs.lemmas.Grind.{flat_map-append}
use Rattle.std.proofs.lemmas.List.{take_all, take_more}
use Rattle.d64_image.specs.Places.{index_of}
use Rattle.d64_image.specs.declared.place.Place.{Place}
use Rattle.disk_layout.specs.Directory.{map_place}
use Rattle.damaged_files.proofs.lemmas.reached.Counts.{count-more}
use Rattle.damaged_files.specs.reached.Owned.{CountsAll, owners_at}
use Rattle.damaged_files.specs.reached.Sharing.{count_at}
use Rattle.damaged_files.specs.declared.reached.sharing.Owners.{Owners}
use Rattle.file_rescues.specs.rescue.Sharing.{owned}
use Rattle.file_rescues.specs.declared.rescue.rescuing.Rescued.{Rescued}

-- the sectors of these files were counted, with the map's and the directory's
abbrev pub AreCounted : List Place → List Rescued → Owners → Type 0
AreCounted directory files o = (i : ℕ) → min 2 (owners_at o i) ≡ min 2 (count_at i (owned directory files))

pub counted-none : (directory : List Place) (o : Owners)
    → ((i : ℕ) → min 2 (owners_at o i) ≡ min 2 (count_at i (map_place ∷ directory))) → AreCounted directory [] o
counted-none directory o counts = λ i.
    counts i ∙ ap (λ (ps : List Place). min 2 (count_at i (map_place ∷ ps))) (sym (append-nil directory))

pub counted-more : (directory : List Place) (k : ℕ) (fs : List Rescued) (f : Rescued) (o new : Owners) → k < length fs
    → get_or fs k f ≡ f → AreCounted directory (take k fs) o
    → ((i : ℕ) → min 2 (owners_at new i) ≡ min 2 (owners_at o i + count_at i f.blocks.items))
    → AreCounted directory (take (k + 1) fs) new
counted-more directory k fs f o new inside is so_far more = λ i.
    let blocks_of : List Rescued → List Place = flat_map (λ (g : Rescued). g.blocks.items) in
    let before : List Place = blocks_of (take k fs) in
    let taken : take (k + 1) fs ≡ take k fs ++ f ∷ [] =
    take_more fs k f inside ∙ ap (λ (g : Rescued). take k fs ++ g ∷ []) is in
    let blocks : blocks_of (take (k + 1) fs) ≡ before ++ f.blocks.items =
    ap blocks_of taken ∙ flat_map-append (λ (g : Rescued). g.blocks.items) (take k fs) (f ∷ [])
    ∙ ap (λ (ps : List Place). before ++ ps) (append-nil f.blocks.items) in
    count-more i (owners_at o i) (owners_at new i) (map_place ∷ (directory ++ before)) f.blocks.items (so_far i) (more i)
    ∙ ap (λ (ps : List Place). min 2 (count_at i (map_place ∷ ps)))
    (append_assoc directory before f.blocks.items ∙ ap (λ (ps : List Place). directory ++ ps) (sym blocks))

pub counted-all : (directory : List Place) (k : ℕ) (fs : List Rescued) (o : Owners) → length fs ≤ k
    → AreCounted directory (take k fs) o → CountsAll o (owned directory fs)
counted-all directory k fs o end counts = λ p.
    subst (λ (gs : List Rescued). min 2 (owners_at o (index_of p)) ≡ min 2 (count_at (index_of p) (owned directory gs)))
    (take_all k fs end) (counts (index_of p))
