-- The sectors of the blank image, one by one.
use Rattle.std.proofs.Common.{List, [], Some, IsSome, ap, ap₂, arith, inl, inr, length, length-append, refl, subst, suc}
use Rattle.std.proofs.Common.{sym, zero, ℕ, ◌+◌, ◌++◌, ◌<◌, ◌∙◌, ◌∷◌, ◌≡◌, ◌≢◌, ◌≤◌}
use Rattle.std.proofs.lemmas.Bool.{cases_lt}
use Rattle.std.proofs.lemmas.Bool.Decides.{nat_tests}
use Rattle.std.specs.Prelude.{None, if◌then◌else◌, nat_eq, nat_lt, slice_get}
use Rattle.d64_image.proofs.Images.{sector-put_other, sector-put_same}
use Rattle.d64_image.proofs.Moments.{at_end, changes_then, write_change}
use Rattle.d64_image.proofs.Places.{place_at-found, place_at-some}
use Rattle.d64_image.specs.Geometry.{sectors_on}
use Rattle.d64_image.specs.History.{Changes, HeldOnly, History, OldOr}
use Rattle.d64_image.specs.Images.{Image, Sector, put, sector}
use Rattle.d64_image.specs.Places.{place_at}
use Rattle.d64_image.specs.declared.place.Place.{Place}
use Rattle.disk_layout.proofs.lemmas.layouts.Exact.{get-lt}
use Rattle.disk_layout.specs.Blank.{AreRequestPlaces, IsBlank, IsBlankMap, IsBlankPlace, IsEmptyBlock, IsRequestPlace}
use Rattle.disk_layout.specs.Blank.{SameElsewhere, blank_directory, request_blocks, request_sector}
use Rattle.disk_layout.specs.Entries.{rel_entry}
use Rattle.disk_layout.specs.Blank.{request_track, requests_side, stock_block, stock_side}
use Rattle.disk_layout.specs.Directory.{directory_start, map_place}
use Rattle.disk_layout.specs.Side.{side_sector}
use Rattle.disk_layout.proofs.lemmas.lists.Lists.{get-push}
use Rattle.disk_layout.specs.BlankWritten.{IsWritten}

-- the disk has each of its sectors
pub has-sector : (t s : ℕ) → s < sectors_on t → IsSome (place_at t s)
has-sector t s h = let (p, at) = place_at-found t s h in subst IsSome (sym at) refl

-- the place of a data block of REQUESTS
pub request-at : (k t s : ℕ) (p : Place) → place_at t s ≡ Some p → (t ≡ request_track k) × (s ≡ request_sector k)
    → IsRequestPlace k p
request-at k t s p at meant = let there = place_at-some t s p at in (there.0 ∙ meant.0, there.1 ∙ meant.1)

-- the list of places with one more
pub places-more : (ps qs : List Place) (n : ℕ) (p : Place) → AreRequestPlaces ps n → IsRequestPlace n p
    → qs ≡ ps ++ p ∷ [] → AreRequestPlaces qs (n + 1)
places-more ps qs n p h here e = rw e (record {
  count = length-append ps (p ∷ []) ∙ omega (arith, h.count);
  each = λ k q at. elim (get-push ps p k q at) [
    | inl old ↦ h.each k q old
    | inr new ↦ is-new k q (new.0 ∙ h.count) new.1
  ];
})
  where
    is-new : (k : ℕ) (q : Place) → k ≡ n → p ≡ q → IsRequestPlace k q
    is-new k q number same = rw (number, ← same) here

-- an entry of the files that are meant
pub entry-is : (bytes name : List ℕ) (first side : Place) (L : ℕ) (p q : Place) (blocks : ℕ)
    → bytes ≡ rel_entry name first side L blocks → first ≡ p → side ≡ q → bytes ≡ rel_entry name p q L blocks
entry-is bytes name first side L p q blocks e a b = e ∙ cc (a, b)

-- the side sectors of one block and of many
pub stock-side-is : (bytes : List ℕ) (a b : Place) → bytes ≡ side_sector 0 (a ∷ []) (b ∷ []) 18 → a ≡ stock_block
    → b ≡ stock_side → bytes ≡ side_sector 0 (stock_block ∷ []) (stock_side ∷ []) 18
stock-side-is bytes a b e x y = e ∙ cc (x, y)

pub requests-side-is : (bytes : List ℕ) (blocks : List Place) (a : Place) → bytes ≡ side_sector 0 blocks (a ∷ []) 127
    → a ≡ requests_side → bytes ≡ side_sector 0 blocks (requests_side ∷ []) 127
requests-side-is bytes blocks a e x = e ∙ cc x

-- which number the sector at a place has
abbrev pub number_at : ℕ → ℕ → ℕ
number_at t s =
    if nat_eq t 18 then s else
    (if nat_eq t 19 then s + 23 else
    (if nat_lt s 2 then s + 2 else
    (if nat_eq s 2 then 5 else
    (if nat_eq s 3 then 4 else s + 2))))

pub request-number : (k : ℕ) → number_at (request_track k) (request_sector k) ≡ k + 5
request-number k = grind (arith, nat_tests)

pub written-number : (name id : List ℕ) (blocks : List Place) (n i : ℕ) (p : Place) (bytes : Sector)
    → AreRequestPlaces blocks n → IsWritten name id blocks i p bytes → number_at p.track p.sector ≡ i
written-number name id blocks n zero p bytes are w = ap (λ (q : Place). number_at q.track q.sector) w.0
written-number name id blocks n (suc zero) p bytes are w = ap (λ (q : Place). number_at q.track q.sector) w.0
written-number name id blocks n (suc (suc zero)) p bytes are w = ap (λ (q : Place). number_at q.track q.sector) w.0
written-number name id blocks n (suc (suc (suc zero))) p bytes are w = ap (λ (q : Place). number_at q.track q.sector)
    w.0
written-number name id blocks n (suc (suc (suc (suc zero)))) p bytes are w =
    ap (λ (q : Place). number_at q.track q.sector) w.0
written-number name id blocks n (suc (suc (suc (suc (suc k))))) p bytes are w =
    let here = are.each k p w.0 in
    ap₂ number_at here.0 here.1 ∙ request-number k ∙ omega arith

-- each place that is written is one of the blank image's
pub written-place : (name id : List ℕ) (blocks : List Place) (n i : ℕ) (p : Place) (bytes : Sector)
    → AreRequestPlaces blocks n → IsWritten name id blocks i p bytes → IsBlankPlace n p
written-place name id blocks n zero p bytes are w = inl (0, omega arith, sym w.0)
written-place name id blocks n (suc zero) p bytes are w = inl (1, omega arith, sym w.0)
written-place name id blocks n (suc (suc zero)) p bytes are w = inl (2, omega arith, sym w.0)
written-place name id blocks n (suc (suc (suc zero))) p bytes are w = inl (3, omega arith, sym w.0)
written-place name id blocks n (suc (suc (suc (suc zero)))) p bytes are w = inl (4, omega arith, sym w.0)
written-place name id blocks n (suc (suc (suc (suc (suc k))))) p bytes are w =
    inr (k, omega (arith, get-lt blocks k p w.0, are.count), are.each k p w.0)

-- the sectors below this number are written
abbrev pub AreWritten : Image → List ℕ → List ℕ → List Place → ℕ → Type 0
AreWritten img name id blocks number = (i : ℕ) → i < number → (p : Place) × IsWritten name id blocks i p (sector img p)

pub written-more : (img new : Image) (name id : List ℕ) (blocks : List Place) (n i : ℕ) (p : Place) (bytes : Sector)
    → length img ≡ 683 → AreRequestPlaces blocks n → AreWritten img name id blocks i
    → IsWritten name id blocks i p bytes → new ≡ put img p bytes → AreWritten new name id blocks (i + 1)
written-more img new name id blocks n i p bytes full are so_far now e j lt = elim (cases_lt j i) [
  | inl less ↦
      let (q, w) = so_far j less in
      let ne : p ≢ q = λ same. omega (
        arith,
        less,
        written-number name id blocks n i p bytes are now,
        written-number name id blocks n j q (sector img q) are w,
        ap (λ (x : Place). number_at x.track x.sector)
            same,
      ) in
      (q, moved j q (sector img q) (sector new q) w (sym (ap (λ c. sector c q) e ∙ sector-put_other img p q bytes ne)))
  | inr same ↦
      let here : i ≡ j = omega (arith, lt, same) in
      let P : ℕ → Type 0 = λ k. IsWritten name id blocks k p (sector new p) in (
        p,
        subst P here (moved i p bytes (sector new p) now (sym (ap (λ c. sector c p) e
            ∙ sector-put_same img p bytes full))),
      )
]
  where
    moved : (k : ℕ) (q : Place) (a b : Sector) → IsWritten name id blocks k q a → a ≡ b → IsWritten name id blocks k q b
    moved k q a b w s = let P : Sector → Type 0 = λ x. IsWritten name id blocks k q x in subst P s w

-- a write to a place of the blank image leaves all others
pub same-put : (n : ℕ) (old img : Image) (p : Place) (bytes : Sector) → IsBlankPlace n p → SameElsewhere n old img
    → SameElsewhere n old (put img p bytes)
same-put n old img p bytes here same q out =
    sector-put_other img p q bytes (λ e. out (let P : Place → Type 0 = IsBlankPlace n in subst P e here)) ∙ same q out

-- what is known of the sector at one place, at the place that it is
at-place : (img : Image) (p q : Place) (P : Sector → Type 0) → p ≡ q → P (sector img p) → P (sector img q)
at-place img p q P e h = let R : Place → Type 0 = λ x. P (sector img x) in subst R e h

-- all are written: the image is blank
pub blank-whole : (old new : Image) (name id : List ℕ) (tills : ℕ) (blocks : List Place)
    → AreRequestPlaces blocks (request_blocks tills) → AreWritten new name id blocks (5 + length blocks)
    → SameElsewhere (request_blocks tills) old new → IsBlank old new name id tills
blank-whole old new name id tills blocks are written same = record {
  blocks = blocks;
  places = are;
  map = map-there (written 0 (omega arith));
  directory = directory-there (written 1 (omega arith));
  stock = stock-there (written 2 (omega arith));
  stock_side = stock-side-there (written 3 (omega arith));
  requests = λ k p at. request-there k p at (written (suc (suc (suc (suc (suc k)))))
      (omega (arith, get-lt blocks k p at)));
  requests_side = side-there (written 4 (omega arith));
  rest = same;
}
  where
    n : ℕ
    n = length blocks

    map-there : (p : Place) × IsWritten name id blocks 0 p (sector new p)
        → IsBlankMap (sector new map_place) name id (request_blocks tills)
    map-there (p, w) =
        let P : ℕ → Type 0 = λ k. IsBlankMap (sector new map_place) name id k in
        subst P are.count (at-place new p map_place (λ b. IsBlankMap b name id (length blocks)) w.0 w.1)

    directory-there : (p : Place) × IsWritten name id blocks 1 p (sector new p)
        → sector new directory_start ≡ blank_directory (request_blocks tills)
    directory-there (p, w) = at-place new p directory_start (λ b. b ≡ blank_directory (length blocks)) w.0 w.1
        ∙ ap blank_directory are.count

    stock-there : (p : Place) × IsWritten name id blocks 2 p (sector new p)
        → IsEmptyBlock (sector new stock_block) None 253 18 14
    stock-there (p, w) = at-place new p stock_block (λ b. IsEmptyBlock b None 253 18 14) w.0 w.1

    stock-side-there : (p : Place) × IsWritten name id blocks 3 p (sector new p)
        → sector new stock_side ≡ side_sector 0 (stock_block ∷ []) (stock_side ∷ []) 18
    stock-side-there (p, w) = at-place new p stock_side (λ b. b ≡ side_sector 0 (stock_block ∷ []) (stock_side ∷ []) 18)
        w.0 w.1

    side-there : (p : Place) × IsWritten name id blocks 4 p (sector new p)
        → sector new requests_side ≡ side_sector 0 blocks (requests_side ∷ []) 127
    side-there (p, w) = at-place new p requests_side (λ b. b ≡ side_sector 0 blocks (requests_side ∷ []) 127) w.0 w.1

    same-element : (k : ℕ) (p q : Place) → slice_get blocks k ≡ Some p → slice_get blocks k ≡ Some q → q ≡ p
    same-element k p q a b = cc

    request-there : (k : ℕ) (p : Place) → slice_get blocks k ≡ Some p → (q : Place)
        × IsWritten name id blocks (suc (suc (suc (suc (suc k))))) q (sector new q)
        → IsEmptyBlock (sector new p) (slice_get blocks (k + 1)) 255 127 2
    request-there k p at (q, w) = at-place new q p (λ b. IsEmptyBlock b (slice_get blocks (k + 1)) 255 127 2)
        (same-element k p q at w.0) w.1

-- one more write
pub moments-more : {D : Type 0} (S : History D) (a b d : D) (n k : ℕ) (p : Place) (bytes : Sector)
    → Changes S a b k (SameElsewhere n (S.image a)) → HeldOnly S b d (OldOr (S.image b) (put (S.image b) p bytes))
    → S.writes d ≤ S.writes b + 1 → IsBlankPlace n p → Changes S a d (k + 1) (SameElsewhere n (S.image a))
moments-more S a b d n k p bytes so_far held counted here =
    let now : SameElsewhere n (S.image a) (S.image b) = at_end S a b (SameElsewhere n (S.image a)) so_far.held in
    changes_then S a b d k 1 (k + 1) (SameElsewhere n (S.image a)) (omega arith) so_far
    (write_change S b d (S.image b) (put (S.image b) p bytes) (SameElsewhere n (S.image a)) held counted now
    (same-put n (S.image a) (S.image b) p bytes here now))
