-- Deleted entries, one after another, and what was found of them.
use Rattle.std.proofs.Common.{◌≡◌, ◌<◌, ◌≤◌, ◌+◌, ◌*◌, ◌++◌, ◌∷◌, ℕ, List, [], Bool, true, false, Option, Some, None, ap, append_assoc, append-nil, arith, get_or, length, length-append, min, refl, subst, sym, take, ◌∙◌}
use Rattle.std.specs.List.{AllByRecursion}
use Rattle.std.specs.Option.{is_some}
use Rattle.std.specs.Prelude.{filter, flat_map, if◌then◌else◌, nat_eq}
use Rattle.std.proofs.lemmas.Bool.{false≢true}
use Rattle.std.proofs.lemmas.Grind.{flat_map-append}
use Rattle.std.proofs.Math.Seq.{take-append_seam}
use Rattle.std.proofs.lemmas.List.{take_more}
use Rattle.std.proofs.lemmas.List.Elements.{filter-append}
use Rattle.d64_image.specs.Images.{Image, sector}
use Rattle.d64_image.specs.Places.{index_of}
use Rattle.d64_image.specs.declared.place.Place.{Place}
use Rattle.damaged_files.specs.reached.Names.{name_of}
use Rattle.damaged_files.proofs.lemmas.reached.Filtered.{filter-kept, filter-left}
use Rattle.disk_layout.proofs.lemmas.counts.Slots.{slots-eight, slots_at}
use Rattle.disk_layout.specs.Chain.{named_at}
use Rattle.disk_layout.specs.Directory.{is_used, map_place, slot_in, slots_in, used_slots}
use Rattle.disk_layout.specs.declared.slot.Slot.{Slot}
use Rattle.damaged_files.proofs.lemmas.reached.Counts.{count-more}
use Rattle.damaged_files.specs.reached.Owned.{CountsAll, owners_at}
use Rattle.damaged_files.specs.reached.Sharing.{count_at, first_shared}
use Rattle.damaged_files.specs.declared.reached.sharing.Owners.{Owners}
use Rattle.file_rescues.specs.rescue.Deleted.{deleted_slots, is_deleted}
use Rattle.file_rescues.specs.rescue.Rescues.{AreAdded, AreChosen, AreUndeleted, IsRescued, with_untaken}
use Rattle.file_rescues.specs.rescue.Sharing.{is_taken, owned}
use Rattle.file_rescues.specs.declared.rescue.choices.Choice.{Choice}
use Rattle.file_rescues.specs.declared.rescue.rescuing.Rescued.{Rescued}

-- one slot of a sector more: it has a deleted entry, or none
pub deleted-kept : (old now new : List Slot) (p : Place) (bytes : List ℕ) (n : ℕ) → n < 8
    → now ≡ old ++ filter is_deleted (take n (slots_in p bytes)) → is_deleted (slot_in p bytes n) ≡ true
    → new ≡ now ++ slot_in p bytes n ∷ [] → new ≡ old ++ filter is_deleted (take (n + 1) (slots_in p bytes))
deleted-kept old now new p bytes n low before is pushed =
    let s = slot_in p bytes n in
    let inside : n < length (slots_in p bytes) = omega (arith, low, slots-eight p bytes) in
    pushed ∙ ap (λ (xs : List Slot). xs ++ s ∷ []) before
    ∙ append_assoc old (filter is_deleted (take n (slots_in p bytes))) (s ∷ [])
    ∙ ap (λ (xs : List Slot). old ++ xs) (filter-kept is_deleted (slots_in p bytes)
    (filter is_deleted (take n (slots_in p bytes))) _ n s inside (sym (slots_at p bytes n s low)) is refl refl)

pub deleted-left : (old now : List Slot) (p : Place) (bytes : List ℕ) (n : ℕ) → n < 8
    → now ≡ old ++ filter is_deleted (take n (slots_in p bytes)) → is_deleted (slot_in p bytes n) ≡ false
    → now ≡ old ++ filter is_deleted (take (n + 1) (slots_in p bytes))
deleted-left old now p bytes n low before is =
    let s = slot_in p bytes n in
    let inside : n < length (slots_in p bytes) = omega (arith, low, slots-eight p bytes) in
    before ∙ ap (λ (xs : List Slot). old ++ xs) (filter-left is_deleted (slots_in p bytes)
    (filter is_deleted (take n (slots_in p bytes))) n s inside (sym (slots_at p bytes n s low)) is refl)

-- one sector more
pub deleted-more : (img : Image) (ps : List Place) (k : ℕ) (p : Place) (bytes : List ℕ) (now new : List Slot)
    → k < length ps → get_or ps k p ≡ p → bytes ≡ sector img p → now ≡ deleted_slots img (take k ps)
    → new ≡ now ++ filter is_deleted (slots_in p bytes) → new ≡ deleted_slots img (take (k + 1) ps)
deleted-more img ps k p bytes now new inside is read before more =
    let f : Place → List Slot = λ q. slots_in q (sector img q) in
    let taken : take (k + 1) ps ≡ take k ps ++ p ∷ [] =
    take_more ps k p inside ∙ ap (λ (q : Place). take k ps ++ q ∷ []) is in
    more
    ∙ ap (λ (xs : List Slot). xs ++ filter is_deleted (slots_in p bytes)) before
    ∙ ap (λ (b : List ℕ). filter is_deleted (flat_map f (take k ps)) ++ filter is_deleted (slots_in p b)) read
    ∙ ap (λ (xs : List Slot). filter is_deleted (flat_map f (take k ps)) ++ filter is_deleted xs) (sym (append-nil (f p)))
    ∙ sym (filter-append is_deleted (flat_map f (take k ps)) (f p ++ []))
    ∙ ap (filter is_deleted) (sym (flat_map-append f (take k ps) (p ∷ [])))
    ∙ ap (λ (qs : List Place). filter is_deleted (flat_map f qs)) (sym taken)

-- the blocks of one file more were counted
pub counted-one : (directory : List Place) (files : List Rescued) (f : Rescued) (o new : Owners)
    → CountsAll o (owned directory files)
    → ((i : ℕ) → min 2 (owners_at new i) ≡ min 2 (owners_at o i + count_at i f.blocks.items))
    → CountsAll new (owned directory (files ++ f ∷ []))
counted-one directory files f o new so_far more = λ p.
    let i : ℕ = index_of p in
    let blocks_of : List Rescued → List Place = flat_map (λ (g : Rescued). g.blocks.items) in
    let blocks : blocks_of (files ++ f ∷ []) ≡ blocks_of files ++ f.blocks.items =
    flat_map-append (λ (g : Rescued). g.blocks.items) files (f ∷ [])
    ∙ ap (λ (ps : List Place). blocks_of files ++ ps) (append-nil f.blocks.items) in
    count-more i (owners_at o i) (owners_at new i) (owned directory files) f.blocks.items (so_far p) (more i)
    ∙ ap (λ (ps : List Place). min 2 (count_at i (map_place ∷ ps)))
    (append_assoc directory (blocks_of files) f.blocks.items ∙ ap (λ (ps : List Place). directory ++ ps) (sym blocks))

-- a file that is put before others, and then another after them; or the other way round
untaken-both : (o q : Bool) (f g : Rescued) (rest : List Rescued)
    → with_untaken q g rest ++ with_untaken o f [] ≡ with_untaken q g (rest ++ with_untaken o f [])
untaken-both o false f g rest = refl
untaken-both o true f g rest = refl

-- one deleted entry more
pub undeleted-more : (image : List ℕ) (img : Image) (directory : List Place) (files : List Rescued) (ss : List Slot) (s : Slot)
    (f : Rescued) (found : List Rescued) → AreUndeleted image img directory files ss found → f.slot ≡ s → IsRescued image img f
    → AreUndeleted image img directory files (ss ++ s ∷ [])
    (found ++ with_untaken (is_taken directory files f) f [])
undeleted-more image img directory files [] s f found are slot rescued = (
  f,
  [],
  slot,
  rescued,
  refl,
  ap (λ (xs : List Rescued). xs ++ with_untaken (is_taken directory files f) f []) are,
)
undeleted-more image img directory files (t ∷ ss) s f found (g, rest, same, reached, are, is) slot rescued =
    let o : Bool = is_taken directory files f in
    let q : Bool = is_taken directory files g in (
      g,
      rest ++ with_untaken o f [],
      same,
      reached,
      undeleted-more image img directory files ss s f rest are slot rescued,
      ap (λ (xs : List Rescued). xs ++ with_untaken o f []) is ∙ untaken-both o q f g rest,
    )

-- there are no more than entries
one-more : (o : Bool) (f : Rescued) (xs : List Rescued) → length (with_untaken o f xs) ≤ length xs + 1
one-more false f xs = omega arith
one-more true f xs = omega arith

pub undeleted-few : (image : List ℕ) (img : Image) (directory : List Place) (files : List Rescued) (ss : List Slot) (found : List Rescued)
    → AreUndeleted image img directory files ss found → length found ≤ length ss
undeleted-few image img directory files [] found are = omega (arith, ap (λ (xs : List Rescued). length xs) are)
undeleted-few image img directory files (s ∷ ss) found (f, rest, same, reached, are, is) =
    omega (
      arith,
      undeleted-few image img directory files ss rest are,
      one-more (is_taken directory files f) f rest,
      ap (λ (xs : List Rescued). length xs) is,
    )

-- one item that is kept, or left out
kept-length : {X : Type 0} (p : X → Bool) (x : X) (xs : List X) → p x ≡ true
    → length (filter p (x ∷ xs)) ≡ length (filter p xs) + 1
kept-length p x xs is =
    let e : filter p (x ∷ xs) ≡ x ∷ filter p xs = rw is refl in omega (arith, ap length e)

left-length : {X : Type 0} (p : X → Bool) (x : X) (xs : List X) → p x ≡ false
    → length (filter p (x ∷ xs)) ≡ length (filter p xs)
left-length p x xs is =
    let e : filter p (x ∷ xs) ≡ filter p xs = rw is refl in ap length e

-- no slot has both an entry and a deleted one
not-both : (used named block : Bool) → used ≡ true → (if used then false else (if named then false else block)) ≡ false
not-both true named block e = refl
not-both false named block e = absurd (false≢true e)

by-slot : (used deleted : Bool) (s : Slot) (xs : List Slot) → is_used s ≡ used → is_deleted s ≡ deleted
    → length (filter is_used xs) + length (filter is_deleted xs) ≤ length xs
    → length (filter is_used (s ∷ xs)) + length (filter is_deleted (s ∷ xs)) ≤ length (s ∷ xs)
by-slot true deleted s xs is other few = omega (
  arith,
  few,
  kept-length is_used s xs is,
  left-length is_deleted s xs (not-both (is_used s) (nat_eq (length (name_of s)) 0) (is_some (named_at s.bytes 3)) is),
)
by-slot false true s xs is other few =
    omega (arith, few, left-length is_used s xs is, kept-length is_deleted s xs other)
by-slot false false s xs is other few =
    omega (arith, few, left-length is_used s xs is, left-length is_deleted s xs other)

few-slots : (xs : List Slot) → length (filter is_used xs) + length (filter is_deleted xs) ≤ length xs
few-slots [] = omega arith
few-slots (s ∷ xs) = by-slot (is_used s) (is_deleted s) s xs refl refl (few-slots xs)

all-slots : (img : Image) (ps : List Place) → length (flat_map (λ (p : Place). slots_in p (sector img p)) ps) ≡ 8 * length ps
all-slots img [] = refl
all-slots img (p ∷ ps) = omega (
  arith,
  length-append (slots_in p (sector img p)) (flat_map (λ (q : Place). slots_in q (sector img q)) ps),
  slots-eight p (sector img p),
  all-slots img ps,
)

pub few-entries : (img : Image) (ps : List Place) → length ps ≤ 18
    → length (used_slots img ps) + length (deleted_slots img ps) ≤ 144
unfolding used_slots
few-entries img ps few = omega (
  arith,
  few-slots (flat_map (λ (p : Place). slots_in p (sector img p)) ps),
  all-slots img ps,
  few,
)

-- the files that were there, at the head of those that are there now
pub front-same : (old found shown now : List Rescued) (n : ℕ) → n ≡ length old → shown ≡ now → now ≡ old ++ found
    → take n shown ≡ old
front-same old found shown now n long are is =
    ap (λ (k : ℕ). take k shown) long ∙ ap (take (length old)) (are ∙ is) ∙ take-append_seam old found

-- a directory has few entries, with the deleted ones
pub few-all : (image : List ℕ) (img : Image) (ps : List Place) (entries : List Slot) (used found all : List Rescued) → length ps ≤ 18
    → entries ≡ used_slots img ps → length used ≡ length entries
    → AreUndeleted image img ps used (deleted_slots img ps) found → all ≡ used ++ found → length all ≤ 144
few-all image img ps entries used found all few are same found-are is = omega (
  arith,
  few-entries img ps few,
  ap (λ (ss : List Slot). length ss) are,
  same,
  undeleted-few image img ps used (deleted_slots img ps) found found-are,
  ap (λ (fs : List Rescued). length fs) is,
  length-append used found,
)

all-both : (P : Rescued → Type 0) (xs ys : List Rescued) → AllByRecursion P xs → AllByRecursion P ys
    → AllByRecursion P (xs ++ ys)
all-both P [] ys left right = right
all-both P (x ∷ xs) ys left right = (left.0, all-both P xs ys left.1 right)

all-untaken : (P : Rescued → Type 0) (o : Bool) (f : Rescued) (fs : List Rescued) → P f → AllByRecursion P fs
    → AllByRecursion P (with_untaken o f fs)
all-untaken P false f fs here all = (here, all)
all-untaken P true f fs here all = all

-- each was reached
undeleted-rescued : (image : List ℕ) (img : Image) (directory : List Place) (files : List Rescued) (ss : List Slot) (found : List Rescued)
    → AreUndeleted image img directory files ss found → AllByRecursion (IsRescued image img) found
undeleted-rescued image img directory files [] found are = subst (AllByRecursion (IsRescued image img)) (sym are) tt
undeleted-rescued image img directory files (s ∷ ss) found (f, rest, same, reached, are, is) =
    subst (AllByRecursion (IsRescued image img)) (sym is)
    (all-untaken (IsRescued image img) (is_taken directory files f) f rest reached
    (undeleted-rescued image img directory files ss rest are))

added-rescued : (b : Bool) (image : List ℕ) (img : Image) (directory : List Place) (files found : List Rescued)
    → AreAdded b image img directory files found → AllByRecursion (IsRescued image img) found
added-rescued true image img directory files found are =
    undeleted-rescued image img directory files (deleted_slots img directory) found are
added-rescued false image img directory files found are = subst (AllByRecursion (IsRescued image img)) (sym are) tt

pub chosen-rescued : (choice : Choice) (image : List ℕ) (img : Image) (directory : List Place) (files shown : List Rescued)
    → AreChosen choice image img directory files → shown ≡ files → AllByRecursion (IsRescued image img) shown
chosen-rescued choice image img directory files shown are is =
    subst (AllByRecursion (IsRescued image img)) (sym (is ∙ are.all)) (all-both (IsRescued image img) are.used are.found
    are.entries.reached (added-rescued choice.deleted image img directory are.used are.found are.deleted))

-- and few without them
pub few-used : (img : Image) (ps : List Place) (entries : List Slot) (all used : List Rescued) → length ps ≤ 18
    → entries ≡ used_slots img ps → length used ≡ length entries → all ≡ used → length all ≤ 144
few-used img ps entries all used few are same is = omega (
  arith,
  few-entries img ps few,
  ap (λ (ss : List Slot). length ss) are,
  same,
  ap (λ (fs : List Rescued). length fs) is,
)
