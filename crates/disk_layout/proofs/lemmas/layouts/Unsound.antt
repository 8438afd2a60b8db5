-- Where a fault of the survey holds, the image is not sound.
use Rattle.std.proofs.Common.{
  ◌≡◌,
  ◌≢◌,
  ℕ,
  ◌<◌,
  ◌≤◌,
  ◌⊎◌,
  inl,
  inr,
  Bool,
  true,
  false,
  List,
  [],
  ◌∷◌,
  ◌++◌,
  slice_index,
  refl,
  ◌∙◌,
  arith,
  IsTrue,
}
use Rattle.std.specs.Prelude.{Contains}
use Rattle.std.proofs.lemmas.Bool.Decides.{nat_tests}
use Rattle.std.proofs.lemmas.List.Elements.{Contains-append_right}
use Rattle.d64_image.proofs.Places.{track_from_1}
use Rattle.d64_image.specs.Images.{Image, sector}
use Rattle.d64_image.specs.declared.place.Place.{Place}
use Rattle.disk_layout.proofs.lemmas.chains.Chains.{
  IsChain-follows,
  Leads-along,
  Leads-push,
  Names-one,
  bad_link-no_chain,
  loop-no_chain,
}
use Rattle.disk_layout.proofs.lemmas.lists.Once.{Contains-here, all-in, filter-in, flat_map-in, map-in}
use Rattle.disk_layout.specs.Chain.{IsChain, Leads, LinksTo, Names, NamesNone}
use Rattle.disk_layout.specs.Directory.{directory_start, is_used, slots_in, type_byte, used_slots}
use Rattle.disk_layout.specs.Fault.{Holds, IsClosed, IsDirectorySector, IsSlot, nowhere}
use Rattle.disk_layout.specs.Layout.{
  File,
  HasChain,
  IsClosedType,
  IsFile,
  IsLayout,
  IsSound,
  Layout,
  is_rel,
  record_length,
}
use Rattle.disk_layout.specs.declared.faults.Fault.TheVariants.{BadLength, BadLink, BadType, Loop, Unclosed}
use Rattle.disk_layout.specs.declared.slot.Slot.{Slot}

-- what a chain's links lead to is in the chain
pub visited-in : (img : Image) (first p : Place) (vs ps : List Place) (u : ℕ) → Leads img first vs p
    → IsChain img first ps u → Contains ps p
visited-in img first p vs ps u a chain =
    let (rest, eq, f) = IsChain-follows img first ps u chain in
    let (more, same, g) = Leads-along img first p vs rest u a f in
    rw (eq ∙ same) (Contains-append_right vs (p ∷ more) p (Contains-here p more))

-- and so is the next
next-in : (img : Image) (first p q : Place) (vs ps : List Place) (u : ℕ) → Leads img first vs p → LinksTo img p q
    → IsChain img first ps u → Contains ps q
next-in img first p q vs ps u a link chain = visited-in img first q (vs ++ p ∷ []) ps u
    (Leads-push img first vs p q a link) chain

pub in-directory : (img : Image) (l : Layout) (p : Place) → IsLayout img l → IsDirectorySector img p
    → Contains l.directory p
in-directory img l p h d = visited-in img directory_start p d.before l.directory h.directory.last d.visits.0
    h.directory.chain

used-in : (img : Image) (ps : List Place) (p : Place) (s : Slot) → Contains ps p
    → Contains (slots_in p (sector img p)) s → type_byte s ≢ 0 → Contains (used_slots img ps) s
unfolding used_slots
used-in img ps p s c d used = filter-in is_used _ s (flat_map-in (λ p. slots_in p (sector img p)) ps p s c d)
    (grind (arith, nat_tests))

-- a slot of the directory, where it is used, is that of a file
pub slot-file : (img : Image) (l : Layout) (p : Place) (s : Slot) → IsLayout img l → IsSlot img p s → type_byte s ≢ 0
    → (f : File) × Contains l.files f × (f.slot ≡ s) × IsFile img f
slot-file img l p s h i used =
    let there : Contains (used_slots img l.directory) s =
    used-in img l.directory p s (in-directory img l p h i.directory) i.slot used in
    let (f, c, e) = map-in (λ x. x.slot) l.files s (rw h.directory.slots there) in
    (f, c, e, all-in (IsFile img) l.files f h.files c)

pub closed-file : (img : Image) (l : Layout) (p : Place) (s : Slot) → IsLayout img l → IsClosed img p s → (f : File)
    × Contains l.files f × (f.slot ≡ s) × IsFile img f
closed-file img l p s h c = slot-file img l p s h c.slot (λ e. omega (arith, c.closed))

pub has-chain : (img : Image) (f : File) (first : Place) → IsFile img f → Names f.slot.bytes 3 first
    → IsChain img first f.blocks f.last
has-chain img f first h named = by_type (is_rel f.slot) refl
  where
    found : HasChain img f → IsChain img first f.blocks f.last
    found (p, n, c) = let one : p ≡ first = Names-one f.slot.bytes 3 p first n named in rw (← one) c

    by_type : (t : Bool) → is_rel f.slot ≡ t → IsChain img first f.blocks f.last
    by_type true e = found (h.rel e).chain
    by_type false e = found (h.plain e (λ z. omega (arith, track_from_1 first, named.0))).0

pub no_bad_link : (img : Image) (p : Place) → Holds nowhere img (BadLink p) → ¬ (IsSound img)
no_bad_link img p (inl a) (l, h) = bad_link-no_chain img directory_start p a.0.before l.directory h.directory.last
    a.0.visits.0 a.1 h.directory.chain
no_bad_link img p (inr (inl (d, (q, link, out)))) (l, h) =
    let there = next-in img directory_start p q d.before l.directory h.directory.last d.visits.0 link
    h.directory.chain in
    out (all-in (λ x. x.track ≡ 18) l.directory q h.directory.on_track there, λ e. h.directory.not_map (rw (← e) there))
no_bad_link img p (inr (inr (inl (s, closed, none, why)))) (l, h) =
    let (f, c, e, file) = closed-file img l p s h closed in
    names-one f file (rw e why) (rw e none)
  where
    by_type : (f : File) → IsFile img f → slice_index f.slot.bytes 3 ≢ 0 → NamesNone f.slot.bytes 3 → (t : Bool)
        → is_rel f.slot ≡ t → ⊥
    by_type f file z none true e = let c = (file.rel e).chain in none c.0 c.1
    by_type f file z none false e = let c = (file.plain e z).0 in none c.0 c.1

    names-one : (f : File) → IsFile img f → IsTrue (is_rel f.slot) ⊎ (slice_index f.slot.bytes 3 ≢ 0)
        → NamesNone f.slot.bytes 3 → ⊥
    names-one f file (inl t) none = let c = (file.rel t).chain in none c.0 c.1
    names-one f file (inr z) none = by_type f file z none (is_rel f.slot) refl
no_bad_link img p (inr (inr (inr (q, s, closed, block, nowhere)))) (l, h) =
    let (f, c, e, file) = closed-file img l q s h closed in
    bad_link-no_chain img block.first p block.before f.blocks f.last block.visits.0 nowhere
    (has-chain img f block.first file (rw e block.named))

pub no_loop : (img : Image) (p : Place) → Holds nowhere img (Loop p) → ¬ (IsSound img)
no_loop img p (inl (vs, back, on)) (l, h) = loop-no_chain img directory_start p vs l.directory h.directory.last back.0
    back.2 h.directory.chain
no_loop img p (inr (q, s, closed, first, named, vs, back)) (l, h) =
    let (f, c, e, file) = closed-file img l q s h closed in
    loop-no_chain img first p vs f.blocks f.last back.0 back.2 (has-chain img f first file (rw e named))

pub no_bad_type : (img : Image) (p : Place) → Holds nowhere img (BadType p) → ¬ (IsSound img)
no_bad_type img p (s, closed, bad) (l, h) =
    let (f, c, e, file) = closed-file img l p s h closed in
    bad (rw (← e) file.closed)

pub no_unclosed : (img : Image) (p : Place) → Holds nowhere img (Unclosed p) → ¬ (IsSound img)
no_unclosed img p (s, slot, used, low) (l, h) =
    let (f, c, e, file) = slot-file img l p s h slot used in
    low_type (type_byte s) low (rw (← e) file.closed)
  where
    low_type : (t : ℕ) → t < 128 → IsClosedType t → ⊥
    low_type t h (inl a) = omega (arith, a)
    low_type t h (inr a) = omega (arith, a)

pub no_bad_length : (img : Image) (p : Place) → Holds nowhere img (BadLength p) → ¬ (IsSound img)
no_bad_length img p (s, closed, rel, out) (l, h) =
    let (f, c, e, file) = closed-file img l p s h closed in
    let r = file.rel (rw e rel) in
    let low : 1 ≤ record_length s = rw (← e) r.length_low in
    let high : record_length s ≤ 254 = rw (← e) r.length_high in
    elim out [ inl z ↦ omega arith | inr z ↦ omega arith ]
