-- Each side sector that is named is one that a check could name.
use Rattle.std.proofs.Common.{◌≡◌, ◌≢◌, ◌≤◌, ◌⊎◌, ◌++◌, ◌∷◌, [], ℕ, suc, List, Some, ap, arith, drop, inl, inr, length}
use Rattle.std.proofs.Common.{refl, subst, sym, ◌∙◌}
use Rattle.std.proofs.lemmas.Bool.{false≢true}
use Rattle.std.proofs.lemmas.Bool.Decides.{nat_tests}
use Rattle.std.proofs.lemmas.List.{append_assoc}
use Rattle.std.proofs.lemmas.Option.{slice_get_within}
use Rattle.std.specs.List.{AllByRecursion}
use Rattle.std.specs.Prelude.{Contains, None, Option, IsTrue, slice_get}
use Rattle.d64_image.specs.Images.{Image, sector}
use Rattle.d64_image.specs.declared.place.Place.{Place}
use Rattle.disk_layout.proofs.lemmas.counts.Recount.{slot-get, slot-there}
use Rattle.disk_layout.proofs.lemmas.growth.Commit.{all-left}
use Rattle.disk_layout.proofs.lemmas.layouts.Layouts.{get-contains}
use Rattle.disk_layout.proofs.lemmas.layouts.SidesAt.{side-at}
use Rattle.disk_layout.proofs.lemmas.layouts.Unsound.{closed-file}
use Rattle.disk_layout.proofs.lemmas.lists.Lists.{in-map}
use Rattle.disk_layout.proofs.lemmas.lists.Once.{EachOnce-left, all-in}
use Rattle.disk_layout.specs.Chain.{EachOnce, IsChain, Names, NamesNone}
use Rattle.disk_layout.specs.Directory.{IsDirectoryPlace, directory_start, slots_in, type_byte}
use Rattle.disk_layout.specs.Fault.{HoldsOfClean, IsClosed, IsSideSector, IsSlot, nowhere}
use Rattle.disk_layout.specs.Layout.{File, IsRelFile, IsSound, is_rel, record_length, sides_for}
use Rattle.disk_layout.specs.Side.{side_sector}
use Rattle.disk_layout.specs.declared.faults.Fault.{Fault}
use Rattle.disk_layout.specs.declared.faults.Fault.TheVariants.{BadLink, BadSide}
use Rattle.disk_layout.specs.declared.slot.Slot.{Slot}
use Rattle.damaged_files.specs.reached.Directories.{IsReadSoFar}
use Rattle.damaged_files.specs.reached.Reached.{IsReach}
use Rattle.layout_check.proofs.lemmas.finding.Assembly.{front-visits}
use Rattle.layout_check.proofs.lemmas.finding.SideWalks.{leads-at}
use Rattle.disk_reports.specs.SideLaws.{AreToldOfSides, IsOfSides}
use Rattle.disk_reports.specs.Trails.{AreLinked, AreSides, HasWholeChain, IsIntact, IsReachedBy, IsTrail, LacksSide}
use Rattle.disk_reports.specs.declared.trail.Trail.{Trail}

-- an entry of the directory as far as it can be read
read-slot : (img : Image) (ps : List Place) (entries : List Slot) (end : Option Fault) (s : Slot)
    → IsReadSoFar img ps entries end → Contains entries s → IsSlot img s.sector s
read-slot img ps entries end s read c =
    let (on, low, same, used) = slot-there img ps s (rw (← read.slots) c) in
    let (vs, rest, eq, leads) = front-visits img directory_start read.front read.last s.sector read.leads
    (subst (λ (xs : List Place). Contains xs s.sector) read.places on) in
    let whole : ps ≡ (vs ++ s.sector ∷ []) ++ rest = read.places ∙ eq ∙ sym (append_assoc vs (s.sector ∷ []) rest) in
    record {
      directory = record {
        before = vs;
        visits = (leads, EachOnce-left (vs ++ s.sector ∷ []) rest (subst (λ (xs : List Place). EachOnce xs) whole read.once));
        places = all-left IsDirectoryPlace (vs ++ s.sector ∷ []) rest
            (subst (λ (xs : List Place). AllByRecursion IsDirectoryPlace xs) whole read.on_track);
      };
      slot = get-contains (slots_in s.sector (sector img s.sector)) s.number s
          (slot-get s.sector (sector img s.sector) s.number low ∙ ap Some (sym same));
    }

-- a list that begins as another
begins : (xs ys : List Place) → ((k : ℕ) (x : Place) → slice_get xs k ≡ Some x → slice_get ys k ≡ Some x)
    → ys ≡ xs ++ drop (length xs) ys
begins [] ys h = refl
begins (x ∷ xs) [] h = let clash : None ≡ Some x = h 0 x refl in cc
begins (x ∷ xs) (y ∷ ys) h =
    let one : Some y ≡ Some x = h 0 x refl in
    let same : y ≡ x = cc in
    rw same (ap (λ (zs : List Place). x ∷ zs) (begins xs ys (λ k z e. h (suc k) z e)))

-- the blocks of an entry whose chain is whole
pub whole-chain : (img : Image) (s : Slot) (blocks : List Place) (end : Option Fault) → IsReachedBy img s blocks end
    → HasWholeChain s end → (p : Place) × Names s.bytes 3 p × ((u : ℕ) × IsChain img p blocks u)
whole-chain img s blocks end (u, inl (plain, none, fine, z)) whole = absurd (false≢true (sym plain.0 ∙ whole.0))
whole-chain img s blocks end (u, inr (inl (other, none, empty, broken, z))) whole =
    let clash : Some (BadLink s.sector) ≡ None = sym broken ∙ whole.1 in cc
whole-chain img s blocks end (u, inr (inr (p, names, reach))) whole = ended end reach whole.1
  where
    ended : (e : Option Fault) → IsReach img p blocks e u → e ≡ None
        → (p : Place) × Names s.bytes 3 p × ((u : ℕ) × IsChain img p blocks u)
    ended None r same = (
      p,
      names,
      (
        u,
        record {
          front = r.front;
          last = r.last;
          places = r.places;
          leads = r.leads;
          ends = r.ends;
          once = r.once;
        },
      ),
    )
    ended (Some f) r same = let clash : Some f ≡ None = same in cc

-- each of the side sectors is one that a check knows
known-side : (img : Image) (s : Slot) (blocks : List Place) (end : Option Fault) (first : Place) (sides : List Place)
    (j : ℕ) (p : Place) → IsReachedBy img s blocks end → HasWholeChain s end → Names s.bytes 21 first
    → AreLinked img first (sides_for (length blocks)) sides → slice_get sides j ≡ Some p → IsSideSector img s blocks j p
known-side img s blocks end first sides j p reached whole named are at =
    let (block, names, (u, chain)) = whole-chain img s blocks end reached whole in
    let there : slice_get (are.front ++ are.last ∷ []) j ≡ Some p = ap (λ (xs : List Place). slice_get xs j)
    (sym are.places) ∙ at in
    let (vs, long, leads) = leads-at img 0 first are.front are.last j p are.leads there in
    record {
      first_block = block;
      named_block = names;
      last = u;
      chain = chain;
      wanted = omega (arith, slice_get_within sides j p at, are.few);
      first = first;
      named = named;
      before = vs;
      number = long;
      leads = leads;
    }

-- on a sound disk those that aren't intact aren't exact
inexact : (img : Image) (f : File) (s : Slot) (blocks sides : List Place) (j : ℕ) (p : Place)
    → f.slot ≡ s → IsRelFile img f → blocks ≡ f.blocks → ((k : ℕ) (q : Place) → slice_get sides k ≡ Some q
    → slice_get f.sides k ≡ Some q) → ¬ (IsIntact img s blocks sides j p)
    → sector img p ≢ side_sector j f.blocks f.sides (record_length f.slot)
inexact img f s blocks sides j p slot r same all wrong exact =
    let whole = begins sides f.sides all in
    wrong (record {
      more = drop (length sides) f.sides;
      all = ap length (sym whole) ∙ r.count ∙ ap (λ (bs : List Place). sides_for (length bs)) (sym same);
      exact = rw (same, ← whole, ← slot) exact;
    })

pub rel-closed : (s : Slot) → IsTrue (is_rel s) → 128 ≤ type_byte s
rel-closed s h = grind (arith, nat_tests)

told-wrong : (img : Image) (t : Trail) (p : Place) (j : ℕ) → IsSlot img t.slot.sector t.slot
    → (HasWholeChain t.slot t.end → IsReachedBy img t.slot t.blocks.items t.end)
    → AreSides img t.slot t.blocks.items t.end t.sides.items → slice_get t.sides.items j ≡ Some p
    → ¬ (IsIntact img t.slot t.blocks.items t.sides.items j p)
    → IsOfSides img p × (IsSound img → HoldsOfClean nowhere img (BadSide p))
told-wrong img t p j slot reached sides at wrong = by sides
  where
    s : Slot
    s = t.slot

    none : t.sides.items ≡ [] → ⊥
    none e = let clash : None ≡ Some p = ap (λ (xs : List Place). slice_get xs j) (sym e) ∙ at in cc

    sound : IsTrue (is_rel s) → IsClosed img s.sector s → ((k : ℕ) (q : Place) → slice_get t.sides.items k ≡ Some q
        → IsSideSector img s t.blocks.items k q) → IsSound img → HoldsOfClean nowhere img (BadSide p)
    sound rel closed known (l, h) =
        let (f, c, e, file) = closed-file img l s.sector s h closed in
        let r = file.rel (rw e rel) in
        let all = λ (k : ℕ) (q : Place) (x : slice_get t.sides.items k ≡ Some q). side-at img f t.blocks.items k q r
        (subst (λ (x : Slot). IsSideSector img x t.blocks.items k q) (sym e) (known k q x)) in
        inr (
          l,
          h,
          f,
          c,
          rw e rel,
          j,
          (all j p at).1,
          inexact img f s t.blocks.items t.sides.items j p e r (all j p at).0 (λ k q x. (all k q x).1) wrong,
        )

    by : AreSides img s t.blocks.items t.end t.sides.items
        → IsOfSides img p × (IsSound img → HoldsOfClean nowhere img (BadSide p))
    by (inr (inl (z, e))) = absurd (none e)
    by (inr (inr (z, e))) = absurd (none e)
    by (inl (whole, first)) =
        let closed : IsClosed img s.sector s = record { slot = slot; closed = rel-closed s whole.0 } in
        let known = λ (k : ℕ) (q : Place) (x : slice_get t.sides.items k ≡ Some q). known-side img s t.blocks.items t.end
        first.0 t.sides.items k q (reached whole) whole first.1 first.2 x in
        (inr (s.sector, s, closed, whole.0, t.blocks.items, j, known j p at), sound whole.0 closed known)

pub told-of-sides : AreToldOfSides
told-of-sides img l p links (k, t, there, shows) = by shows
  where
    in-trails : Contains l.trails.items t
    in-trails = get-contains l.trails.items k t there

    slot : IsSlot img t.slot.sector t.slot
    slot = read-slot img l.directory.items links.entries l.end t.slot links.read
        (subst (λ (ss : List Slot). Contains ss t.slot) links.trails.slots
        (in-map (λ (u : Trail). u.slot) l.trails.items t in-trails))

    trail : IsTrail img t
    trail = all-in (IsTrail img) l.trails.items t links.trails.followed in-trails

    by : Contains t.wrong.items p ⊎ LacksSide t.slot p
        → IsOfSides img p × (IsSound img → HoldsOfClean nowhere img (BadSide p))
    by (inl c) =
        let (j, at, wrong) = (trail.wrong p).0 c in
        told-wrong img t p j slot (λ whole. trail.closed (rel-closed t.slot whole.0)) trail.sides at wrong
    by (inr (same, rel, none)) =
        let closed : IsClosed img t.slot.sector t.slot = record { slot = slot; closed = rel-closed t.slot rel } in
        let holds : (s : Slot) × IsClosed img p s × IsTrue (is_rel s) × NamesNone s.bytes 21 =
        (t.slot, subst (λ (q : Place). IsClosed img q t.slot) (sym same) closed, rel, none) in
        (inl holds, λ sound. inl (inl holds))
