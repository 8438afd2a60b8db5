-- The definitions at work on small values: what each says is computed here, or shown in a few lines.
use Rattle.std.proofs.Common.{List, [], ap, arith, inl, inr, length, lit<, refl, replicate, sym}
use Rattle.std.proofs.Common.{ℕ, ◌++◌, ◌∙◌, ◌∷◌, ◌≡◌, ◌≢◌}
use Rattle.std.proofs.lemmas.List.{get_or-replicate, length-replicate}
use Rattle.std.specs.Prelude.{Contains, Some, filter}
use Rattle.d64_image.proofs.Images.{length-put, sector-put_other, sector-put_same}
use Rattle.d64_image.proofs.Places.{index_below, place_at-none}
use Rattle.d64_image.specs.Images.{Image, put, sector}
use Rattle.d64_image.specs.Places.{index_of}
use Rattle.d64_image.specs.declared.place.Place.{Place}
use Rattle.disk_layout.proofs.lemmas.chains.Names.{named-is, named-none}
use Rattle.disk_layout.proofs.lemmas.layouts.Twice.{told-unsound}
use Rattle.disk_layout.proofs.lemmas.lists.Once.{Contains-cases, Contains-here, Contains-nil}
use Rattle.disk_layout.specs.Chain.{IsChain, Names, NamesNone, byte, named_at}
use Rattle.disk_layout.specs.Directory.{directory_start, is_used, map_place, slots_in, used_slots}
use Rattle.disk_layout.specs.Fault.{Holds, HoldsOfChain, nowhere}
use Rattle.disk_layout.specs.Layout.{IsSound, owners}
use Rattle.disk_layout.specs.declared.faults.Fault.TheVariants.{BadLink, Loop}

pub zero_sector : List ℕ
zero_sector = replicate 256 0

-- an image of zeros, kept shut, so that nothing computes over its 683 sectors
pub zero_image : Image
zero_image = replicate 683 zero_sector

pub zero-long : length zero_image ≡ 683
unfolding zero_image
zero-long = length-replicate 683 zero_sector

zeros : (p : Place) → sector zero_image p ≡ zero_sector
unfolding zero_image sector
zeros p = get_or-replicate 683 (index_of p) zero_sector [] (index_below p)

no_slots : (p : Place) → filter is_used (slots_in p zero_sector ++ []) ≡ []
unfolding zero_sector slots_in
no_slots p = refl

none_used : used_slots zero_image (directory_start ∷ []) ≡ []
unfolding used_slots
none_used = let e : sector zero_image directory_start ≡ zero_sector = zeros directory_start in
    rw e (no_slots directory_start)

zero_bytes : (p : Place) → (byte zero_image p 0 ≡ 0) × (byte zero_image p 1 ≡ 0)
unfolding zero_sector
zero_bytes p = let e : sector zero_image p ≡ zero_sector = zeros p in rw e (refl, refl)

apart : directory_start ≢ map_place
apart e = let s : ◌≡◌ {A = ℕ} 1 0 = ap (λ (p : Place). p.sector) e in omega (arith, s)

pub zero-sound : IsSound zero_image
unfolding owners
zero-sound = (
  record { directory = directory_start ∷ []; files = [] },
  record {
    directory = record {
      last = 0;
      chain = record {
        front = [];
        last = directory_start;
        places = refl;
        leads = refl;
        ends = zero_bytes directory_start;
        once = (Contains-nil directory_start, tt);
      };
      on_track = (refl, tt);
      not_map = other;
      slots = sym none_used;
    };
    files = tt;
    once = (other, (Contains-nil directory_start, tt));
  },
)
  where
    other : ¬ (Contains (directory_start ∷ []) map_place)
    other c = elim (Contains-cases map_place directory_start [] c) [
      | inl e ↦ apart e
      | inr d ↦ Contains-nil map_place d
    ]

-- 17/0, 17/1 and 17/2
abbrev pub block_0 : Place
block_0 = record { track = 17; sector = 0; on_disk = lit< tt }

abbrev pub block_1 : Place
block_1 = record { track = 17; sector = 1; on_disk = lit< tt }

abbrev pub block_2 : Place
block_2 = record { track = 17; sector = 2; on_disk = lit< tt }

-- two bytes name a place where the disk has it: track 17 has sectors 0 to 20, and track 36 none
pub names-17_1 : Names (17 ∷ 1 ∷ []) 0 block_1
names-17_1 = (refl, refl)

pub named-17_1 : named_at (17 ∷ 1 ∷ []) 0 ≡ Some block_1
named-17_1 = named-is (17 ∷ 1 ∷ []) 0 block_1 names-17_1

pub none-17_21 : NamesNone (17 ∷ 21 ∷ []) 0
none-17_21 = named-none (17 ∷ 21 ∷ []) 0 (place_at-none 17 21 (omega arith))

pub none-36_0 : NamesNone (36 ∷ 0 ∷ []) 0
none-36_0 = named-none (36 ∷ 0 ∷ []) 0 (place_at-none 36 0 (omega arith))

-- a chain of two sectors: 17/0 links to 17/1, which ends with index 5
abbrev two_linked : Image
two_linked = put (put zero_image block_0 (17 ∷ 1 ∷ [])) block_1 (0 ∷ 5 ∷ [])

apart_0_1 : block_0 ≢ block_1
apart_0_1 e = let s : ◌≡◌ {A = ℕ} 0 1 = ap (λ (p : Place). p.sector) e in omega (arith, s)

apart_1_0 : block_1 ≢ block_0
apart_1_0 e = apart_0_1 (sym e)

at_0 : sector two_linked block_0 ≡ 17 ∷ 1 ∷ []
at_0 = sector-put_other (put zero_image block_0 (17 ∷ 1 ∷ [])) block_1 block_0 (0 ∷ 5 ∷ []) apart_1_0
    ∙ sector-put_same zero_image block_0 (17 ∷ 1 ∷ []) zero-long

at_1 : sector two_linked block_1 ≡ 0 ∷ 5 ∷ []
at_1 = sector-put_same (put zero_image block_0 (17 ∷ 1 ∷ [])) block_1 (0 ∷ 5 ∷ [])
    (length-put zero_image block_0 (17 ∷ 1 ∷ []) ∙ zero-long)

pub chain_of_two : IsChain two_linked block_0 (block_0 ∷ block_1 ∷ []) 5
chain_of_two = record {
  front = block_0 ∷ [];
  last = block_1;
  places = refl;
  leads = (block_1, refl, rw at_0 (refl, refl), refl);
  ends = rw at_1 (refl, refl);
  once = (
    λ c. elim (Contains-cases block_0 block_1 [] c) [ inl e ↦ apart_1_0 e | inr d ↦ Contains-nil block_0 d ],
    (Contains-nil block_1, tt),
  );
}

-- a sector that links to itself is told as Loop there
abbrev self_linked : Image
self_linked = put zero_image block_0 (17 ∷ 0 ∷ [])

at_self : sector self_linked block_0 ≡ 17 ∷ 0 ∷ []
at_self = sector-put_same zero_image block_0 (17 ∷ 0 ∷ []) zero-long

pub loop_of_one : HoldsOfChain nowhere self_linked block_0 (Loop block_0)
loop_of_one = (
  block_0 ∷ [],
  (
    (block_0, refl, rw at_self (refl, refl), refl),
    (Contains-nil block_0, tt),
    Contains-here block_0 [],
  ),
)

-- a link to track 36 is told as BadLink at the sector that has it
abbrev linked_off : Image
linked_off = put zero_image block_0 (36 ∷ 0 ∷ [])

at_off : sector linked_off block_0 ≡ 36 ∷ 0 ∷ []
at_off = sector-put_same zero_image block_0 (36 ∷ 0 ∷ []) zero-long

not_zero : (n : ℕ) → n ≡ 36 → n ≢ 0
not_zero n e z = omega (arith, e, z)

pub bad_link_off : HoldsOfChain nowhere linked_off block_0 (BadLink block_0)
bad_link_off = ([], (refl, (Contains-nil block_0, tt)), rw at_off (not_zero 36 refl, none-36_0))

-- a directory whose first sector links to itself: the fault holds, so the image is not sound
abbrev directory_looped : Image
directory_looped = put zero_image directory_start (18 ∷ 1 ∷ [])

at_directory : sector directory_looped directory_start ≡ 18 ∷ 1 ∷ []
at_directory = sector-put_same zero_image directory_start (18 ∷ 1 ∷ []) zero-long

pub loop_of_directory : Holds nowhere directory_looped (Loop directory_start)
loop_of_directory = inl (
  directory_start ∷ [],
  (
    (directory_start, refl, rw at_directory (refl, refl), refl),
    (Contains-nil directory_start, tt),
    Contains-here directory_start [],
  ),
  ((refl, apart), tt),
)

pub directory_looped-unsound : ¬ (IsSound directory_looped)
directory_looped-unsound = told-unsound directory_looped (Loop directory_start) loop_of_directory
