-- A directory sector rewritten: slots whose judged bytes stay.
use Rattle.std.proofs.Common.{◌≡◌, ℕ, List, ◌∷◌, ◌++◌, map, slice_index, sym, ◌∙◌, ap, subst}
use Rattle.std.specs.Prelude.{flat_map, nat_eq, ◌||◌}
use Rattle.std.specs.List.{AllByRecursion}
use Rattle.d64_image.specs.Images.{Image}
use Rattle.d64_image.specs.declared.place.Place.{Place}
use Rattle.disk_layout.proofs.lemmas.chains.Chains.{IsChain-frame, SameLinks}
use Rattle.disk_layout.specs.Chain.{EachOnce}
use Rattle.disk_layout.specs.Directory.{directory_start, map_place, type_byte, used_slots}
use Rattle.disk_layout.specs.Layout.{
  File,
  HasChain,
  IsFile,
  IsLayout,
  IsRelFile,
  IsSide,
  Layout,
  file_owns,
  is_rel,
  owners,
  record_length,
}
use Rattle.disk_layout.specs.declared.slot.Slot.{Slot}

-- the bytes that a layout judges are the same: type, first block, first side sector, record length
pub record SameFace (s t : Slot) : Type 0 where
  pub kind : type_byte s ≡ type_byte t
  pub first_track : slice_index s.bytes 3 ≡ slice_index t.bytes 3
  pub first_sector : slice_index s.bytes 4 ≡ slice_index t.bytes 4
  pub side_track : slice_index s.bytes 21 ≡ slice_index t.bytes 21
  pub side_sector : slice_index s.bytes 22 ≡ slice_index t.bytes 22
  pub length : record_length s ≡ record_length t

-- the file with another slot
abbrev pub with_slot : File → Slot → File
with_slot f s = record { slot = s; blocks = f.blocks; last = f.last; sides = f.sides }

chain-slot : (img : Image) (f : File) (s : Slot) → SameFace f.slot s → HasChain img f → HasChain img (with_slot f s)
chain-slot img f s same (p, named, chain) = (
  p,
  (sym same.first_track ∙ named.0, sym same.first_sector ∙ named.1),
  chain,
)

side-slot : (img : Image) (f : File) (s : Slot) (j : ℕ) (p : Place) → SameFace f.slot s → IsSide img f j p
    → IsSide img (with_slot f s) j p
side-slot img f s j p same h = record {
  number = h.number;
  length_byte = h.length_byte ∙ same.length;
  sides = h.sides;
  link = h.link;
  pointers = h.pointers;
}

rel-slot : (img : Image) (f : File) (s : Slot) → SameFace f.slot s → IsRelFile img f → IsRelFile img (with_slot f s)
rel-slot img f s same r = record {
  chain = chain-slot img f s same r.chain;
  length_low = rw (← same.length) r.length_low;
  length_high = rw (← same.length) r.length_high;
  count = r.count;
  first_side = λ q e. (sym same.side_track ∙ (r.first_side q e).0, sym same.side_sector ∙ (r.first_side q e).1);
  sides = λ j q e. side-slot img f s j q same (r.sides j q e);
}

same-rel : (s t : Slot) → SameFace s t → is_rel s ≡ is_rel t
same-rel s t same = ap (λ n. nat_eq n 132 || nat_eq n 196) same.kind

pub IsFile-slot : (img : Image) (f : File) (s : Slot) → SameFace f.slot s → IsFile img f → IsFile img (with_slot f s)
IsFile-slot img f s same h = record {
  closed = rw (← same.kind) h.closed;
  rel = λ t. rel-slot img f s same (h.rel (same-rel f.slot s same ∙ t));
  empty = λ t z. h.empty (same-rel f.slot s same ∙ t) (same.first_track ∙ z);
  plain = λ t n. let p = h.plain (same-rel f.slot s same ∙ t) (λ z. n (sym same.first_track ∙ z)) in
      (chain-slot img f s same p.0, p.1);
}

-- a directory rewritten with the same links, whose slots are those of these files
pub IsLayout-directory : (a b : Image) (l : Layout) (fs : List File) → IsLayout a l → SameLinks a b l.directory
    → map (λ f. f.slot) fs ≡ used_slots b l.directory → AllByRecursion (IsFile b) fs
    → flat_map file_owns fs ≡ flat_map file_owns l.files → IsLayout b (record { directory = l.directory; files = fs })
unfolding owners
IsLayout-directory a b l fs h links slots files same = record {
  directory = record {
    last = h.directory.last;
    chain = IsChain-frame a b directory_start l.directory h.directory.last links h.directory.chain;
    on_track = h.directory.on_track;
    not_map = h.directory.not_map;
    slots = slots;
  };
  files = files;
  once = let P : List Place → Type 0 = λ ps. EachOnce (map_place ∷ (l.directory ++ ps)) in subst P (sym same) h.once;
}
