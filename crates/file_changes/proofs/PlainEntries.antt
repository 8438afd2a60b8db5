-- The entry of a new file that isn't relative, as it stands in its slot, and the file with it.
use Rattle.std.proofs.Common.{◌≡◌, ◌≢◌, ◌≤◌, ◌<◌, ◌+◌, ◌*◌, ◌-◌, ℕ, zero, suc, inl, false, true, List, [], ◌∷◌}
use Rattle.std.proofs.Common.{◌++◌, IsTrue, ap, arith, get_or, length, refl, replicate, slice_index, subst, sym, ◌∙◌}
use Rattle.std.proofs.lemmas.List.{get_or-append_right, get_or_append_left}
use Rattle.std.specs.Prelude.{slice_range}
use Rattle.byteorder.specs.Endian.{little_bytes, little_number}
use Rattle.d64_image.proofs.Places.{track_from_1}
use Rattle.d64_image.specs.Images.{Image, Sector}
use Rattle.d64_image.specs.declared.place.Place.{Place}
use Rattle.disk_layout.specs.Chain.{IsChain, Names}
use Rattle.disk_layout.specs.Clean.{IsExactFile}
use Rattle.disk_layout.specs.Directory.{slot_in, type_byte}
use Rattle.disk_layout.specs.Layout.{File, IsClosedType, IsFile, count_field, is_rel, is_rel_type}
use Rattle.disk_layout.specs.Rest.{slot_name}
use Rattle.disk_layout.specs.Side.{place_bytes}
use Rattle.disk_layout.specs.declared.slot.Slot.{Slot}
use Rattle.file_changes.specs.Puts.{plain_entry, type_number}
use Rattle.file_changes.specs.declared.file_type.FileType.{FileType}
use Rattle.file_changes.specs.declared.file_type.FileType.TheVariants.{Prg, Seq, Usr}
use Rattle.rel_records.proofs.lemmas.directory.AnyEntry.{entry-byte, entry-counted, entry-named, name-long}
use Rattle.rel_records.specs.creation.NewFile.{IsEntered}

-- the slot of a file of this type and name, whose first sector this is, and which has so many
pub record IsPlainEntry (s : Slot) (kind : FileType) (name : List ℕ) (first : Place) (blocks : ℕ) : Type 0 where
  pub kind_is : type_byte s ≡ type_number kind
  pub first_is : Names s.bytes 3 first
  pub count : count_field s ≡ blocks
  pub named : slice_range s.bytes 5 21 ≡ slot_name name

closed-type : (kind : FileType) → IsClosedType (type_number kind)
closed-type Seq = inl (omega arith, omega arith)
closed-type Prg = inl (omega arith, omega arith)
closed-type Usr = inl (omega arith, omega arith)

plain-type : (kind : FileType) → is_rel_type (type_number kind) ≡ false
plain-type Seq = refl
plain-type Prg = refl
plain-type Usr = refl

type-used : (kind : FileType) → type_number kind ≢ 0
type-used Seq z = cc
type-used Prg z = cc
type-used Usr z = cc

-- what follows the name
abbrev tail_of : ℕ → List ℕ
tail_of blocks = replicate 9 0 ++ little_bytes 2 blocks

pub plain-used : (kind : FileType) (name : List ℕ) (first : Place) (blocks : ℕ)
    → slice_index (plain_entry kind name first blocks) 0 ≢ 0
unfolding plain_entry
plain-used kind name first blocks = type-used kind

module _ (old new : Sector) (n : ℕ) (kind : FileType) (name : List ℕ) (first : Place) (blocks : ℕ) (low : n < 8)
    (few : length name ≤ 16) (small : blocks < 65536)
    (h : IsEntered old new n (plain_entry kind name first blocks)) where
  name-byte : (k : ℕ) → k < 16
      → slice_index (plain_entry kind name first blocks) (3 + k) ≡ slice_index (slot_name name) k
  unfolding plain_entry
  name-byte k lt =
      let long = name-long name few in
      let at : 3 + k - 3 ≡ k = omega arith in
      get_or-append_right (type_number kind ∷ place_bytes first) (slot_name name ++ tail_of blocks) 3 (3 + k) 0 refl
      (omega arith)
      ∙ ap (λ m. get_or (slot_name name ++ tail_of blocks) m 0) at
      ∙ get_or_append_left (slot_name name) (tail_of blocks) 0 k (omega (arith, lt, long))

  past-name : (k : ℕ) → get_or (slot_name name ++ tail_of blocks) (16 + k) 0 ≡ get_or (tail_of blocks) k 0
  past-name k =
      let long = name-long name few in
      let at : 16 + k - 16 ≡ k = omega arith in
      get_or-append_right (slot_name name) (tail_of blocks) 16 (16 + k) 0 long (omega arith)
      ∙ ap (λ m. get_or (tail_of blocks) m 0) at

  counted : slice_range (slice_range new (32 * n) (32 * n + 32)) 30 32 ≡ little_bytes 2 blocks
  unfolding plain_entry
  counted = entry-counted old new n (plain_entry kind name first blocks) low h (little_bytes 2 blocks) refl byte
    where
      byte : (k : ℕ) → k < 2
          → slice_index (plain_entry kind name first blocks) (28 + k) ≡ get_or (little_bytes 2 blocks) k 0
      byte zero lt = past-name 9
      byte (suc zero) lt = past-name 10
      byte (suc (suc k)) lt = absurd (omega (arith, lt))

  number : little_number 2 (little_bytes 2 blocks) ≡ blocks
  number = omega (arith, small)

  pub is-plain : (p : Place) → IsPlainEntry (slot_in p new n) kind name first blocks
  unfolding plain_entry
  is-plain p = record {
    kind_is = entry-byte old new n (plain_entry kind name first blocks) low h 0 (omega arith);
    first_is = (
      entry-byte old new n (plain_entry kind name first blocks) low h 1 (omega arith),
      entry-byte old new n (plain_entry kind name first blocks) low h 2 (omega arith),
    );
    count = ap (little_number 2) counted ∙ number;
    named = entry-named old new n (plain_entry kind name first blocks) low h name few name-byte;
  }

-- the file of that slot with this chain
abbrev pub plain_file : Slot → List Place → ℕ → File
plain_file s ps u = record { slot = s; blocks = ps; last = u; sides = [] }

module _ (img : Image) (s : Slot) (kind : FileType) (name : List ℕ) (first : Place) (blocks : ℕ) (ps : List Place) (u : ℕ)
    (entry : IsPlainEntry s kind name first blocks) where
  plain-here : is_rel s ≡ false
  plain-here = ap is_rel_type entry.kind_is ∙ plain-type kind

  differ : IsTrue (is_rel s) → ⊥
  differ t = let e : true ≡ false = sym t ∙ plain-here in cc

  pub plain-is_file : IsChain img first ps u → IsFile img (plain_file s ps u)
  plain-is_file chain = record {
    closed = let P : ℕ → Type 0 = IsClosedType in subst P (sym entry.kind_is) (closed-type kind);
    rel = λ t. absurd (differ t);
    empty = λ t z. absurd (omega (arith, z, entry.first_is.0, track_from_1 first));
    plain = λ t some. ((first, entry.first_is, chain), refl);
  }

  pub plain-exact : IsTrue (is_rel s) → IsExactFile img (plain_file s ps u)
  plain-exact t = absurd (differ t)
