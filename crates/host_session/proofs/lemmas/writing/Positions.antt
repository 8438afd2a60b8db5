-- A file is opened by its name, and the channel is moved to a record that is there.
use Rattle.std.proofs.Common.{◌≡◌, ◌≤◌, ◌<◌, ◌*◌, ◌/◌, ◌%◌, ◌⊎◌, ℕ, inl, inr, true, Option, None, Some, List, [], ◌∷◌}
use Rattle.std.proofs.Common.{length, refl, ◌∙◌, ap, subst, arith, mul-le-mul_right}
use Rattle.std.specs.Prelude.{IsSome, if◌then◌else◌, nat_eq, slice_index}
use Rattle.std.proofs.lemmas.Bool.{false≢true}
use Rattle.std.proofs.lemmas.List.{length-append}
use Rattle.d64_image.specs.History.{History}
use Rattle.d64_image.specs.Images.{Image, IsImage}
use Rattle.d64_image.proofs.Images.{is_sector}
use Rattle.disk_layout.proofs.lemmas.layouts.Layouts.{IsLayout-one, get-contains}
use Rattle.disk_layout.proofs.lemmas.layouts.Uniques.{IsFirst-one}
use Rattle.disk_layout.proofs.lemmas.lists.Count.{places-few}
use Rattle.disk_layout.proofs.lemmas.lists.Once.{all-in}
use Rattle.disk_layout.proofs.lemmas.records.Joined.{record_count-fit}
use Rattle.disk_layout.specs.Clean.{IsClean}
use Rattle.disk_layout.specs.Layout.{File, IsFile, IsLayout, IsRelFile, Layout, record_length}
use Rattle.disk_layout.specs.Rest.{IsFirst}
use Rattle.drive_channels.specs.Files.{HasFile, IsNamedFile, IsRelAt}
use Rattle.drive_channels.specs.Spelling.{IsInitialize, IsName, IsValidate, wanted_position, wanted_record}
use Rattle.drive_channels.specs.State.{Channel, View}
use Rattle.drive_channels.specs.Tables.{Commands, Moves, MovesTo, Opens, OpensAt, OpensFile, channel_without}
use Rattle.rel_records.specs.growth.Growth.{blocks_for, records_had}
use Rattle.rel_records.proofs.lemmas.growth.Grows.{count-is}
use Rattle.host_session.specs.shop.Putting.{IsInReach, IsPlaced}
use Rattle.host_session.specs.shop.Selecting.{channel_at, place_text}

-- no channel but 2 was open: none is once it is closed
pub without-two : (o : Option Channel) → ((c : Channel) → o ≡ Some c → c.number ≡ 2) → channel_without 2 o ≡ None
without-two None free = refl
without-two (Some c) free = ap (λ (k : ℕ). if nat_eq k 2 then None else Some c) (free c refl)

-- a file that is there is opened by its name
opened-file : (x y : View) (name : List ℕ) (l : Layout) (n : ℕ) (f : File) → IsLayout x.image l → IsFirst l name n f
    → OpensFile x 2 (record { name = name; length = None }) y → (y.image ≡ x.image)
    × (y.channel ≡ Some (channel_at n 1)) × (y.checked ≡ x.checked)
opened-file x y name l n f is first row = past row
  where
    has : HasFile x.image name
    has = (n, f, (l, is, first))

    last : (k : ℕ) (g : File) → IsNamedFile x.image name k g → y.image ≡ x.image → OpensAt x 2 k y → (y.image ≡ x.image)
        × (y.channel ≡ Some (channel_at n 1)) × (y.checked ≡ x.checked)
    last k g named same e =
        let one : k ≡ n =
        (IsFirst-one l name k n g f (subst (λ (m : Layout). IsFirst m name k g)
        (IsLayout-one x.image named.0 l named.1 is) named.2) first).0 in (
          same,
          ap (λ (v : View). v.channel) e ∙ ap (λ (j : ℕ). Some (channel_at j 1)) one,
          ap (λ (v : View). v.checked)
              e,
        )

    past : OpensFile x 2 (record { name = name; length = None }) y → (y.image ≡ x.image)
        × (y.channel ≡ Some (channel_at n 1)) × (y.checked ≡ x.checked)
    past (inl (bad, _)) = absurd (bad.1 has)
    past (inr (_, inl (bad, _))) = absurd bad
    past (inr (_, inr (_, inl (bad, _)))) = absurd (bad.0 has)
    past (inr (_, inr (_, inr (_, inl (bad, _))))) = absurd (bad has)
    past (inr (_, inr (_, inr (_, inr (_, (k, g, named, same, e)))))) = last k g named same e

pub opened : (x y : View) (name : List ℕ) (l : Layout) (n : ℕ) (f : File) → x.channel ≡ None → IsClean x.image
    → IsName name → IsLayout x.image l → IsFirst l name n f
    → Opens x 2 name y → (y.image ≡ x.image) × (y.channel ≡ Some (channel_at n 1)) × (y.checked ≡ true)
opened x y name l n f free clean h is first row = past row
  where
    taken : (2 < 2) ⊎ ((14 < 2) ⊎ IsSome x.channel) → ⊥
    taken (inl lt) = omega (arith, lt)
    taken (inr (inl lt)) = omega (arith, lt)
    taken (inr (inr s)) = false≢true (subst (λ (o : Option Channel). IsSome o) free s)

    past : Opens x 2 name y → (y.image ≡ x.image) × (y.channel ≡ Some (channel_at n 1)) × (y.checked ≡ true)
    past (inl (bad, _)) = absurd (taken bad)
    past (inr (_, inl (bad, _))) = absurd (bad (record { name = name; length = None }, (h, refl)))
    past (inr (_, inr (_, inl (bad, _)))) = absurd (bad.1 clean)
    past (inr (_, inr (_, inr (_, to)))) = opened-file (record x { checked = true }) y name l n f is first
        (to (record { name = name; length = None }) (h, refl))

-- P, where the record is there
byte-of : (text other : List ℕ) → text ≡ other → slice_index text 0 ≡ slice_index other 0
byte-of text other e = ap (λ (xs : List ℕ). slice_index xs 0) e

not-validate : (r : ℕ) → ¬ (IsValidate (place_text r))
not-validate r (inl e) = omega (arith, byte-of _ _ e)
not-validate r (inr (inl e)) = omega (arith, byte-of _ _ e)
not-validate r (inr (inr (inl e))) = omega (arith, byte-of _ _ e)
not-validate r (inr (inr (inr e))) = omega (arith, byte-of _ _ e)

pub place-silent : (text : List ℕ) (r : ℕ) → text ≡ place_text r → ¬ (IsValidate text)
place-silent text r e v = not-validate r (subst IsValidate e v)

not-initialize : (r : ℕ) → ¬ (IsInitialize (place_text r))
not-initialize r (inl e) = omega (arith, byte-of _ _ e)
not-initialize r (inr (inl e)) = omega (arith, byte-of _ _ e)
not-initialize r (inr (inr (inl e))) = omega (arith, byte-of _ _ e)
not-initialize r (inr (inr (inr e))) = omega (arith, byte-of _ _ e)

wanted-is : (r : ℕ) → 1 ≤ r → wanted_record (place_text r) ≡ r
wanted-is r low = omega (arith, low)

pub moved : (x y : View) (l : Layout) (n r k : ℕ) (f : File) → x.channel ≡ Some (channel_at n k) → IsRelAt x.image l n f
    → 1 ≤ r → 1 ≤ record_length f.slot → blocks_for (record_length f.slot) r ≤ 720
    → Commands x (place_text r) y → (y.image ≡ x.image) × (y.channel ≡ Some (channel_at n r)) × (y.checked ≡ x.checked)
moved x y l n r k f on rel low some fits row = past row
  where
    to : MovesTo x (wanted_record (place_text r)) (wanted_position (place_text r)) y (channel_at n k) l f
        → (y.image ≡ x.image) × (y.channel ≡ Some (channel_at n r)) × (y.checked ≡ x.checked)
    to (inl (bad, _)) = absurd (omega (arith, bad, some))
    to (inr (_, inl (bad, _))) =
        absurd (omega (arith, subst (λ (j : ℕ). 720 < blocks_for (record_length f.slot) j) (wanted-is r low) bad, fits))
    to (inr (_, inr (_, e))) = (
      ap (λ (v : View). v.image) e,
      ap (λ (v : View). v.channel) e
          ∙ ap (λ (j : ℕ). Some (channel_at n j)) (wanted-is r low),
      ap (λ (v : View). v.checked) e,
    )

    moves : Moves x (place_text r) y → (y.image ≡ x.image) × (y.channel ≡ Some (channel_at n r))
        × (y.checked ≡ x.checked)
    moves (inl (bad, _)) = absurd (bad (inr refl))
    moves (inr (_, inl (bad, _))) = absurd (bad (channel_at n k, (on, refl)))
    moves (inr (_, inr (_, go))) = to (go (channel_at n k) l f on rel)

    past : Commands x (place_text r) y → (y.image ≡ x.image) × (y.channel ≡ Some (channel_at n r))
        × (y.checked ≡ x.checked)
    past (inl (bad, _)) = absurd (omega (arith, ap length bad))
    past (inr (_, inl (bad, _))) = absurd (not-validate r bad)
    past (inr (_, inr (_, inl (bad, _)))) = absurd (not-initialize r bad)
    past (inr (_, inr (_, inr (_, inl (_, m))))) = moves m
    past (inr (_, inr (_, inr (_, inr (bad, _))))) = absurd (bad (2 ∷ r % 256 ∷ r / 256 ∷ 1 ∷ [], refl))

-- the file of a record that is there, and how many blocks it has
pub placed-rel : (img : Image) (name : List ℕ) (r : ℕ) (l : Layout) (n : ℕ) (f : File) → IsPlaced img name r l n f
    → IsRelAt img l n f
placed-rel img name r l n f p = record { layout = p.layout; there = p.first.file; rel = p.first.named.0 }

pub placed-count : (img : Image) (name : List ℕ) (r : ℕ) (l : Layout) (n : ℕ) (f : File) → IsPlaced img name r l n f
    → r ≤ records_had f
placed-count img name r l n f p = omega (arith, p.there, count-is img f)

pub rel-file : (img : Image) (l : Layout) (n : ℕ) (f : File) → IsRelAt img l n f → IsRelFile img f
rel-file img l n f h = let file : IsFile img f = all-in (IsFile img) l.files f h.layout.files
    (get-contains l.files n f h.there) in file.rel h.rel

pub placed-fits : (img : Image) (name : List ℕ) (r : ℕ) (l : Layout) (n : ℕ) (f : File) → IsImage img
    → IsPlaced img name r l n f
    → (1 ≤ record_length f.slot) × (blocks_for (record_length f.slot) r ≤ 720)
placed-fits img name r l n f w p =
    let rel = rel-file img l n f (placed-rel img name r l n f p) in
    let chain = rel.chain.2 in
    let some : 0 < length f.blocks = omega (arith, ap length chain.places, length-append chain.front (chain.last ∷ []))
    in
    let few : length f.blocks ≤ 683 = places-few f.blocks chain.once in
    let small : f.last ≤ 255 = omega (arith, chain.ends.1, (is_sector img chain.last w).small 1) in
    let all : records_had f * record_length f.slot ≤ 254 * length f.blocks =
    record_count-fit (length f.blocks) f.last (record_length f.slot) (omega (arith, rel.length_low)) some small in
    let up : r * record_length f.slot ≤ records_had f * record_length f.slot =
    mul-le-mul_right (record_length f.slot) (placed-count img name r l n f p) in
    (rel.length_low, omega (arith, few, all, up))

-- so such a record is in reach
pub placed-reach : {D : Type 0} {name : List ℕ} {r : ℕ} {l : Layout} {n : ℕ} {f : File} (S : History D) (d : D)
    → IsPlaced (S.image d) name r l n f → IsInReach (S.image d) name r l n f
placed-reach {D} {name} {r} {l} {n} {f} S d p =
    let fits = placed-fits (S.image d) name r l n f (S.whole d) p in
    record { layout = p.layout; first = p.first; low = p.low; some = fits.0; few = fits.1 }

pub reach-rel : (img : Image) (name : List ℕ) (r : ℕ) (l : Layout) (n : ℕ) (f : File) → IsInReach img name r l n f
    → IsRelAt img l n f
reach-rel img name r l n f p = record { layout = p.layout; there = p.first.file; rel = p.first.named.0 }
