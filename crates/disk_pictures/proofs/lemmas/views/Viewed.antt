-- A sector and the free blocks, as they are printed part by part.
use Rattle.std.proofs.Common.{◌≡◌, ◌<◌, ◌+◌, ◌*◌, ◌%◌, ℕ, Bool, true, false, List, [], ◌∷◌, ◌++◌, take, get_or, length, ap}
use Rattle.std.proofs.Common.{subst, sym, ◌∙◌, inl, inr, arith}
use Rattle.std.specs.Prelude.{Option, codes, flat_map, map, slice_get, slice_index, slice_range, if◌then◌else◌, nat_lt}
use Rattle.std.specs.Char.{encode_utf8}
use Rattle.std.specs.Io.KnownBytes.{Appends, Keeps}
use Rattle.std.proofs.KnownBytes.{Appends-kept, Appends-trans}
use Rattle.std.proofs.lemmas.Grind.{flat_map-append}
use Rattle.std.proofs.lemmas.List.{append-nil, take_more}
use Rattle.d64_image.specs.Images.{Image, Sector, sector}
use Rattle.d64_image.specs.Memory.{sectors_in}
use Rattle.d64_image.specs.declared.place.Place.{Place}
use Rattle.disk_layout.specs.Directory.{map_place}
use Rattle.disk_layout.specs.Fault.{HoldsOfDirectory, nowhere}
use Rattle.disk_layout.specs.Layout.{Layout}
use Rattle.disk_layout.specs.Map.{map_count}
use Rattle.disk_layout.specs.View.{blocks_free}
use Rattle.disk_layout.specs.declared.faults.Fault.{Fault}
use Rattle.line_text.specs.petscii.Characters.{hex_digit}
use Rattle.disk_pictures.proofs.lemmas.views.Marks.{own-byte}
use Rattle.disk_pictures.proofs.Printing.{three}
use Rattle.disk_pictures.specs.Drawings.{IsDrawn, owner_of}
use Rattle.disk_pictures.specs.Maps.{is_wide}
use Rattle.disk_pictures.specs.Texts.{each_below}
use Rattle.disk_pictures.specs.Views.{IsSectorPrinted, byte_sign, bytes_line, bytes_text, code_text, free_line, free_text}
use Rattle.disk_pictures.specs.Views.{free_total, line_if, link_text, owner_text, sector_text, unknown_owner}
use Rattle.disk_pictures.specs.declared.owners.Owner.TheVariants as owner

-- one byte's text more
pub text-next : (line : ℕ → List ℕ) (xs : List ℕ) (i : ℕ) → i < length xs
    → flat_map line (take i xs) ++ line (get_or xs i 0) ≡ flat_map line (take (i + 1) xs)
text-next line xs i low =
    sym (ap (flat_map line) (take_more xs i 0 low)
    ∙ flat_map-append line (take i xs) (get_or xs i 0 ∷ [])
    ∙ ap (λ (text : List ℕ). flat_map line (take i xs) ++ text) (append-nil (line (get_or xs i 0))))

-- a digit is ASCII
digit-small : (n : ℕ) → n < 16 → hex_digit n < 128
digit-small n low = by (nat_lt n 10)
  where
    by : (b : Bool) → (if b then 48 + n else 87 + n) < 128
    by true = omega (arith, low)
    by false = omega (arith, low)

-- a line of bytes, as it is written
pub line-written : (n digit : ℕ) (bytes : List ℕ) → digit ≡ hex_digit (n % 16)
    → encode_utf8 digit ++ (codes "0 " ++ (flat_map code_text bytes ++ (codes "  " ++ (flat_map byte_sign bytes
    ++ codes "\n")))) ≡ bytes_line n bytes
unfolding bytes_line
line-written n digit bytes is =
    ap (λ (first : List ℕ). first ++ (codes "0 " ++ (flat_map code_text bytes ++ (codes "  " ++ (flat_map byte_sign bytes
    ++ codes "\n"))))) (own-byte digit (hex_digit (n % 16)) is (digit-small (n % 16) (omega arith)))

-- all lines of a sector
pub all-bytes : (a b : Option (List ℕ)) (bytes : Sector) (n : ℕ) → n ≡ 16
    → Appends a b (each_below n (λ k. bytes_line k (slice_range bytes (16 * k) (16 * k + 16))))
    → Appends a b (bytes_text bytes)
unfolding bytes_text
all-bytes a b bytes n all lines =
    subst (λ (m : ℕ). Appends a b (each_below m (λ k. bytes_line k (slice_range bytes (16 * k) (16 * k + 16))))) all lines

-- the lines of the tracks, and their sum
pub free-written : (a b c d : Option (List ℕ)) (map : Sector) (n : ℕ) → n ≡ blocks_free map
    → Appends a b (each_below 35 (λ b. free_line (b + 1) (map_count map (b + 1)))) → Appends b c (free_total n)
    → Keeps c d → Appends a d (free_text map)
unfolding free_text
free-written a b c d map n is lines total kept =
    Appends-kept a c d _ (Appends-trans a b c _ _ lines (subst (λ (m : ℕ). Appends b c (free_total m)) is total)) kept

-- the bytes, the owner and the link
pub sector-written : (a b c d : Option (List ℕ)) (bytes : Sector) (owned : List ℕ) → Appends a b (bytes_text bytes)
    → Appends b c owned
    → Appends c d (link_text (slice_index bytes 0) (slice_index bytes 1)) → Appends a d (sector_text bytes owned)
unfolding sector_text
sector-written a b c d bytes owned lines owner link = three a b c d _ _ _ lines owner link

-- the sector of an image with its owner in what is drawn
pub is-owned : {W : Type 0} (contents : W → Option (List ℕ)) (image : List ℕ) (p : Place) (old new : W) (img : Image)
    (bytes map : Sector) (l : Layout)
    → length image ≡ 174848 → img ≡ sectors_in image → bytes ≡ sector img p → map ≡ sector img map_place
    → IsDrawn img l → Appends (contents old) (contents new) (sector_text bytes (owner_text map l p (owner_of l p)))
    → IsSectorPrinted contents image p old new
is-owned contents image p old new img bytes map l size is here at drawn printed = record {
  size = size;
  printed = inl (
    l,
    subst (λ i. IsDrawn i l) is drawn,
    subst (λ i. Appends (contents old) (contents new) (sector_text (sector i p) (owner_text (sector i map_place) l p
        (owner_of l p)))) is
        (rw (← here, ← at) printed),
  );
}

-- and of one whose directory can't be read
pub is-unowned : {W : Type 0} (contents : W → Option (List ℕ)) (image : List ℕ) (p : Place) (old new : W) (img : Image)
    (bytes : Sector) (fault : Fault)
    → length image ≡ 174848 → img ≡ sectors_in image → bytes ≡ sector img p → HoldsOfDirectory nowhere img fault
    → Appends (contents old) (contents new) (sector_text bytes (unknown_owner fault))
    → IsSectorPrinted contents image p old new
is-unowned contents image p old new img bytes fault size is here holds printed = record {
  size = size;
  printed = inr (
    fault,
    subst (λ i. HoldsOfDirectory nowhere i fault) is holds,
    subst (λ i. Appends (contents old) (contents new) (sector_text (sector i p) (unknown_owner fault))) is
        (subst (λ (bs : Sector). Appends (contents old) (contents new) (sector_text bs (unknown_owner fault))) here
        printed),
  );
}

-- the word of a block, and its entry's line
pub block-owned : (a b c : Option (List ℕ)) (map : Sector) (l : Layout) (p : Place) (k : ℕ)
    → owner_of l p ≡ owner.Blocks k → Appends a b (codes "OWNER BLOCK ")
    → Appends b c (line_if (is_wide l) k (slice_get l.files k)) → Appends a c (owner_text map l p (owner_of l p))
block-owned a b c map l p k is word line = rw is (Appends-trans a b c _ _ word line)

-- and of a side sector
pub side-owned : (a b c : Option (List ℕ)) (map : Sector) (l : Layout) (p : Place) (k : ℕ)
    → owner_of l p ≡ owner.Sides k → Appends a b (codes "OWNER SIDE ")
    → Appends b c (line_if (is_wide l) k (slice_get l.files k)) → Appends a c (owner_text map l p (owner_of l p))
side-owned a b c map l p k is word line = rw is (Appends-trans a b c _ _ word line)
