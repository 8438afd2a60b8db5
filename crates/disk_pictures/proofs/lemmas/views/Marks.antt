-- The marks of a map are ASCII.
use Rattle.std.proofs.Common.{◌≡◌, ◌<◌, ◌++◌, ℕ, Bool, true, false, List, [], ◌∷◌, Option, ap, ap₂, refl, ◌∙◌, arith}
use Rattle.std.specs.Char.{encode_utf8}
use Rattle.std.specs.Prelude.{codes, decimal, if◌then◌else◌}
use Rattle.d64_image.specs.Images.{Sector}
use Rattle.d64_image.specs.declared.place.Place.{Place}
use Rattle.line_text.specs.bytes.Texts.{text_of}
use Rattle.disk_layout.specs.Directory.{type_byte}
use Rattle.disk_layout.specs.Layout.{File, Layout, count_field}
use Rattle.disk_layout.specs.declared.faults.Fault.{Fault}
use Rattle.disk_pictures.specs.Drawings.{owner_of}
use Rattle.disk_pictures.specs.Maps.{cell_text, digit, entry_line, entry_mark, geos_text, letter, mark_of, owner_mark}
use Rattle.disk_pictures.specs.Maps.{owner_second, records_text, second_of}
use Rattle.damaged_files.specs.reached.Types.{type_text}
use Rattle.disk_pictures.specs.Texts.{is_fault_at, is_free}
use Rattle.damaged_files.specs.reached.Names.{name_of}
use Rattle.disk_pictures.proofs.Printing.{ascii}
use Rattle.disk_pictures.specs.declared.owners.Owner.{Owner}
use Rattle.disk_pictures.specs.declared.owners.Owner.TheVariants as owner

either : (b : Bool) (x y : ℕ) → x < 128 → y < 128 → (if b then x else y) < 128
either true x y p q = p
either false x y p q = q

pub letter-small : (first k : ℕ) → first < 100 → letter first k < 128
letter-small first k low = omega (arith, low)

owner-small : (map : Sector) (p : Place) (o : Owner) → owner_mark map p o < 128
owner-small map p owner.Map = omega arith
owner-small map p owner.Directory = omega arith
owner-small map p (owner.Blocks k) = letter-small 97 k (omega arith)
owner-small map p (owner.Sides k) = letter-small 65 k (omega arith)
owner-small map p owner.Nobody = either (is_free map p) 46 63 (omega arith) (omega arith)

pub mark-small : (v : Option Fault) (map : Sector) (l : Layout) (p : Place) → mark_of v map l p < 128
mark-small v map l p = either (is_fault_at v p) 33 (owner_mark map p (owner_of l p)) (omega arith)
    (owner-small map p (owner_of l p))

pub digit-small : (k : ℕ) → digit k < 128
digit-small k = omega arith

second-owner-small : (map : Sector) (p : Place) (o : Owner) → owner_second map p o < 128
second-owner-small map p owner.Map = omega arith
second-owner-small map p owner.Directory = omega arith
second-owner-small map p (owner.Blocks k) = digit-small k
second-owner-small map p (owner.Sides k) = digit-small k
second-owner-small map p owner.Nobody = owner-small map p owner.Nobody

second-small : (v : Option Fault) (map : Sector) (l : Layout) (p : Place) → second_of v map l p < 128
second-small v map l p = either (is_fault_at v p) 33 (owner_second map p (owner_of l p)) (omega arith)
    (second-owner-small map p (owner_of l p))

-- a character of ASCII that is known by another name
pub own-byte : (sign c : ℕ) → sign ≡ c → c < 128 → encode_utf8 sign ≡ c ∷ []
own-byte sign c is small = ap encode_utf8 is ∙ ascii c small

-- a sector's two characters, as they are written
pub cell-written : (v : Option Fault) (map : Sector) (l : Layout) (p : Place) (first second : ℕ)
    → first ≡ mark_of v map l p → second ≡ second_of v map l p
    → codes " " ++ (encode_utf8 first ++ encode_utf8 second) ≡ cell_text v map l p
unfolding cell_text
cell-written v map l p first second a b =
    ap₂ (λ (s t : List ℕ). codes " " ++ (s ++ t)) (own-byte first _ a (mark-small v map l p))
    (own-byte second _ b (second-small v map l p))

-- the mark of an entry, as it is written
pub wide-written : (k first second : ℕ) → first ≡ letter 97 k → second ≡ digit k
    → encode_utf8 first ++ encode_utf8 second ≡ entry_mark true k
wide-written k first second a b =
    ap₂ (λ (s t : List ℕ). s ++ t) (own-byte first _ a (letter-small 97 k (omega arith)))
    (own-byte second _ b (digit-small k))

pub narrow-written : (k first : ℕ) → first ≡ letter 97 k → encode_utf8 first ≡ entry_mark false k
narrow-written k first a = own-byte first _ a (letter-small 97 k (omega arith))

-- an entry's parts, as they are written one after another
pub entry-written : (wide : Bool) (k : ℕ) (f : File) (count byte : ℕ) (name : List ℕ) → count ≡ count_field f.slot
    → name ≡ name_of f.slot → byte ≡ type_byte f.slot
    → entry_mark wide k
    ++ (codes " " ++ (decimal count ++ (codes " \"" ++ (text_of name ++ (codes "\" " ++ (type_text (codes "<") byte
    ++ (records_text f ++ (geos_text f.slot ++ codes "\n")))))))) ≡ entry_line wide k f
unfolding entry_line
entry-written wide k f count byte name a b c = rw (a, b, c) refl
