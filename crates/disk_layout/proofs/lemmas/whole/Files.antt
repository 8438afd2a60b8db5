-- When the files of an image are whole: what a file lists, and how it ends.
use Rattle.std.proofs.Common.{◌≡◌, ◌≢◌, ℕ, zero, suc, ◌-◌, ◌/◌, ◌≤◌, inl, List, [], ◌∷◌, map, length, refl, sym}
use Rattle.std.proofs.Common.{◌∙◌, ap, arith, subst, slice_index, length-append, Bool, true, false, IsTrue}
use Rattle.std.proofs.lemmas.Bool.{eqb-true, false≢true}
use Rattle.std.specs.Prelude.{Contains, None, Some, nat_eq, nat_le, replicate, slice_get, ◌&&◌, ◌||◌}
use Rattle.d64_image.specs.Images.{Image, Sector, sector}
use Rattle.d64_image.specs.declared.place.Place.{Place}
use Rattle.disk_layout.proofs.lemmas.layouts.Layouts.{get-contains}
use Rattle.disk_layout.proofs.lemmas.lists.Once.{all-in}
use Rattle.disk_layout.proofs.lemmas.whole.Ends.{ends-exact, zeros-at}
use Rattle.disk_layout.specs.Clean.{IsCleanLayout}
use Rattle.disk_layout.specs.Chain.{named_at}
use Rattle.disk_layout.specs.Directory.{map_place, type_byte}
use Rattle.disk_layout.specs.Layout.{File, IsRelFile, Layout, is_rel, owners, record_length}
use Rattle.disk_layout.specs.Listed.{EndsBy, HasStock, ListsWell, NeverGrows, is_plain, used_of}
use Rattle.disk_layout.specs.Side.{side_sector}
use Rattle.disk_layout.specs.Whole.{IsWholeFile}
use Rattle.disk_layout.specs.declared.slot.Slot.{Slot}

-- the side sectors have their exact bytes
abbrev pub AreExact : Image → File → Type 0
AreExact img f = (j : ℕ) (q : Place) → slice_get f.sides j ≡ Some q
    → sector img q ≡ side_sector j f.blocks f.sides (record_length f.slot)

-- the last block of the chain isn't a sector of zeros
abbrev pub HasEnd : Image → File → Type 0
HasEnd img f = (q : Place) → slice_get f.blocks (length f.blocks - 1) ≡ Some q → sector img q ≢ replicate 256 0

-- a byte that isn't 0
pub not-zeros : (bytes : Sector) (i : ℕ) → slice_index bytes i ≢ 0 → bytes ≢ replicate 256 0
not-zeros bytes i some e = some (ap (λ (b : Sector). slice_index b i) e ∙ zeros-at 256 i)

plain_type : ℕ → Bool
plain_type t = (nat_le 129 t && nat_le t 131) || (nat_le 193 t && nat_le t 195)

-- a relative file is no other
pub rel-not-plain : (s : Slot) → IsTrue (is_rel s) → IsTrue (is_plain s) → ⊥
unfolding plain_type
rel-not-plain s rel plain = by (nat_eq t 132) refl
  where
    t : ℕ
    t = type_byte s

    off : (n : ℕ) → t ≡ n → plain_type n ≡ false → ⊥
    off n is other = false≢true (sym other ∙ sym (ap plain_type is) ∙ plain)

    by : (b : Bool) → nat_eq t 132 ≡ b → ⊥
    by true e = off 132 (eqb-true t 132 e) refl
    by false e = off 196 (eqb-true t 196 (sym (ap (λ b. b || nat_eq t 196) e) ∙ rel)) refl

pub chain-some : (img : Image) (f : File) → IsRelFile img f → 1 ≤ length f.blocks
chain-some img f r = let c = r.chain.2 in omega (arith, ap length c.places, length-append c.front (c.last ∷ []))

-- exact side sectors list no block past the chain
pub exact-ends : (img : Image) (f : File) → IsRelFile img f → AreExact img f → (q : Place)
    → slice_get f.sides ((length f.blocks - 1) / 120) ≡ Some q → EndsBy (sector img q) (used_of (length f.blocks))
exact-ends img f r exact q at =
    let P : Sector → Type 0 = λ b. EndsBy b (used_of (length f.blocks)) in
    subst P (sym (exact _ q at)) (ends-exact f.blocks f.sides (record_length f.slot) (chain-some img f r) r.count)

-- a relative file that lists well
pub rel-whole : (img : Image) (l : Layout) (f : File) → IsTrue (is_rel f.slot) → HasEnd img f
    → ((q : Place) → slice_get f.sides ((length f.blocks - 1) / 120) ≡ Some q
    → ListsWell img (NeverGrows (HasStock l) f.slot) (sector img q) (used_of (length f.blocks))
    × ((s : Place) → named_at (sector img q) 0 ≡ Some s → ¬ (Contains (map_place ∷ owners l) s)))
    → IsWholeFile img l f
rel-whole img l f rel end lists = record {
  listed = λ t q at. (lists q at).0;
  behind = λ t q s at. (lists q at).1 s;
  counted = λ t. absurd (rel-not-plain f.slot rel t);
  ended = λ t q at. end q at;
}

-- a side sector that is the last links to none
pub none-behind : (img : Image) (l : Layout) (q : Place) (count : ℕ) → EndsBy (sector img q) count → (s : Place)
    → named_at (sector img q) 0 ≡ Some s → ¬ (Contains (map_place ∷ owners l) s)
none-behind img l q count ends s named = let both : None ≡ Some s = sym ends.link ∙ named in absurd (never both)
  where
    never : None ≡ Some s → ⊥
    never e = cc

pub exact-whole : (img : Image) (l : Layout) (f : File) → IsTrue (is_rel f.slot) → IsRelFile img f → AreExact img f
    → HasEnd img f → IsWholeFile img l f
exact-whole img l f rel r exact end =
    rel-whole img l f rel end
    (λ q at. (inl (exact-ends img f r exact q at), none-behind img l q _ (exact-ends img f r exact q at)))

-- a file of a clean image has exact side sectors
pub clean-exact : (img : Image) (l : Layout) (k : ℕ) (f : File) → IsCleanLayout img l → slice_get l.files k ≡ Some f
    → IsTrue (is_rel f.slot) → AreExact img f
clean-exact img l k f clean at rel j q there =
    (all-in _ l.files f clean.files (get-contains l.files k f at) rel).sides j q there

-- the relative file of an old layout is one of the new
pub map-at : (a c : Image) (ps : List Place) (i : ℕ) (q : Place) → map (sector c) ps ≡ map (sector a) ps
    → slice_get ps i ≡ Some q → sector c q ≡ sector a q
map-at a c [] i q e at = cc
map-at a c (p ∷ ps) zero q e at = let s : p ≡ q = cc in let here : sector c p ≡ sector a p = cc in
    ap (sector c) (sym s) ∙ here ∙ ap (sector a) s
map-at a c (p ∷ ps) (suc i) q e at = map-at a c ps i q (let rest : map (sector c) ps ≡ map (sector a) ps = cc in rest) at
