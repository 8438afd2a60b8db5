-- What is asked to stay of files decides their names and their records, the first of a name, and how far it can grow.
use Rattle.std.proofs.Common.{ℕ, ◌≡◌, ◌<◌, ◌+◌, List, [], ◌∷◌, ◌++◌, drop, map, sym, ◌∙◌, ap, subst}
use Rattle.std.proofs.Common.{IsTrue, ◌||◌, take, slice_index, slice_range, arith}
use Rattle.std.specs.Prelude.{Some, flat_map, nat_eq, slice_get}
use Rattle.std.proofs.lemmas.List.{drop-drop, drop-take, get_or-drop, get_or-take}
use Rattle.d64_image.specs.Images.{Image, sector}
use Rattle.d64_image.specs.declared.place.Place.{Place}
use Rattle.disk_layout.proofs.lemmas.counts.Counts.{uncounted-face, uncounted-name}
use Rattle.disk_layout.proofs.lemmas.counts.Recounts.{map-map}
use Rattle.disk_layout.proofs.lemmas.lists.Lists.{alike, take-take}
use Rattle.disk_layout.proofs.lemmas.records.Joined.{joined-cons, joined-nil}
use Rattle.disk_layout.specs.Entries.{SameEntries, uncounted}
use Rattle.disk_layout.specs.Layout.{File, Layout}
use Rattle.disk_layout.specs.Records.{joined}
use Rattle.disk_layout.specs.Rest.{IsFirst, IsNamed, Kept, kept_of}
use Rattle.disk_layout.specs.Same.{Stays, stays_of}

-- the joined bytes of a chain, from its sectors
pub joined-sectors : (img : Image) (ps : List Place) → joined img ps ≡ flat_map (drop 2) (map (sector img) ps)
joined-sectors img [] = joined-nil img
joined-sectors img (p ∷ ps) = joined-cons img p ps
    ∙ ap (λ (xs : List ℕ). drop 2 (sector img p) ++ xs) (joined-sectors img ps)

-- where entries are the same, block counts aside, names are, and the first of a name is at the same place
pub IsNamed-uncounted : (name : List ℕ) (f g : File) → uncounted f.slot ≡ uncounted g.slot → IsNamed name f
    → IsNamed name g
IsNamed-uncounted name f g e h =
    let P : ℕ → Type 0 = λ t. IsTrue (nat_eq t 132 || nat_eq t 196) in
    (subst P (uncounted-face f.slot g.slot e).kind h.0, sym (uncounted-name f.slot g.slot e) ∙ h.1)

pub entry-alike : (fs gs : List File) (k : ℕ) (g : File) → SameEntries (map (λ x. x.slot) gs) (map (λ x. x.slot) fs)
    → slice_get gs k ≡ Some g → (f : File) × (slice_get fs k ≡ Some f) × (uncounted f.slot ≡ uncounted g.slot)
entry-alike fs gs k g same there =
    let spread : (hs : List File) → map uncounted (map (λ (x : File). x.slot) hs) ≡ map (λ (x : File). uncounted x.slot)
    hs = map-map uncounted (λ (x : File). x.slot) in
    alike (λ (x : File). uncounted x.slot) (λ (x : File). uncounted x.slot) gs fs k g (sym (spread gs) ∙ same
    ∙ spread fs) there

pub first-kept : (l m : Layout) (name : List ℕ) (n : ℕ) (f g : File)
    → SameEntries (map (λ x. x.slot) m.files) (map (λ x. x.slot) l.files) → slice_get m.files n ≡ Some g
    → IsFirst l name n f → IsFirst m name n g
first-kept l m name n f g same there h =
    let (own, at, e) = entry-alike l.files m.files n g same there in
    let one : f ≡ own = (let both : Some f ≡ Some own = sym h.file ∙ at in cc) in
    record {
      file = there;
      named = IsNamed-uncounted name f g (ap (λ (x : File). uncounted x.slot) one ∙ e) h.named;
      first = λ k x lt before named. let (y, was, eq) = entry-alike l.files m.files k x same before in
          h.first k y lt was (IsNamed-uncounted name x y (sym eq) named);
    }

-- a byte of an entry that stays
pub entry-byte : (xs : List ℕ) (i : ℕ) → i < 28 → slice_index (slice_range xs 2 30) i ≡ slice_index xs (2 + i)
entry-byte xs i lt = get_or-take 28 (drop 2 xs) i 0 lt ∙ get_or-drop 2 xs i 0

entry-name : (xs : List ℕ) → slice_range (slice_range xs 2 30) 3 19 ≡ slice_range xs 5 21
entry-name xs = ap (take 16) (drop-take 3 25 (drop 2 xs)) ∙ take-take 16 25 (drop 3 (drop 2 xs)) (omega arith)
    ∙ ap (take 16) (drop-drop 3 2 xs)

-- what repair and creation leave of a file has all that is asked to stay
stayed : Stays → Kept
stayed s = record {
  kind = slice_index s.entry 0;
  name = slice_range s.entry 3 19;
  length = slice_index s.entry 21;
  blocks = s.blocks;
  bytes = s.bytes;
  sides = s.sides;
}

kept-stayed : (a : Image) (f : File) → kept_of a f ≡ stayed (stays_of a f)
unfolding stayed
kept-stayed a f = λ i. record {
  kind = sym (entry-byte f.slot.bytes 0 (omega arith)) i;
  name = sym (entry-name f.slot.bytes) i;
  length = sym (entry-byte f.slot.bytes 21 (omega arith)) i;
  blocks = f.blocks;
  bytes = map (sector a) f.blocks;
  sides = f.sides;
}

pub kept-of_stays : (a b : Image) (f g : File) → stays_of a f ≡ stays_of b g → kept_of a f ≡ kept_of b g
kept-of_stays a b f g e = kept-stayed a f ∙ ap stayed e ∙ sym (kept-stayed b g)
