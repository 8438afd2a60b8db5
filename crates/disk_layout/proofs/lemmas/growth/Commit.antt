-- The write that commits the growth of a file.
use Rattle.std.proofs.Common.{◌≡◌, ◌≢◌, ℕ, ◌+◌, true, false, List, [], ◌∷◌, ◌++◌, map, length, refl, sym, ◌∙◌, ap}
use Rattle.std.proofs.Common.{subst, IsTrue, IsFalse, append_assoc, length-append}
use Rattle.std.specs.Prelude.{Contains, flat_map, slice_get, Some}
use Rattle.std.specs.List.{AllByRecursion}
use Rattle.std.proofs.lemmas.List.Elements.{Contains-append_left, Contains-append_right}
use Rattle.std.proofs.lemmas.Grind.{flat_map-append}
use Rattle.d64_image.proofs.Images.{sector-put_same}
use Rattle.d64_image.specs.Images.{Image, put, sector}
use Rattle.d64_image.specs.declared.place.Place.{Place}
use Rattle.disk_layout.proofs.lemmas.chains.Chains.{AgreeAt, IsChain-grow, chain-front, chain-last, links-agree}
use Rattle.disk_layout.proofs.lemmas.layouts.Frames.{IsDirectory-frame, IsSide-frame, KeepsFiles, all_blocks}
use Rattle.disk_layout.proofs.lemmas.layouts.Layouts.{get-contains}
use Rattle.disk_layout.proofs.lemmas.layouts.Frames.{block-owned, files-frame, side-owned, unless-same}
use Rattle.disk_layout.proofs.lemmas.lists.Once.{Contains-here, EachOnce-apart, EachOnce-insert, EachOnce-left}
use Rattle.disk_layout.proofs.lemmas.lists.Once.{EachOnce-right}
use Rattle.disk_layout.specs.Chain.{EachOnce, EndsAt, Names}
use Rattle.disk_layout.specs.Directory.{map_place}
use Rattle.disk_layout.specs.Layout.{File, IsFile, IsLayout, IsRelFile, IsSide, Layout, exchanged, file_owns, is_rel}
use Rattle.disk_layout.specs.Layout.{owners, sides_for}

pub all-left : {X : Type 0} (P : X → Type 0) (xs ys : List X) → AllByRecursion P (xs ++ ys) → AllByRecursion P xs
all-left P [] ys h = tt
all-left P (x ∷ xs) ys h = (h.0, all-left P xs ys h.1)

pub all-right : {X : Type 0} (P : X → Type 0) (xs ys : List X) → AllByRecursion P (xs ++ ys) → AllByRecursion P ys
all-right P [] ys h = h
all-right P (x ∷ xs) ys h = all-right P xs ys h.1

pub all-join : {X : Type 0} (P : X → Type 0) (xs ys : List X) → AllByRecursion P xs → AllByRecursion P ys
    → AllByRecursion P (xs ++ ys)
all-join P [] ys a b = b
all-join P (x ∷ xs) ys a b = (a.0, all-join P xs ys a.1 b)

map-same : (before after : List File) (f g : File) → f.slot ≡ g.slot
    → map (λ x. x.slot) (before ++ f ∷ after) ≡ map (λ x. x.slot) (before ++ g ∷ after)
map-same [] after f g e = ap (λ s. s ∷ map (λ x. x.slot) after) e
map-same (h ∷ before) after f g e = ap (λ s. h.slot ∷ s) (map-same before after f g e)

-- a file takes the place of another with the same slot, and all else stays
pub IsLayout-replace : (a b : Image) (l : Layout) (before after : List File) (f g : File) → IsLayout a l
    → l.files ≡ before ++ f ∷ after → f.slot ≡ g.slot → AgreeAt a b l.directory → KeepsFiles a b before
    → KeepsFiles a b after → IsFile b g → EachOnce (map_place ∷ owners (exchanged l before g after))
    → IsLayout b (exchanged l before g after)
IsLayout-replace a b l before after f g h split same dir kb ka new once =
    let files = let P : List File → Type 0 = λ fs. AllByRecursion (IsFile a) fs in subst P split h.files in
    record {
      directory = IsDirectory-frame a b l.directory _ dir (rw (split, map-same before after f g same) at h.directory);
      files = all-join (IsFile b) before (g ∷ after)
          (files-frame a b before kb (all-left (IsFile a) before (f ∷ after) files))
          (new, files-frame a b after ka (all-right (IsFile a) before (f ∷ after) files).1);
      once = once;
    }

-- the file with one more block, which is its last, and these side sectors
abbrev pub grown : File → Place → ℕ → List Place → File
grown f fresh u sides = record { slot = f.slot; blocks = f.blocks ++ fresh ∷ []; last = u; sides = sides }

-- what stands ready before the commit: the fresh block, and each side sector as the longer file asks
pub record IsReady (a : Image) (f : File) (fresh : Place) (u : ℕ) (ss : List Place) : Type 0 where
  pub ends : EndsAt a fresh u
  pub count : length ss ≡ sides_for (length f.blocks + 1)
  pub first_side : (q : Place) → slice_get ss 0 ≡ Some q → Names f.slot.bytes 21 q
  pub sides : (j : ℕ) (q : Place) → slice_get ss j ≡ Some q → IsSide a (grown f fresh u ss) j q

-- the grown file, after a write of the old last block that links it to the fresh one
IsRelFile-grow : (a : Image) (f : File) (fresh : Place) (u : ℕ) (sides : List Place) (bytes : List ℕ) → length a ≡ 683
    → (r : IsRelFile a f) → IsReady a f fresh u sides → Names bytes 0 fresh → ¬ (Contains f.blocks fresh)
    → ¬ (Contains sides r.chain.2.last) → IsRelFile (put a r.chain.2.last bytes) (grown f fresh u sides)
IsRelFile-grow a f fresh u sides bytes full r ready link new apart =
    let c = r.chain.2 in
    let b = put a c.last bytes in
    let other : c.last ≢ fresh = λ e. new (rw (← e) (chain-last a r.chain.0 f.blocks f.last c)) in
    let there : sector b c.last ≡ bytes = sector-put_same a c.last bytes full in
    let stays = unless-same a c.last fresh bytes other in
    record {
      chain = (
        r.chain.0,
        r.chain.1,
        IsChain-grow a b r.chain.0 fresh f.blocks f.last u c
            (links-agree a b c.front
            (λ q h. unless-same a c.last q bytes (λ e. (chain-front a r.chain.0 f.blocks f.last c q h).1 (sym e))))
            (rw there link)
            (rw (← stays) ready.ends)
            new,
      );
      length_low = r.length_low;
      length_high = r.length_high;
      count = ready.count ∙ ap sides_for (sym (length-append f.blocks (fresh ∷ [])));
      first_side = ready.first_side;
      sides = λ j q e. IsSide-frame a b (grown f fresh u sides) j q
          (unless-same a c.last q bytes (λ s. apart (rw s (get-contains sides j q e)))) (ready.sides j q e);
    }

-- what file g owns, no other file owns, nor the directory
pub record IsAlone (l : Layout) (fs gs : List File) (p : Place) : Type 0 where
  pub directory : ¬ (Contains l.directory p)
  pub before : ¬ (Contains (flat_map file_owns fs) p)
  pub after : ¬ (Contains (flat_map file_owns gs) p)

pub alone : (l : Layout) (before after : List File) (g : File)
    → EachOnce (map_place ∷ owners (exchanged l before g after)) → (p : Place) → Contains (file_owns g) p
    → IsAlone l before after p
unfolding owners
alone l before after g once p own =
    let all = let P : List Place → Type 0 = λ ps. EachOnce (l.directory ++ ps) in
    subst P (flat_map-append file_owns before (g ∷ after)) once.1 in
    let B = flat_map file_owns before in
    let G = file_owns g in
    let A = flat_map file_owns after in
    let rest = EachOnce-right l.directory (B ++ (G ++ A)) all in
    let in_rest : Contains (G ++ A) p = Contains-append_left G A p own in
    record {
      directory = λ c. EachOnce-apart l.directory (B ++ (G ++ A)) all p c (Contains-append_right B (G ++ A) p in_rest);
      before = λ c. EachOnce-apart B (G ++ A) rest p c in_rest;
      after = λ c. EachOnce-apart G A (EachOnce-right B (G ++ A) rest) p own c;
    }

pub own-once : (l : Layout) (before after : List File) (g : File)
    → EachOnce (map_place ∷ owners (exchanged l before g after)) → EachOnce (file_owns g)
unfolding owners
own-once l before after g once =
    let all = let P : List Place → Type 0 = λ ps. EachOnce (l.directory ++ ps) in
    subst P (flat_map-append file_owns before (g ∷ after)) once.1 in
    EachOnce-left (file_owns g) (flat_map file_owns after) (EachOnce-right (flat_map file_owns before) _
    (EachOnce-right l.directory _ all))

pub keeps-other : (img : Image) (p : Place) (b : List ℕ) (fs : List File) → ¬ (Contains (flat_map file_owns fs) p)
    → KeepsFiles img (put img p b) fs
keeps-other img p b fs free = record {
  links = links-agree img (put img p b) (all_blocks fs)
      (λ q c. unless-same img p q b (λ e. free (rw e (block-owned fs q c))));
  sides = λ q c. unless-same img p q b (λ e. free (rw e (side-owned fs q c)));
}

-- the write that links the old last block to the fresh one makes the file longer, and keeps all else
pub commit : (a : Image) (l : Layout) (before after : List File) (f : File) (fresh : Place) (u : ℕ) (ss : List Place)
    (bytes : List ℕ) → length a ≡ 683 → IsLayout a l → l.files ≡ before ++ f ∷ after → (r : IsRelFile a f)
    → IsTrue (is_rel f.slot) → IsReady a f fresh u ss → Names bytes 0 fresh
    → EachOnce (map_place ∷ owners (exchanged l before (grown f fresh u ss) after))
    → IsLayout (put a r.chain.2.last bytes) (exchanged l before (grown f fresh u ss) after)
commit a l before after f fresh u ss bytes full h split r rel ready link once =
    let last = r.chain.2.last in
    let g = grown f fresh u ss in
    let mine : Contains f.blocks last = chain-last a r.chain.0 f.blocks f.last r.chain.2 in
    let own : Contains (file_owns g) last = Contains-append_left (f.blocks ++ fresh ∷ []) ss last
    (Contains-append_left f.blocks (fresh ∷ []) last mine) in
    let only = alone l before after g once last own in
    let each = own-once l before after g once in
    let new : ¬ (Contains f.blocks fresh) = λ c. EachOnce-apart f.blocks (fresh ∷ [])
    (EachOnce-left (f.blocks ++ fresh ∷ []) ss each) fresh c (Contains-here fresh []) in
    let apart : ¬ (Contains ss last) = EachOnce-apart (f.blocks ++ fresh ∷ []) ss each last
    (Contains-append_left f.blocks (fresh ∷ []) last mine) in
    let file = IsRelFile-grow a f fresh u ss bytes full r ready link new apart in
    let old = all-right (IsFile a) before (f ∷ after) (let P : List File
    → Type 0 = λ fs. AllByRecursion (IsFile a) fs in subst P split h.files) in
    IsLayout-replace a (put a last bytes) l before after f g h split refl
    (λ q c. unless-same a last q bytes (λ e. only.directory (rw e c)))
    (keeps-other a last bytes before only.before)
    (keeps-other a last bytes after only.after)
    (record {
      closed = old.0.closed;
      rel = λ t. file;
      empty = λ t z. absurd (differ t rel);
      plain = λ t z. absurd (differ t rel);
    })
    once
  where
    differ : IsFalse (is_rel f.slot) → IsTrue (is_rel f.slot) → ⊥
    differ n t = let e : true ≡ false = sym t ∙ n in cc

pub shape : (dir B blocks sides A : List Place) → dir ++ (B ++ ((blocks ++ sides) ++ A)) ≡ (dir ++ (B ++ blocks))
    ++ (sides ++ A)
shape dir B blocks sides A = simp append_assoc

pub shape-new : (dir B blocks sides A : List Place) (x : Place) → dir ++ (B ++ (((blocks ++ x ∷ []) ++ sides) ++ A))
    ≡ (dir ++ (B ++ blocks)) ++ (x ∷ (sides ++ A))
shape-new dir B blocks sides A x = simp append_assoc

-- a fresh block that nobody owned leaves each place with one owner
pub once-grown : (l : Layout) (before after : List File) (f : File) (fresh : Place) (u : ℕ)
    → EachOnce (map_place ∷ owners l) → l.files ≡ before ++ f ∷ after → ¬ (Contains (map_place ∷ owners l) fresh)
    → EachOnce (map_place ∷ owners (exchanged l before (grown f fresh u f.sides) after))
unfolding owners
once-grown l before after f fresh u once split free =
    let B = flat_map file_owns before in
    let A = flat_map file_owns after in
    let front = l.directory ++ (B ++ f.blocks) in
    let old : l.directory ++ flat_map file_owns l.files ≡ front ++ (f.sides ++ A) =
    ap (λ fs. l.directory ++ flat_map file_owns fs) split
    ∙ ap (λ t. l.directory ++ t) (flat_map-append file_owns before (f ∷ after))
    ∙ shape l.directory B f.blocks f.sides A in
    let new : l.directory ++ flat_map file_owns (before ++ grown f fresh u f.sides ∷ after) ≡ front
    ++ (fresh ∷ (f.sides ++ A)) =
    ap (λ t. l.directory ++ t) (flat_map-append file_owns before (grown f fresh u f.sides ∷ after))
    ∙ shape-new l.directory B f.blocks f.sides A fresh in
    let P : List Place → Type 0 = λ ps. EachOnce (map_place ∷ ps) in
    let Q : List Place → Type 0 = λ ps. ¬ (Contains (map_place ∷ ps) fresh) in
    subst P (sym new) (EachOnce-insert (map_place ∷ front) (f.sides ++ A) fresh (subst P old once) (subst Q old free))

-- the owners of a layout in which a file has one more block
pub owners-grown : (l : Layout) (before after : List File) (f : File) (fresh : Place) (u : ℕ)
    → l.files ≡ before ++ f ∷ after → (xs : List Place) × (ys : List Place) × (owners l ≡ xs ++ ys)
    × (owners (exchanged l before (grown f fresh u f.sides) after) ≡ xs ++ fresh ∷ ys)
unfolding owners
owners-grown l before after f fresh u split = (
  l.directory ++ (flat_map file_owns before ++ f.blocks),
  f.sides ++ flat_map file_owns after,
  ap (λ fs. l.directory ++ flat_map file_owns fs) split
      ∙ ap (λ t. l.directory ++ t) (flat_map-append file_owns before (f ∷ after))
      ∙ shape l.directory (flat_map file_owns before) f.blocks f.sides (flat_map file_owns after),
  ap (λ t. l.directory ++ t) (flat_map-append file_owns before (grown f fresh u f.sides ∷ after))
      ∙ shape-new l.directory (flat_map file_owns before) f.blocks f.sides (flat_map file_owns after) fresh,
)
