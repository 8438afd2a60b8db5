-- A sound disk of which only side sectors differ from another, and images in between.
use Rattle.std.proofs.Common.{◌≡◌, ◌≢◌, ◌⊎◌, Bool, List, [], ◌∷◌, false, inl, inr, refl, subst, sym, true, ◌∙◌}
use Rattle.std.proofs.lemmas.Bool.{cases_eq}
use Rattle.std.proofs.lemmas.List.Elements.{Contains-append_cases, Contains-append_left, Contains-append_right}
use Rattle.std.specs.List.{AllByRecursion}
use Rattle.std.specs.Prelude.{Contains, flat_map, slice_index}
use Rattle.d64_image.specs.Images.{Image, sector}
use Rattle.d64_image.specs.declared.place.Place.{Place}
use Rattle.disk_layout.proofs.lemmas.chains.Chains.{AgreeAt, links-agree}
use Rattle.disk_layout.proofs.lemmas.layouts.Agree.{IsLayout-agree}
use Rattle.disk_layout.proofs.lemmas.layouts.Frames.{block-no_side, side-owned}
use Rattle.disk_layout.proofs.lemmas.layouts.Frames.{HasChain-frame, IsDirectory-frame, all_sides}
use Rattle.disk_layout.proofs.lemmas.lists.Once.{Contains-cases, Contains-here, Contains-nil, Contains-there, EachOnce-apart}
use Rattle.disk_layout.proofs.lemmas.lists.Once.{EachOnce-right, all-in, flat_map-in}
use Rattle.disk_layout.specs.Chain.{EachOnce}
use Rattle.disk_layout.specs.Directory.{map_place}
use Rattle.disk_layout.specs.Layout.{File, HasChain, IsFile, IsLayout, IsSound, Layout, file_owns}
use Rattle.disk_layout.specs.Layout.{is_rel, owners}
use Rattle.damaged_files.specs.sides.Compared.{SameChain, SameDirectory, SameOrOwned}
use Rattle.damaged_files.specs.sides.Rebuilt.{IsFileButSides, IsLayoutButSides, IsRebuilt, IsUnderRebuilding, SameButSides}
use Rattle.damaged_files.specs.sides.Taken.{IsMix}

-- the chain of a file, and places for its side sectors, in another image that agrees in the blocks
but-sides : (a b : Image) (f : File) → AgreeAt a b f.blocks → IsFile a f → IsFileButSides b f
but-sides a b f same h =
    let links = links-agree a b f.blocks same in
    record {
      closed = h.closed;
      rel = λ t. let r = h.rel t in record {
        chain = HasChain-frame a b f links r.chain;
        length_low = r.length_low;
        length_high = r.length_high;
        count = r.count;
        first_side = r.first_side;
      };
      empty = h.empty;
      plain = λ t n. let p = h.plain t n in (HasChain-frame a b f links p.0, p.1);
    }

each-but-sides : (a b : Image) (fs : List File) → ((f : File) → Contains fs f → AgreeAt a b f.blocks)
    → AllByRecursion (IsFile a) fs → AllByRecursion (IsFileButSides b) fs
each-but-sides a b [] same h = tt
each-but-sides a b (f ∷ fs) same h = (
  but-sides a b f (same f (Contains-here f fs)) h.0,
  each-but-sides a b fs (λ g c. same g (Contains-there g f fs c)) h.1,
)

-- a sound image, and one that agrees with it in directory and blocks
pub layout-but-sides : (a b : Image) (l : Layout) → AgreeAt a b l.directory
    → ((f : File) → Contains l.files f → AgreeAt a b f.blocks) → IsLayout a l → IsLayoutButSides b l
layout-but-sides a b l directory blocks h = record {
  directory = IsDirectory-frame a b l.directory _ directory h.directory;
  files = each-but-sides a b l.files blocks h.files;
  once = h.once;
}

-- who owns a sector
in-file : (fs : List File) (p : Place) → Contains (flat_map file_owns fs) p → ((f : File) × Contains fs f
    × Contains f.blocks p) ⊎ Contains (all_sides fs) p
in-file [] p c = absurd (Contains-nil p c)
in-file (f ∷ fs) p c = elim (Contains-append_cases (file_owns f) (flat_map file_owns fs) p c) [
  | inl own ↦ elim (Contains-append_cases f.blocks f.sides p own) [
    | inl b ↦ inl (f, Contains-here f fs, b)
    | inr s ↦ inr (Contains-append_left f.sides (all_sides fs) p s)
  ]
  | inr more ↦ elim (in-file fs p more) [
    | inl (g, own, b) ↦ inl (g, Contains-there g f fs own, b)
    | inr s ↦ inr (Contains-append_right f.sides (all_sides fs) p s)
  ]
]

module _ (a b : Image) (l : Layout) (is : IsLayout b l) (apart : (p : Place) → SameOrOwned a b l p)
    (system : SameDirectory a b) (chains : (f : File) → Contains l.files f → SameChain a b f.slot) where
  -- the directory is the same
  same-directory : AgreeAt b a l.directory
  same-directory p c = sym (system.1 l.directory is.directory.last is.directory.chain p c)

  -- so are all blocks
  same-blocks : (f : File) → Contains l.files f → AgreeAt b a f.blocks
  same-blocks f own p c = sym (by (all-in (IsFile b) l.files f is.files own))
    where
      by : IsFile b f → sector a p ≡ sector b p
      by h = by_type (is_rel f.slot) refl
        where
          chained : HasChain b f → sector a p ≡ sector b p
          chained (q, named, chain) = chains f own q f.blocks f.last named chain p c

          plain : is_rel f.slot ≡ false → (slice_index f.slot.bytes 3 ≡ 0) ⊎ (slice_index f.slot.bytes 3 ≢ 0)
              → sector a p ≡ sector b p
          plain n (inl z) = let none = (h.empty n z).0 in
              let C : List Place → Type 0 = λ xs. Contains xs p in absurd (Contains-nil p (subst C none c))
          plain n (inr z) = chained (h.plain n z).0

          by_type : (t : Bool) → is_rel f.slot ≡ t → sector a p ≡ sector b p
          by_type true e = chained (h.rel e).chain
          by_type false e = plain e (cases_eq (slice_index f.slot.bytes 3) 0)

  -- and all else but side sectors
  same-but : SameButSides l a b
  unfolding owners
  same-but p out = elim (apart p) [
    | inl same ↦ sym same
    | inr own ↦ elim (Contains-cases p map_place (owners l) own) [
      | inl e ↦ let P : Place → Type 0 = λ q. sector b q ≡ sector a q in subst P e (sym system.0)
      | inr c ↦ elim (Contains-append_cases l.directory (flat_map file_owns l.files) p c) [
        | inl d ↦ same-directory p d
        | inr file ↦ elim (in-file l.files p file) [
          | inl (f, there, block) ↦ same-blocks f there p block
          | inr side ↦ absurd (out side)
        ]
      ]
    ]
  ]

  pub rebuilt : IsRebuilt a b
  rebuilt = record {
    layout = l;
    before = layout-but-sides b a l same-directory same-blocks is;
    sound = is;
    same = same-but;
  }

-- no sector of the directory is a side sector, and no block of a file
directory-no_side : (l : Layout) → EachOnce (owners l) → (p : Place) → Contains l.directory p
    → ¬ (Contains (all_sides l.files) p)
unfolding owners
directory-no_side l once p own side = EachOnce-apart l.directory (flat_map file_owns l.files) once p own
    (side-owned l.files p side)

blocks-no_side : (l : Layout) → EachOnce (owners l) → (f : File) → Contains l.files f → (p : Place)
    → Contains f.blocks p → ¬ (Contains (all_sides l.files) p)
unfolding owners
blocks-no_side l once f own p block = block-no_side l.files
    (EachOnce-right l.directory (flat_map file_owns l.files) once) p (flat_map-in (λ (g : File). g.blocks) l.files f p own block)

-- an image in between agrees with both where they agree
between : (a b c : Image) (l : Layout) → SameButSides l a b → IsMix a b c → SameButSides l a c
between a b c l same mix p out = elim (mix p) [ inl old ↦ old | inr new ↦ new ∙ same p out ]

-- such an image has the directory and the chains of both
pub on-the-way : (a b c : Image) → IsRebuilt a b → IsMix a b c → IsUnderRebuilding a c
on-the-way a b c h mix = record {
  layout = h.layout;
  before = h.before;
  now = layout-but-sides b c h.layout (λ p own. apart p (directory-no_side h.layout h.sound.once.1 p own))
      (λ f own p block. apart p (blocks-no_side h.layout h.sound.once.1 f own p block)) h.sound;
  same = between a b c h.layout h.same mix;
}
  where
    apart : (p : Place) → ¬ (Contains (all_sides h.layout.files) p) → sector b p ≡ sector c p
    apart p out = h.same p out ∙ sym (between a b c h.layout h.same mix p out)

-- an image with all sectors of the rebuilt one is rebuilt
pub rebuilt-all : (a b c : Image) → IsRebuilt a b → ((p : Place) → sector c p ≡ sector b p) → IsRebuilt a c
rebuilt-all a b c h all = record {
  layout = h.layout;
  before = h.before;
  sound = IsLayout-agree b c h.layout (λ p own. sym (all p)) h.sound;
  same = λ p out. all p ∙ h.same p out;
}

-- nothing was rebuilt
pub rebuilt-none : (a : Image) → IsSound a → IsRebuilt a a
rebuilt-none a (l, is) = record {
  layout = l;
  before = layout-but-sides a a l (λ p own. refl) (λ f own p block. refl) is;
  sound = is;
  same = λ p out. refl;
}
