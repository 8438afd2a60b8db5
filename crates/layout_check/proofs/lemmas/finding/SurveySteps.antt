-- A survey's start, and one entry more.
use Rattle.std.proofs.Common.{ℕ, ◌≡◌, ◌≢◌, ◌<◌, ◌⊎◌, List, [], ◌∷◌, ◌++◌, length}
use Rattle.std.proofs.Common.{sym, ◌∙◌, ap, subst, arith, inl, inr, append_assoc, append-nil}
use Rattle.std.specs.Prelude.{Contains, flat_map}
use Rattle.std.proofs.lemmas.Grind.{flat_map-append}
use Rattle.std.proofs.lemmas.List.Elements.{Contains-append_cases, Contains-append_left}
use Rattle.std.proofs.lemmas.List.Elements.{Contains-append_right}
use Rattle.d64_image.specs.Images.{Image}
use Rattle.d64_image.specs.declared.place.Place.{Place}
use Rattle.disk_layout.proofs.lemmas.layouts.Layouts.{get-contains}
use Rattle.disk_layout.proofs.lemmas.lists.Lists.{all-push, get-push}
use Rattle.disk_layout.proofs.lemmas.lists.Once.{EachOnce-join, flat_map-in}
use Rattle.disk_layout.specs.Chain.{EachOnce}
use Rattle.disk_layout.specs.Directory.{IsDirectory, map_place}
use Rattle.disk_layout.specs.Layout.{File, IsFile, file_owns}
use Rattle.disk_layout.specs.declared.slot.Slot.{Slot}
use Rattle.layout_check.proofs.lemmas.finding.Finding.{contains_or_not}
use Rattle.layout_check.specs.Owners.{IsClaimed, IsSystem, owner_of}
use Rattle.layout_check.specs.Survey.{IsSurveyed, taken}
use Rattle.layout_check.specs.declared.owners.Owners.{Owners}

abbrev EachOnce-of : List Place → Type 0
EachOnce-of ps = EachOnce ps

-- the table of the directory
pub survey-start : (img : Image) (dir : List Place) (es : List Slot) (t : Owners) → IsDirectory img dir es
    → IsSystem t dir → IsSurveyed img dir [] t
survey-start img dir es t d s = record {
  files = tt;
  once = subst EachOnce-of (sym none) (d.not_map, d.chain.once);
  table = record {
    owned = λ p. (
      λ h. let P : List Place → Type 0 = λ ps. Contains ps p in
          subst P (sym none) (found p h (contains_or_not (map_place ∷ dir) p)),
      λ c e. let P : List Place → Type 0 = λ ps. Contains ps p in absurd (omega (arith, e, (s p).0 (subst P none c))),
    );
    system = λ p c. (s p).0 c;
    own = λ k f p at c. cc;
  };
}
  where
    none : taken dir [] ≡ map_place ∷ dir
    none = ap (λ ps. map_place ∷ ps) (append-nil dir)

    found : (p : Place) → owner_of t p ≢ 255 → Contains (map_place ∷ dir) p ⊎ ¬ (Contains (map_place ∷ dir) p)
        → Contains (map_place ∷ dir) p
    found p h (inl c) = c
    found p h (inr n) = absurd (h ((s p).1 n))

taken-push : (dir : List Place) (fs : List File) (g : File)
    → taken dir (fs ++ g ∷ []) ≡ taken dir fs ++ (g.blocks ++ g.sides)
taken-push dir fs g =
    ap (λ ps. map_place ∷ ps) (ap (λ ps. dir ++ ps) (flat_map-append file_owns fs (g ∷ [])
    ∙ ap (λ ps. flat_map file_owns fs ++ ps) (append-nil (g.blocks ++ g.sides)))
    ∙ sym (append_assoc dir (flat_map file_owns fs) (g.blocks ++ g.sides)))

-- one more file
pub survey-step : (img : Image) (dir : List Place) (fs : List File) (t t1 t2 : Owners) (g : File) (n : ℕ)
    → IsSurveyed img dir fs t → IsFile img g → n ≡ length fs → n < 254 → IsClaimed t t1 n g.blocks
    → IsClaimed t1 t2 n g.sides → EachOnce g.blocks → EachOnce g.sides → IsSurveyed img dir (fs ++ g ∷ []) t2
survey-step img dir fs t t1 t2 g n s file isn small a b ob os = record {
  files = all-push (IsFile img) fs g s.files file;
  once = subst EachOnce-of (sym (taken-push dir fs g)) (EachOnce-join O (g.blocks ++ g.sides) s.once
      (EachOnce-join g.blocks g.sides ob os block_side) old_new);
  table = record {
    owned = λ p. (
      λ h. let P : List Place → Type 0 = λ ps. Contains ps p in
          subst P (sym (taken-push dir fs g)) (found p h (contains_or_not g.sides p) (contains_or_not g.blocks p)),
      λ c. owned p (let P : List Place → Type 0 = λ ps. Contains ps p in subst P (taken-push dir fs g) c),
    );
    system = λ p c. stays p (Contains-append_left (map_place ∷ dir) (flat_map file_owns fs) p c) ∙ s.table.system p c;
    own = λ k f p at c. elim (get-push fs g k f at) [
      | inl h ↦ stays p (Contains-append_right (map_place ∷ dir) (flat_map file_owns fs) p
          (flat_map-in file_owns fs f p (get-contains fs k f h) c)) ∙ s.table.own k f p h c
      | inr h ↦ mine p (rw h.1 c) ∙ isn ∙ sym h.0
    ];
  };
}
  where
    O : List Place
    O = taken dir fs

    some : n ≢ 255
    some e = omega arith

    block_side : (x : Place) → Contains g.blocks x → ¬ (Contains g.sides x)
    block_side x c d = some (sym ((a x).0 c).1 ∙ ((b x).0 d).0)

    no_block : (x : Place) → owner_of t x ≢ 255 → ¬ (Contains g.blocks x)
    no_block x h c = h ((a x).0 c).0

    no_side : (x : Place) → owner_of t x ≢ 255 → ¬ (Contains g.sides x)
    no_side x h d = h (sym ((a x).1 (no_block x h)) ∙ ((b x).0 d).0)

    old_new : (x : Place) → Contains O x → ¬ (Contains (g.blocks ++ g.sides) x)
    old_new x c d = elim (Contains-append_cases g.blocks g.sides x d) [
      | inl e ↦ no_block x ((s.table.owned x).1 c) e
      | inr e ↦ no_side x ((s.table.owned x).1 c) e
    ]

    stays : (p : Place) → Contains O p → owner_of t2 p ≡ owner_of t p
    stays p c = (b p).1 (no_side p ((s.table.owned p).1 c)) ∙ (a p).1 (no_block p ((s.table.owned p).1 c))

    mine : (p : Place) → Contains (file_owns g) p → owner_of t2 p ≡ n
    mine p c = elim (Contains-append_cases g.blocks g.sides p c) [
      | inl d ↦ (b p).1 (block_side p d) ∙ ((a p).0 d).1
      | inr d ↦ ((b p).0 d).1
    ]

    owned : (p : Place) → Contains (O ++ (g.blocks ++ g.sides)) p → owner_of t2 p ≢ 255
    owned p c = elim (Contains-append_cases O (g.blocks ++ g.sides) p c) [
      | inl d ↦ (λ e. (s.table.owned p).1 d (sym ((a p).1 (no_block p ((s.table.owned p).1 d)))
          ∙ sym ((b p).1 (no_side p ((s.table.owned p).1 d))) ∙ e))
      | inr d ↦ elim (Contains-append_cases g.blocks g.sides p d) [
        | inl f ↦ (λ e. some (sym ((a p).0 f).1 ∙ sym ((b p).1 (block_side p f)) ∙ e))
        | inr f ↦ (λ e. some (sym ((b p).0 f).1 ∙ e))
      ]
    ]

    found : (p : Place) → owner_of t2 p ≢ 255 → Contains g.sides p ⊎ ¬ (Contains g.sides p) → Contains g.blocks p
        ⊎ ¬ (Contains g.blocks p) → Contains (O ++ (g.blocks ++ g.sides)) p
    found p h (inl d) o = Contains-append_right O (g.blocks ++ g.sides) p (Contains-append_right g.blocks g.sides p d)
    found p h (inr d) (inl c) = Contains-append_right O (g.blocks ++ g.sides) p (Contains-append_left g.blocks g.sides p
        c)
    found p h (inr d) (inr c) = Contains-append_left O (g.blocks ++ g.sides) p
        ((s.table.owned p).0 (λ e. h ((b p).1 d ∙ (a p).1 c ∙ e)))
