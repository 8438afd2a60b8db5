-- A new file that owns what nobody owned: each place still has one owner.
use Rattle.std.proofs.Common.{◌≡◌, inl, inr, List, [], ◌∷◌, ◌++◌, map, ap, refl, sym, ◌∙◌, subst, append_assoc}
use Rattle.std.proofs.Common.{append-nil}
use Rattle.std.specs.Prelude.{Contains, flat_map, ◌↔◌}
use Rattle.std.proofs.lemmas.Grind.{flat_map-append}
use Rattle.std.proofs.lemmas.List.Elements.{Contains-append_cases, Contains-append_left, Contains-append_right}
use Rattle.d64_image.specs.Images.{Image, Sector}
use Rattle.d64_image.specs.declared.place.Place.{Place}
use Rattle.disk_layout.proofs.lemmas.counts.Recounts.{reread, reread-owns}
use Rattle.disk_layout.proofs.lemmas.lists.Once.{Contains-cases, Contains-here, Contains-there, EachOnce-apart, EachOnce-insert}
use Rattle.disk_layout.proofs.lemmas.lists.Once.{EachOnce-join, EachOnce-left, EachOnce-right, insert-in, insert-out}
use Rattle.disk_layout.specs.Chain.{EachOnce}
use Rattle.disk_layout.specs.Directory.{map_place}
use Rattle.disk_layout.specs.Layout.{File, Layout, file_owns, owners}
use Rattle.disk_layout.specs.Map.{IsMapOf}
use Rattle.rel_records.proofs.lemmas.creation.Creating.{with_new}

-- each place that the file owns comes once, and nobody owned it
pub record IsUnowned (l : Layout) (k : File) : Type 0 where
  pub once : EachOnce (file_owns k)
  pub none : (q : Place) → Contains (file_owns k) q → ¬ (Contains (map_place ∷ owners l) q)

-- places that weren't there, among others
pub once-among : {X : Type 0} (xs ys zs : List X) → EachOnce (xs ++ ys) → EachOnce zs
    → ((x : X) → Contains zs x → ¬ (Contains (xs ++ ys) x)) → EachOnce (xs ++ (zs ++ ys))
once-among xs ys zs once new none =
    EachOnce-join xs (zs ++ ys) (EachOnce-left xs ys once)
    (EachOnce-join zs ys new (EachOnce-right xs ys once) (λ x c d. none x c (Contains-append_right xs ys x d)))
    (λ x c d. elim (Contains-append_cases zs ys x d) [
      | inl e ↦ none x e (Contains-append_left xs ys x c)
      | inr e ↦ EachOnce-apart xs ys once x c e
    ])

-- the owners of the layout with one more file: those of the old one, and what the file owns among them
pub owners-with : (b : Image) (dir : List Place) (fs gs : List File) (k : File) (xs ys : List Place)
    → xs ≡ dir ++ flat_map file_owns fs → ys ≡ flat_map file_owns gs
    → owners (record { directory = dir; files = with_new b fs gs k }) ≡ xs ++ (file_owns k ++ ys)
unfolding owners
owners-with b dir fs gs k xs ys ex ey =
    ap (λ ps. dir ++ ps) (flat_map-append file_owns (map (reread b) fs) (k ∷ map (reread b) gs)
    ∙ cc (reread-owns b fs, reread-owns b gs))
    ∙ shape dir (flat_map file_owns fs) (file_owns k) (flat_map file_owns gs)
    ∙ cc (ex, ey)
  where
    shape : (d f o g : List Place) → d ++ (f ++ (o ++ g)) ≡ (d ++ f) ++ (o ++ g)
    shape d f o g = simp append_assoc

-- the owners of the old layout, around the place of the new file
pub owners-around : (l : Layout) (fs gs : List File) → l.files ≡ fs ++ gs
    → owners l ≡ (l.directory ++ flat_map file_owns fs) ++ flat_map file_owns gs
unfolding owners
owners-around l fs gs split =
    ap (λ ys. l.directory ++ flat_map file_owns ys) split
    ∙ ap (λ ps. l.directory ++ ps) (flat_map-append file_owns fs gs)
    ∙ shape l.directory (flat_map file_owns fs) (flat_map file_owns gs)
  where
    shape : (d f g : List Place) → d ++ (f ++ g) ≡ (d ++ f) ++ g
    shape d f g = simp append_assoc

-- each place still has one owner
pub once-with : (b : Image) (l : Layout) (fs gs : List File) (k : File) → l.files ≡ fs ++ gs
    → EachOnce (map_place ∷ owners l) → IsUnowned l k
    → EachOnce (map_place ∷ owners (record { directory = l.directory; files = with_new b fs gs k }))
once-with b l fs gs k split once new =
    let P : List Place → Type 0 = λ ps. EachOnce (map_place ∷ ps) in
    let xs : List Place = l.directory ++ flat_map file_owns fs in
    let ys : List Place = flat_map file_owns gs in
    let old = owners-around l fs gs split in
    subst P (sym (owners-with b l.directory fs gs k xs ys refl refl))
    (once-among (map_place ∷ xs) ys (file_owns k) (subst P old once) new.once
    (λ q c own. new.none q c (let Q : List Place → Type 0 = λ ps. Contains (map_place ∷ ps) q in subst Q (sym old) own)))

-- and with a new directory sector, which nobody owned either
pub once-linked : (b : Image) (l : Layout) (fresh : Place) (k : File) → EachOnce (map_place ∷ owners l)
    → ¬ (Contains (map_place ∷ owners l) fresh) → IsUnowned l k → ¬ (Contains (file_owns k) fresh)
    → EachOnce (map_place ∷ owners (record {
      directory = l.directory ++ fresh ∷ [];
      files = with_new b l.files [] k;
    }))
unfolding owners
once-linked b l fresh k once no_fresh new apart =
    let F = flat_map file_owns l.files in
    let shape : l.directory ++ fresh ∷ F ≡ ((l.directory ++ fresh ∷ []) ++ F) ++ [] = simp (append_assoc, append-nil) in
    let one = EachOnce-insert (map_place ∷ l.directory) F fresh once no_fresh in
    let P : List Place → Type 0 = λ ps. EachOnce (map_place ∷ ps) in
    subst P (sym (owners-with b (l.directory ++ fresh ∷ []) l.files [] k ((l.directory ++ fresh ∷ []) ++ F) [] refl refl))
    (once-among (map_place ∷ ((l.directory ++ fresh ∷ []) ++ F)) [] (file_owns k) (subst P shape one) new.once
    (λ q c own. (let Q : List Place → Type 0 = λ ps. Contains (map_place ∷ ps) q in
    elim (insert-out (map_place ∷ l.directory) F fresh q (subst Q (sym shape) own)) [
      | inl e ↦ apart (let R : Place → Type 0 = Contains (file_owns k) in subst R (sym e) c)
      | inr e ↦ new.none q c e
    ])))

-- the map of the same places, listed otherwise
pub map-same : (bytes : Sector) (xs ys : List Place) → ((q : Place) → Contains xs q ↔ Contains ys q) → IsMapOf bytes xs
    → IsMapOf bytes ys
map-same bytes xs ys same map = record {
  marked = λ q. (λ free c. (map.marked q).0 free ((same q).1 c), λ none. (map.marked q).1 (λ c. none ((same q).0 c)));
  counts = map.counts;
}

-- places among others, or before them
pub among : (X ys ps : List Place) (q : Place) → Contains (ps ++ (X ++ ys)) q ↔ Contains (X ++ (ps ++ ys)) q
among X ys ps q = (
  λ c. elim (Contains-append_cases ps (X ++ ys) q c) [
    | inl d ↦ Contains-append_right X (ps ++ ys) q (Contains-append_left ps ys q d)
    | inr d ↦ elim (Contains-append_cases X ys q d) [
      | inl f ↦ Contains-append_left X (ps ++ ys) q f
      | inr f ↦ Contains-append_right X (ps ++ ys) q (Contains-append_right ps ys q f)
    ]
  ],
  λ c. elim (Contains-append_cases X (ps ++ ys) q c) [
    | inl d ↦ Contains-append_right ps (X ++ ys) q (Contains-append_left X ys q d)
    | inr d ↦ elim (Contains-append_cases ps ys q d) [
      | inl f ↦ Contains-append_left ps (X ++ ys) q f
      | inr f ↦ Contains-append_right ps (X ++ ys) q (Contains-append_right X ys q f)
    ]
  ],
)

-- a new directory sector and places among the others, or before them
pub among-directory : (dir F ps : List Place) (fresh q : Place) → Contains (fresh ∷ (ps ++ (dir ++ F))) q
    ↔ Contains (((dir ++ fresh ∷ []) ++ F) ++ (ps ++ [])) q
among-directory dir F ps fresh q =
    let all : List Place = (dir ++ fresh ∷ []) ++ F in
    let here = among all [] ps q in
    let shape : ps ++ (all ++ []) ≡ (ps ++ dir) ++ fresh ∷ F = simp (append_assoc, append-nil) in
    let back : ps ++ (dir ++ F) ≡ (ps ++ dir) ++ F = simp append_assoc in
    let P : List Place → Type 0 = λ xs. Contains xs q in (
      λ c. here.0 (subst P (sym shape) (elim (Contains-cases q fresh (ps ++ (dir ++ F)) c) [
        | inl e ↦ (let Q : Place → Type 0 = Contains ((ps ++ dir) ++ fresh ∷ F) in
            subst Q e (Contains-append_right (ps ++ dir) (fresh ∷ F) fresh (Contains-here fresh F)))
        | inr d ↦ insert-in (ps ++ dir) F fresh q (subst P back d)
      ])),
      λ c. elim (insert-out (ps ++ dir) F fresh q (subst P shape (here.1 c))) [
        | inl e ↦ (let Q : Place → Type 0 = Contains (fresh ∷ (ps ++ (dir ++ F))) in
            subst Q e (Contains-here fresh (ps ++ (dir ++ F))))
        | inr d ↦ Contains-there q fresh (ps ++ (dir ++ F)) (subst P (sym back) d)
      ],
    )
