-- The numbers of files in a table of owners, and how many sectors have one of them.
use Rattle.std.proofs.Common.{ℕ, ◌≡◌, ◌≢◌, ◌<◌, ◌≤◌, ◌+◌, List, [], ◌∷◌, ◌++◌, length, slice_index, inl, inr, sym, ◌∙◌, ap}
use Rattle.std.proofs.Common.{arith, subst, refl, Bool, true, false}
use Rattle.std.specs.Prelude.{Contains, Some, flat_map, nat_eq, slice_get}
use Rattle.std.proofs.lemmas.Bool.{eqb-true, false≢true}
use Rattle.std.proofs.lemmas.Bool.Decides.{Decides-eqb}
use Rattle.std.proofs.lemmas.List.Elements.{Contains-append_cases}
use Rattle.std.proofs.lemmas.Option.{slice_get_within}
use Rattle.d64_image.proofs.Places.{place_of}
use Rattle.d64_image.specs.declared.place.Place.{Place}
use Rattle.disk_layout.proofs.lemmas.counts.Recount.{flat_map-out}
use Rattle.disk_layout.proofs.lemmas.lists.Lists.{contains-get}
use Rattle.disk_layout.proofs.lemmas.lists.Once.{Contains-cases, Contains-here, Contains-nil, Contains-there}
use Rattle.disk_layout.proofs.lemmas.lists.Once.{EachOnce-left, EachOnce-right}
use Rattle.disk_layout.specs.Chain.{EachOnce}
use Rattle.disk_layout.specs.Directory.{map_place}
use Rattle.disk_layout.specs.Layout.{File, Layout, file_owns, owners}
use Rattle.layout_check.specs.Owners.{AreOwnedWith, IsClaimed, NumbersFiles, owner_of}
use Rattle.layout_check.specs.Survey.{IsSurveyOf}
use Rattle.layout_check.specs.declared.owners.Owners.{Owners}
use Rattle.layout_check.specs.declared.survey_outcome.Survey.{Survey}
use Rattle.layout_check.proofs.lemmas.mending.Ones.{bit-small}
use Rattle.layout_check.proofs.lemmas.owners.Ranks.{rank, rank-all, rank-in, rank-none, rank-out}
use mir.Val.{bool_byte}

-- no sector comes twice in what a file owns
file-once : (fs : List File) (f : File) → EachOnce (flat_map file_owns fs) → Contains fs f → EachOnce (file_owns f)
file-once [] f once c = absurd (Contains-nil f c)
file-once (g ∷ fs) f once c = elim (Contains-cases f g fs c) [
  | inl e ↦ rw (← e) (EachOnce-left (file_owns g) (flat_map file_owns fs) once)
  | inr d ↦ file-once fs f (EachOnce-right (file_owns g) (flat_map file_owns fs) once) d
]

-- a table that gives each sector of a file the file's position, and no other sector a number that low
pub record IsByPosition (t : Owners) (fs : List File) : Type 0 where
  pub own : (k : ℕ) (f : File) (p : Place) → slice_get fs k ≡ Some f → Contains (file_owns f) p → owner_of t p ≡ k
  pub low : (p : Place) → owner_of t p < 144 → Contains (flat_map file_owns fs) p

same-file : (fs : List File) (j k : ℕ) (f g : File) → slice_get fs j ≡ Some f → slice_get fs k ≡ Some g → j ≡ k → f ≡ g
same-file fs j k f g a b e = cc (a, b, e)

pub numbers-by : (t : Owners) (l : Layout) → EachOnce (map_place ∷ owners l) → length l.files ≤ 144
    → IsByPosition t l.files → NumbersFiles t l
unfolding owners
numbers-by t l once few by f p own c =
    let (k, at) = contains-get l.files f own in
    let is : owner_of t p ≡ k = by.own k f p at c in
    record {
      once = file-once l.files f (EachOnce-right l.directory (flat_map file_owns l.files) once.1) own;
      those = λ q. (
        λ e. let (g, of, there) = flat_map-out file_owns l.files q
            (by.low q (omega (arith, e, is, few, slice_get_within l.files k f at))) in
            let (j, mine) = contains-get l.files g of in
            let one : g ≡ f = same-file l.files j k g f mine at (sym (by.own j g q mine there) ∙ e ∙ is) in
            let P : File → Type 0 = λ x. Contains (file_owns x) q in
            subst P one there,
        λ d. by.own k f q at d ∙ sym is,
      );
    }

pub by-position : (l : Layout) (s : Survey) → IsSurveyOf l s → IsByPosition s.owners l.files
by-position l s of = record {
  own = of.table.own;
  low = λ p low. elim (Contains-cases p map_place (l.directory ++ flat_map file_owns l.files)
      ((of.table.owned p).0 (λ e. omega (arith, e, low)))) [
        | inl e ↦ absurd (system p low (rw (← e) (Contains-here map_place l.directory)))
        | inr c ↦ elim (Contains-append_cases l.directory (flat_map file_owns l.files) p c) [
          | inl d ↦ absurd (system p low (Contains-there p map_place l.directory d))
          | inr d ↦ d
        ]
      ];
}
  where
    system : (p : Place) → owner_of s.owners p < 144 → ¬ (Contains (map_place ∷ l.directory) p)
    system p low c = omega (arith, of.table.system p c, low)

-- the table of a survey numbers the files
pub numbers-of : (l : Layout) (s : Survey) → IsSurveyOf l s → NumbersFiles s.owners l
numbers-of l s of = numbers-by s.owners l of.once (omega (arith, of.few, of.entries)) (by-position l s of)

-- and still does with the number 253 at sectors that nobody owned
pub numbers-claimed : (l : Layout) (s : Survey) (t : Owners) (ps : List Place) → IsSurveyOf l s
    → IsClaimed s.owners t 253 ps → NumbersFiles t l
numbers-claimed l s t ps of claimed =
    let by = by-position l s of in
    let few : length l.files ≤ 144 = omega (arith, of.few, of.entries) in
    numbers-by t l of.once few (record {
      own = λ k f p at c. (claimed p).1 (λ d. omega (
        arith,
        ((claimed p).0 d).0,
        by.own k f p at c,
        few,
        slice_get_within l.files k f at,
      )) ∙ by.own k f p at c;
      low = λ p low. let out : ¬ (Contains ps p) = λ d. omega (arith, ((claimed p).0 d).1, low) in
          by.low p (omega (arith, (claimed p).1 out, low));
    })

-- so many sectors below n have the number that p has
unfoldable pub IsCountWith : Owners → Place → ℕ → ℕ → Type 0
IsCountWith t p n count = (ps : List Place) → AreOwnedWith t p ps → count ≡ rank ps n

pub with-none : (t : Owners) (p : Place) → IsCountWith t p 0 0
unfolding IsCountWith
with-none t p ps h = sym (rank-none ps)

with-more : (t : Owners) (p : Place) (n count : ℕ) → n < 683 → slice_index t.numbers n ≡ owner_of t p
    → IsCountWith t p n count → IsCountWith t p (n + 1) (count + 1)
unfolding IsCountWith owner_of
with-more t p n count low same so_far ps h =
    let (q, at) = place_of n low in
    let more = rank-in ps q h.once ((h.those q).0 (ap (slice_index t.numbers) at ∙ same)) in
    ap (λ k. k + 1) (so_far ps h) ∙ sym (rw at at more)

with-other : (t : Owners) (p : Place) (n count : ℕ) → n < 683 → slice_index t.numbers n ≢ owner_of t p
    → IsCountWith t p n count → IsCountWith t p (n + 1) count
unfolding IsCountWith owner_of
with-other t p n count low other so_far ps h =
    let (q, at) = place_of n low in
    let same = rank-out ps q (λ c. other (sym (ap (slice_index t.numbers) at) ∙ (h.those q).1 c)) in
    so_far ps h ∙ sym (rw at at same)

-- one sector more, which has the number of p or another
pub with-next : (t : Owners) (p : Place) (n count owner more : ℕ) → n < 683 → owner ≡ owner_of t p
    → more ≡ bool_byte (nat_eq (slice_index t.numbers n) owner) → IsCountWith t p n count
    → IsCountWith t p (n + 1) (count + more)
with-next t p n count owner more low is e so_far = step (nat_eq (slice_index t.numbers n) owner) refl e
  where
    step : (b : Bool) → nat_eq (slice_index t.numbers n) owner ≡ b → more ≡ bool_byte b
        → IsCountWith t p (n + 1) (count + more)
    step true same z = rw z (with-more t p n count low (eqb-true _ _ same ∙ is) so_far)
    step false other z = let P : ℕ → Type 0 = IsCountWith t p (n + 1) in
        subst P (omega (arith, z)) (with-other t p n count low (λ s. false≢true (sym other
        ∙ (Decides-eqb (slice_index t.numbers n) owner).1 (s ∙ sym is))) so_far)

pub with-small : (x owner more : ℕ) → more ≡ bool_byte (nat_eq x owner) → more ≤ 1
with-small x owner more e = omega (arith, e, bit-small (nat_eq x owner))

pub with-all : (t : Owners) (p : Place) (n count : ℕ) → n ≡ 683 → IsCountWith t p n count → (ps : List Place)
    → AreOwnedWith t p ps → count ≡ length ps
unfolding IsCountWith
with-all t p n count all so_far ps h = so_far ps h ∙ ap (rank ps) all ∙ rank-all ps
