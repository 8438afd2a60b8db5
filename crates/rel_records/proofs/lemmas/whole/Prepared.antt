-- Before the write that makes a file longer the files are whole: its side sectors list one block more at most.
use Rattle.std.proofs.Common.{◌≡◌, ◌≢◌, ℕ, suc, ◌+◌, ◌-◌, ◌*◌, ◌/◌, ◌%◌, ◌≤◌, inl, inr, List, [], ◌∷◌, length}
use Rattle.std.proofs.Common.{refl, sym, ◌∙◌, ap, arith, subst, IsTrue, length-append, slice_index, take, drop}
use Rattle.std.proofs.lemmas.Bool.{cases_eq}
use Rattle.std.specs.Prelude.{Contains, IsSome, Some, flat_map, slice_get, ◌||◌}
use Rattle.d64_image.proofs.Images.{sector-put_other}
use Rattle.d64_image.specs.Images.{Image, Sector, put, sector}
use Rattle.d64_image.specs.declared.place.Place.{Place}
use Rattle.disk_layout.proofs.lemmas.chains.Chains.{AgreeAt}
use Rattle.disk_layout.proofs.lemmas.chains.Names.{named-is}
use Rattle.disk_layout.proofs.lemmas.growth.Commit.{grown}
use Rattle.disk_layout.proofs.lemmas.growth.GrowthRecords.{get-seam}
use Rattle.disk_layout.proofs.lemmas.growth.SideWrites.{same-layout}
use Rattle.disk_layout.proofs.lemmas.layouts.Agree.{owned-side}
use Rattle.disk_layout.proofs.lemmas.layouts.Exact.{exact-side, get-lt}
use Rattle.disk_layout.proofs.lemmas.layouts.Layouts.{get-contains}
use Rattle.disk_layout.proofs.lemmas.lists.Once.{Contains-there}
use Rattle.disk_layout.specs.Chain.{named_at}
use Rattle.disk_layout.specs.Directory.{map_place}
use Rattle.disk_layout.specs.Layout.{File, IsLayout, IsSide, Layout, file_owns, is_rel, owners, record_length, sides_for}
use Rattle.disk_layout.specs.Side.{side_sector}
use Rattle.rel_records.proofs.lemmas.steps.Before.{before-preparing}
use Rattle.rel_records.proofs.lemmas.steps.LaidOut.{IsStep, apart, blocks-are, few-sides, free, header, next, place}
use Rattle.rel_records.proofs.lemmas.steps.LaidOut.{rel-file, sides-once, size-is, some-sides, split}
use Rattle.rel_records.proofs.lemmas.steps.Others.{others-kept}
use Rattle.rel_records.proofs.lemmas.steps.Preparing.{after-stays, before-stays, blocks-stay, file-in, preparing-layout}
use Rattle.rel_records.proofs.lemmas.steps.Sided.{get-once, get-there}
use Rattle.disk_layout.proofs.lemmas.whole.Ends.{ends-exact}
use Rattle.disk_layout.proofs.lemmas.whole.Files.{AreExact, HasEnd, chain-some, exact-ends}
use Rattle.rel_records.proofs.lemmas.Usable.{exact-but}
use Rattle.rel_records.proofs.lemmas.whole.Files.{agree-exact}
use Rattle.disk_layout.proofs.lemmas.whole.Files.{none-behind, rel-whole}
use Rattle.rel_records.proofs.lemmas.whole.Files.{whole-now}
use Rattle.disk_layout.specs.Listed.{EndsBy, HasStock, ListsOneMore, ListsWell, NeverGrows, is_plain, used_of}
use Rattle.rel_records.specs.Others.{KeepsOthers}
use Rattle.disk_layout.specs.Whole.{IsWhole}
use Rattle.rel_records.specs.declared.growth.step_parts.Growing.{Growing}
use Rattle.rel_records.specs.growth.Preparing.{IsPreparing}
use Rattle.rel_records.specs.growth.Steps.{AreSidedFrom, IsBefore}

module _ {a : Image} {l : Layout} {n : ℕ} {f : File} {p q : Growing} {fresh : Place} {block : Sector}
    (step : IsStep a l n f p q fresh block) where
  open step use {whole, at}

  abbrev before : List File
  before = take n l.files

  abbrev after : List File
  after = drop (suc n) l.files

  abbrev ss : List Place
  ss = q.sides.items

  abbrev g : File
  g = grown f fresh (slice_index block 1) ss

  abbrev N : ℕ
  N = length f.blocks

  abbrev L : ℕ
  L = record_length f.slot

  some : 1 ≤ N
  some = chain-some a f (rel-file step)

  long : length g.blocks ≡ N + 1
  long = length-append f.blocks (fresh ∷ [])

  exact-a : AreExact a f
  exact-a = exact-but a l n f at.clean at.there at.rel

  -- a side sector of the file that is as it was lists no more
  same-ends : (c : Image) (x : Place) → slice_get f.sides ((N - 1) / 120) ≡ Some x → sector c x ≡ sector a x
      → EndsBy (sector c x) (used_of N)
  same-ends c x there e =
      let P : Sector → Type 0 = λ b. EndsBy b (used_of N) in
      subst P (sym e) (exact-ends a f (rel-file step) exact-a x there)

  laid-same : (j : ℕ) (x : Place) → slice_get f.sides j ≡ Some x
      → sector (put (put a map_place q.map.bytes) fresh block) x ≡ sector a x
  laid-same j x there =
      sector-put_other (put a map_place q.map.bytes) fresh x block
      (λ e. free step (let P : Place → Type 0 = Contains (map_place ∷ owners l) in
      subst P (sym e) (Contains-there x map_place (owners l) (owned-side l f x (file-in l before after f (split step))
      (get-contains f.sides j x there)))))
      ∙ sector-put_other a map_place x q.map.bytes (λ e. apart step j (there ∙ ap Some (sym e)))

  -- the longer file's exact bytes
  exact-g : (c : Image) (i j : ℕ) (x : Place) → i ≡ j
      → sector c x ≡ side_sector i q.blocks.items ss q.size → sector c x ≡ side_sector j g.blocks ss L
  exact-g c i j x number e =
      e ∙ ap (λ bs. side_sector i bs ss q.size) (blocks-are step)
      ∙ ap (λ s. side_sector i g.blocks ss s) (size-is step) ∙ ap (λ k. side_sector k g.blocks ss L) number

  ends-g : (c : Image) (j : ℕ) (x : Place) → j ≡ N / 120 → sector c x ≡ side_sector j g.blocks ss L
      → EndsBy (sector c x) (used_of (N + 1))
  ends-g c j x number e =
      let count : length ss ≡ sides_for (length g.blocks) = (next step).count ∙ ap sides_for (sym long) in
      let last : (length g.blocks - 1) / 120 ≡ j = omega (arith, long, number) in
      let P : ℕ → Type 0 = λ k. EndsBy (side_sector k g.blocks ss L) (used_of (length g.blocks)) in
      let Q : ℕ → Type 0 = λ k. EndsBy (side_sector j g.blocks ss L) (used_of k) in
      let R : Sector → Type 0 = λ b. EndsBy b (used_of (N + 1)) in
      subst R (sym e) (subst Q long (subst P last (ends-exact g.blocks ss L (omega (arith, long)) count)))

  -- it is the side sector of the last block, with the bytes of the longer file: one block more is listed
  one-more : (c : Image) (x : Place) → AreSidedFrom (length ss - 1) c q.blocks.items ss q.size
      → sector c x ≡ side_sector ((N - 1) / 120) g.blocks ss L → ListsOneMore c (sector c x) (used_of N)
      × ((s : Place) → named_at (sector c x) 0 ≡ Some s → ¬ (Contains (map_place ∷ owners l) s))
  one-more c x from e = elim (cases_eq (N % 120) 0) [
    | inl z ↦
        let (s, there) = get-there ss (length ss - 1) (omega (arith, some-sides step)) in
        let last : (N - 1) / 120 + 1 ≡ length ss - 1 = omega (arith, (next step).count, z, some) in
        let behind : sector c s ≡ side_sector (length ss - 1) g.blocks ss L =
        exact-g c (length ss - 1) (length ss - 1) s refl (from (length ss - 1) s (omega arith) there) in
        let here : IsSide c g ((N - 1) / 120) x = exact-side c g ((N - 1) / 120) x (few-sides step) e in
        let next-side : IsSide c g (length ss - 1) s = exact-side c g (length ss - 1) s (few-sides step) behind in
        let first : 120 * (length ss - 1) + 0 ≡ N = omega (arith, (next step).count, z) in
        let fresh-at : slice_get g.blocks (120 * (length ss - 1) + 0) ≡ Some fresh =
        ap (slice_get g.blocks) first ∙ get-seam f.blocks [] fresh in
        let named : named_at (sector c s) 16 ≡ Some fresh =
        named-is (sector c s) 16 fresh (next-side.pointers 0 fresh (omega arith) fresh-at) in
        let one : used_of (N + 1) ≡ 1 = omega (arith, z) in
        let P : ℕ → Type 0 = EndsBy (sector c s) in
        let link : named_at (sector c x) 0 ≡ Some s =
        named-is (sector c x) 0 s (here.link s (ap (slice_get ss) last ∙ there)) in
        let unowned : ¬ (Contains (map_place ∷ owners l) s) = elim ((next step).sided (length ss - 1) s there) [
          | inl old ↦ absurd (omega (arith, get-lt f.sides (length ss - 1) s old, (next step).count, (rel-file step).count, z))
          | inr out ↦ out
        ] in (
          inr (
            omega (arith, z, some),
            (
              s,
              link,
              record {
                first = subst IsSome (sym named) refl;
                ends = subst P one (ends-g c (length ss - 1) s (omega (arith, (next step).count)) behind);
              },
            ),
          ),
          λ t named'.
              let both : Some s ≡ Some t = sym link ∙ named' in
              let same : s ≡ t = cc in
              let Q : Place → Type 0 = λ y. ¬ (Contains (map_place ∷ owners l) y) in
              subst Q same unowned,
        )
    | inr within ↦
        let up : used_of (N + 1) ≡ used_of N + 1 = omega (arith, within, some) in
        let P : ℕ → Type 0 = EndsBy (sector c x) in
        let ends : EndsBy (sector c x) (used_of N + 1) =
        subst P up (ends-g c ((N - 1) / 120) x (omega (arith, within, some)) e) in
        (inl (omega (arith, within, some), ends), none-behind c l x _ ends)
  ]

  no-more : (c : Image) (x : Place) → EndsBy (sector c x) (used_of N)
      → ListsWell c (NeverGrows (HasStock l) f.slot) (sector c x) (used_of N)
      × ((s : Place) → named_at (sector c x) 0 ≡ Some s → ¬ (Contains (map_place ∷ owners l) s))
  no-more c x ends = (inl ends, none-behind c l x _ ends)

  -- so it lists well
  lists : (c : Image) → ¬ (NeverGrows (HasStock l) f.slot) → IsBefore a q fresh block c → (x : Place)
      → slice_get f.sides ((N - 1) / 120) ≡ Some x
      → ListsWell c (NeverGrows (HasStock l) f.slot) (sector c x) (used_of N)
      × ((s : Place) → named_at (sector c x) 0 ≡ Some s → ¬ (Contains (map_place ∷ owners l) s))
  lists c grows (inl e) x there = no-more c x (same-ends c x there (ap (λ i. sector i x) e))
  lists c grows (inr (inl e)) x there =
      no-more c x (same-ends c x there (ap (λ i. sector i x) e
      ∙ sector-put_other a map_place x q.map.bytes (λ s. apart step _ (there ∙ ap Some (sym s)))))
  lists c grows (inr (inr is)) x there = elim is.first [
    | inl e ↦ no-more c x (same-ends c x there (ap (λ i. sector i x) e ∙ laid-same _ x there))
    | inr from ↦ elim (is.each x) [
      | inl e ↦ no-more c x (same-ends c x there (e ∙ laid-same _ x there))
      | inr d ↦
          let number : d.0 ≡ (N - 1) / 120 =
          get-once ss d.0 ((N - 1) / 120) x (sides-once step) d.1 ((next step).long.sides _ x there) in
          let more = one-more c x from (exact-g c d.0 ((N - 1) / 120) x number d.2) in
          (inr (grows, more.0), more.1)
    ]
  ]

  pub before-whole : (c : Image) → ¬ (NeverGrows (HasStock l) f.slot) → IsBefore a q fresh block c → IsWhole a
      → IsWhole c
  before-whole c grows is w =
      whole-now a c l l n at.clean.layout now keeps exact f at.there
      (rel-whole c l f at.rel end (lists c grows is)) w
    where
      prep : IsPreparing a c l f g
      prep = before-preparing a l f g q fresh block whole.size at.clean.layout (header step) (free step)
          (blocks-are step) refl (size-is step) (next step).sided (apart step) c is

      b_same : AgreeAt a c (flat_map file_owns before)
      b_same = before-stays a c l before after f g at.clean.layout (split step) at.rel (next step).long (few-sides step)
          prep

      a_same : AgreeAt a c (flat_map file_owns after)
      a_same = after-stays a c l before after f g at.clean.layout (split step) at.rel (next step).long (few-sides step)
          prep

      now : IsLayout c l
      now = preparing-layout a c l before after f g at.clean.layout (split step) at.rel (next step).long
          (few-sides step) prep

      keeps : KeepsOthers a c l l n
      keeps =
          let P : Layout → Type 0 = λ m. KeepsOthers a c l m (length before) in
          let Q : ℕ → Type 0 = λ k. KeepsOthers a c l l k in
          subst Q (place step) (subst P (same-layout l before after f (split step))
          (others-kept a c l before after f f (split step) refl b_same a_same prep.header))

      exact : (k : ℕ) (y : File) → k ≢ n → slice_get l.files k ≡ Some y → IsTrue (is_rel y.slot) → AreExact c y
      exact k y ne there rel =
          let P : List File → Type 0 = λ fs. slice_get fs k ≡ Some y in
          agree-exact a c l before after f f at.clean (split step) b_same a_same k y (λ e. ne (e ∙ place step))
          (subst P (split step) there) rel

      end : HasEnd c f
      end x last zeros =
          let stays = blocks-stay a c l before after f g at.clean.layout (split step) at.rel (next step).long
          (few-sides step) prep x (get-contains f.blocks (N - 1) x last) in
          (w l at.clean.layout n f at.there).ended (ap (λ b. b || is_plain f.slot) at.rel) x last (stays ∙ zeros)
