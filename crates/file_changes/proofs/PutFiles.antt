-- The file of an entry whose chain of sectors is written: what is held on the way, and what is there then.
use Rattle.std.proofs.Common.{◌≡◌, ◌<◌, ◌≤◌, ℕ, inl, inr, List, [], ◌∷◌, Some, ap, append-nil, arith, get_or}
use Rattle.std.proofs.Common.{length, refl, subst, sym}
use Rattle.std.specs.Prelude.{Contains, slice_get}
use Rattle.d64_image.specs.Images.{Image}
use Rattle.d64_image.specs.declared.place.Place.{Place}
use Rattle.disk_layout.proofs.lemmas.chains.Chains.{AgreeAt}
use Rattle.disk_layout.proofs.lemmas.lists.Count.{places-few}
use Rattle.disk_layout.proofs.lemmas.lists.Lists.{read-there}
use Rattle.disk_layout.proofs.lemmas.lists.Once.{Contains-here}
use Rattle.disk_layout.specs.Chain.{EachOnce, IsChain}
use Rattle.disk_layout.specs.Directory.{map_place}
use Rattle.disk_layout.specs.Layout.{Layout, owners}
use Rattle.disk_layout.specs.declared.slot.Slot.{Slot}
use Rattle.file_changes.proofs.ChainFiles.{chain-data, is-chain, last_index}
use Rattle.file_changes.proofs.Chained.{holds-frame}
use Rattle.file_changes.proofs.PlainEnds.{plain-long}
use Rattle.file_changes.proofs.PlainEntries.{IsPlainEntry, is-plain, plain-exact, plain-is_file, plain-used, plain_file}
use Rattle.file_changes.specs.PutWrites.{Fills, HasBlocks}
use Rattle.file_changes.specs.Puts.{HasPut, HoldsChain, IsPutting, data_of, plain_entry, sectors_for}
use Rattle.file_changes.specs.declared.file_type.FileType.{FileType}
use Rattle.rel_records.proofs.lemmas.creation.Entering.{IsEntering}
use Rattle.rel_records.proofs.lemmas.creation.NewEntry.{HasEntered, IsFileBy, IsSlotOf}
use Rattle.rel_records.specs.creation.Site.{IsTaking}
use Rattle.rel_records.specs.declared.creation.site.Site.{Site}

-- n bytes in so many sectors
pub fills-of : (n : ℕ) → 0 < n → Fills n (sectors_for n)
fills-of n some = record { low = omega (arith, some); high = omega arith }

module _ (a : Image) (l : Layout) (n : ℕ) (st : Site) (h : IsTaking a l (sectors_for n) st) (some : 0 < n) where
  pub site-fills : Fills n (length st.blocks.items)
  site-fills = subst (λ c. Fills n c) (sym h.count) (fills-of n some)

  pub site-apart : ¬ (Contains st.blocks.items map_place)
  site-apart d = h.unowned map_place d (Contains-here map_place (owners l))

  -- the first of its sectors
  pub site-first : (xs : List Place) (p : Place) → xs ≡ st.blocks.items → p ≡ get_or xs 0 p → slice_get st.blocks.items 0 ≡ Some p
  site-first xs p e is =
      let lt : 0 < length xs = omega (arith, site-fills.high, some, ap length e) in
      subst (λ ps. slice_get ps 0 ≡ Some p) e (read-there xs 0 p lt is)

-- a list that has a first element begins with it
begins-with : (ps : List Place) (p : Place) → slice_get ps 0 ≡ Some p → (rest : List Place) × (ps ≡ p ∷ rest)
begins-with [] p at = cc
begins-with (q ∷ qs) p at = let e : q ≡ p = cc in (qs, ap (λ x. x ∷ qs) e)

module _ (a c : Image) (l : Layout) (ds : List ℕ) (st : Site) (h : IsTaking a l (sectors_for (length ds)) st)
    (some : 0 < length ds) (has : HasBlocks st.map.bytes st.blocks.items ds c) (kind : FileType) (name : List ℕ)
    (few : length name ≤ 16) (first : Place) (at : slice_get st.blocks.items 0 ≡ Some first) where
  abbrev ps : List Place
  ps = st.blocks.items

  abbrev u : ℕ
  u = last_index (length ds) (length st.blocks.items)

  still : (b : Image) → AgreeAt c b st.blocks.items → HoldsChain b st.blocks.items ds
  still b agree = holds-frame c b ps ds (λ q on. sym (agree q on)) has.chain

  chain : (b : Image) → AgreeAt c b st.blocks.items → IsChain b first st.blocks.items u
  chain b agree =
      let (rest, is) = begins-with ps first at in
      subst (λ qs. IsChain b first qs (last_index (length ds) (length qs))) (sym is) (is-chain b first rest ds
      (subst (λ qs. HoldsChain b qs ds) is (still b agree))
      (subst (λ qs. Fills (length ds) (length qs)) is (site-fills a l (length ds) st h some))
      (subst (λ qs. EachOnce qs) is h.once))

  entry-of : (s : Slot) → IsSlotOf s (plain_entry kind name first (length st.blocks.items))
      → IsPlainEntry s kind name first (length st.blocks.items)
  entry-of s of = subst (λ t. IsPlainEntry t kind name first (length ps)) of.is
      (is-plain of.old of.new of.number kind name first (length ps) of.low few (omega (arith, places-few ps h.once))
      of.entered of.place)

  -- its file, when its chain is written
  pub plain-by : IsFileBy c st.blocks.items (plain_entry kind name first (length st.blocks.items))
      (λ s. plain_file s st.blocks.items (last_index (length ds) (length st.blocks.items)))
  plain-by = record {
    used = plain-used kind name first (length ps);
    slot = λ s. refl;
    owns = λ s. append-nil ps;
    right = λ b agree s of.
        let e = entry-of s of in
        record {
          file = plain-is_file b s kind name first (length ps) ps u e (chain b agree);
          exact = plain-exact b s kind name first (length ps) ps u e;
          long = plain-long b s kind name first (length ps) ps u e refl (chain b agree)
              (let fills = site-fills a l (length ds) st h some in omega (arith, fills.low));
        };
  }

  pub put-of : (b : Image) → HasEntered a c l st (plain_entry kind name first (length st.blocks.items))
      (λ s. plain_file s st.blocks.items (last_index (length ds) (length st.blocks.items))) b
      → HasPut a l name kind ds b
  put-of b made =
      let e = entry-of made.slot made.of in
      let (rest, is) = begins-with ps first at in
      record {
        layout = made.layout;
        sound = made.sound;
        clean = made.clean;
        file = plain_file made.slot ps u;
        adds = made.adds;
        slot = made.new;
        kind_is = e.kind_is;
        named = e.named;
        blocks = h.count;
        counted = e.count;
        holds = subst (λ qs. data_of b (plain_file made.slot qs (last_index (length ds) (length qs))) ≡ ds) (sym is)
            (chain-data b first rest ds (subst (λ qs. HoldsChain b qs ds) is (still b made.kept))
            (subst (λ qs. Fills (length ds) (length qs)) is (site-fills a l (length ds) st h some)));
      }

  pub putting-of : (b : Image) → IsEntering a c l st (plain_entry kind name first (length st.blocks.items))
      (λ s. plain_file s st.blocks.items (last_index (length ds) (length st.blocks.items))) b
      → IsPutting a l name kind ds b
  putting-of b (inl was, whole) = (inl was, whole)
  putting-of b (inr made, whole) = (inr (put-of b made), whole)
