-- What a file kept of a shop while messages were run over it.
use Rattle.std.proofs.Common.{◌≡◌, ◌∙◌, List, [], Some, ap, inl, inr, le_refl, refl, subst, sym, ⊎_elim}
use Rattle.d64_image.specs.FileDisks.{FileDisk, in_run}
use Rattle.d64_image.specs.Images.{Image}
use Rattle.d64_image.specs.Keeps.{Keeps, KeptOnly, kept_or}
use Rattle.host_session.specs.events.Events.{Message}
use Rattle.host_session.specs.runs.Runs.{HeldBeginnings, IsBlamed, IsSomeBeginning}
use Rattle.host_session.specs.shop.Shop.{IsShop, Shop, start_of, with_state}
use Rattle.shop_jobs.specs.FilePlays.{IsAfterSome}
use Rattle.request_cards.proofs.Plain.{plain_nil}

-- of none of them
none_begun : (s : Shop) (ms : List Message) (img : Image) → IsShop img s → IsAfterSome s ms img
none_begun s ms img is = record {
  begun = [];
  rest = ms;
  parts = refl;
  fails = [];
  counted = [];
  is = tt;
  whole = tt;
  blame = tt;
  shop = subst (λ state. IsShop img (with_state s state)) (sym (plain_nil (start_of s))) is;
}

module _ {F : Type 0} (K : Keeps F) (image : Image) (file after : F) (s : Shop) (ms : List Message)
    (is : IsShop image s) (kept : K.kept file ≡ Some image) where
  begun : (c : Image) → image ≡ c → IsAfterSome s ms c
  begun c e = none_begun s ms c (subst (λ img. IsShop img s) e is)

  -- of a run over it as a disk
  pub of_run : (disk left : FileDisk K) → disk.file ≡ file → left.file ≡ after → disk.image ≡ image
      → HeldBeginnings (in_run K file) s ms disk left → KeptOnly K file after (IsAfterSome s ms)
  of_run disk left is_file is_after holds h =
      let P : Image → Type 0 = IsAfterSome s ms in
      let some : (c : Image) → IsSomeBeginning s ms (IsBlamed (in_run K file) disk left) c → P c = λ c x. record {
        begun = x.begun;
        rest = x.rest;
        parts = x.parts;
        fails = x.fails;
        counted = x.counted;
        is = x.is;
        whole = x.whole;
        blame = tt;
        shop = x.shop;
      } in
      let kept_so : KeptOnly K disk.file left.file P = record {
        reached = h.reached.0;
        later = h.later;
        each = λ c x. some c (h.each c (inr x));
        before = λ t c le x. ⊎_elim
            (λ y. ⊎_elim (λ e. inr (begun c (sym (e ∙ holds)))) (λ z. inl z) y)
            (λ y. inr (some c y))
            (h.before t c le (inr x));
      } in
      subst (λ f. KeptOnly K f after P) is_file (subst (λ f. KeptOnly K disk.file f P) is_after kept_so)

  -- of none, where it is as it was
  pub of_none : after ≡ file → KeptOnly K file after (IsAfterSome s ms)
  of_none same = subst (λ f. KeptOnly K file f (IsAfterSome s ms)) (sym same) (record {
    reached = K.reached_same file;
    later = le_refl (K.moment file);
    each = λ c x. begun c (ap (λ o. kept_or o c) (sym kept ∙ K.only_now file c x));
    before = λ t c le x. inl x;
  })
