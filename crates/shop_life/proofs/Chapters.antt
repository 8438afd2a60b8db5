-- Chapter by chapter.
use Rattle.std.proofs.Common.{◌≡◌, ◌≤◌, ℕ, List, [], ◌∷◌, arith, subst, sym}
use Rattle.d64_image.specs.History.{History}
use Rattle.d64_image.specs.Images.{Image}
use Rattle.host_session.specs.shop.Shop.{IsShop, Shop, start_of}
use Rattle.request_cards.proofs.Plain.{plain_nil}
use Rattle.request_cards.specs.Ledgers.{State, number_of, plain}
use Rattle.request_cards.specs.Requests.{Ask}
use Rattle.shop_life.proofs.Kept.{kept}
use Rattle.shop_life.proofs.Later.{at_the_end, begins_at}
use Rattle.shop_life.proofs.Later as later
use Rattle.shop_life.proofs.Numbers.{ups}
use Rattle.shop_life.proofs.Seen.{has_one_list}
use Rattle.shop_life.proofs.Teeth.{never_falls}
use Rattle.shop_life.specs.Chapters.{AllHeldIn, AreChapters, Chapter, HasNumbersOf, HaveLists}
use Rattle.shop_life.specs.Lives.{Place, off, shop_after}
use Rattle.shop_life.specs.OneList.{IsAt, counted_from}

module _ {D : Type 0} (hist : History D) where
  weaker : (P Q : Image → Type 0) (disk : D) (xs : List (Chapter D)) → ((c : Image) → P c → Q c)
      → AllHeldIn hist P disk xs → AllHeldIn hist Q disk xs
  weaker P Q disk [] f all = tt
  weaker P Q disk (x ∷ xs) f all = (later.weaker hist P Q (off disk) x.steps f all.0, weaker P Q x.next xs f all.1)

  lists : (s : Shop) (disk : D) (xs : List (Chapter D)) → IsShop (hist.image disk) s → AreChapters hist disk xs
      → HaveLists hist s disk xs
  lists s disk [] shop chapters = tt
  lists s disk (x ∷ xs) shop chapters =
      (has_one_list hist s disk x.steps shop chapters.0.life, lists x.shop x.next xs chapters.0.changed chapters.1)

  between : (a b c : Shop) (till : ℕ) → number_of (a.state.ledger.kept till) ≤ number_of (b.state.ledger.kept till)
      → number_of (b.state.ledger.kept till) ≤ number_of (c.state.ledger.kept till)
      → number_of (a.state.ledger.kept till) ≤ number_of (c.state.ledger.kept till)
  between a b c till x y = omega (arith, x, y)

  -- the shop that a command left has the numbers with which the chapter began
  first_on : (s u : Shop) (asks : List Ask) → u.state ≡ (shop_after s asks).state → (till : ℕ)
      → number_of (s.state.ledger.kept till) ≤ number_of (u.state.ledger.kept till)
  first_on s u asks same till =
      subst (λ (st : State). number_of (s.state.ledger.kept till) ≤ number_of (st.ledger.kept till)) (sym same)
      (subst (λ (st : State). number_of (st.ledger.kept till) ≤ number_of ((plain (start_of s) asks).ledger.kept till))
      (plain_nil (start_of s)) (ups (start_of s) [] asks till))

  numbers : (s : Shop) (disk : D) (xs : List (Chapter D)) → IsShop (hist.image disk) s → AreChapters hist disk xs
      → AllHeldIn hist (HasNumbersOf s) disk xs
  numbers s disk [] shop chapters = tt
  numbers s disk (x ∷ xs) shop chapters =
      let chapter = chapters.0 in
      let k = kept hist s [] (off disk) x.steps (begins_at hist s disk shop) chapter.life in
      let X = counted_from [] k.0 in
      let end = at_the_end hist s [] (off disk) x.steps k.0 (begins_at hist s disk shop) k.1 in
      let at : IsAt hist (shop_after s X) (off chapter.last) =
      subst (λ (p : Place D). IsAt hist (shop_after s X) p) chapter.ended end in
      let same = (chapter.kept (shop_after s X) at.shop).0 in (
        never_falls hist s s disk [] x.steps shop tt chapter.life shop,
        weaker (HasNumbersOf x.shop) (HasNumbersOf s) x.next xs
            (λ c y u is till. between s x.shop u till
            (first_on s x.shop X same till) (y u is till))
            (numbers x.shop x.next xs chapter.changed chapters.1),
      )

  pub all_chapters : (s : Shop) (disk : D) (xs : List (Chapter D)) → IsShop (hist.image disk) s → AreChapters hist disk xs
      → HaveLists hist s disk xs × AllHeldIn hist (HasNumbersOf s) disk xs
  all_chapters s disk xs shop chapters = (lists s disk xs shop chapters, numbers s disk xs shop chapters)
