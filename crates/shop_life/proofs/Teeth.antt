-- What no life does: each fault contradicts what a step keeps.
use Rattle.std.proofs.Common.{◌≡◌, ◌∙◌, ◌≤◌, ◌<◌, ◌⊎◌, ℕ, true, false, List, [], ◌∷◌, ◌++◌, Some, Ok, Err}
use Rattle.std.proofs.Common.{append-nil, arith, ap, inl, inr, subst, sym}
use Rattle.std.specs.Prelude.{◌≢◌, All, option_to_list}
use Rattle.std.proofs.lemmas.List.Elements.{All-append, All-nil}
use Rattle.d64_image.proofs.Moments.{never_failed}
use Rattle.d64_image.specs.History.{History, NeverFailed}
use Rattle.d64_image.specs.Images.{Image}
use Rattle.disk_layout.specs.Clean.{IsClean}
use Rattle.disk_layout.specs.Layout.{IsSound}
use Rattle.host_session.proofs.lemmas.shop.Shops.{IsShop-one}
use Rattle.host_session.specs.Held.{HeldOnly}
use Rattle.host_session.specs.declared.faults.OpenFault.{OpenFault}
use Rattle.host_session.specs.session.Handled.{IsHandled}
use Rattle.host_session.specs.session.Handling.{IsMedia, after_of}
use Rattle.host_session.specs.session.Opened.{IsOpened, Opened, disk_of}
use Rattle.host_session.specs.session.Opening.{Untouched}
use Rattle.host_session.specs.session.Standing.{View}
use Rattle.host_session.specs.shop.Shop.{IsSettled, IsShop, Shop, start_of}
use Rattle.request_cards.specs.Ledgers.{number_of, reply}
use Rattle.request_cards.specs.Reading.{request_of}
use Rattle.request_cards.specs.Requests.{Ask, IsAsk}
use Rattle.request_cards.specs.declared.reply.Reply.{Reply}
use Rattle.shop_life.proofs.Goods.{all_asks, goods_agree, of_step}
use Rattle.shop_life.proofs.Kept.{after_more, kept, step}
use Rattle.shop_life.proofs.Later.{at_the_end, begins_at, stay, weaker}
use Rattle.shop_life.proofs.Numbers.{ups}
use Rattle.shop_life.proofs.Rest.{rest_after}
use Rattle.shop_life.specs.Goods.{GoodsAgree}
use Rattle.shop_life.specs.Lives.{IsHeldIn, IsLife, May, Place, Step, asks_of, disk_at, message_in, off, on, shop_after, went_all}
use Rattle.shop_life.specs.Lives.Step.{opens, handles}
use Rattle.shop_life.specs.OneList.{AllHeld, IsAfter, IsAfterMore, IsAt, IsLived, KeepAll, Keeps, NoneOfTill, counted_from}
use Rattle.shop_life.specs.Rest.{HasRestOf}

module _ {D : Type 0} (hist : History D) where
  -- an opening of a disk at rest writes nothing
  pub opened_again : (d : D) (v : View D) (r : Opened D) → IsOpened hist d (Ok v) → IsOpened hist v.disk r
      → Untouched hist v.disk (disk_of r)
  opened_again d v r first second = second.quiet first.ok.0 first.ok.2

  -- what a card says of a till never goes back
  pub never_falls : (s t : Shop) (disk : D) (first later : List (Step D)) → IsShop (hist.image disk) s
      → IsLife hist (off disk) first → IsLife hist (went_all (off disk) first) later
      → IsShop (hist.image (disk_at (went_all (off disk) first))) t
      → AllHeld hist (λ c. (u : Shop) → IsShop c u → (till : ℕ)
      → number_of (t.state.ledger.kept till) ≤ number_of (u.state.ledger.kept till))
      (went_all (off disk) first) later
  never_falls s t disk first later shop life more is =
      let x = stay hist s disk first later shop life more in
      let same = IsShop-one (hist.image (disk_at (went_all (off disk) first))) t
      (shop_after s (counted_from [] x.parts)) is x.at.shop in
      weaker hist (IsAfterMore s (counted_from [] x.parts)) (λ c. (u : Shop) → IsShop c u → (till : ℕ)
      → number_of (t.state.ledger.kept till) ≤ number_of (u.state.ledger.kept till))
      (went_all (off disk) first) later
      (λ c y u here till.
      subst (λ (w : Shop). number_of (w.state.ledger.kept till) ≤ number_of (u.state.ledger.kept till)) (sym same)
      (subst (λ (w : Shop). number_of ((shop_after s (counted_from [] x.parts)).state.ledger.kept till)
      ≤ number_of (w.state.ledger.kept till))
      (IsShop-one c (shop_after s (counted_from [] x.parts ++ y.0)) u y.1 here)
      (ups (start_of s) (counted_from [] x.parts) y.0 till)))
      x.stay

  -- the goods of a life
  pub goods_over : (s t : Shop) (disk : D) (xs : List (Step D)) → IsShop (hist.image disk) s
      → IsLife hist (off disk) xs → IsShop (hist.image (disk_at (went_all (off disk) xs))) t
      → (ns : List (List Ask)) × KeepAll hist s [] (off disk) xs ns × GoodsAgree s (counted_from [] ns) t
  goods_over s t disk xs shop life is =
      let k = kept hist s [] (off disk) xs (begins_at hist s disk shop) life in (
        k.0,
        k.1,
        goods_agree s (counted_from [] k.0) (hist.image (disk_at (went_all (off disk) xs))) t
            (all_asks hist s [] (off disk) xs k.0 k.1 (All-nil IsAsk))
            (at_the_end hist s [] (off disk) xs k.0 (begins_at hist s disk shop) k.1).shop is,
      )

  -- A life that led to a place, and one step more.
  module _ (s : Shop) (disk : D) (steps : List (Step D)) (parts : List (List Ask)) where
    abbrev pub X : List Ask
    X = counted_from [] parts

    pub at_here : (p : Place D) → IsLived hist s disk steps parts p → IsAt hist (shop_after s X) p
    at_here p x = subst (IsAt hist (shop_after s X)) x.led
        (at_the_end hist s [] (off disk) steps parts (begins_at hist s disk x.shop) x.keep)

    keeps : (p : Place D) (x : Step D) → IsLived hist s disk steps parts p → May hist p x
        → (n : List Ask) × Keeps hist s X p x n
    keeps p x lived may = step hist s X p x (at_here p lived) may

    pub wrong_answer : (v new : View D) (m : List ℕ) (told : Reply) → IsLived hist s disk steps parts (on v)
        → IsHandled hist v new m told → ¬ (IsMedia told) → told ≢ reply (start_of s) X (request_of m) → ⊥
    wrong_answer v new m told lived may not other =
        other ((keeps (on v) (handles m told new) lived may).1.answered not).0

    pub dropped : (v new : View D) (m : List ℕ) (told : Reply) → IsLived hist s disk steps parts (on v)
        → IsHandled hist v new m told → v.dead ≡ false → NeverFailed hist v.disk new.disk → IsMedia told → ⊥
    dropped v new m told lived may alive never is = elim may.failures [
      | inl x ↦ elim x.2 [
        | inl dead ↦ let e : true ≡ false = sym dead ∙ alive in cc
        | inr failed ↦ never_failed hist v.disk new.disk never failed
      ]
      | inr x ↦ x.0 is
    ]

    -- an answered message leaves the shop after it
    after_it : (v new : View D) (m : List ℕ) (told : Reply) → IsLived hist s disk steps parts (on v)
        → IsHandled hist v new m told → ¬ (IsMedia told) → IsAfter s (X ++ asks_of (Some m)) (hist.image new.disk)
    after_it v new m told lived may not =
        let k = keeps (on v) (handles m told new) lived may in
        subst (λ n. IsAfter s (X ++ n) (hist.image new.disk)) (k.1.answered not).1 k.1.at.shop

    pub unstored : (v new : View D) (m : List ℕ) (told : Reply) (u : Shop) → IsLived hist s disk steps parts (on v)
        → IsHandled hist v new m told → ¬ (IsMedia told) → IsShop (hist.image new.disk) u
        → u ≢ shop_after s (X ++ asks_of (Some m)) → ⊥
    unstored v new m told u lived may not is other =
        other (IsShop-one (hist.image new.disk) u (shop_after s (X ++ asks_of (Some m))) is
        (after_it v new m told lived may not))

    pub lost_goods : (v new : View D) (m : List ℕ) (told : Reply) (u : Shop) → IsLived hist s disk steps parts (on v)
        → IsHandled hist v new m told → ¬ (IsMedia told) → IsShop (hist.image new.disk) u
        → (GoodsAgree s (X ++ asks_of (Some m)) u → ⊥) → ⊥
    lost_goods v new m told u lived may not is bad =
        bad (goods_agree s (X ++ asks_of (Some m)) (hist.image new.disk) u
        (All-append IsAsk X (asks_of (Some m)) (all_asks hist s [] (off disk) steps parts lived.keep (All-nil IsAsk))
        (of_step (Some m))) (after_it v new m told lived may not) is)

    module _ (v new : View D) (m : List ℕ) (told : Reply) (a : Ask) (first later : List Ask)
        (lived : IsLived hist s disk steps parts (on v)) (may : IsHandled hist v new m told) (is : request_of m ≡ Some a)
        (was : X ≡ first ++ a ∷ later) (others : NoneOfTill a later) (not : ¬ (IsMedia told)) where
      again : (told ≡ reply (start_of s) first (Some a)) × (shop_after s (X ++ a ∷ []) ≡ shop_after s X)
      again = (keeps (on v) (handles m told new) lived may).1.again a first later is was others not

      pub other_answer : told ≢ reply (start_of s) first (Some a) → ⊥
      other_answer other = other again.0

      pub counted_twice : (u : Shop) → IsShop (hist.image new.disk) u → u ≢ shop_after s X → ⊥
      counted_twice u here other =
          let one : asks_of (Some m) ≡ a ∷ [] = ap option_to_list is in
          other (IsShop-one (hist.image new.disk) u (shop_after s (X ++ asks_of (Some m))) here
          (after_it v new m told lived may not) ∙ ap (λ n. shop_after s (X ++ n)) one ∙ again.1)

    -- an image that is held in one step more
    pub other_image : (p : Place D) (x : Step D) (c : Image) (u : Shop) → IsLived hist s disk steps parts p → May hist p x
        → IsHeldIn hist p x c → IsShop c u → u ≢ shop_after s X → u ≢ shop_after s (X ++ asks_of (message_in x)) → ⊥
    other_image p x c u lived may held is one two = elim ((keeps p x lived may).1.held c held) [
      | inl y ↦ one (IsShop-one c u (shop_after s X) is y)
      | inr y ↦ two (IsShop-one c u (shop_after s (X ++ asks_of (message_in x))) is y)
    ]

    pub vanished : (p : Place D) (x : Step D) (c : Image) (u : Shop) (till : ℕ) → IsLived hist s disk steps parts p
        → May hist p x → IsHeldIn hist p x c → IsShop c u
        → number_of (u.state.ledger.kept till) < number_of ((shop_after s X).state.ledger.kept till) → ⊥
    vanished p x c u till lived may held is less = elim ((keeps p x lived may).1.held c held) [
      | inl y ↦ falls [] (subst (λ xs. IsAfter s xs c) (sym (append-nil X)) y)
      | inr y ↦ falls (asks_of (message_in x)) y
    ]
      where
        falls : (more : List Ask) → IsAfter s (X ++ more) c → ⊥
        falls more y =
            let e = IsShop-one c (shop_after s (X ++ more)) u y is in
            let up : number_of ((shop_after s X).state.ledger.kept till) ≤ number_of (u.state.ledger.kept till) =
            subst (λ (w : Shop). number_of ((shop_after s X).state.ledger.kept till)
            ≤ number_of (w.state.ledger.kept till)) e (ups (start_of s) X more till) in
            omega (arith, up, less)

    pub taken_back : (v new : View D) (m : List ℕ) (told : Reply) (c : Image) → IsLived hist s disk steps parts (on v)
        → IsHandled hist v new m told → IsHeldIn hist (on v) (handles m told new) c → IsAfter s (X ++ asks_of (Some m)) c
        → IsAfter s X (hist.image new.disk) → shop_after s (X ++ asks_of (Some m)) ≢ shop_after s X → ⊥
    taken_back v new m told c lived may held shown back other =
        elim (may.onward (shop_after s X) (at_here (on v) lived).shop) [
          | inl after ↦ other (sym (after_more hist s X m)
              ∙ IsShop-one (hist.image new.disk) (after_of (shop_after s X) m) (shop_after s X) after back)
          | inr only ↦ other (IsShop-one c (shop_after s (X ++ asks_of (Some m))) (shop_after s X) shown (only.each c held))
        ]

    rest_of_held : (p : Place D) (x : Step D) (c : Image) → IsLived hist s disk steps parts p → May hist p x
        → IsHeldIn hist p x c → HasRestOf s c
    rest_of_held p x c lived may held = elim ((keeps p x lived may).1.held c held) [
      | inl y ↦ rest_after s X c y
      | inr y ↦ rest_after s (X ++ asks_of (message_in x)) c y
    ]

    pub changed_file : (p : Place D) (x : Step D) (c : Image) (u : Shop) → IsLived hist s disk steps parts p → May hist p x
        → IsHeldIn hist p x c → IsShop c u → u.rest ≢ s.rest → ⊥
    changed_file p x c u lived may held is other = other ((rest_of_held p x c lived may held).rest u is).0

    pub second_owner : (p : Place D) (x : Step D) (c : Image) → IsLived hist s disk steps parts p → May hist p x
        → IsHeldIn hist p x c → (IsSound c → ⊥) → ⊥
    second_owner p x c lived may held bad = bad (rest_of_held p x c lived may held).sound

    pub wrong_map : (v : View D) → IsLived hist s disk steps parts (on v) → v.dead ≡ false
        → (IsClean (hist.image v.disk) → ⊥) → ⊥
    wrong_map v lived alive bad = bad ((at_here (on v) lived).rests alive).clean

    pub refused : (d : D) (e : OpenFault × D) → IsLived hist s disk steps parts (off d) → IsOpened hist d (Err e)
        → NeverFailed hist d e.1 → ⊥
    refused d e lived may never =
        let x : false ≡ true = (may.opens never).1 (shop_after s X, (at_here (off d) lived).shop) in cc

    pub forgot : (d : D) (v : View D) (u : Shop) → IsLived hist s disk steps parts (off d) → IsOpened hist d (Ok v)
        → IsShop (hist.image v.disk) u → u ≢ shop_after s X → ⊥
    forgot d v u lived may is other =
        let k = keeps (off d) (opens (Ok v)) lived may in
        elim k.1.once [
          | inl e ↦ other (IsShop-one (hist.image v.disk) u (shop_after s X) is
              (subst (λ n. IsAfter s n (hist.image v.disk)) (ap (λ n. X ++ n) e ∙ append-nil X) k.1.at.shop))
          | inr e ↦ other (IsShop-one (hist.image v.disk) u (shop_after s X) is
              (subst (λ n. IsAfter s n (hist.image v.disk)) (ap (λ n. X ++ n) e ∙ append-nil X) k.1.at.shop))
        ]
